use Rattle.std.proofs.Common.{◌≡◌, drop}
use Rattle.caf_source.specs.Built.{is_block_built}
use Rattle.caf_source.proofs.built.+built.Given as goal

-- those left decide
abbrev pub invariant-is_block_built-loop-statement : goal.invariant-is_block_built-loop-statement
invariant-is_block_built-loop-statement l = is_block_built (drop l.statement-index l.block) ≡ is_block_built l.block
