use Rattle.std.proofs.Common.{◌≡◌, drop}
use Rattle.caf_unbuilt.specs.Unbuilt.{unbuilt_in_block}
use Rattle.caf_unbuilt.proofs.unbuilt.+unbuilt.Given as goal

-- those left decide
abbrev pub invariant-unbuilt_in_block-loop-statement : goal.invariant-unbuilt_in_block-loop-statement
invariant-unbuilt_in_block-loop-statement l = unbuilt_in_block (drop l.statement-index l.block) ≡ unbuilt_in_block l.block
