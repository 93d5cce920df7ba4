use Rattle.std.proofs.Common.{◌≡◌, ◌++◌, drop}
use Rattle.caf_program.proofs.stmt.+copies.Given as goal

-- the copies, and then what is left
abbrev pub invariant-copy_block-loop-statement : goal.invariant-copy_block-loop-statement
invariant-copy_block-loop-statement l = l.copies ++ drop l.statement-index l.block ≡ l.block
