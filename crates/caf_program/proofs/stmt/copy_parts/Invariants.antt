use Rattle.std.proofs.Common.{◌≡◌, ◌++◌, drop}
use Rattle.caf_program.proofs.stmt.copy_parts.Given as goal

-- the copies, and then what is left
abbrev pub invariant-loop-item : goal.invariant-loop-item
invariant-loop-item l = l.copies ++ drop l.item-index l.items ≡ l.items
