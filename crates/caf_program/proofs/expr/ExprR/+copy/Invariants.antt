use Rattle.std.proofs.Common.{◌≡◌, ◌++◌, drop}
use Rattle.caf_program.proofs.expr.ExprR.+copy.Given as goal

abbrev pub decreases-copy : goal.decreases-copy
decreases-copy l = goal.size-copy l

-- the copies, and then what is left
abbrev pub invariant-loop-operator : goal.invariant-loop-operator
invariant-loop-operator l = l.copies ++ drop l.operator-index l.operator-items ≡ l.operator-items
