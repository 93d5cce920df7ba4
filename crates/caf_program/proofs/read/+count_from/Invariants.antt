use Rattle.std.proofs.Common.{◌≡◌, ◌+◌, drop}
use Rattle.caf_program.specs.Value.{count, counts, operands}
use Rattle.caf_program.proofs.read.+count_from.Given as goal

abbrev pub decreases-count_from : goal.decreases-count_from
decreases-count_from l = goal.size-count_from l

-- the count so far, and that of what is left
abbrev pub invariant-loop-operand : goal.invariant-loop-operand
invariant-loop-operand l = l.total + counts (operands (drop l.operand-index l.operand-items)) ≡ count l.fn.e
