use Rattle.std.proofs.Common.{◌≡◌, ◌+◌, drop}
use Rattle.caf_program.specs.Value.{count, counts, operands}
use Rattle.caf_program.proofs.evaluator.+skip_held.Given as goal

abbrev pub decreases-skip_held : goal.decreases-skip_held
decreases-skip_held l = goal.size-skip_held l

abbrev pub invariant-loop-operand : goal.invariant-loop-operand
invariant-loop-operand l = l.at + counts (operands (drop l.operand-index l.operand-items)) ≡ l.fn.at + count l.fn.e
