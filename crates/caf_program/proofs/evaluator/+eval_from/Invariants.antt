use Rattle.std.proofs.Common.{◌≡◌, ◌+◌, drop}
use Rattle.caf_program.specs.View.{seen}
use Rattle.caf_program.specs.Value.{value_at, chain, count, counts, operands}
use Rattle.caf_program.proofs.evaluator.+eval_from.Given as goal

abbrev pub decreases-eval_from : goal.decreases-eval_from
decreases-eval_from l = goal.size-eval_from l

-- what is left gives the whole answer
abbrev pub invariant-loop-operator : goal.invariant-loop-operator
invariant-loop-operator l = record {
  count : l.at + counts (operands (drop l.operator-index l.operator-items)) ≡ l.fn.at + count l.fn.e;
  value : chain (operands (drop l.operator-index l.operator-items)) l.at (seen l.view) l.total ≡ value_at l.fn.e l.fn.at (seen l.fn.view);
}
