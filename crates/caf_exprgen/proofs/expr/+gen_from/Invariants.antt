use Rattle.std.proofs.Common.{◌≡◌, ◌+◌, ◌++◌, drop}
use Rattle.caf_exprgen.specs.ExprCode.{coded, expr_code, chain_code, coded_counts, coded_operands}
use Rattle.caf_exprgen.specs.Placed.{Begins}
use Rattle.caf_exprgen.proofs.expr.+gen_from.Given as goal

abbrev pub decreases-gen_from : goal.decreases-gen_from
decreases-gen_from l = goal.size-gen_from l

-- what is there, with the code of what is left, is the whole code
abbrev pub invariant-loop-operator : goal.invariant-loop-operator
invariant-loop-operator l = record {
  count : l.at + coded_counts (coded_operands (drop l.operator-index l.operator-items)) ≡ l.fn.at + (coded l.fn.e).count;
  code : l.out.items ++ chain_code (coded_operands (drop l.operator-index l.operator-items)) l.at ≡ l.fn.out.items ++ expr_code l.fn.e l.fn.at;
  begins : Begins l.fn.out.items l.out.items;
}
