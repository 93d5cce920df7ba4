use Rattle.std.proofs.Common.{◌≡◌, drop, map}
use Rattle.caf_base.specs.declared.arithmetic.BinaryOperator.{BinaryOperator}
use Rattle.caf_program.specs.declared.expr.ExprR.{ExprR}
use Rattle.caf_unbuilt.specs.Unbuilt.{names_no_team, operands_free}
use Rattle.caf_unbuilt.proofs.expression.+names_no_team.Given as goal

-- those left decide
abbrev pub invariant-loop-operand : goal.invariant-loop-operand
invariant-loop-operand l = operands_free (map (λ (p : BinaryOperator × ExprR). (p.0, names_no_team p.1)) (drop l.operand-index l.operand-items)) ≡ names_no_team l.fn.e
