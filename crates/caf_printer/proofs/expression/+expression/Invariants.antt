use Rattle.std.proofs.Common.{◌≡◌, ◌++◌, map, take}
use Rattle.std.specs.Prelude.{◌∷◌, List}
use Rattle.std.specs.List.{flat_map}
use Rattle.caf_lexer.specs.declared.token.Sign.TheVariants as sign
use Rattle.caf_lexer.specs.declared.token.What.{What}
use Rattle.caf_lexer.specs.declared.token.What.TheVariants as what
use Rattle.caf_tree.specs.declared.expr.Expr.{Expr as Tree}
use Rattle.caf_tree.specs.declared.expr.Operator.{Operator as Chained}
use Rattle.caf_tree.specs.Expressions.{operator_sign}
use Rattle.caf_tree.specs.Said.{each_after, expression_said}
use Rattle.caf_printer.proofs.expression.+expression.Given as goal

-- what was there, and the pairs so far
abbrev pub invariant-add_chain-loop-operator : goal.invariant-add_chain-loop-operator
invariant-add_chain-loop-operator l = l.line ≡ l.fn.line ++ flat_map (λ (p : Chained × List What). what.Sign (operator_sign p.0) ∷ p.1) (map (λ (p : Chained × Tree). (p.0, expression_said p.1)) (take l.operator-index l.pairs))

-- what was there, and the others so far
abbrev pub invariant-add_others-loop-other : goal.invariant-add_others-loop-other
invariant-add_others-loop-other l = l.line ≡ l.fn.line ++ each_after sign.Comma (λ (e : List What). e) (map expression_said (take l.other-index l.others))
