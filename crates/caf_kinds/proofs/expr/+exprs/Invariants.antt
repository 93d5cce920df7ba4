use Rattle.std.proofs.Common.{◌≡◌, ◌++◌, drop, Ok, map}
use Rattle.caf_declare.specs.Names.{after}
use Rattle.caf_kinds.specs.Expressions.{sense, operands, listed}
use Rattle.caf_kinds.proofs.expr.+exprs.Given as goal

-- those so far, and what is left
abbrev pub invariant-operands-loop-operator : goal.invariant-operands-loop-operator
invariant-operands-loop-operator l =
    operands l.line l.kind (map (λ p. (p.0, sense l.scope l.line p.1)) l.others)
    ≡ after (operands l.line l.kind (map (λ p. (p.0, sense l.scope l.line p.1)) (drop l.operator-index l.others))) (λ more. Ok (l.done ++ more))

-- those so far, and what is left
abbrev pub invariant-listed-loop-e : goal.invariant-listed-loop-e
invariant-listed-loop-e l =
    listed l.line l.operator (map (sense l.scope l.line) l.others)
    ≡ after (listed l.line l.operator (map (sense l.scope l.line) (drop l.e-index l.others))) (λ more. Ok (l.done ++ more))
