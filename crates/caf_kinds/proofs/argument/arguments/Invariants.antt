use Rattle.std.proofs.Common.{◌≡◌, ◌++◌, drop, Ok}
use Rattle.caf_declare.specs.Names.{after}
use Rattle.caf_kinds.specs.Statements.{arguments}
use Rattle.caf_kinds.proofs.argument.arguments.Given as goal

-- what is so far, and what is left
abbrev pub invariant-loop-at : goal.invariant-loop-at
invariant-loop-at l =
    arguments l.scope l.line l.loops l.sign l.dummies l.given ≡ after (arguments l.scope l.line l.loops l.sign (drop l.at l.dummies) (drop l.at l.given)) (λ more. Ok (l.done ++ more))
