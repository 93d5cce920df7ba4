use Rattle.std.proofs.Common.{◌≡◌, ◌++◌, drop, Ok}
use Rattle.caf_declare.specs.Names.{after}
use Rattle.caf_kinds.specs.Units.{subs_meant}
use Rattle.caf_kinds.proofs.unit.subs.Given as goal

-- what is so far, and what is left
abbrev pub invariant-loop-at : goal.invariant-loop-at
invariant-loop-at l =
    (l.scope.subs ≡ l.initial.scope.subs) × (l.scope.main ≡ l.initial.scope.main)
    × (subs_meant l.initial.scope.subs l.initial.scope.main 0 l.written ≡ after (subs_meant l.initial.scope.subs l.initial.scope.main l.at (drop l.at l.written)) (λ more. Ok (l.done ++ more)))
