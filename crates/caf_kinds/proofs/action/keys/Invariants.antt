use Rattle.std.proofs.Common.{◌≡◌, ◌++◌, drop, Ok}
use Rattle.caf_declare.specs.Names.{after}
use Rattle.caf_kinds.specs.Statements.{keys_meant}
use Rattle.caf_kinds.proofs.action.keys.Given as goal

-- what is so far, and what is left
abbrev pub invariant-loop-written : goal.invariant-loop-written
invariant-loop-written l =
    keys_meant l.scope l.line l.keys ≡ after (keys_meant l.scope l.line (drop l.written-index l.keys)) (λ more. Ok (l.done ++ more))
