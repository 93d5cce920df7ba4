use Rattle.std.proofs.Common.{◌≡◌, ◌++◌, drop, Ok}
use Rattle.caf_declare.specs.Names.{after}
use Rattle.caf_kinds.specs.Statements.{all_printed}
use Rattle.caf_kinds.proofs.action.parts.Given as goal

-- what is so far, and what is left
abbrev pub invariant-loop-item : goal.invariant-loop-item
invariant-loop-item l =
    all_printed l.scope l.line l.items ≡ after (all_printed l.scope l.line (drop l.item-index l.items)) (λ more. Ok (l.done ++ more))
