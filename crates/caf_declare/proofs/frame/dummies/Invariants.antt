use Rattle.std.proofs.Common.{◌≡◌, ◌++◌, drop, Ok}
use Rattle.caf_declare.specs.Names.{after}
use Rattle.caf_declare.specs.Frames.{dummies_meant}
use Rattle.caf_declare.proofs.frame.dummies.Given as goal

-- what is so far, and what is left
abbrev pub invariant-loop-name : goal.invariant-loop-name
invariant-loop-name l =
    dummies_meant l.line l.heads l.header ≡ after (dummies_meant l.line l.heads (drop l.name-index l.header)) (λ more. Ok (l.done ++ more))
