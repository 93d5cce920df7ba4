use Rattle.std.proofs.Common.{◌≡◌, ◌++◌, ◌∷◌, drop}
use Rattle.caf_kinds.proofs.statement.inside.Given as goal

-- what is so far, and what is left
abbrev pub invariant-loop-other : goal.invariant-loop-other
invariant-loop-other l =
    l.all ++ drop l.other-index l.loops ≡ l.name ∷ l.loops
