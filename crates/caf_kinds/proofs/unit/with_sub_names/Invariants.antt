use Rattle.std.proofs.Common.{◌≡◌, drop}
use Rattle.caf_kinds.specs.Units.{with_subs}
use Rattle.caf_kinds.proofs.unit.with_sub_names.Given as goal

-- what is so far, and what is left
abbrev pub invariant-loop-at : goal.invariant-loop-at
invariant-loop-at l =
    with_subs 0 l.subs l.initial.names ≡ with_subs l.at (drop l.at l.subs) l.names
