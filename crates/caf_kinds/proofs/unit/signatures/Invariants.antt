use Rattle.std.proofs.Common.{◌≡◌, take, map}
use Rattle.caf_kinds.specs.Units.{signature_of}
use Rattle.caf_kinds.proofs.unit.signatures.Given as goal

-- those so far
abbrev pub invariant-loop-f : goal.invariant-loop-f
invariant-loop-f l =
    l.all ≡ map signature_of (take l.f-index l.subs)
