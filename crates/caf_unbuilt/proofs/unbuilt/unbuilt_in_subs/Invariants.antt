use Rattle.std.proofs.Common.{◌≡◌, drop}
use Rattle.caf_unbuilt.specs.Unbuilt.{unbuilt_in_subs}
use Rattle.caf_unbuilt.proofs.unbuilt.unbuilt_in_subs.Given as goal

-- those left decide
abbrev pub invariant-loop-sub : goal.invariant-loop-sub
invariant-loop-sub l = unbuilt_in_subs (drop l.sub-index l.subs) ≡ unbuilt_in_subs l.subs
