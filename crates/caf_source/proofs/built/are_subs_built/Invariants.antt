use Rattle.std.proofs.Common.{◌≡◌, drop}
use Rattle.caf_source.specs.Built.{are_subs_built}
use Rattle.caf_source.proofs.built.are_subs_built.Given as goal

-- those left decide
abbrev pub invariant-loop-sub : goal.invariant-loop-sub
invariant-loop-sub l = are_subs_built (drop l.sub-index l.subs) ≡ are_subs_built l.subs
