use Rattle.std.proofs.Common.{◌≡◌, ◌++◌, map, take}
use Rattle.std.specs.List.{flat_map}
use Rattle.caf_teamcheck.specs.Spawned.{place, spawns_by}
use Rattle.caf_teamcheck.proofs.shipped.add_all_shipped_by.Given as goal

-- what was there, and what those so far ship
abbrev pub invariant-loop-sub : goal.invariant-loop-sub
invariant-loop-sub l = l.shipped ≡ l.initial.shipped ++ map place (flat_map spawns_by (take l.sub-index l.subs))
