use Rattle.std.proofs.Common.{◌≡◌, ◌++◌, map, take}
use Rattle.std.specs.List.{flat_map}
use Rattle.caf_program.specs.Ships.{spawns_in}
use Rattle.caf_teamcheck.specs.Spawned.{place}
use Rattle.caf_teamcheck.proofs.shipped.+shipped.Given as goal

-- what was there, and what those so far ship
abbrev pub invariant-add_block_shipped-loop-statement : goal.invariant-add_block_shipped-loop-statement
invariant-add_block_shipped-loop-statement l = l.shipped ≡ l.initial.shipped ++ map place (flat_map (λ found. found) (map spawns_in (take l.statement-index l.block)))
