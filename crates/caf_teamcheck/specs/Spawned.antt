-- The spawns of a subroutine, and their places.
use Rattle.std.specs.Prelude.{ℕ, List}
use Rattle.std.specs.List.{flat_map}
use Rattle.caf_program.specs.declared.program.SubR.{SubR}
use Rattle.caf_program.specs.Ships.{Shipped, spawns_in}

-- the place of a shipped subroutine
abbrev pub place : Shipped → ℕ
place s = s.sub

abbrev pub spawns_by : SubR → List Shipped
spawns_by f = flat_map spawns_in f.body
