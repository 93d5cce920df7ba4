-- What a statement asks for, with its numbers evaluated, and the order that its tests make of it.
use Rattle.std.specs.Prelude.{ℕ, ℤ, true, List, Option, Some, None, Result, Ok, Err, nat_eq, slice_set, if◌then◌else◌}
use Rattle.caf_base.specs.declared.operation.CopyOrder.{CopyOrder}
use Rattle.caf_base.specs.declared.operation.EventAt.{EventAt}
use Rattle.caf_base.specs.declared.operation.OpSpec.{OpSpec}
use Rattle.caf_base.specs.declared.operation.OpSpec.TheVariants as spec
use Rattle.caf_base.specs.declared.operation.Section.{Section}
use Rattle.caf_base.specs.declared.place.CopyEvents.{CopyEvents}
use Rattle.caf_base.specs.declared.place.EventWanted.{EventWanted}
use Rattle.caf_base.specs.declared.place.Place.{Place}
use Rattle.caf_base.specs.declared.place.SectionWanted.{SectionWanted}
use Rattle.caf_base.specs.declared.team.Team.{Team}
use Rattle.caf_base.specs.declared.trap.Trap.{Trap}
use Rattle.caf_base.specs.declared.trap.Trap.TheVariants as trap
use Rattle.caf_base.specs.ImageMemory.{ImageMemory}
use Rattle.caf_base.specs.Places.{bind, event_of, image_of, section_of}

-- the tests of an event that is wanted: trap `Index`, `Team`, `Rank`
abbrev pub event_found : ImageMemory → Option EventWanted → Result (Option EventAt) Trap
event_found m None = Ok None
event_found m (Some e) = bind (event_of m e.object e.index e.place) (λ found. Ok (Some found))

abbrev pub with_events : ImageMemory → CopyEvents → Section → Section → Result CopyOrder Trap
with_events m es dest source =
    bind (event_found m es.pre) (λ pre. bind (event_found m es.srce) (λ srce. bind (event_found m es.deste) (λ deste.
    Ok (record { dest = dest; source = source; pre = pre; srce = srce; deste = deste }))))

-- the tests of a copy: destination, source, equal lengths (trap `Section`), events
abbrev pub copy_order : ImageMemory → SectionWanted → SectionWanted → CopyEvents → Result CopyOrder Trap
copy_order m dest source es =
    bind (section_of true m dest) (λ d. bind (section_of true m source) (λ s. if nat_eq d.extent s.extent then with_events m es d s else Err trap.Section))

-- the tests of a ship: its event, and then its target
abbrev pub ship_order : ImageMemory → ℕ → List ℤ → Option EventWanted → Place → Result OpSpec Trap
ship_order m sub arguments event place =
    bind (event_found m event) (λ done. bind (image_of m place) (λ target. Ok (spec.Ship target sub arguments done)))

-- the memory with a copointer aimed at a section
abbrev pub with_copointer : ImageMemory → ℕ → Section → ImageMemory
with_copointer m copointer s = record m { copointers = slice_set m.copointers copointer (Some s) }

-- the memory with a team in an object
abbrev pub with_team : ImageMemory → ℕ → Team → ImageMemory
with_team m object t = record m { teams = slice_set m.teams object (Some t) }

-- a team that is set; trap `Team`
abbrev pub team_set : Option Team → Result Team Trap
team_set None = Err trap.Team
team_set (Some t) = Ok t
