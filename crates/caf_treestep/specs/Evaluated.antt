-- The parts of a statement with their expressions evaluated, from the left. `at` is the place of the first value that
-- they hold.
use Rattle.std.specs.Prelude.{ℕ, ◌+◌, suc, List, [], ◌∷◌, ◌++◌, Option, Some, None, Result, Ok, ℤ}
use Rattle.caf_base.specs.declared.trap.Trap.{Trap}
use Rattle.caf_base.specs.ImageMemory.{ImageMemory}
use Rattle.caf_base.specs.Line.{number_text, logical_text, line_of}
use Rattle.caf_base.specs.Places.{bind}
use Rattle.caf_base.specs.declared.place.CopyEvents.{CopyEvents}
use Rattle.caf_base.specs.declared.place.EventWanted.{EventWanted}
use Rattle.caf_base.specs.declared.place.Place.{Place}
use Rattle.caf_base.specs.declared.place.Place.TheVariants as place
use Rattle.caf_base.specs.declared.place.SectionRange.{SectionRange}
use Rattle.caf_base.specs.declared.place.SectionRange.TheVariants as evaluated
use Rattle.caf_base.specs.declared.place.SectionWanted.{SectionWanted}
use Rattle.caf_base.specs.declared.place.SectionWanted.TheVariants as wanted
use Rattle.caf_program.specs.Seen.{Seen, scalar, local, element}
use Rattle.caf_program.specs.Value.{value_at, count}
use Rattle.caf_program.specs.Expressions.{count_all, of_range, of_copy_event, of_actual, of_part}
use Rattle.caf_program.specs.declared.expr.TeamR.{TeamR}
use Rattle.caf_program.specs.declared.expr.TeamR.TheVariants as team
use Rattle.caf_program.specs.declared.expr.ExprR.{ExprR}
use Rattle.caf_program.specs.declared.expr.PlaceR.{PlaceR}
use Rattle.caf_program.specs.declared.parts.ActualR.{ActualR}
use Rattle.caf_program.specs.declared.parts.ActualR.TheVariants as actual
use Rattle.caf_program.specs.declared.parts.PrintR.{PrintR}
use Rattle.caf_program.specs.declared.parts.PrintR.TheVariants as part
use Rattle.caf_program.specs.declared.parts.RangeR.{RangeR}
use Rattle.caf_program.specs.declared.parts.RangeR.TheVariants as range
use Rattle.caf_program.specs.declared.parts.RegionR.{RegionR}
use Rattle.caf_program.specs.declared.parts.SectionR.{SectionR}
use Rattle.caf_program.specs.declared.parts.SectionR.TheVariants as section
use Rattle.caf_program.specs.declared.parts.OwnEventR.{OwnEventR}
use Rattle.caf_program.specs.declared.parts.EventR.{EventR}
use Rattle.caf_program.specs.declared.parts.CopyEventR.{CopyEventR}
use Rattle.caf_program.specs.declared.parts.CopyEventR.TheVariants as role
use Rattle.caf_treestep.specs.declared.argument.Argument.{Argument}
use Rattle.caf_treestep.specs.declared.todo.CopyOut.{CopyOut}
use Rattle.caf_treestep.specs.declared.todo.Target.{Target}
use Rattle.caf_treestep.specs.declared.todo.Target.TheVariants as target

-- what an expression of a task sees of its image's memory
abbrev pub seen_in : ImageMemory → List ℤ → List ℤ → Seen
seen_in m locals held = record { objects = m.objects; cells = m.cells; locals = locals; held = held; image = m.image; images = m.images; teams = m.teams }

abbrev pub place_in : TeamR → ℤ → Place
place_in team.World rank = place.World rank
place_in (team.Object o) rank = place.Of o rank

abbrev pub place_of : PlaceR ExprR → ℕ → Seen → Result Place Trap
place_of p at s = bind (value_at p.rank at s) (λ rank. Ok (place_in p.team rank))

-- this image, where there is no place
abbrev pub place_if : Option (PlaceR ExprR) → ℕ → Seen → Result Place Trap
place_if None at s = Ok place.Own
place_if (Some p) at s = place_of p at s

abbrev pub range_of : RangeR → ℕ → Seen → Result SectionRange Trap
range_of range.All at s = Ok evaluated.All
range_of (range.Cell i) at s = bind (value_at i at s) (λ x. Ok (evaluated.Cell x))
range_of (range.Between i j) at s = bind (value_at i at s) (λ x. bind (value_at j (at + count i) s) (λ y. Ok (evaluated.Between x y)))
range_of (range.From i) at s = bind (value_at i at s) (λ x. Ok (evaluated.From x))
range_of (range.UpTo j) at s = bind (value_at j at s) (λ y. Ok (evaluated.UpTo y))

abbrev pub region_of : RegionR → ℕ → Seen → Result SectionWanted Trap
region_of r at s = bind (range_of r.range at s) (λ x. bind (place_if r.place (at + count_all (of_range r.range)) s) (λ p. Ok (wanted.Region r.object x p)))

abbrev pub wanted_of : SectionR → ℕ → Seen → Result SectionWanted Trap
wanted_of (section.Region r) at s = region_of r at s
wanted_of (section.Pointed c r) at s = bind (range_of r at s) (λ x. Ok (wanted.Pointed c x))

abbrev pub own_event_of : OwnEventR → ℕ → Seen → Result EventWanted Trap
own_event_of e at s = bind (value_at e.index at s) (λ i. Ok (record { object = e.object; index = i; place = place.Own }))

abbrev pub event_wanted : EventR → ℕ → Seen → Result EventWanted Trap
event_wanted e at s = bind (value_at e.own.index at s) (λ i. bind (place_if e.place (at + count e.own.index) s) (λ p. Ok (record { object = e.own.object; index = i; place = p })))

abbrev pub event_if : Option EventR → ℕ → Seen → Result (Option EventWanted) Trap
event_if None at s = Ok None
event_if (Some e) at s = bind (event_wanted e at s) (λ x. Ok (Some x))

-- the events of a copy with one more, in the order in which they are written
abbrev pub with_copy_event : CopyEventR → ℕ → Seen → CopyEvents → Result CopyEvents Trap
with_copy_event (role.Pre e) at s es = bind (own_event_of e at s) (λ x. Ok (record es { pre = Some x }))
with_copy_event (role.Srce e) at s es = bind (event_wanted e at s) (λ x. Ok (record es { srce = Some x }))
with_copy_event (role.Deste e) at s es = bind (event_wanted e at s) (λ x. Ok (record es { deste = Some x }))

abbrev pub held_by_copy_event : CopyEventR → ℕ
held_by_copy_event e = count_all (of_copy_event e)

abbrev pub copy_events_from : List CopyEventR → ℕ → Seen → CopyEvents → Result CopyEvents Trap
copy_events_from [] at s es = Ok es
copy_events_from (e ∷ rest) at s es = bind (with_copy_event e at s es) (copy_events_from rest (at + held_by_copy_event e) s)

abbrev pub no_events : CopyEvents
no_events = record { pre = None; srce = None; deste = None }

abbrev pub argument_of : ActualR → ℕ → Seen → Result Argument Trap
argument_of (actual.Value e) at s = bind (value_at e at s) (λ z. Ok (record { value = z; out = None }))
argument_of (actual.Scalar o) at s = bind (scalar s o) (λ z. Ok (record { value = z; out = Some (target.Scalar o) }))
argument_of (actual.Local k) at s = Ok (record { value = local s k; out = Some (target.Local k) })
argument_of (actual.Element o i) at s = bind (value_at i at s) (λ x. bind (element s o x) (λ z. Ok (record { value = z; out = Some (target.Element o x) })))

-- each of a list in order: what it is found to be, and how many values it holds
abbrev pub each : {A B : Type 0} → (A → ℕ → Seen → Result B Trap) → (A → ℕ) → List A → ℕ → Seen → Result (List B) Trap
each find holds [] at s = Ok []
each find holds (a ∷ rest) at s = bind (find a at s) (λ x. bind (each find holds rest (at + holds a) s) (λ xs. Ok (x ∷ xs)))

abbrev pub held_by_actual : ActualR → ℕ
held_by_actual a = count_all (of_actual a)

abbrev pub arguments_of : List ActualR → ℕ → Seen → Result (List Argument) Trap
arguments_of = each argument_of held_by_actual

abbrev pub out_at : ℕ → Option Target → List CopyOut
out_at cell None = []
out_at cell (Some t) = record { cell = cell; target = t } ∷ []

-- what is copied out at the end of the call, from the left, where the first of these dummies is this cell
abbrev pub outs_from : ℕ → List Argument → List CopyOut
outs_from cell [] = []
outs_from cell (a ∷ rest) = out_at cell a.out ++ outs_from (suc cell) rest

-- the text of a part of a printed line
abbrev pub text_of : PrintR → ℕ → Seen → Result (List ℕ) Trap
text_of (part.Number e) at s = bind (value_at e at s) (λ z. Ok (number_text z))
text_of (part.Logical e) at s = bind (value_at e at s) (λ z. Ok (logical_text z))
text_of (part.Text t) at s = Ok t

abbrev pub held_by_part : PrintR → ℕ
held_by_part p = count_all (of_part p)

abbrev pub texts_of : List PrintR → ℕ → Seen → Result (List (List ℕ)) Trap
texts_of = each text_of held_by_part

-- a printed line
abbrev pub line_text : List PrintR → ℕ → Seen → Result (List ℕ) Trap
line_text parts at s = bind (texts_of parts at s) (λ texts. Ok (line_of texts))
