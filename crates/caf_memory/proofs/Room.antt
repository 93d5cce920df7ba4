-- A section within its bounds has room in its object's cells.
use Rattle.std.proofs.Common.{◌≡◌, ℕ, ◌+◌, ◌<◌, ◌≤◌, Bool, true, false, ◌&&◌, ◌||◌, if◌then◌else◌, ◌==◌, List, [], ◌∷◌, length, Some, Result, Ok, Err, IsSomeAnd, refl, ap, ◌∙◌, subst, arith, ℤ, pos, nat_lt}
use Rattle.std.specs.Prelude.{int_le, ◌+ℤ◌, unsigned_abs, ◌-ℤ◌, slice_get, slice_set, slice_index_or}
use Rattle.std.proofs.lemmas.Bool.{le-ltb}
use Rattle.std.proofs.lemmas.Int.{ints}
use Rattle.std.proofs.lemmas.List.{set-get_or}
use Rattle.caf_base.specs.declared.object.Object.{Object}
use Rattle.caf_base.specs.declared.trap.Trap.{Trap}
use Rattle.caf_base.specs.declared.trap.Trap.TheVariants as trap
use Rattle.caf_base.specs.Element.{offset_of}
use Rattle.caf_base.specs.ImageMemory.{ImageMemory}
use Rattle.caf_base.specs.Sections.{with_section, with_section_in}
use Rattle.caf_memory.specs.Bounds.{HasCells, has_cells, has_span, is_inside, section_trap, own_section}
use Rattle.caf_memory.specs.Sized.{IsSized}
use Rattle.caf_memory.proofs.Sized.{row_length}
use Rattle.caf_memory.proofs.Spliced.{spliced-none}

room : (lower from : ℤ) (extent n : ℕ) → (int_le lower from && int_le (from +ℤ pos n) (lower +ℤ pos extent)) ≡ true → unsigned_abs (from -ℤ lower) + n ≤ extent
room lower from extent n h = grind (arith, ints)

passed : (b c : Bool) (s i : Trap) → let r : Result (Unit {0}) Trap = if b then (if c then Err s else Ok tt) else Err i in r ≡ Ok tt → b ≡ true
passed true c s i e = refl
passed false c s i e = cc

second : (a b : Bool) → a ≡ false → (a || b) ≡ true → b ≡ true
second true b h e = cc
second false b h e = e

-- a section that isn't empty and passes its tests ends within the object's extent
pub span_room : (o : Object) (from : ℤ) (n : ℕ) → 0 < n → section_trap (Some o) from n ≡ Ok tt → offset_of o from + n ≤ o.extent
span_room o from n h e =
    let inside = passed (is_inside (Some o) from n) (nat_lt 256 n) trap.Section trap.Index e in
    room o.lower from o.extent n (second (nat_lt n 1) (has_span o from n) (le-ltb n 1 (omega arith)) inside)

-- such a section has room in the object's cells
pub section_room : (m : ImageMemory) (object : ℕ) (o : Object) (from : ℤ) (n : ℕ) → IsSized m → slice_get m.objects object ≡ Some o → HasCells m.objects object → 0 < n → section_trap (Some o) from n ≡ Ok tt → (object < length m.cells) × (offset_of o from + n ≤ length (slice_index_or m.cells object []))
section_room m object o from n sized at has some e =
    let row = row_length m object o sized at (subst (λ found. IsSomeAnd found (λ (p : Object). has_cells p.kind ≡ true)) at has) in
    let fits = span_room o from n some e in
    (row.0, omega (arith, row.1))

-- no numbers change nothing
pub section_none : (m : ImageMemory) (object : ℕ) (o : Object) (from : ℤ) → slice_get m.objects object ≡ Some o → with_section m (own_section m object from 0) [] ≡ m
section_none m object o from at =
    ap (λ found. with_section_in m found (own_section m object from 0) []) at ∙ ap (λ cells. record m { cells = cells }) (ap (slice_set m.cells object) (spliced-none (slice_index_or m.cells object []) (offset_of o from)) ∙ set-get_or m.cells object [])

-- a list without an element
pub none_in : (xs : List ℤ) → (length xs == 0) ≡ true → xs ≡ []
none_in [] h = refl
none_in (x ∷ xs) h = absurd (grind arith)

pub some_in : (xs : List ℤ) → (length xs == 0) ≡ false → 0 < length xs
some_in [] h = cc
some_in (x ∷ xs) h = omega arith
