-- The section that a copointer is aimed at: each index fits.
use Rattle.std.proofs.Common.{◌≡◌, ◌+◌, ℕ, Bool, true, false, ◌&&◌, Option, Some, None, Result, Ok, Err, ℤ, pos, negsuc, ◌+ℤ◌, ◌-ℤ◌, ◌≤ℤ◌, ◌^◌, IfOk, IfSome, refl, subst, sym, arith, slice_get}
use Rattle.std.proofs.lemmas.Int.{ints}
use Rattle.std.specs.Prelude.{int_le, int_lt, if◌then◌else◌}
use Rattle.caf_base.specs.Arithmetic.{at_least_none}
use Rattle.caf_base.specs.ImageMemory.{ImageMemory}
use Rattle.caf_base.specs.Places.{bind, ends_of, image_of, limited, region_span, section_of, span_of}
use Rattle.caf_base.specs.declared.object.Object.{Object}
use Rattle.caf_base.specs.declared.operation.Section.{Section}
use Rattle.caf_base.specs.declared.place.Place.{Place}
use Rattle.caf_base.specs.declared.place.SectionRange.{SectionRange}
use Rattle.caf_base.specs.declared.place.SectionWanted.TheVariants as wanted
use Rattle.caf_base.specs.declared.trap.Trap.{Trap}
use Rattle.caf_base.specs.declared.trap.Trap.TheVariants as trap
use Rattle.caf_memory.specs.Placed.{EndsWithin}
use Rattle.caf_program.specs.Seen.{Seen}
use Rattle.caf_program.specs.Expressions.{count_all, of_range}
use Rattle.caf_program.specs.declared.parts.RegionR.{RegionR}
use Rattle.caf_treestep.specs.Evaluated.{place_if, range_of}
use Rattle.caf_treestep.specs.Placeable.{IsPlaceable}
use Rattle.caf_treestep.specs.Step.{aimed}

-- what holds of what is found next holds of what is found
pub bind_all : {A B : Type 0} (P : B → Type 0) (r : Result A Trap) (go : A → Result B Trap) → ((x : A) → IfOk (go x) P) → IfOk (bind r go) P
bind_all P (Err t) go all = tt
bind_all P (Ok x) go all = all x

le_of : (a b : ℤ) → int_le a b ≡ true → a ≤ℤ b
le_of a b e = grind (arith, e)

not_lt : (a b : ℤ) → int_lt a b ≡ false → b ≤ℤ a
not_lt a b e = grind (arith, e)

count_of : (z : ℤ) → pos 0 ≤ℤ z → pos (at_least_none z) ≡ z
count_of (pos n) le = refl
count_of (negsuc n) le = absurd (omega (arith, le))

empty_ends : (lower : ℤ) (extent : ℕ) → EndsWithin lower extent → (lower +ℤ pos 0) ≤ℤ pos (2 ^ 63)
empty_ends lower extent fits = omega (arith, ints, fits)

span_ends : (a b last lower : ℤ) (extent : ℕ) → last ≡ lower +ℤ pos extent -ℤ pos 1 → b ≤ℤ last → EndsWithin lower extent → (a +ℤ (b -ℤ a +ℤ pos 1)) ≤ℤ pos (2 ^ 63)
span_ends a b last lower extent is le fits = omega (arith, ints, is, le, fits)

abbrev Ends : ℤ × ℕ → Type 0
Ends span = EndsWithin span.0 span.1

span_by : (lower : ℤ) (extent : ℕ) (a z : ℤ) (b c : Bool) → EndsWithin lower extent → (b ≡ false → c ≡ true → EndsWithin a (at_least_none z))
    → IfOk (if b then Ok (lower, 0) else (if c then Ok (a, at_least_none z) else Err trap.Index)) Ends
span_by lower extent a z true c fits inside = empty_ends lower extent fits
span_by lower extent a z false true fits inside = inside refl refl
span_by lower extent a z false false fits inside = tt

and_last : (a b : Bool) → (a && b) ≡ true → b ≡ true
and_last true b e = e
and_last false b e = absurd (cc)

not_empty : (a b : ℤ) → a ≤ℤ b → pos 0 ≤ℤ (b -ℤ a +ℤ pos 1)
not_empty a b le = omega (arith, ints)

span_fits : (o : Object) (r : SectionRange) → EndsWithin o.lower o.extent → IfOk (span_of o.lower o.extent r) Ends
span_fits o r fits =
    let last : ℤ = o.lower +ℤ pos o.extent -ℤ pos 1 in
    let x : ℤ × ℤ = ends_of o.lower last r in
    span_by o.lower o.extent x.0 (x.1 -ℤ x.0 +ℤ pos 1) (int_lt x.1 x.0) (int_le o.lower x.0 && int_le x.1 last) fits
    (λ some inside.
    let n : pos (at_least_none (x.1 -ℤ x.0 +ℤ pos 1)) ≡ x.1 -ℤ x.0 +ℤ pos 1 = count_of (x.1 -ℤ x.0 +ℤ pos 1) (not_empty x.0 x.1 (not_lt x.1 x.0 some)) in
    subst (λ k. (x.0 +ℤ k) ≤ℤ pos (2 ^ 63)) (sym n) (span_ends x.0 x.1 last o.lower o.extent refl (le_of x.1 last (and_last (int_le o.lower x.0) (int_le x.1 last) inside)) fits))

region_fits : (x : Option Object) (r : SectionRange) → IfSome x (λ (o : Object). EndsWithin o.lower o.extent) → IfOk (region_span x r) Ends
region_fits None r fits = tt
region_fits (Some o) r fits = span_fits o r fits

abbrev SectionEnds : Section → Type 0
SectionEnds s = EndsWithin s.from s.extent

-- what holds of a span holds of the section that it makes
by_span : (m : ImageMemory) (object : ℕ) (p : Place) (r : Result (ℤ × ℕ) Trap) → IfOk r Ends
    → IfOk (bind r (λ span. bind (limited false span) (λ t. bind (image_of m p) (λ image. Ok (record { image = image; object = object; from = t.0; extent = t.1 }))))) SectionEnds
by_span m object p (Err t) fits = tt
by_span m object p (Ok span) fits = bind_all SectionEnds (image_of m p) (λ image. Ok (record { image = image; object = object; from = span.0; extent = span.1 })) (λ image. fits)

pub aimed_fits : (r : RegionR) (at : ℕ) (s : Seen) (m : ImageMemory) → IsPlaceable m → IfOk (aimed r at s m) SectionEnds
aimed_fits r at s m placeable = by (range_of r.range at s) where
  by : (x : Result SectionRange Trap) → IfOk (bind (bind x (λ y. bind (place_if r.place (at + count_all (of_range r.range)) s) (λ p. Ok (wanted.Region r.object y p)))) (section_of false m)) SectionEnds
  by (Err t) = tt
  by (Ok y) = placed (place_if r.place (at + count_all (of_range r.range)) s) where
    placed : (q : Result Place Trap) → IfOk (bind (bind q (λ p. Ok (wanted.Region r.object y p))) (section_of false m)) SectionEnds
    placed (Err t) = tt
    placed (Ok p) = by_span m r.object p (region_span (slice_get m.objects r.object) y) (region_fits (slice_get m.objects r.object) y (placeable.objects r.object))
