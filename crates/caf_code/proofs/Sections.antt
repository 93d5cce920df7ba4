-- A section that is found in a memory lies in its object, at an image of the run.
use Rattle.std.proofs.Common.{◌≡◌, ℕ, ◌<◌, ◌⊎◌, inl, inr, Bool, true, false, ◌&&◌, ◌||◌, length, Option, Some, None, Result, Ok, Err, ℤ, pos, negsuc, ◌+ℤ◌, ◌-ℤ◌, ◌≤ℤ◌, refl, sym, ap, subst, arith}
use Rattle.std.proofs.lemmas.Bool.{eqb-true, lt-ltb, ltb-true}
use Rattle.std.proofs.lemmas.Int.{ints}
use Rattle.std.specs.Prelude.{int_le, int_lt, nat_eq, nat_lt, slice_get, slice_index_or, unsigned_abs, if◌then◌else◌}
use Rattle.caf_base.specs.Arithmetic.{at_least_none}
use Rattle.caf_base.specs.ImageMemory.{ImageMemory}
use Rattle.caf_base.specs.Places.{bind, copointer_at, ends_of, image_of, is_rank, limited, member_of, pointed_range, region_span, section_of, span_of, team_at}
use Rattle.caf_base.specs.declared.object.Object.{Object}
use Rattle.caf_base.specs.declared.operation.Section.{Section}
use Rattle.caf_base.specs.declared.place.Place.{Place}
use Rattle.caf_base.specs.declared.place.Place.TheVariants as place
use Rattle.caf_base.specs.declared.place.SectionRange.{SectionRange}
use Rattle.caf_base.specs.declared.place.SectionWanted.{SectionWanted}
use Rattle.caf_base.specs.declared.place.SectionWanted.TheVariants as wanted
use Rattle.caf_base.specs.declared.team.Team.{Team}
use Rattle.caf_base.specs.declared.trap.Trap.{Trap}
use Rattle.caf_base.specs.declared.trap.Trap.TheVariants as trap
use Rattle.caf_code.specs.Rules.{is_data}
use Rattle.caf_code.specs.Sound.{IsSoundMemory, is_listed, is_place, is_sound_section, lies_in}
use Rattle.caf_code.specs.declared.listing.Listing.{Listing}
use Rattle.caf_code.specs.declared.task.Listed.TheVariants as listed
use Rattle.caf_code.proofs.Rows.{and_left, and_right, both}

count_of : (z : ℤ) → pos 0 ≤ℤ z → pos (at_least_none z) ≡ z
count_of (pos n) le = refl
count_of (negsuc n) le = absurd (omega (arith, le))

ends : (a b lower : ℤ) (extent : ℕ) → b ≤ℤ (lower +ℤ pos extent -ℤ pos 1) → (a +ℤ (b -ℤ a +ℤ pos 1)) ≤ℤ (lower +ℤ pos extent)
ends a b lower extent le = omega (arith, ints)

not_empty : (a b : ℤ) → a ≤ℤ b → pos 0 ≤ℤ (b -ℤ a +ℤ pos 1)
not_empty a b le = omega (arith, ints)

first_in : (from first a : ℤ) → pos 1 ≤ℤ a → first ≤ℤ from → first ≤ℤ (from +ℤ a -ℤ pos 1)
first_in from first a le lo = omega (arith, ints)

last_in : (from a lower : ℤ) (n k extent : ℕ) → (a +ℤ pos n) ≤ℤ (pos 1 +ℤ pos k) → (from +ℤ pos k) ≤ℤ (lower +ℤ pos extent) → (from +ℤ a -ℤ pos 1 +ℤ pos n) ≤ℤ (lower +ℤ pos extent)
last_in from a lower n k extent le hi = omega (arith, ints)

none_in : (a : ℤ) (n k : ℕ) → k ≡ 0 → pos 1 ≤ℤ a → (a +ℤ pos n) ≤ℤ (pos 1 +ℤ pos k) → n ≡ 0
none_in a n k empty lo hi = let h : (a +ℤ pos n) ≤ℤ (pos 1 +ℤ pos 0) = subst (λ j. (a +ℤ pos n) ≤ℤ (pos 1 +ℤ pos j)) empty hi in omega (arith, ints)

le_of : (a b : ℤ) → int_le a b ≡ true → a ≤ℤ b
le_of a b e = grind (arith, e)

of_le : (a b : ℤ) → a ≤ℤ b → int_le a b ≡ true
of_le a b e = grind (arith, e)

not_lt : (a b : ℤ) → int_lt a b ≡ false → b ≤ℤ a
not_lt a b e = grind (arith, e)

rank_below : (rank : ℤ) (n : ℕ) → is_rank n rank ≡ true → unsigned_abs rank < n
rank_below (pos k) n e = let lt : int_lt (pos k) (pos n) ≡ true = and_right (int_le (pos 0) (pos k)) (int_lt (pos k) (pos n)) e in grind (arith, lt)
rank_below (negsuc k) n e = let le : int_le (pos 0) (negsuc k) ≡ true = and_left (int_le (pos 0) (negsuc k)) (int_lt (negsuc k) (pos n)) e in let no : pos 0 ≤ℤ negsuc k = le_of (pos 0) (negsuc k) le in absurd (omega (arith, ints))

abbrev ok_or : {A : Type 0} → A → Result A Trap → A
ok_or d (Ok a) = a
ok_or d (Err trap) = d

abbrev ok_of : {A : Type 0} → A → Result A Trap
ok_of a = Ok a

same_ok : {A : Type 0} (a b : A) → ok_of a ≡ ok_of b → a ≡ b
same_ok {A} a b e = let f : Result A Trap → A = ok_or a in ap f e

bind_ok : {A B : Type 0} (r : Result A Trap) (f : A → Result B Trap) (b : B) → bind r f ≡ Ok b → (a : A) × (r ≡ Ok a) × (f a ≡ Ok b)
bind_ok (Ok a) f b e = (a, refl, e)
bind_ok (Err trap) f b e = absurd (cc)

pub if_ok : {A : Type 0} (c : Bool) (a b : A) (trap : Trap) → (if c then Ok a else Err trap) ≡ Ok b → (c ≡ true) × (a ≡ b)
if_ok true a b trap e = (refl, same_ok a b e)
if_ok false a b trap e = absurd (cc)

-- where the elements of a section lie, if it has any
abbrev Lies : ℤ → ℕ → ℤ × ℕ → Type 0
Lies lower extent span = (span.1 ≡ 0) ⊎ ((lower ≤ℤ span.0) × ((span.0 +ℤ pos span.1) ≤ℤ (lower +ℤ pos extent)))

span_by : (lower : ℤ) (extent : ℕ) (a z : ℤ) (b c d : Bool) (span : ℤ × ℕ) → (if b then Ok (lower, 0) else (if c && d then Ok (a, at_least_none z) else Err trap.Index)) ≡ Ok span
    → (b ≡ false → c ≡ true → d ≡ true → (lower ≤ℤ a) × ((a +ℤ pos (at_least_none z)) ≤ℤ (lower +ℤ pos extent))) → Lies lower extent span
span_by lower extent a z true c d span e inside = inl (sym (ap (λ (x : ℤ × ℕ). x.1) (same_ok (lower, 0) span e)))
span_by lower extent a z false true true span e inside = subst (Lies lower extent) (same_ok (a, at_least_none z) span e) (inr (inside refl refl refl))
span_by lower extent a z false false d span e inside = absurd (cc)
span_by lower extent a z false true false span e inside = absurd (cc)

span_lies : (lower : ℤ) (extent : ℕ) (r : SectionRange) (span : ℤ × ℕ) → span_of lower extent r ≡ Ok span → Lies lower extent span
span_lies lower extent r span e =
    let last : ℤ = lower +ℤ pos extent -ℤ pos 1 in
    let x : ℤ × ℤ = ends_of lower last r in
    span_by lower extent x.0 (x.1 -ℤ x.0 +ℤ pos 1) (int_lt x.1 x.0) (int_le lower x.0) (int_le x.1 last) span e
    (λ some low high.
    let count : pos (at_least_none (x.1 -ℤ x.0 +ℤ pos 1)) ≡ x.1 -ℤ x.0 +ℤ pos 1 = count_of (x.1 -ℤ x.0 +ℤ pos 1) (not_empty x.0 x.1 (not_lt x.1 x.0 some)) in
    (le_of lower x.0 low, subst (λ k. (x.0 +ℤ k) ≤ℤ (lower +ℤ pos extent)) (sym count) (ends x.0 x.1 lower extent (le_of x.1 last high))))

or_right : (a b : Bool) → b ≡ true → (a || b) ≡ true
or_right true b e = refl
or_right false b e = e

or_left : (a b : Bool) → a ≡ true → (a || b) ≡ true
or_left true b e = refl
or_left false b e = absurd (cc)

lies : (o : Object) (s : Section) → Lies o.lower o.extent (s.from, s.extent) → lies_in (Some o) s ≡ true
lies o s (inl none) = let e : nat_eq s.extent 0 ≡ true = subst (λ n. nat_eq n 0 ≡ true) (sym none) refl in or_left (nat_eq s.extent 0) _ e
lies o s (inr inside) = or_right (nat_eq s.extent 0) _ (both (int_le o.lower s.from) _ (of_le o.lower s.from inside.0) (of_le (s.from +ℤ pos s.extent) (o.lower +ℤ pos o.extent) inside.1))

or_cases : (a b : Bool) → (a || b) ≡ true → (a ≡ true) ⊎ (b ≡ true)
or_cases true b e = inl refl
or_cases false b e = inr e

-- the image of a place is one of the run
member_sound : (code : Listing) (m : ImageMemory) (o : ℕ) (rank : ℤ) (image : ℕ) → IsSoundMemory code m → (x : Option Team) → team_at m o ≡ x → member_of x rank ≡ Ok image → image < m.images
member_sound code m o rank image sound None at e = absurd (cc)
member_sound code m o rank image sound (Some t) at e =
    let found : (is_rank (length t.members) rank ≡ true) × (slice_index_or t.members (unsigned_abs rank) 0 ≡ image) = if_ok (is_rank (length t.members) rank) (slice_index_or t.members (unsigned_abs rank) 0) image trap.Rank e in
    subst (λ i. i < m.images) found.1 ((sound.teams o t at).members (unsigned_abs rank) 0 (rank_below rank (length t.members) found.0))

image_sound : (code : Listing) (m : ImageMemory) (p : Place) (image : ℕ) → IsSoundMemory code m → image_of m p ≡ Ok image → image < m.images
image_sound code m place.Own image sound e = subst (λ i. i < m.images) (same_ok m.image image e) sound.image
image_sound code m (place.World rank) image sound e =
    let found : (is_rank m.images rank ≡ true) × (unsigned_abs rank ≡ image) = if_ok (is_rank m.images rank) (unsigned_abs rank) image trap.Rank e in
    subst (λ i. i < m.images) found.1 (rank_below rank m.images found.0)
image_sound code m (place.Of o rank) image sound e = member_sound code m o rank image sound (team_at m o) refl e

region_lies : (x : Option Object) (r : SectionRange) (span : ℤ × ℕ) (image object : ℕ) → region_span x r ≡ Ok span → lies_in x (record { image = image; object = object; from = span.0; extent = span.1 }) ≡ true
region_lies None r span image object e = absurd (cc)
region_lies (Some o) r span image object e = lies o (record { image = image; object = object; from = span.0; extent = span.1 }) (span_lies o.lower o.extent r span e)

sound_of : (code : Listing) (images : ℕ) (s : Section) → s.image < images → is_data code s.object ≡ true → lies_in (slice_get code.objects s.object) s ≡ true → is_sound_section code images s ≡ true
sound_of code images s image data_ inside = both (nat_lt s.image images && is_data code s.object) _ (both (nat_lt s.image images) _ (lt-ltb s.image images image) data_) inside

-- within what a copointer aims at
pointed_lies : (x : Option Object) (q : Section) (span : ℤ × ℕ) → lies_in x q ≡ true → Lies (pos 1) q.extent span → lies_in x (record q { from = q.from +ℤ span.0 -ℤ pos 1; extent = span.1 }) ≡ true
pointed_lies None q span inside within = absurd (cc)
pointed_lies (Some o) q span inside (inl none) = lies o (record q { from = q.from +ℤ span.0 -ℤ pos 1; extent = span.1 }) (inl none)
pointed_lies (Some o) q span inside (inr within) = by (or_cases (nat_eq q.extent 0) (int_le o.lower q.from && int_le (q.from +ℤ pos q.extent) (o.lower +ℤ pos o.extent)) inside) where
  by : (nat_eq q.extent 0 ≡ true) ⊎ ((int_le o.lower q.from && int_le (q.from +ℤ pos q.extent) (o.lower +ℤ pos o.extent)) ≡ true) → lies_in (Some o) (record q { from = q.from +ℤ span.0 -ℤ pos 1; extent = span.1 }) ≡ true
  by (inl empty) = lies o (record q { from = q.from +ℤ span.0 -ℤ pos 1; extent = span.1 }) (inl (none_in span.0 span.1 q.extent (eqb-true q.extent 0 empty) within.0 within.1))
  by (inr full) =
      let low : o.lower ≤ℤ q.from = le_of o.lower q.from (and_left (int_le o.lower q.from) (int_le (q.from +ℤ pos q.extent) (o.lower +ℤ pos o.extent)) full) in
      let high : (q.from +ℤ pos q.extent) ≤ℤ (o.lower +ℤ pos o.extent) = le_of (q.from +ℤ pos q.extent) (o.lower +ℤ pos o.extent) (and_right (int_le o.lower q.from) (int_le (q.from +ℤ pos q.extent) (o.lower +ℤ pos o.extent)) full) in
      lies o (record q { from = q.from +ℤ span.0 -ℤ pos 1; extent = span.1 }) (inr (first_in q.from o.lower span.0 within.0 low, last_in q.from span.0 o.lower span.1 q.extent o.extent within.1 high))

pointed_sound : (code : Listing) (m : ImageMemory) (c : ℕ) (r : SectionRange) (s : Section) → IsSoundMemory code m → (x : Option Section) → copointer_at m c ≡ x → pointed_range false x r ≡ Ok s → is_sound_section code m.images s ≡ true
pointed_sound code m c r s sound None at e = absurd (cc)
pointed_sound code m c r s sound (Some q) at e =
    let found : (span : ℤ × ℕ) × (span_of (pos 1) q.extent r ≡ Ok span) × (Ok (record q { from = q.from +ℤ span.0 -ℤ pos 1; extent = span.1 }) ≡ Ok s) =
    bind_ok (span_of (pos 1) q.extent r) (λ span. bind (limited false span) (λ (t : ℤ × ℕ). Ok (record q { from = q.from +ℤ t.0 -ℤ pos 1; extent = t.1 }))) s e in
    let span : ℤ × ℕ = found.0 in
    let held : is_sound_section code m.images q ≡ true = sound.copointers c q at in
    let named : (nat_lt q.image m.images && is_data code q.object) ≡ true = and_left (nat_lt q.image m.images && is_data code q.object) (lies_in (slice_get code.objects q.object) q) held in
    let inside : lies_in (slice_get code.objects q.object) q ≡ true = and_right (nat_lt q.image m.images && is_data code q.object) (lies_in (slice_get code.objects q.object) q) held in
    subst (λ x. is_sound_section code m.images x ≡ true) (same_ok (record q { from = q.from +ℤ span.0 -ℤ pos 1; extent = span.1 }) s found.2)
    (sound_of code m.images (record q { from = q.from +ℤ span.0 -ℤ pos 1; extent = span.1 }) (ltb-true q.image m.images (and_left (nat_lt q.image m.images) (is_data code q.object) named)) (and_right (nat_lt q.image m.images) (is_data code q.object) named)
    (pointed_lies (slice_get code.objects q.object) q span inside (span_lies (pos 1) q.extent r span found.1)))

pub section_sound : (code : Listing) (m : ImageMemory) (w : SectionWanted) (s : Section) → IsSoundMemory code m → is_listed code (listed.Section w) ≡ true → section_of false m w ≡ Ok s → is_sound_section code m.images s ≡ true
section_sound code m (wanted.Region object r p) s sound good e =
    let spanned_ : (span : ℤ × ℕ) × (region_span (slice_get m.objects object) r ≡ Ok span) × (bind (image_of m p) (λ image. Ok (record { image = image; object = object; from = span.0; extent = span.1 })) ≡ Ok s) =
    bind_ok (region_span (slice_get m.objects object) r) (λ span. bind (limited false span) (λ (t : ℤ × ℕ). bind (image_of m p) (λ image. Ok (record { image = image; object = object; from = t.0; extent = t.1 })))) s e in
    let span : ℤ × ℕ = spanned_.0 in
    let placed : (image : ℕ) × (image_of m p ≡ Ok image) × (Ok (record { image = image; object = object; from = span.0; extent = span.1 }) ≡ Ok s) =
    bind_ok (image_of m p) (λ image. Ok (record { image = image; object = object; from = span.0; extent = span.1 })) s spanned_.2 in
    let x : Section = record { image = placed.0; object = object; from = span.0; extent = span.1 } in
    let in_code : lies_in (slice_get code.objects object) x ≡ true = subst (λ os. lies_in (slice_get os object) x ≡ true) sound.objects (region_lies (slice_get m.objects object) r span placed.0 object spanned_.1) in
    subst (λ y. is_sound_section code m.images y ≡ true) (same_ok x s placed.2)
    (sound_of code m.images x (image_sound code m p placed.0 sound placed.1) (and_left (is_data code object) (is_place code p) good) in_code)
section_sound code m (wanted.Pointed c r) s sound good e = pointed_sound code m c r s sound (copointer_at m c) refl e
