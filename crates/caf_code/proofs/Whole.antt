-- In a code that keeps the rules no Step lacks an operand, and each comes to its end.
use Rattle.std.proofs.Common.{◌≡◌, ℕ, zero, suc, Bool, true, false, List, [], ◌∷◌, length, map, Option, Some, None, Result, Ok, Err, ℤ, refl}
use Rattle.std.specs.Prelude.{if◌then◌else◌}
use Rattle.caf_base.specs.Arithmetic.{Answer}
use Rattle.caf_base.specs.ImageMemory.{ImageMemory}
use Rattle.caf_base.specs.Places.{element_section, pointed_section}
use Rattle.caf_base.specs.declared.effect.Effect.{Effect}
use Rattle.caf_base.specs.declared.operation.Section.{Section}
use Rattle.caf_base.specs.declared.place.Place.{Place}
use Rattle.caf_base.specs.declared.place.Place.TheVariants as place
use Rattle.caf_base.specs.declared.place.SectionRange.{SectionRange}
use Rattle.caf_base.specs.declared.place.SectionRange.TheVariants as range
use Rattle.caf_base.specs.declared.place.SectionWanted.{SectionWanted}
use Rattle.caf_base.specs.declared.trap.Trap.{Trap}
use Rattle.caf_code.specs.Did.{Did, Goes, Stops, Blocks, Fails, Lacks, answers, found, there, on_one, on_two, on_three, on_place, on_loop}
use Rattle.caf_code.specs.Operations.{on_element, on_range, on_section, on_sections}
use Rattle.caf_code.specs.Rules.{Shapes, LeadOn}
use Rattle.caf_code.specs.Shapes.{Part, Shape, element_numbers, is_copy, is_one_section, numbers, only_if, sort_of, way, with_rank, without}
use Rattle.caf_code.specs.Task.{Task, past}
use Rattle.caf_code.specs.declared.instr.ElementForm.{ElementForm}
use Rattle.caf_code.specs.declared.instr.ElementForm.TheVariants as element
use Rattle.caf_code.specs.declared.instr.PlaceForm.{PlaceForm}
use Rattle.caf_code.specs.declared.instr.PlaceForm.TheVariants as at
use Rattle.caf_code.specs.declared.instr.RangeForm.{RangeForm}
use Rattle.caf_code.specs.declared.instr.RangeForm.TheVariants as form
use Rattle.caf_code.specs.declared.task.Listed.{Listed}
use Rattle.caf_code.specs.declared.task.Listed.TheVariants as listed
use Rattle.caf_code.specs.declared.task.Loop.{Loop}

-- Nothing is lacking; a Step that isn't over has this of its task, and one that is has that of its effect and its task.
abbrev pub Fine : (Task → Type 0) → (Effect → Task → Type 0) → Did → Type 0
Fine S E (Goes t m) = S t
Fine S E (Stops e t m) = E e t
Fine S E (Blocks n) = Unit {0}
Fine S E (Fails trap m) = Unit {0}
Fine S E (Lacks m) = ⊥

pub by_found : {A : Type 0} (S : Task → Type 0) (E : Effect → Task → Type 0) (r : Result A Trap) (m : ImageMemory) (go : A → Did) → ((a : A) → Fine S E (go a)) → Fine S E (found r m go)
by_found S E (Err trap) m go fine = tt
by_found S E (Ok a) m go fine = fine a

pub by_there : {A : Type 0} (S : Task → Type 0) (E : Effect → Task → Type 0) (o : Option A) (m : ImageMemory) (go : A → Did) → (o ≡ None → ⊥) → ((a : A) → o ≡ Some a → Fine S E (go a)) → Fine S E (there o m go)
by_there S E None m go there fine = absurd (there refl)
by_there S E (Some a) m go there fine = fine a refl

pub by_if : (S : Task → Type 0) (E : Effect → Task → Type 0) (b : Bool) (x y : Did) → Fine S E x → Fine S E y → Fine S E (if b then x else y)
by_if S E true x y fine too = fine
by_if S E false x y fine too = too

pub by_answer : (S : Task → Type 0) (E : Effect → Task → Type 0) (r : Answer) (stack : List ℤ) (t : Task) (m : ImageMemory)
    → ((z : ℤ) → S (past 1 (z ∷ stack) t)) → Fine S E (answers r 1 stack t m)
by_answer S E (Err trap) stack t m fine = tt
by_answer S E (Ok z) stack t m fine = fine z

-- What is known of the numbers on a stack: `G` of the height that is left when so many are taken, which isn't so where
-- they aren't there.
pub by_one : (S : Task → Type 0) (E : Effect → Task → Type 0) (G : Option ℕ → Type 0) (none : G None → ⊥) (k : ℕ) (stack : List ℤ) (m : ImageMemory) (go : ℤ → List ℤ → Did)
    → G (without (suc k) (length stack)) → ((x : ℤ) (rest : List ℤ) → G (without k (length rest)) → Fine S E (go x rest)) → Fine S E (on_one stack m go)
by_one S E G none k [] m go lead fine = absurd (none lead)
by_one S E G none k (x ∷ rest) m go lead fine = fine x rest lead

pub by_two : (S : Task → Type 0) (E : Effect → Task → Type 0) (G : Option ℕ → Type 0) (none : G None → ⊥) (k : ℕ) (stack : List ℤ) (m : ImageMemory) (go : ℤ → ℤ → List ℤ → Did)
    → G (without (suc (suc k)) (length stack)) → ((x y : ℤ) (rest : List ℤ) → G (without k (length rest)) → Fine S E (go x y rest)) → Fine S E (on_two stack m go)
by_two S E G none k [] m go lead fine = absurd (none lead)
by_two S E G none k (y ∷ []) m go lead fine = absurd (none lead)
by_two S E G none k (y ∷ x ∷ rest) m go lead fine = fine x y rest lead

pub by_three : (S : Task → Type 0) (E : Effect → Task → Type 0) (G : Option ℕ → Type 0) (none : G None → ⊥) (stack : List ℤ) (m : ImageMemory) (go : ℤ → ℤ → ℤ → List ℤ → Did)
    → G (without 3 (length stack)) → ((x y z : ℤ) (rest : List ℤ) → G (Some (length rest)) → Fine S E (go x y z rest)) → Fine S E (on_three stack m go)
by_three S E G none [] m go lead fine = absurd (none lead)
by_three S E G none (z ∷ []) m go lead fine = absurd (none lead)
by_three S E G none (z ∷ y ∷ []) m go lead fine = absurd (none lead)
by_three S E G none (z ∷ y ∷ x ∷ rest) m go lead fine = fine x y z rest lead

pub by_place : (S : Task → Type 0) (E : Effect → Task → Type 0) (G : Option ℕ → Type 0) (none : G None → ⊥) (form : PlaceForm) (k : ℕ) (stack : List ℤ) (m : ImageMemory) (go : Place → List ℤ → Did)
    → G (without (with_rank form k) (length stack)) → ((x : Place) (rest : List ℤ) → G (without k (length rest)) → Fine S E (go x rest)) → Fine S E (on_place form stack m go)
by_place S E G none at.Own k stack m go lead fine = fine place.Own stack lead
by_place S E G none at.World k stack m go lead fine = by_one S E G none k stack m (λ rank rest. go (place.World rank) rest) lead (λ rank rest q. fine (place.World rank) rest q)
by_place S E G none (at.Of o) k stack m go lead fine = by_one S E G none k stack m (λ rank rest. go (place.Of o rank) rest) lead (λ rank rest q. fine (place.Of o rank) rest q)

pub by_range : (S : Task → Type 0) (E : Effect → Task → Type 0) (G : Option ℕ → Type 0) (none : G None → ⊥) (f : RangeForm) (stack : List ℤ) (m : ImageMemory) (go : SectionRange → List ℤ → Did)
    → G (without (numbers f) (length stack)) → ((r : SectionRange) (rest : List ℤ) → G (Some (length rest)) → Fine S E (go r rest)) → Fine S E (on_range f stack m go)
by_range S E G none form.All stack m go lead fine = fine range.All stack lead
by_range S E G none form.Cell stack m go lead fine = by_one S E G none 0 stack m (λ i rest. go (range.Cell i) rest) lead (λ i rest q. fine (range.Cell i) rest q)
by_range S E G none form.Between stack m go lead fine = by_two S E G none 0 stack m (λ i j rest. go (range.Between i j) rest) lead (λ i j rest q. fine (range.Between i j) rest q)
by_range S E G none form.From stack m go lead fine = by_one S E G none 0 stack m (λ i rest. go (range.From i) rest) lead (λ i rest q. fine (range.From i) rest q)
by_range S E G none form.UpTo stack m go lead fine = by_one S E G none 0 stack m (λ j rest. go (range.UpTo j) rest) lead (λ j rest q. fine (range.UpTo j) rest q)

pub by_element : (S : Task → Type 0) (E : Effect → Task → Type 0) (G : Option ℕ → Type 0) (none : G None → ⊥) (e : ElementForm) (stack : List ℤ) (m : ImageMemory) (go : Result Section Trap → List ℤ → Did)
    → G (without (element_numbers e) (length stack)) → ((r : Result Section Trap) (rest : List ℤ) → G (Some (length rest)) → Fine S E (go r rest)) → Fine S E (on_element e stack m go)
by_element S E G none (element.Coindexed o form) stack m go lead fine =
    by_place S E G none form 1 stack m (λ x below. on_one below m (λ index rest. go (element_section m o index x) rest)) lead
    (λ x below q. by_one S E G none 0 below m (λ index rest. go (element_section m o index x) rest) q (λ index rest r. fine (element_section m o index x) rest r))
by_element S E G none (element.Pointed c) stack m go lead fine =
    by_one S E G none 0 stack m (λ index rest. go (pointed_section m c index) rest) lead (λ index rest q. fine (pointed_section m c index) rest q)

pub by_loop : (S : Task → Type 0) (E : Effect → Task → Type 0) (Q : ℕ → Type 0) (none : Q zero → ⊥) (loops : List Loop) (m : ImageMemory) (go : Loop → List Loop → Did)
    → Q (length loops) → ((l : Loop) (rest : List Loop) → Q (suc (length rest)) → Fine S E (go l rest)) → Fine S E (on_loop loops m go)
by_loop S E Q none [] m go lead fine = absurd (none lead)
by_loop S E Q none (l ∷ rest) m go lead fine = fine l rest lead

-- a shape that stands only where a test holds
pub only : (shapes : Shapes) (p : Part) (a : ℕ) (b : Bool) (h : Option Shape) → LeadOn shapes p (way a (only_if b h)) → LeadOn shapes p (way a h)
only shapes p a true h lead = lead
only shapes p a false h lead = absurd lead

pub by_section : (S : Task → Type 0) (E : Effect → Task → Type 0) (shapes : Shapes) (p : Part) (a : ℕ) (h : Option Shape) (xs : List Listed) (m : ImageMemory) (go : SectionWanted → Did)
    → LeadOn shapes p (way a (only_if (is_one_section (map sort_of xs)) h)) → ((w : SectionWanted) → Fine S E (go w)) → Fine S E (on_section xs m go)
by_section S E shapes p a h [] m go lead fine = absurd lead
by_section S E shapes p a h (listed.Section w ∷ []) m go lead fine = fine w
by_section S E shapes p a h (listed.Section w ∷ y ∷ ys) m go lead fine = absurd lead
by_section S E shapes p a h (listed.Event r e ∷ ys) m go lead fine = absurd lead

pub by_sections : (S : Task → Type 0) (E : Effect → Task → Type 0) (shapes : Shapes) (p : Part) (a : ℕ) (h : Option Shape) (xs : List Listed) (m : ImageMemory) (go : SectionWanted → SectionWanted → List Listed → Did)
    → LeadOn shapes p (way a (only_if (is_copy (map sort_of xs)) h)) → ((d s : SectionWanted) (events : List Listed) → Fine S E (go d s events)) → Fine S E (on_sections xs m go)
by_sections S E shapes p a h [] m go lead fine = absurd lead
by_sections S E shapes p a h (listed.Section d ∷ []) m go lead fine = absurd lead
by_sections S E shapes p a h (listed.Section d ∷ listed.Section s ∷ events) m go lead fine = fine d s events
by_sections S E shapes p a h (listed.Section d ∷ listed.Event r e ∷ ys) m go lead fine = absurd lead
by_sections S E shapes p a h (listed.Event r e ∷ ys) m go lead fine = absurd lead
