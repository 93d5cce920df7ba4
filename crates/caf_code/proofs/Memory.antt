-- The memory on which a code runs stays one on which it can run.
use Rattle.std.proofs.Common.{◌≡◌, ℕ, zero, suc, ◌⊎◌, inl, inr, Bool, true, false, List, [], ◌∷◌, length, take, drop, reverse, Option, Some, None, Result, Ok, Err, ℤ, pos, refl, sym, ap, subst, map, ◌<◌}
use Rattle.std.proofs.lemmas.Option.{none-some}
use Rattle.std.specs.List.{list_all}
use Rattle.std.specs.Prelude.{nat_le, pred, slice_get, slice_index_or, slice_set, unwrap_or, if◌then◌else◌}
use Rattle.caf_base.specs.Arithmetic.{Answer, is_zero, of_one, of_two}
use Rattle.caf_base.specs.Element.{element_of, has_index}
use Rattle.caf_base.specs.Fence.{passes}
use Rattle.caf_base.specs.ImageMemory.{ImageMemory}
use Rattle.caf_base.specs.Start.{start_memory}
use Rattle.caf_base.specs.Line.{has_room, line_of, with_line}
use Rattle.caf_base.specs.Orders.{copy_order, ship_order, with_copointer, with_team}
use Rattle.caf_base.specs.Places.{element_section, event_of, pointed_section, posts_at, section_of, set_element, with_posts_in, within, written, written_in}
use Rattle.caf_base.specs.declared.effect.Effect.TheVariants as effect
use Rattle.caf_base.specs.declared.effect.Need.TheVariants as need
use Rattle.caf_base.specs.declared.fence.FenceClear.{FenceClear}
use Rattle.caf_base.specs.declared.object.Object.{Object}
use Rattle.caf_base.specs.declared.operation.OpSpec.TheVariants as begun
use Rattle.caf_base.specs.declared.operation.Section.{Section}
use Rattle.caf_base.specs.declared.place.Place.{Place}
use Rattle.caf_base.specs.declared.place.SectionRange.{SectionRange}
use Rattle.caf_base.specs.declared.place.SectionWanted.{SectionWanted}
use Rattle.caf_base.specs.declared.team.Team.{Team}
use Rattle.caf_base.specs.declared.trap.Trap.{Trap}
use Rattle.caf_base.specs.declared.trap.Trap.TheVariants as trap
use Rattle.caf_code.specs.Calls.{copies_out, copies_to, leaves, opens, returns}
use Rattle.caf_code.specs.Did.{Did, Goes, Stops, Blocks, Fails, Lacks, answers, found, there, on_one, on_two, on_three, on_arguments, on_place, on_loop, stops}
use Rattle.caf_code.specs.Flow.{enters, opens_loop, turns}
use Rattle.caf_code.specs.Numbers.{Operator, One, Two, arithmetic_operator, relation_operator, logical_operator, does_operator}
use Rattle.caf_code.specs.Operations.{awaits, copy_events, event_for, on_element, on_range, on_section, on_sections, takes_post}
use Rattle.caf_code.specs.Rules.{has_operands, is_copointer, is_team}
use Rattle.caf_code.specs.Sound.{IsSoundMemory, IsSoundTeam, is_listed, is_sound_section}
use Rattle.caf_code.specs.Step.{does}
use Rattle.caf_code.specs.Task.{Frame, OpenCall, Task}
use Rattle.caf_code.specs.Teams.{team_named}
use Rattle.caf_code.specs.declared.instr.CellUse.TheVariants as cell
use Rattle.caf_code.specs.declared.instr.ElementForm.{ElementForm}
use Rattle.caf_code.specs.declared.instr.ElementForm.TheVariants as element
use Rattle.caf_code.specs.declared.instr.EventUse.TheVariants as event
use Rattle.caf_code.specs.declared.instr.Instr.{Instr}
use Rattle.caf_code.specs.declared.instr.Instr.TheVariants as instr
use Rattle.caf_code.specs.declared.instr.OutForm.TheVariants as out
use Rattle.caf_code.specs.declared.instr.PlaceForm.{PlaceForm}
use Rattle.caf_code.specs.declared.instr.PlaceForm.TheVariants as at
use Rattle.caf_code.specs.declared.instr.Printed.TheVariants as printed
use Rattle.caf_code.specs.declared.instr.RangeForm.{RangeForm}
use Rattle.caf_code.specs.declared.instr.RangeForm.TheVariants as form
use Rattle.caf_code.specs.declared.instr.Reach.TheVariants as reach
use Rattle.caf_code.specs.declared.instr.Role.TheVariants as role
use Rattle.caf_code.specs.declared.instr.SectionForm.TheVariants as section
use Rattle.caf_code.specs.declared.instr.SectionUse.TheVariants as purpose
use Rattle.caf_code.specs.declared.listing.Listing.{Listing}
use Rattle.caf_code.specs.declared.task.CopyOut.{CopyOut}
use Rattle.caf_code.specs.declared.task.CopyTarget.{CopyTarget}
use Rattle.caf_code.specs.declared.task.CopyTarget.TheVariants as target
use Rattle.caf_code.specs.declared.task.Listed.{Listed}
use Rattle.caf_code.specs.declared.task.Listed.TheVariants as listed
use Rattle.caf_code.specs.declared.task.Loop.{Loop}
use Rattle.caf_code.specs.declared.task.Wait.TheVariants as wait
use Rattle.caf_code.proofs.Rows.{and_left}
use Rattle.caf_code.proofs.Sections.{if_ok, section_sound}

abbrev none_of : (A : Type 0) → Option A
none_of A = None

-- a memory on which the code can run, of this image among so many
pub record IsMemoryOf (code : Listing) (here all : ℕ) (m : ImageMemory) : Type 0 where
  pub sound : IsSoundMemory code m
  pub image : m.image ≡ here
  pub images : m.images ≡ all

-- the memory that an instruction leaves
abbrev pub Leaves : Listing → ℕ → ℕ → Did → Type 0
Leaves code here all (Goes t m) = IsMemoryOf code here all m
Leaves code here all (Stops e t m) = IsMemoryOf code here all m
Leaves code here all (Blocks need) = Unit {0}
Leaves code here all (Fails trap m) = IsMemoryOf code here all m
Leaves code here all (Lacks m) = IsMemoryOf code here all m

-- other cells, posts or lines
with_cells : (code : Listing) (here all : ℕ) (m : ImageMemory) (cells : List (List ℤ)) → IsMemoryOf code here all m → IsMemoryOf code here all (record m { cells = cells })
with_cells code here all m cells k = record { sound = record { objects = k.sound.objects; image = k.sound.image; team_objects = k.sound.team_objects; teams = k.sound.teams; copointer_objects = k.sound.copointer_objects; copointers = k.sound.copointers }; image = k.image; images = k.images }

posts_sound : (code : Listing) (here all : ℕ) (m : ImageMemory) (object : ℕ) (x : Option Object) (index : ℤ) (posts : ℕ) → IsMemoryOf code here all m → IsMemoryOf code here all (with_posts_in m object x index posts)
posts_sound code here all m object None index posts k = k
posts_sound code here all m object (Some o) index posts k = record { sound = record { objects = k.sound.objects; image = k.sound.image; team_objects = k.sound.team_objects; teams = k.sound.teams; copointer_objects = k.sound.copointer_objects; copointers = k.sound.copointers }; image = k.image; images = k.images }

line_sound : (code : Listing) (here all : ℕ) (m : ImageMemory) (line : List ℕ) → IsMemoryOf code here all m → IsMemoryOf code here all (with_line m line)
line_sound code here all m line k = record { sound = record { objects = k.sound.objects; image = k.sound.image; team_objects = k.sound.team_objects; teams = k.sound.teams; copointer_objects = k.sound.copointer_objects; copointers = k.sound.copointers }; image = k.image; images = k.images }

written_sound : (code : Listing) (here all : ℕ) (m : ImageMemory) (object : ℕ) (x : Option Object) (index z : ℤ) (m' : ImageMemory) → IsMemoryOf code here all m → written_in m object x index z ≡ Ok m' → IsMemoryOf code here all m'
written_sound code here all m object None index z m' sound e = absurd (cc)
written_sound code here all m object (Some o) index z m' sound e =
    let done : (has_index o index ≡ true) × (set_element m object o index z ≡ m') = if_ok (has_index o index) (set_element m object o index z) m' trap.Index e in
    subst (IsMemoryOf code here all) done.1 (with_cells code here all m (set_element m object o index z).cells sound)

-- what stands in a list where one place was set
set_at : {A : Type 0} (xs : List (Option A)) (c o : ℕ) (s q : A) → slice_index_or (slice_set xs c (Some s)) o None ≡ Some q → ((o ≡ c) × (s ≡ q)) ⊎ (slice_index_or xs o None ≡ Some q)
set_at [] c o s q e = inr e
set_at (x ∷ xs) zero zero s q e = inl (refl, ap (λ y. unwrap_or y s) e)
set_at (x ∷ xs) zero (suc o) s q e = inr e
set_at (x ∷ xs) (suc c) zero s q e = inr e
set_at (x ∷ xs) (suc c) (suc o) s q e = by (set_at xs c o s q e) where
  by : ((o ≡ c) × (s ≡ q)) ⊎ (slice_index_or xs o None ≡ Some q) → ((suc o ≡ suc c) × (s ≡ q)) ⊎ (slice_index_or xs o None ≡ Some q)
  by (inl same) = inl (ap suc same.0, same.1)
  by (inr other) = inr other

either : {A B X : Type 0} → A ⊎ B → (A → X) → (B → X) → X
either (inl a) f g = f a
either (inr b) f g = g b

aimed_sound : (code : Listing) (m : ImageMemory) (c : ℕ) (s : Section) → IsSoundMemory code m → is_copointer code c ≡ true → is_sound_section code m.images s ≡ true → IsSoundMemory code (with_copointer m c s)
aimed_sound code m c s sound named good = record {
  objects = sound.objects;
  image = sound.image;
  team_objects = sound.team_objects;
  teams = sound.teams;
  copointer_objects = λ o q at. either (set_at m.copointers c o s q at) (λ same. subst (λ n. is_copointer code n ≡ true) (sym same.0) named) (λ other. sound.copointer_objects o q other);
  copointers = λ o q at. either (set_at m.copointers c o s q at) (λ same. subst (λ x. is_sound_section code m.images x ≡ true) same.1 good) (λ other. sound.copointers o q other);
}

pub team_sound : (code : Listing) (m : ImageMemory) (c : ℕ) (new : Team) → IsSoundMemory code m → is_team code c ≡ true → IsSoundTeam m.image m.images new → IsSoundMemory code (with_team m c new)
team_sound code m c new sound named good = record {
  objects = sound.objects;
  image = sound.image;
  team_objects = λ o q at. either (set_at m.teams c o new q at) (λ same. subst (λ n. is_team code n ≡ true) (sym same.0) named) (λ other. sound.team_objects o q other);
  teams = λ o q at. either (set_at m.teams c o new q at) (λ same. subst (IsSoundTeam m.image m.images) same.1 good) (λ other. sound.teams o q other);
  copointer_objects = sound.copointer_objects;
  copointers = sound.copointers;
}

aimed_kept : (code : Listing) (here all : ℕ) (m : ImageMemory) (c : ℕ) (s : Section) → IsMemoryOf code here all m → is_copointer code c ≡ true → is_sound_section code m.images s ≡ true → IsMemoryOf code here all (with_copointer m c s)
aimed_kept code here all m c s k named good = record { sound = aimed_sound code m c s k.sound named good; image = k.image; images = k.images }

m_found : {A : Type 0} (code : Listing) (here all : ℕ) (m : ImageMemory) (sound : IsMemoryOf code here all m) (r : Result A Trap) (go : A → Did) → ((a : A) → r ≡ Ok a → Leaves code here all (go a)) → Leaves code here all (found r m go)
m_found code here all m sound (Err trap) go leaves = sound
m_found code here all m sound (Ok a) go leaves = leaves a refl

m_there : {A : Type 0} (code : Listing) (here all : ℕ) (m : ImageMemory) (sound : IsMemoryOf code here all m) (o : Option A) (go : A → Did) → ((a : A) → Leaves code here all (go a)) → Leaves code here all (there o m go)
m_there code here all m sound None go leaves = sound
m_there code here all m sound (Some a) go leaves = leaves a

m_if : (code : Listing) (here all : ℕ) (m : ImageMemory) (sound : IsMemoryOf code here all m) (b : Bool) (x y : Did) → Leaves code here all x → Leaves code here all y → Leaves code here all (if b then x else y)
m_if code here all m sound true x y leaves too = leaves
m_if code here all m sound false x y leaves too = too

m_answer : (code : Listing) (here all : ℕ) (m : ImageMemory) (sound : IsMemoryOf code here all m) (r : Answer) (stack : List ℤ) (t : Task) → Leaves code here all (answers r 1 stack t m)
m_answer code here all m sound (Err trap) stack t = sound
m_answer code here all m sound (Ok z) stack t = sound

m_one : (code : Listing) (here all : ℕ) (m : ImageMemory) (sound : IsMemoryOf code here all m) (stack : List ℤ) (go : ℤ → List ℤ → Did) → ((x : ℤ) (rest : List ℤ) → Leaves code here all (go x rest)) → Leaves code here all (on_one stack m go)
m_one code here all m sound [] go leaves = sound
m_one code here all m sound (x ∷ rest) go leaves = leaves x rest

m_two : (code : Listing) (here all : ℕ) (m : ImageMemory) (sound : IsMemoryOf code here all m) (stack : List ℤ) (go : ℤ → ℤ → List ℤ → Did) → ((x y : ℤ) (rest : List ℤ) → Leaves code here all (go x y rest)) → Leaves code here all (on_two stack m go)
m_two code here all m sound [] go leaves = sound
m_two code here all m sound (y ∷ []) go leaves = sound
m_two code here all m sound (y ∷ x ∷ rest) go leaves = leaves x y rest

m_three : (code : Listing) (here all : ℕ) (m : ImageMemory) (sound : IsMemoryOf code here all m) (stack : List ℤ) (go : ℤ → ℤ → ℤ → List ℤ → Did) → ((x y z : ℤ) (rest : List ℤ) → Leaves code here all (go x y z rest)) → Leaves code here all (on_three stack m go)
m_three code here all m sound [] go leaves = sound
m_three code here all m sound (z ∷ []) go leaves = sound
m_three code here all m sound (z ∷ y ∷ []) go leaves = sound
m_three code here all m sound (z ∷ y ∷ x ∷ rest) go leaves = leaves x y z rest

m_place : (code : Listing) (here all : ℕ) (m : ImageMemory) (sound : IsMemoryOf code here all m) (p : PlaceForm) (stack : List ℤ) (go : Place → List ℤ → Did) → ((x : Place) (rest : List ℤ) → Leaves code here all (go x rest)) → Leaves code here all (on_place p stack m go)
m_place code here all m sound at.Own stack go leaves = leaves _ stack
m_place code here all m sound at.World stack go leaves = m_one code here all m sound stack _ (λ rank rest. leaves _ rest)
m_place code here all m sound (at.Of o) stack go leaves = m_one code here all m sound stack _ (λ rank rest. leaves _ rest)

m_range : (code : Listing) (here all : ℕ) (m : ImageMemory) (sound : IsMemoryOf code here all m) (f : RangeForm) (stack : List ℤ) (go : SectionRange → List ℤ → Did) → ((r : SectionRange) (rest : List ℤ) → Leaves code here all (go r rest)) → Leaves code here all (on_range f stack m go)
m_range code here all m sound form.All stack go leaves = leaves _ stack
m_range code here all m sound form.Cell stack go leaves = m_one code here all m sound stack _ (λ i rest. leaves _ rest)
m_range code here all m sound form.Between stack go leaves = m_two code here all m sound stack _ (λ i j rest. leaves _ rest)
m_range code here all m sound form.From stack go leaves = m_one code here all m sound stack _ (λ i rest. leaves _ rest)
m_range code here all m sound form.UpTo stack go leaves = m_one code here all m sound stack _ (λ j rest. leaves _ rest)

m_element : (code : Listing) (here all : ℕ) (m : ImageMemory) (sound : IsMemoryOf code here all m) (e : ElementForm) (stack : List ℤ) (go : Result Section Trap → List ℤ → Did) → ((r : Result Section Trap) (rest : List ℤ) → Leaves code here all (go r rest)) → Leaves code here all (on_element e stack m go)
m_element code here all m sound (element.Coindexed o p) stack go leaves = m_place code here all m sound p stack (λ x below. on_one below m (λ index rest. go (element_section m o index x) rest)) (λ x below. m_one code here all m sound below (λ index rest. go (element_section m o index x) rest) (λ index rest. leaves _ rest))
m_element code here all m sound (element.Pointed c) stack go leaves = m_one code here all m sound stack (λ index rest. go (pointed_section m c index) rest) (λ index rest. leaves _ rest)

m_arguments : (code : Listing) (here all : ℕ) (m : ImageMemory) (sound : IsMemoryOf code here all m) (n : ℕ) (stack : List ℤ) (go : List ℤ → List ℤ → Did) → ((x rest : List ℤ) → Leaves code here all (go x rest)) → Leaves code here all (on_arguments n stack m go)
m_arguments code here all m sound n stack go leaves = m_if code here all m sound (nat_le n (length stack)) (go (reverse (take n stack)) (drop n stack)) (Lacks m) (leaves (reverse (take n stack)) (drop n stack)) sound

m_loop : (code : Listing) (here all : ℕ) (m : ImageMemory) (sound : IsMemoryOf code here all m) (loops : List Loop) (go : Loop → List Loop → Did) → ((l : Loop) (rest : List Loop) → Leaves code here all (go l rest)) → Leaves code here all (on_loop loops m go)
m_loop code here all m sound [] go leaves = sound
m_loop code here all m sound (l ∷ rest) go leaves = leaves l rest

m_section : (code : Listing) (here all : ℕ) (m : ImageMemory) (sound : IsMemoryOf code here all m) (xs : List Listed) (go : SectionWanted → Did) → ((w : SectionWanted) → xs ≡ listed.Section w ∷ [] → Leaves code here all (go w)) → Leaves code here all (on_section xs m go)
m_section code here all m sound [] go leaves = sound
m_section code here all m sound (listed.Section w ∷ []) go leaves = leaves w refl
m_section code here all m sound (listed.Section w ∷ y ∷ ys) go leaves = sound
m_section code here all m sound (listed.Event r e ∷ ys) go leaves = sound

m_sections : (code : Listing) (here all : ℕ) (m : ImageMemory) (sound : IsMemoryOf code here all m) (xs : List Listed) (go : SectionWanted → SectionWanted → List Listed → Did) → ((d s : SectionWanted) (events : List Listed) → Leaves code here all (go d s events)) → Leaves code here all (on_sections xs m go)
m_sections code here all m sound [] go leaves = sound
m_sections code here all m sound (listed.Section d ∷ []) go leaves = sound
m_sections code here all m sound (listed.Section d ∷ listed.Section s ∷ events) go leaves = leaves d s events
m_sections code here all m sound (listed.Section d ∷ listed.Event r e ∷ ys) go leaves = sound
m_sections code here all m sound (listed.Event r e ∷ ys) go leaves = sound

m_operator : (code : Listing) (here all : ℕ) (m : ImageMemory) (sound : IsMemoryOf code here all m) (w : Operator) (t : Task) → Leaves code here all (does_operator w t m)
m_operator code here all m sound (One w) t = m_one code here all m sound t.frame.stack _ (λ x rest. m_answer code here all m sound (of_one w x) rest t)
m_operator code here all m sound (Two w) t = m_two code here all m sound t.frame.stack _ (λ x y rest. m_answer code here all m sound (of_two w x y) rest t)

m_enters : (code : Listing) (here all : ℕ) (m : ImageMemory) (sound : IsMemoryOf code here all m) (n : ℕ) (rest : List Loop) (a : ℕ) (t : Task) → Leaves code here all (enters n rest a t m)
m_enters code here all m sound zero rest a t = sound
m_enters code here all m sound (suc n) rest a t = sound

m_turns : (code : Listing) (here all : ℕ) (m : ImageMemory) (sound : IsMemoryOf code here all m) (n : ℕ) (step : ℤ) (rest : List Loop) (a : ℕ) (t : Task) → Leaves code here all (turns n step rest a t m)
m_turns code here all m sound zero step rest a t = sound
m_turns code here all m sound (suc n) step rest a t = sound

m_post : (code : Listing) (here all : ℕ) (m : ImageMemory) (sound : IsMemoryOf code here all m) (n o : ℕ) (index : ℤ) (rest : List ℤ) (t : Task) → Leaves code here all (takes_post n o index rest t m)
m_post code here all m sound zero o index rest t = tt
m_post code here all m sound (suc n) o index rest t = posts_sound code here all m o (slice_get m.objects o) index n sound

m_to : (code : Listing) (here all : ℕ) (x : CopyTarget) (z : ℤ) (f : Frame) (m : ImageMemory) (sound : IsMemoryOf code here all m) (go : Frame → ImageMemory → Did) → ((f : Frame) (m : ImageMemory) → IsMemoryOf code here all m → Leaves code here all (go f m)) → Leaves code here all (copies_to x z f m go)
m_to code here all (target.Scalar o) z f m sound go leaves = m_found code here all m sound (written m o (pos 1) z) (go f) (λ m' e. leaves f m' (written_sound code here all m o (slice_get m.objects o) (pos 1) z m' sound e))
m_to code here all (target.Element o i) z f m sound go leaves = m_found code here all m sound (written m o i z) (go f) (λ m' e. leaves f m' (written_sound code here all m o (slice_get m.objects o) i z m' sound e))
m_to code here all (target.Local k) z f m sound go leaves = leaves _ m sound

m_copies : (code : Listing) (here all : ℕ) (outs : List CopyOut) (cells : List ℤ) (f : Frame) (m : ImageMemory) (sound : IsMemoryOf code here all m) (go : Frame → ImageMemory → Did) → ((f : Frame) (m : ImageMemory) → IsMemoryOf code here all m → Leaves code here all (go f m)) → Leaves code here all (copies_out outs cells f m go)
m_copies code here all [] cells f m sound go leaves = leaves f m sound
m_copies code here all (o ∷ rest) cells f m sound go leaves =
    m_to code here all o.target (slice_index_or cells o.cell (pos 0)) f m sound (λ f' m'. copies_out rest cells f' m' go) (λ f' m' sound'. m_copies code here all rest cells f' m' sound' go leaves)

m_leaves : (code : Listing) (here all : ℕ) (m : ImageMemory) (sound : IsMemoryOf code here all m) (calls : List OpenCall) (t : Task) → Leaves code here all (leaves calls t m)
m_leaves code here all m sound [] t = sound
m_leaves code here all m sound (c ∷ below) t = m_copies code here all c.outs t.frame.cells c.caller m sound (λ f m'. Stops effect.Ran (returns c below f t) m') (λ f m' sound'. sound')

one_listed : (code : Listing) (xs : List Listed) (w : SectionWanted) → list_all (is_listed code) xs ≡ true → xs ≡ listed.Section w ∷ [] → is_listed code (listed.Section w) ≡ true
one_listed code xs w each is = and_left (is_listed code (listed.Section w)) true (subst (λ ys. list_all (is_listed code) ys ≡ true) is each)

-- where nothing is set
unset_at : {A : Type 0} (objects : List Object) (o : ℕ) (x : A) → slice_index_or (map (λ (y : Object). none_of A) objects) o None ≡ Some x → ⊥
unset_at [] o x e = none-some x e
unset_at (y ∷ ys) zero x e = none-some x e
unset_at (y ∷ ys) (suc o) x e = unset_at ys o x e

pub start_sound : (code : Listing) (images image : ℕ) → image < images → IsSoundMemory code (start_memory code.objects images image)
start_sound code images image below = record {
  objects = refl;
  image = below;
  team_objects = λ o t at. absurd (unset_at code.objects o t at);
  teams = λ o t at. absurd (unset_at code.objects o t at);
  copointer_objects = λ o s at. absurd (unset_at code.objects o s at);
  copointers = λ o s at. absurd (unset_at code.objects o s at);
}

-- what an instruction of the code leaves, where this is what the frame lists
pub row_memory : (code : Listing) (here all : ℕ) (clear : FenceClear) (i : Instr) (t : Task) (m : ImageMemory) (sound : IsMemoryOf code here all m) → has_operands code i ≡ true → list_all (is_listed code) t.frame.listed ≡ true → Leaves code here all (does code clear i t m)
row_memory code here all clear (instr.Push n) t m sound ok each = sound
row_memory code here all clear (instr.Load reach.Scalar o) t m sound ok each = m_answer code here all m sound (element_of m.objects m.cells o (pos 1)) t.frame.stack t
row_memory code here all clear (instr.Load reach.Element o) t m sound ok each = m_one code here all m sound t.frame.stack _ (λ index rest. m_answer code here all m sound (element_of m.objects m.cells o index) rest t)
row_memory code here all clear (instr.Store reach.Scalar o) t m sound ok each = m_one code here all m sound t.frame.stack _ (λ value rest. m_found code here all m sound (written m o (pos 1) value) _ (λ m' e. written_sound code here all m o (slice_get m.objects o) (pos 1) value m' sound e))
row_memory code here all clear (instr.Store reach.Element o) t m sound ok each = m_two code here all m sound t.frame.stack _ (λ index value rest. m_found code here all m sound (written m o index value) _ (λ m' e. written_sound code here all m o (slice_get m.objects o) index value m' sound e))
row_memory code here all clear (instr.Cell cell.Get k) t m sound ok each = sound
row_memory code here all clear (instr.Cell cell.Set k) t m sound ok each = m_one code here all m sound t.frame.stack _ (λ value rest. sound)
row_memory code here all clear (instr.Held k) t m sound ok each = sound
row_memory code here all clear (instr.Arithmetic w) t m sound ok each = m_operator code here all m sound (arithmetic_operator w) t
row_memory code here all clear (instr.Relation w) t m sound ok each = m_operator code here all m sound (relation_operator w) t
row_memory code here all clear (instr.Logical w) t m sound ok each = m_operator code here all m sound (logical_operator w) t
row_memory code here all clear (instr.Team q name) t m sound ok each = m_answer code here all m sound _ t.frame.stack t
row_memory code here all clear (instr.Go a) t m sound ok each = sound
row_memory code here all clear instr.Next t m sound ok each = sound
row_memory code here all clear (instr.Test a) t m sound ok each = m_one code here all m sound t.frame.stack _ (λ value rest. sound)
row_memory code here all clear instr.Loop t m sound ok each = m_three code here all m sound t.frame.stack _ (λ first last step rest. m_if code here all m sound (is_zero step) (Fails trap.Step m) (Goes (opens_loop first last step rest t) m) sound sound)
row_memory code here all clear (instr.Enter a) t m sound ok each = m_loop code here all m sound t.frame.loops _ (λ l rest. m_enters code here all m sound l.iterations rest a t)
row_memory code here all clear instr.StepBy t m sound ok each = m_loop code here all m sound t.frame.loops _ (λ l rest. sound)
row_memory code here all clear (instr.Again a) t m sound ok each = m_loop code here all m sound t.frame.loops _ (λ l rest. m_turns code here all m sound (pred l.iterations) l.step rest a t)
row_memory code here all clear (instr.Ask e) t m sound ok each = m_element code here all m sound e t.frame.stack _ (λ tested rest. m_found code here all m sound tested _ (λ s is. sound))
row_memory code here all clear (instr.Put e) t m sound ok each = m_one code here all m sound t.frame.stack _ (λ value below. m_element code here all m sound e below _ (λ tested rest. m_found code here all m sound tested _ (λ s is. sound)))
row_memory code here all clear (instr.Section (section.Region o f p)) t m sound ok each = m_place code here all m sound p t.frame.stack _ (λ x below. m_range code here all m sound f below _ (λ r rest. sound))
row_memory code here all clear (instr.Section (section.Pointed c f)) t m sound ok each = m_range code here all m sound f t.frame.stack _ (λ r rest. sound)
row_memory code here all clear (instr.EventAt o p r) t m sound ok each = m_place code here all m sound p t.frame.stack _ (λ x below. m_one code here all m sound below _ (λ index rest. sound))
row_memory code here all clear (instr.Use (purpose.Aim c)) t m sound ok each =
    m_section code here all m sound t.frame.listed _ (λ w is. m_found code here all m sound (section_of false m w) _ (λ s e. aimed_kept code here all m c s sound ok (section_sound code m w s sound.sound (one_listed code t.frame.listed w each is) e)))
row_memory code here all clear (instr.Use purpose.Copy) t m sound ok each = m_sections code here all m sound t.frame.listed _ (λ d s events. m_found code here all m sound (copy_order m d s (copy_events events)) (λ order. stops (effect.Begins (begun.Copy order)) t.frame.stack t m) (λ order is. sound))
row_memory code here all clear (instr.Event (event.Notify o p)) t m sound ok each = m_place code here all m sound p t.frame.stack _ (λ x below. m_one code here all m sound below _ (λ index rest. m_found code here all m sound (event_of m o index x) _ (λ e is. sound)))
row_memory code here all clear (instr.Event (event.Wait o)) t m sound ok each = m_one code here all m sound t.frame.stack _ (λ index rest. m_found code here all m sound (within (slice_get m.objects o) index) _ (λ i is. m_post code here all m sound (posts_at m o i) o i rest t))
row_memory code here all clear (instr.Cofence down) t m sound ok each = m_if code here all m sound (passes down clear) (stops effect.Ran t.frame.stack t m) (Blocks need.Cofence) sound tt
row_memory code here all clear (instr.Spawn f p) t m sound ok each = m_there code here all m sound (slice_get code.subs f) _ (λ sub. m_place code here all m sound p t.frame.stack _ (λ x below. m_arguments code here all m sound (length sub.dummies) below
    (λ arguments rest. found (ship_order m f arguments (event_for role.Done t.frame.listed) x) m (λ order. stops (effect.Begins order) rest t m))
    (λ arguments rest. m_found code here all m sound (ship_order m f arguments (event_for role.Done t.frame.listed) x) (λ order. stops (effect.Begins order) rest t m) (λ order is. sound))))
row_memory code here all clear (instr.Finish name) t m sound ok each = m_found code here all m sound (team_named m name) (λ x. stops (effect.Enters x) t.frame.stack t m) (λ x is. sound)
row_memory code here all clear instr.Close t m sound ok each = tt
row_memory code here all clear (instr.Split name o) t m sound ok each = m_two code here all m sound t.frame.stack _ (λ colour key rest. m_found code here all m sound (team_named m name) (λ x. stops (effect.Arrives x colour key o) rest (awaits (wait.NewTeam o) t) m) (λ x is. sound))
row_memory code here all clear (instr.Out (out.Scalar o)) t m sound ok each = sound
row_memory code here all clear (instr.Out (out.Element o)) t m sound ok each = m_one code here all m sound t.frame.stack _ (λ index rest. m_found code here all m sound (within (slice_get m.objects o) index) _ (λ i is. sound))
row_memory code here all clear (instr.Out (out.Local k)) t m sound ok each = sound
row_memory code here all clear (instr.Call f) t m sound ok each = m_there code here all m sound (slice_get code.subs f) _ (λ sub. m_arguments code here all m sound (length sub.dummies) t.frame.stack _ (λ arguments rest. m_if code here all m sound (nat_le 200 (length t.calls)) (Fails trap.Depth m) (Stops effect.Ran (opens sub arguments rest t) m) sound sound))
row_memory code here all clear instr.Ret t m sound ok each = m_leaves code here all m sound t.calls t
row_memory code here all clear (instr.Print printed.Number) t m sound ok each = m_one code here all m sound t.frame.stack _ (λ z rest. sound)
row_memory code here all clear (instr.Print printed.Logical) t m sound ok each = m_one code here all m sound t.frame.stack _ (λ z rest. sound)
row_memory code here all clear (instr.Print (printed.Text k)) t m sound ok each = m_there code here all m sound (slice_get code.texts k) _ (λ text. sound)
row_memory code here all clear instr.Line t m sound ok each = m_if code here all m sound (has_room m (line_of t.parts)) (stops effect.Ran t.frame.stack (record t { parts = [] }) (with_line m (line_of t.parts))) (Fails trap.Output m) (line_sound code here all m (line_of t.parts) sound) sound
row_memory code here all clear instr.Halt t m sound ok each = tt
