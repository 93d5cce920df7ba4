-- No instruction of a code that keeps the rules lacks an operand, and each leaves a task that stands in the code.
use Rattle.std.proofs.Common.{◌≡◌, ℕ, zero, suc, ◌+◌, ◌<◌, ◌≤◌, Bool, true, false, List, [], ◌∷◌, ◌++◌, length, map, reverse, take, drop, replicate, Option, Some, None, ℤ, refl, sym, ap, subst, ◌∙◌, arith}
use Rattle.std.specs.Prelude.{◌&&◌, nat_eq, nat_le, nat_lt, pred, slice_get, slice_index_or, slice_set, pos, if◌then◌else◌}
use Rattle.std.specs.List.{list_all}
use Rattle.std.proofs.lemmas.List.{length-append, length-replicate, length-reverse, length-set, length-take-le}
use Rattle.std.proofs.lemmas.Bool.{eqb-true, ltb-true, leb-true, lt-ltb, le-leb, leb-false, lt-leb}
use Rattle.std.proofs.lemmas.Option.{none-some}
use Rattle.caf_base.specs.Arithmetic.{is_zero, of_one, of_two}
use Rattle.caf_base.specs.Element.{element_of}
use Rattle.caf_base.specs.ImageMemory.{ImageMemory}
use Rattle.caf_base.specs.Fence.{passes}
use Rattle.caf_base.specs.Line.{has_room, line_of, with_line}
use Rattle.caf_base.specs.Orders.{copy_order, ship_order, with_copointer}
use Rattle.caf_base.specs.Places.{event_of, posts_at, section_of, within, written}
use Rattle.caf_base.specs.declared.effect.Effect.{Effect}
use Rattle.caf_base.specs.declared.effect.Effect.TheVariants as effect
use Rattle.caf_base.specs.declared.effect.Need.TheVariants as need
use Rattle.caf_base.specs.declared.fence.FenceClear.{FenceClear}
use Rattle.caf_base.specs.declared.operation.OpSpec.TheVariants as begun
use Rattle.caf_base.specs.declared.place.Place.{Place}
use Rattle.caf_base.specs.declared.place.Place.TheVariants as place
use Rattle.caf_base.specs.declared.place.SectionWanted.TheVariants as wanted
use Rattle.caf_base.specs.declared.trap.Trap.TheVariants as trap
use Rattle.caf_code.specs.Calls.{new_frame, copies_out, copies_to, leaves, opens, paired, returns, with_out}
use Rattle.caf_code.specs.Did.{Did, Goes, Stops, Blocks, Fails, Lacks, on_arguments, on_place, stops, found, there}
use Rattle.caf_code.specs.Flow.{enters, opens_loop, turns, with_loops}
use Rattle.caf_code.specs.Numbers.{Operator, One, Two, arithmetic_operator, relation_operator, logical_operator, does_operator}
use Rattle.caf_code.specs.Operations.{awaits, copy_events, event_for, lists, takes_post}
use Rattle.caf_code.specs.Rules.{AreShapes, Shapes, LeadOn, goes_on, has_operands, is_data, is_event, is_team, names_place, names_team}
use Rattle.caf_code.specs.Shapes.{Part, Sub, Shape, cells_in, is_copy, is_one_section, Sort, IsSection, IsEvent, cells_of, copied_count, copied_in, dummies_in, element_numbers, fewer_loops, in_loop, is_ship, leads, lists_sort, marks, only_if, operands, pushes, sort_of, then_shape, numbers, way, with_height, with_rank, with_way, without}
use Rattle.caf_code.specs.Sound.{AreOpenCalls, IsFrame, StandsIn, copied_cells, is_carried, is_listed, is_place, is_target, is_wait, shape_of}
use Rattle.caf_code.specs.Step.{does}
use Rattle.caf_code.specs.Task.{Frame, OpenCall, Task, ends_at, past}
use Rattle.caf_code.specs.Kept.{KeepsTask}
use Rattle.caf_code.specs.Teams.{of_team, team_named}
use Rattle.caf_code.specs.declared.instr.CellUse.TheVariants as cell
use Rattle.caf_code.specs.declared.instr.EventUse.TheVariants as event
use Rattle.caf_code.specs.declared.instr.Instr.{Instr}
use Rattle.caf_code.specs.declared.instr.Instr.TheVariants as instr
use Rattle.caf_code.specs.declared.instr.OutForm.TheVariants as out
use Rattle.caf_code.specs.declared.instr.PlaceForm.{PlaceForm}
use Rattle.caf_code.specs.declared.instr.PlaceForm.TheVariants as at
use Rattle.caf_code.specs.declared.instr.Printed.TheVariants as printed
use Rattle.caf_code.specs.declared.instr.Reach.TheVariants as reach
use Rattle.caf_code.specs.declared.instr.Role.TheVariants as role
use Rattle.caf_code.specs.declared.instr.SectionForm.TheVariants as section
use Rattle.caf_code.specs.declared.instr.SectionUse.TheVariants as purpose
use Rattle.caf_code.specs.declared.listing.Listing.{Listing}
use Rattle.caf_code.specs.declared.listing.SubCode.{SubCode}
use Rattle.caf_code.specs.declared.task.CopyOut.{CopyOut}
use Rattle.caf_code.specs.declared.task.CopyTarget.{CopyTarget}
use Rattle.caf_code.specs.declared.task.CopyTarget.TheVariants as target
use Rattle.caf_code.specs.declared.task.Listed.{Listed}
use Rattle.caf_code.specs.declared.task.Listed.TheVariants as listed
use Rattle.caf_code.specs.declared.task.Loop.{Loop}
use Rattle.caf_code.specs.declared.task.Wait.{Wait}
use Rattle.caf_code.specs.declared.task.Wait.TheVariants as wait
use Rattle.caf_code.proofs.Whole.{Fine, by_answer, by_element, by_found, by_if, by_loop, by_one, by_place, by_range, by_section, by_sections, by_there, by_three, by_two, only}

-- a place below the length has an element
is_there : {A : Type 0} (xs : List A) (k : ℕ) → nat_lt k (length xs) ≡ true → slice_get xs k ≡ None → ⊥
is_there [] k lt none = absurd (omega (arith, ltb-true k 0 lt))
is_there (x ∷ xs) zero lt none = none-some x (sym none)
is_there (x ∷ xs) (suc k) lt none =
    let under : suc k < suc (length xs) = ltb-true (suc k) (suc (length xs)) lt in
    let below : k < length xs = omega (arith, under) in
    is_there xs k (lt-ltb k (length xs) below) none

pub length_snoc : {A : Type 0} (xs : List A) (x : A) → length (xs ++ x ∷ []) ≡ suc (length xs)
length_snoc [] x = refl
length_snoc (y ∷ ys) x = ap suc (length_snoc ys x)

map_snoc : (xs : List Listed) (x : Listed) → map sort_of (xs ++ x ∷ []) ≡ map sort_of xs ++ sort_of x ∷ []
map_snoc [] x = refl
map_snoc (y ∷ ys) x = ap (λ zs. sort_of y ∷ zs) (map_snoc ys x)

-- what is left of a stack when so many are taken
left_enough : (n : ℕ) (stack : List ℤ) → nat_le n (length stack) ≡ true → without n (length stack) ≡ Some (length (drop n stack))
left_enough zero stack le = refl
left_enough (suc n) [] le = absurd (omega (arith, leb-true (suc n) 0 le))
left_enough (suc n) (x ∷ xs) le =
    let under : suc n ≤ suc (length xs) = leb-true (suc n) (suc (length xs)) le in
    let below : n ≤ length xs = omega (arith, under) in
    left_enough n xs (le-leb n (length xs) below)

left_few : (n : ℕ) (stack : List ℤ) → nat_le n (length stack) ≡ false → without n (length stack) ≡ None
left_few zero stack few = let over : length stack < 0 = leb-false 0 (length stack) few in absurd (omega (arith, over))
left_few (suc n) [] few = refl
left_few (suc n) (x ∷ xs) few =
    let over : suc (length xs) < suc n = leb-false (suc n) (suc (length xs)) few in
    let above : length xs < n = omega (arith, over) in
    left_few n xs (lt-leb n (length xs) above)

by_test : (S : Task → Type 0) (E : Effect → Task → Type 0) (b : Bool) (x y : Did) → (b ≡ true → Fine S E x) → (b ≡ false → Fine S E y) → Fine S E (if b then x else y)
by_test S E true x y holds fails = holds refl
by_test S E false x y holds fails = fails refl

length_taken : (n : ℕ) (stack : List ℤ) → nat_le n (length stack) ≡ true → length (reverse (take n stack)) ≡ n
length_taken n stack enough = let le : n ≤ length stack = leb-true n (length stack) enough in length-reverse (take n stack) ∙ length-take-le n stack le

by_arguments : (S : Task → Type 0) (E : Effect → Task → Type 0) (G : Option ℕ → Type 0) (none : G None → ⊥) (n : ℕ) (stack : List ℤ) (m : ImageMemory) (go : List ℤ → List ℤ → Did)
    → G (without n (length stack)) → ((arguments rest : List ℤ) → length arguments ≡ n → G (Some (length rest)) → Fine S E (go arguments rest)) → Fine S E (on_arguments n stack m go)
by_arguments S E G none n stack m go lead fine =
    by_test S E (nat_le n (length stack)) (go (reverse (take n stack)) (drop n stack)) (Lacks m)
    (λ enough. fine (reverse (take n stack)) (drop n stack) (length_taken n stack enough) (subst G (left_enough n stack enough) lead))
    (λ few. none (subst G (left_few n stack few) lead))

-- pops the rank of a place that the code can name
by_named : (S : Task → Type 0) (E : Effect → Task → Type 0) (code : Listing) (G : Option ℕ → Type 0) (none : G None → ⊥) (form : PlaceForm) (k : ℕ) (stack : List ℤ) (m : ImageMemory) (go : Place → List ℤ → Did)
    → names_place code form ≡ true → G (without (with_rank form k) (length stack)) → ((x : Place) (rest : List ℤ) → is_place code x ≡ true → G (without k (length rest)) → Fine S E (go x rest)) → Fine S E (on_place form stack m go)
by_named S E code G none at.Own k stack m go named lead fine = fine place.Own stack refl lead
by_named S E code G none at.World k stack m go named lead fine = by_one S E G none k stack m (λ rank rest. go (place.World rank) rest) lead (λ rank rest q. fine (place.World rank) rest refl q)
by_named S E code G none (at.Of o) k stack m go named lead fine = by_one S E G none k stack m (λ rank rest. go (place.Of o rank) rest) lead (λ rank rest q. fine (place.Of o rank) rest named q)

-- the first, and the second, of two tests that hold
pub and_left : (a b : Bool) → (a && b) ≡ true → a ≡ true
and_left true b holds = refl
and_left false b holds = holds

pub and_right : (a b : Bool) → (a && b) ≡ true → b ≡ true
and_right true b holds = holds
and_right false b holds = let e : false ≡ true = holds in absurd (cc)

pub both : (a b : Bool) → a ≡ true → b ≡ true → (a && b) ≡ true
both true b left right = right
both false b left right = left

-- what holds of each element and of one more
all_snoc : {A : Type 0} (test : A → Bool) (xs : List A) (x : A) → list_all test xs ≡ true → test x ≡ true → list_all test (xs ++ x ∷ []) ≡ true
all_snoc test [] x each one = both (test x) true one refl
all_snoc test (y ∷ ys) x each one = both (test y) (list_all test (ys ++ x ∷ [])) (and_left (test y) (list_all test ys) each) (all_snoc test ys x (and_right (test y) (list_all test ys) each) one)

-- in the middle of a Step
pub record Mid (code : Listing) (shapes : Shapes) (images : ℕ) (p : Part) (t : Task) : Type 0 where
  pub frame : IsFrame code shapes p t.address None t.frame
  pub calls : AreOpenCalls code shapes p t.calls
  pub wait : t.wait ≡ None
  pub done : is_carried code images t.done ≡ true

-- the Step goes on at the address to which the instruction leads within it
abbrev pub Onward : Listing → Shapes → ℕ → Part → Option ℕ → Task → Type 0
Onward code shapes images p next t = Mid code shapes images p t × (next ≡ Some t.address)

-- the Step is over, and leaves a task that stands in the code, unless it was the last
abbrev pub Over : Listing → Shapes → ℕ → Effect → Task → Type 0
Over code shapes images e t = KeepsTask e (StandsIn code shapes images t)

-- the shapes to which an instruction leads, by what is left of the stack
abbrev Popped : Shapes → Part → ℕ → Shape → (Shape → Option Shape) → Option ℕ → Type 0
Popped shapes p a h f x = LeadOn shapes p (way a (then_shape (with_height x h) f))

abbrev shape_in : (code : Listing) (shapes : Shapes) (images : ℕ) (p : Part) (t : Task) → Mid code shapes images p t → Shape
shape_in code shapes images p t mid = shape_of None mid.frame.finishes t.frame

-- a task that waits for nothing
stand : (code : Listing) (shapes : Shapes) (images : ℕ) (p : Part) (t : Task) → Mid code shapes images p t → StandsIn code shapes images t
stand code shapes images p t mid = record {
  part = p;
  frame = subst (λ w. IsFrame code shapes p t.address w t.frame) (sym mid.wait) mid.frame;
  calls = mid.calls;
  wait = subst (λ w. is_wait code w ≡ true) (sym mid.wait) refl;
  done = mid.done;
}

-- the operands change
past_mid : (code : Listing) (shapes : Shapes) (images : ℕ) (p : Part) (t : Task) (mid : Mid code shapes images p t) (stack : List ℤ)
    → shapes p (t.address + 1) ≡ Some (shape_of None mid.frame.finishes (past 1 stack t).frame) → Mid code shapes images p (past 1 stack t)
past_mid code shapes images p t mid stack stands = record {
  frame = record { finishes = mid.frame.finishes; stands = stands; cells = mid.frame.cells; listed = mid.frame.listed; targets = mid.frame.targets };
  calls = mid.calls;
  wait = mid.wait;
  done = mid.done;
}

-- the end of a Step, at an address, with these operands, loops and finishes
over : (code : Listing) (shapes : Shapes) (images : ℕ) (p : Part) (t : Task) (mid : Mid code shapes images p t) (a : ℕ) (stack : List ℤ) (loops : List Loop) (finishes : ℕ)
    → shapes p a ≡ Some (record { stack = length stack; held = 0; loops = length loops; listed = []; outs = length t.frame.outs; finishes = finishes })
    → StandsIn code shapes images (ends_at a stack (with_loops loops t))
over code shapes images p t mid a stack loops finishes stands = stand code shapes images p (ends_at a stack (with_loops loops t)) (record {
  frame = record { finishes = finishes; stands = stands; cells = mid.frame.cells; listed = refl; targets = mid.frame.targets };
  calls = mid.calls;
  wait = mid.wait;
  done = mid.done;
})

-- the operator rows
by_operator : (code : Listing) (shapes : Shapes) (images : ℕ) (p : Part) (w : Operator) (t : Task) (m : ImageMemory) (mid : Mid code shapes images p t)
    → Popped shapes p (t.address + 1) (shape_in code shapes images p t mid) pushes (without (operands w) (length t.frame.stack)) → Fine (Onward code shapes images p (Some (t.address + 1))) (Over code shapes images) (does_operator w t m)
by_operator code shapes images p (One w) t m mid lead =
    by_one (Onward code shapes images p (Some (t.address + 1))) (Over code shapes images) (Popped shapes p (t.address + 1) (shape_in code shapes images p t mid) pushes) (λ q. q) 0 t.frame.stack m _ lead
    (λ x rest q. by_answer (Onward code shapes images p (Some (t.address + 1))) (Over code shapes images) (of_one w x) rest t m (λ z. (past_mid code shapes images p t mid (z ∷ rest) q.0, refl)))
by_operator code shapes images p (Two w) t m mid lead =
    by_two (Onward code shapes images p (Some (t.address + 1))) (Over code shapes images) (Popped shapes p (t.address + 1) (shape_in code shapes images p t mid) pushes) (λ q. q) 0 t.frame.stack m _ lead
    (λ x y rest q. by_answer (Onward code shapes images p (Some (t.address + 1))) (Over code shapes images) (of_two w x y) rest t m (λ z. (past_mid code shapes images p t mid (z ∷ rest) q.0, refl)))

-- the two ways of a loop
abbrev Both : Shapes → Part → ℕ → ℕ → Option Shape → Option Shape → Type 0
Both shapes p b a h k = LeadOn shapes p (with_way b h (way a k))

enters_fine : (code : Listing) (shapes : Shapes) (images : ℕ) (p : Part) (t : Task) (m : ImageMemory) (mid : Mid code shapes images p t) (n : ℕ) (rest : List Loop) (b : ℕ)
    → Both shapes p b (t.address + 1) (marks (record (shape_in code shapes images p t mid) { loops = length rest })) (marks (shape_in code shapes images p t mid)) → Fine (Onward code shapes images p None) (Over code shapes images) (enters n rest b t m)
enters_fine code shapes images p t m mid zero rest b ways = over code shapes images p t mid b t.frame.stack rest mid.frame.finishes ways.0
enters_fine code shapes images p t m mid (suc n) rest b ways = over code shapes images p t mid (t.address + 1) t.frame.stack t.frame.loops mid.frame.finishes ways.1.0

turns_fine : (code : Listing) (shapes : Shapes) (images : ℕ) (p : Part) (t : Task) (m : ImageMemory) (mid : Mid code shapes images p t) (n : ℕ) (step : ℤ) (rest : List Loop) (b : ℕ) → suc (length rest) ≡ length t.frame.loops
    → Both shapes p b (t.address + 1) (marks (shape_in code shapes images p t mid)) (marks (record (shape_in code shapes images p t mid) { loops = length rest })) → Fine (Onward code shapes images p None) (Over code shapes images) (turns n step rest b t m)
turns_fine code shapes images p t m mid zero step rest b same ways = over code shapes images p t mid (t.address + 1) t.frame.stack rest mid.frame.finishes ways.1.0
turns_fine code shapes images p t m mid (suc n) step rest b same ways =
    let l : Loop = record { iterations = suc n; step = step } in
    let h : ℕ → Shape = λ k. record { stack = length t.frame.stack; held = 0; loops = k; listed = []; outs = length t.frame.outs; finishes = mid.frame.finishes } in
    over code shapes images p t mid b t.frame.stack (l ∷ rest) mid.frame.finishes (subst (λ k. shapes p b ≡ Some (h k)) (sym same) ways.0)

post_fine : (code : Listing) (shapes : Shapes) (images : ℕ) (p : Part) (t : Task) (m : ImageMemory) (mid : Mid code shapes images p t) (n o : ℕ) (index : ℤ) (rest : List ℤ)
    → LeadOn shapes p (way (t.address + 1) (marks (record (shape_in code shapes images p t mid) { stack = length rest }))) → Fine (Onward code shapes images p None) (Over code shapes images) (takes_post n o index rest t m)
post_fine code shapes images p t m mid zero o index rest ways = tt
post_fine code shapes images p t m mid (suc n) o index rest ways = over code shapes images p t mid (t.address + 1) rest t.frame.loops mid.frame.finishes ways.0

-- a frame with other numbers in its cells
abbrev Alike : Frame → Frame → Type 0
Alike f g = (cells : List ℤ) × (length cells ≡ length f.cells) × (g ≡ record f { cells = cells })

to_fine : (S : Task → Type 0) (E : Effect → Task → Type 0) (base : Frame) (x : CopyTarget) (z : ℤ) (f : Frame) (m : ImageMemory) (go : Frame → ImageMemory → Did)
    → Alike base f → ((f : Frame) (m : ImageMemory) → Alike base f → Fine S E (go f m)) → Fine S E (copies_to x z f m go)
to_fine S E base (target.Scalar o) z f m go alike fine = by_found S E (written m o (pos 1) z) m (go f) (λ m'. fine f m' alike)
to_fine S E base (target.Element o i) z f m go alike fine = by_found S E (written m o i z) m (go f) (λ m'. fine f m' alike)
to_fine S E base (target.Local k) z f m go alike fine =
    fine (record f { cells = slice_set f.cells k z }) m
    (slice_set f.cells k z, length-set f.cells k z ∙ ap (λ (g : Frame). length g.cells) alike.2 ∙ alike.1, ap (λ (g : Frame). record g { cells = slice_set f.cells k z }) alike.2)

copies_fine : (S : Task → Type 0) (E : Effect → Task → Type 0) (base : Frame) (outs : List CopyOut) (cells : List ℤ) (f : Frame) (m : ImageMemory) (go : Frame → ImageMemory → Did)
    → Alike base f → ((f : Frame) (m : ImageMemory) → Alike base f → Fine S E (go f m)) → Fine S E (copies_out outs cells f m go)
copies_fine S E base [] cells f m go alike fine = fine f m alike
copies_fine S E base (o ∷ rest) cells f m go alike fine =
    to_fine S E base o.target (slice_index_or cells o.cell (pos 0)) f m (λ f' m'. copies_out rest cells f' m' go) alike (λ f' m' alike'. copies_fine S E base rest cells f' m' go alike' fine)

-- the caller's frame, with other numbers in its cells
frame_alike : (code : Listing) (shapes : Shapes) (p : Part) (a : ℕ) (f : Frame) → IsFrame code shapes p a None f → (cells : List ℤ) → length cells ≡ length f.cells → IsFrame code shapes p a None (record f { cells = cells })
frame_alike code shapes p a f frame cells same = record {
  finishes = frame.finishes;
  stands = frame.stands;
  cells = same ∙ frame.cells;
  listed = frame.listed;
  targets = subst (λ n. list_all (is_target code n) f.outs ≡ true) (sym same) frame.targets;
}

leaves_fine : (code : Listing) (shapes : Shapes) (images : ℕ) (p : Part) (t : Task) (m : ImageMemory) (mid : Mid code shapes images p t) (calls : List OpenCall) → AreOpenCalls code shapes p calls → Fine (Onward code shapes images p None) (Over code shapes images) (leaves calls t m)
leaves_fine code shapes images p t m mid [] opened = tt
leaves_fine code shapes images p t m mid (c ∷ below) opened =
    copies_fine (Onward code shapes images p None) (Over code shapes images) c.caller c.outs t.frame.cells c.caller m (λ f m'. Stops effect.Ran (returns c below f t) m') (c.caller.cells, refl, refl)
    (λ f m' alike. stand code shapes images opened.1 (returns c below f t) (record {
      frame = subst (λ g. IsFrame code shapes opened.1 (c.from + 1) None g) (sym alike.2) (frame_alike code shapes opened.1 (c.from + 1) c.caller opened.3.frame alike.0 alike.1);
      calls = opened.4;
      wait = mid.wait;
      done = mid.done;
    }))

abbrev does_spawn_of : Option SubCode → ℕ → PlaceForm → Task → ImageMemory → Did
does_spawn_of o f form t m = there o m (λ sub. on_place form t.frame.stack m (λ place below. on_arguments (length sub.dummies) below m (λ arguments rest.
    found (ship_order m f arguments (event_for role.Done t.frame.listed) place) m (λ order. stops (effect.Begins order) rest t m))))

abbrev does_call_of : Option SubCode → Task → ImageMemory → Did
does_call_of o t m = there o m (λ sub. on_arguments (length sub.dummies) t.frame.stack m (λ arguments rest. if nat_le 200 (length t.calls) then Fails trap.Depth m else Stops effect.Ran (opens sub arguments rest t) m))

spawn_fine : (code : Listing) (shapes : Shapes) (images : ℕ) (p : Part) (t : Task) (m : ImageMemory) (mid : Mid code shapes images p t) (f : ℕ) (form : PlaceForm) (o : Option SubCode) → (o ≡ None → ⊥)
    → Popped shapes p (t.address + 1) (shape_in code shapes images p t mid) marks (without (with_rank form (dummies_in o)) (length t.frame.stack)) → Fine (Onward code shapes images p None) (Over code shapes images) (does_spawn_of o f form t m)
spawn_fine code shapes images p t m mid f form None there lead = absurd (there refl)
spawn_fine code shapes images p t m mid f form (Some sub) there lead =
    by_place (Onward code shapes images p None) (Over code shapes images) (Popped shapes p (t.address + 1) (shape_in code shapes images p t mid) marks) (λ q. q) form (length sub.dummies) t.frame.stack m
    (λ place below. on_arguments (length sub.dummies) below m (λ arguments rest. found (ship_order m f arguments (event_for role.Done t.frame.listed) place) m (λ order. stops (effect.Begins order) rest t m))) lead
    (λ place below q. by_arguments (Onward code shapes images p None) (Over code shapes images) (Popped shapes p (t.address + 1) (shape_in code shapes images p t mid) marks) (λ q. q) (length sub.dummies) below m
    (λ arguments rest. found (ship_order m f arguments (event_for role.Done t.frame.listed) place) m (λ order. stops (effect.Begins order) rest t m)) q
    (λ arguments rest same r. by_found (Onward code shapes images p None) (Over code shapes images) (ship_order m f arguments (event_for role.Done t.frame.listed) place) m (λ order. stops (effect.Begins order) rest t m) (λ order. over code shapes images p t mid (t.address + 1) rest t.frame.loops mid.frame.finishes r.0)))

-- as many places as dummies that are copied out: each dummy gets one
paired_cells : (cell : ℕ) (dummies : List Bool) (targets : List CopyTarget) → length targets ≡ copied_count dummies → map (λ (o : CopyOut). o.cell) (paired cell dummies targets) ≡ copied_cells cell dummies
paired_cells cell [] targets same = refl
paired_cells cell (false ∷ dummies) targets same = paired_cells (suc cell) dummies targets (omega (arith, same))
paired_cells cell (true ∷ dummies) [] same = absurd (omega (arith, same))
paired_cells cell (true ∷ dummies) (x ∷ targets) same = ap (λ cells. cell ∷ cells) (paired_cells (suc cell) dummies targets (omega (arith, same)))

paired_targets : (test : CopyTarget → Bool) (cell : ℕ) (dummies : List Bool) (targets : List CopyTarget) → list_all test targets ≡ true → list_all (λ (o : CopyOut). test o.target) (paired cell dummies targets) ≡ true
paired_targets test cell [] targets each = refl
paired_targets test cell (false ∷ dummies) targets each = paired_targets test (suc cell) dummies targets each
paired_targets test cell (true ∷ dummies) [] each = refl
paired_targets test cell (true ∷ dummies) (x ∷ targets) each =
    both (test x) (list_all (λ (o : CopyOut). test o.target) (paired (suc cell) dummies targets)) (and_left (test x) (list_all test targets) each)
    (paired_targets test (suc cell) dummies targets (and_right (test x) (list_all test targets) each))

-- a new frame has the cells of its subroutine
pub new_cells : (code : Listing) (f : ℕ) (sub : SubCode) (arguments : List ℤ) → slice_get code.subs f ≡ Some sub → length arguments ≡ length sub.dummies → length (new_frame sub arguments).cells ≡ cells_of code (Sub f)
new_cells code f sub arguments named given =
    let locals : List ℤ = replicate sub.locals (pos 0) in
    length-append arguments locals ∙ (ap (λ n. n + length locals) given ∙ ap (λ n. length sub.dummies + n) (length-replicate sub.locals (pos 0))) ∙ sym (ap cells_in named)

call_fine : (code : Listing) (shapes : Shapes) (shaped : AreShapes code shapes) (images : ℕ) (p : Part) (t : Task) (m : ImageMemory) (mid : Mid code shapes images p t) (f : ℕ) (o : Option SubCode)
    → slice_get code.subs f ≡ o → slice_get code.instrs t.address ≡ Some (instr.Call f) → (o ≡ None → ⊥) → length t.frame.outs ≡ copied_in o
    → Popped shapes p (t.address + 1) (shape_in code shapes images p t mid) (λ k. marks (record k { outs = 0 })) (without (dummies_in o) (length t.frame.stack)) → Fine (Onward code shapes images p None) (Over code shapes images) (does_call_of o t m)
call_fine code shapes shaped images p t m mid f None named at there same lead = absurd (there refl)
call_fine code shapes shaped images p t m mid f (Some sub) named at there same lead =
    by_arguments (Onward code shapes images p None) (Over code shapes images) (Popped shapes p (t.address + 1) (shape_in code shapes images p t mid) (λ k. marks (record k { outs = 0 }))) (λ q. q) (length sub.dummies) t.frame.stack m
    (λ arguments rest. if nat_le 200 (length t.calls) then Fails trap.Depth m else Stops effect.Ran (opens sub arguments rest t) m) lead
    (λ arguments rest given q. by_if (Onward code shapes images p None) (Over code shapes images) (nat_le 200 (length t.calls)) (Fails trap.Depth m) (Stops effect.Ran (opens sub arguments rest t) m) tt
    (stand code shapes images (Sub f) (opens sub arguments rest t) (record {
      frame = record {
        finishes = 0;
        stands = shaped.subs f sub named;
        cells = new_cells code f sub arguments named given;
        listed = refl;
        targets = refl;
      };
      calls = (
        f,
        p,
        refl,
        record {
          sub = sub;
          named = named;
          calls = at;
          outs = paired_cells 0 sub.dummies t.frame.outs same;
          targets = paired_targets (is_target code (length t.frame.cells)) 0 sub.dummies t.frame.outs mid.frame.targets;
          frame = record { finishes = mid.frame.finishes; stands = q.0; cells = mid.frame.cells; listed = refl; targets = refl };
        },
        mid.calls,
      );
      wait = mid.wait;
      done = mid.done;
    })))

-- one more section or event is listed
lists_mid : (code : Listing) (shapes : Shapes) (images : ℕ) (p : Part) (t : Task) (m : ImageMemory) (mid : Mid code shapes images p t) (x : Listed) (rest : List ℤ) → is_listed code x ≡ true
    → LeadOn shapes p (way (t.address + 1) (lists_sort (sort_of x) (record (shape_in code shapes images p t mid) { stack = length rest }))) → Mid code shapes images p (lists x rest t)
lists_mid code shapes images p t m mid x rest good lead =
    let h : List Sort → Shape = λ xs. record { stack = length rest; held = length t.frame.held; loops = length t.frame.loops; listed = xs; outs = length t.frame.outs; finishes = mid.frame.finishes } in
    record {
      frame = record {
        finishes = mid.frame.finishes;
        stands = subst (λ xs. shapes p (t.address + 1) ≡ Some (h xs)) (sym (map_snoc t.frame.listed x)) lead.0;
        cells = mid.frame.cells;
        listed = all_snoc (is_listed code) t.frame.listed x mid.frame.listed good;
        targets = mid.frame.targets;
      };
      calls = mid.calls;
      wait = mid.wait;
      done = mid.done;
    }

-- one more place to copy out to
out_mid : (code : Listing) (shapes : Shapes) (images : ℕ) (p : Part) (t : Task) (m : ImageMemory) (mid : Mid code shapes images p t) (x : CopyTarget) (rest : List ℤ) → is_target code (length t.frame.cells) x ≡ true
    → shapes p (t.address + 1) ≡ Some (record (shape_in code shapes images p t mid) { stack = length rest; outs = suc (length t.frame.outs) }) → Mid code shapes images p (with_out x rest t)
out_mid code shapes images p t m mid x rest good stands =
    let h : ℕ → Shape = λ n. record { stack = length rest; held = length t.frame.held; loops = length t.frame.loops; listed = map sort_of t.frame.listed; outs = n; finishes = mid.frame.finishes } in
    record {
      frame = record {
        finishes = mid.frame.finishes;
        stands = subst (λ n. shapes p (t.address + 1) ≡ Some (h n)) (sym (length_snoc t.frame.outs x)) stands;
        cells = mid.frame.cells;
        listed = mid.frame.listed;
        targets = all_snoc (is_target code (length t.frame.cells)) t.frame.outs x mid.frame.targets good;
      };
      calls = mid.calls;
      wait = mid.wait;
      done = mid.done;
    }

-- a test on which a shape stands
only_holds : (shapes : Shapes) (p : Part) (a : ℕ) (b : Bool) (h : Option Shape) → LeadOn shapes p (way a (only_if b h)) → b ≡ true
only_holds shapes p a true h lead = refl
only_holds shapes p a false h lead = absurd lead

-- the parts of the line change
part_mid : (code : Listing) (shapes : Shapes) (images : ℕ) (p : Part) (t : Task) (parts : List (List ℕ)) → Mid code shapes images p t → Mid code shapes images p (record t { parts = parts })
part_mid code shapes images p t parts mid = record { frame = mid.frame; calls = mid.calls; wait = mid.wait; done = mid.done }

-- a task that waits
waits : (code : Listing) (shapes : Shapes) (images : ℕ) (p : Part) (t : Task) (m : ImageMemory) (mid : Mid code shapes images p t) (w : Wait) (a : ℕ) (f : Frame) (finishes : ℕ) → is_wait code (Some w) ≡ true → shapes p a ≡ Some (shape_of (Some w) finishes f) → f.cells ≡ t.frame.cells
    → list_all (is_listed code) f.listed ≡ true → f.outs ≡ t.frame.outs → StandsIn code shapes images (record t { address = a; frame = f; wait = Some w })
waits code shapes images p t m mid w a f finishes good stands cells listed outs = record {
  part = p;
  frame = record {
    finishes = finishes;
    stands = stands;
    cells = ap length cells ∙ mid.frame.cells;
    listed = listed;
    targets = subst (λ xs. list_all (is_target code (length f.cells)) xs ≡ true) (sym outs) (subst (λ xs. list_all (is_target code (length xs)) t.frame.outs ≡ true) (sym cells) mid.frame.targets);
  };
  calls = mid.calls;
  wait = good;
  done = mid.done;
}

test_fine : (code : Listing) (shapes : Shapes) (images : ℕ) (p : Part) (t : Task) (m : ImageMemory) (mid : Mid code shapes images p t) (b : Bool) (rest : List ℤ) (a : ℕ)
    → Both shapes p a (t.address + 1) (marks (record (shape_in code shapes images p t mid) { stack = length rest })) (marks (record (shape_in code shapes images p t mid) { stack = length rest })) → StandsIn code shapes images (ends_at (if b then a else t.address + 1) rest t)
test_fine code shapes images p t m mid true rest a ways = over code shapes images p t mid a rest t.frame.loops mid.frame.finishes ways.0
test_fine code shapes images p t m mid false rest a ways = over code shapes images p t mid (t.address + 1) rest t.frame.loops mid.frame.finishes ways.1.0

pub row : (code : Listing) (clear : FenceClear) (shapes : Shapes) (shaped : AreShapes code shapes) (images : ℕ) (p : Part) (i : Instr) (t : Task) (m : ImageMemory) (mid : Mid code shapes images p t)
    → has_operands code i ≡ true → slice_get code.instrs t.address ≡ Some i → LeadOn shapes p (leads code p t.address i (shape_in code shapes images p t mid)) → Fine (Onward code shapes images p (goes_on t.address i)) (Over code shapes images) (does code clear i t m)
row code clear shapes shaped images p (instr.Push n) t m mid ok at lead = (past_mid code shapes images p t mid (n ∷ t.frame.stack) lead.0, refl)
row code clear shapes shaped images p (instr.Load reach.Scalar o) t m mid ok at lead = by_answer (Onward code shapes images p (Some (t.address + 1))) (Over code shapes images) (element_of m.objects m.cells o (pos 1)) t.frame.stack t m (λ z. (past_mid code shapes images p t mid (z ∷ t.frame.stack) lead.0, refl))
row code clear shapes shaped images p (instr.Load reach.Element o) t m mid ok at lead =
    by_one (Onward code shapes images p (Some (t.address + 1))) (Over code shapes images) (Popped shapes p (t.address + 1) (shape_in code shapes images p t mid) pushes) (λ q. q) 0 t.frame.stack m _ lead
    (λ index rest q. by_answer (Onward code shapes images p (Some (t.address + 1))) (Over code shapes images) (element_of m.objects m.cells o index) rest t m (λ z. (past_mid code shapes images p t mid (z ∷ rest) q.0, refl)))
row code clear shapes shaped images p (instr.Store reach.Scalar o) t m mid ok at lead =
    by_one (Onward code shapes images p (Some (t.address + 1))) (Over code shapes images) (λ x. LeadOn shapes p (way (t.address + 1) (with_height x (shape_in code shapes images p t mid)))) (λ q. q) 0 t.frame.stack m _ lead
    (λ value rest q. by_found (Onward code shapes images p (Some (t.address + 1))) (Over code shapes images) (written m o (pos 1) value) m (Goes (past 1 rest t)) (λ m'. (past_mid code shapes images p t mid rest q.0, refl)))
row code clear shapes shaped images p (instr.Store reach.Element o) t m mid ok at lead =
    by_two (Onward code shapes images p (Some (t.address + 1))) (Over code shapes images) (λ x. LeadOn shapes p (way (t.address + 1) (with_height x (shape_in code shapes images p t mid)))) (λ q. q) 0 t.frame.stack m _ lead
    (λ index value rest q. by_found (Onward code shapes images p (Some (t.address + 1))) (Over code shapes images) (written m o index value) m (Goes (past 1 rest t)) (λ m'. (past_mid code shapes images p t mid rest q.0, refl)))
row code clear shapes shaped images p (instr.Cell cell.Get k) t m mid ok at lead = (past_mid code shapes images p t mid _ (only shapes p (t.address + 1) (nat_lt k (cells_of code p)) (pushes (shape_in code shapes images p t mid)) lead).0, refl)
row code clear shapes shaped images p (instr.Cell cell.Set k) t m mid ok at lead =
    by_one (Onward code shapes images p (Some (t.address + 1))) (Over code shapes images) (λ x. LeadOn shapes p (way (t.address + 1) (with_height x (shape_in code shapes images p t mid)))) (λ q. q) 0 t.frame.stack m _
    (only shapes p (t.address + 1) (nat_lt k (cells_of code p)) (with_height (without 1 (length t.frame.stack)) (shape_in code shapes images p t mid)) lead)
    (λ value rest q. (
      record {
        frame = record {
          finishes = mid.frame.finishes;
          stands = q.0;
          cells = length-set t.frame.cells k value ∙ mid.frame.cells;
          listed = mid.frame.listed;
          targets = subst (λ n. list_all (is_target code n) t.frame.outs ≡ true) (sym (length-set t.frame.cells k value)) mid.frame.targets;
        };
        calls = mid.calls;
        wait = mid.wait;
        done = mid.done;
      },
      refl,
    ))
row code clear shapes shaped images p (instr.Held k) t m mid ok at lead = (past_mid code shapes images p t mid _ (only shapes p (t.address + 1) (nat_lt k (length t.frame.held)) (pushes (shape_in code shapes images p t mid)) lead).0, refl)
row code clear shapes shaped images p (instr.Arithmetic w) t m mid ok at lead = by_operator code shapes images p (arithmetic_operator w) t m mid lead
row code clear shapes shaped images p (instr.Relation w) t m mid ok at lead = by_operator code shapes images p (relation_operator w) t m mid lead
row code clear shapes shaped images p (instr.Logical w) t m mid ok at lead = by_operator code shapes images p (logical_operator w) t m mid lead
row code clear shapes shaped images p (instr.Team q name) t m mid ok at lead = by_answer (Onward code shapes images p (Some (t.address + 1))) (Over code shapes images) (of_team q m name) t.frame.stack t m (λ z. (past_mid code shapes images p t mid (z ∷ t.frame.stack) lead.0, refl))
row code clear shapes shaped images p (instr.Go b) t m mid ok at lead = (record { frame = record { finishes = mid.frame.finishes; stands = lead.0; cells = mid.frame.cells; listed = mid.frame.listed; targets = mid.frame.targets }; calls = mid.calls; wait = mid.wait; done = mid.done }, refl)
row code clear shapes shaped images p instr.Next t m mid ok at lead = over code shapes images p t mid (t.address + 1) t.frame.stack t.frame.loops mid.frame.finishes lead.0
row code clear shapes shaped images p (instr.Test b) t m mid ok at lead =
    by_one (Onward code shapes images p None) (Over code shapes images) (λ x. Both shapes p b (t.address + 1) (then_shape (with_height x (shape_in code shapes images p t mid)) marks) (then_shape (with_height x (shape_in code shapes images p t mid)) marks)) (λ q. q) 0 t.frame.stack m _ lead
    (λ value rest q. test_fine code shapes images p t m mid (is_zero value) rest b q)
row code clear shapes shaped images p instr.Loop t m mid ok at lead =
    by_three (Onward code shapes images p (Some (t.address + 1))) (Over code shapes images) (Popped shapes p (t.address + 1) (shape_in code shapes images p t mid) (λ k. pushes (record k { loops = suc k.loops }))) (λ q. q) t.frame.stack m _ lead
    (λ first last step rest q. by_if (Onward code shapes images p (Some (t.address + 1))) (Over code shapes images) (is_zero step) (Fails trap.Step m) (Goes (opens_loop first last step rest t) m) tt
    (record { frame = record { finishes = mid.frame.finishes; stands = q.0; cells = mid.frame.cells; listed = mid.frame.listed; targets = mid.frame.targets }; calls = mid.calls; wait = mid.wait; done = mid.done }, refl))
row code clear shapes shaped images p (instr.Enter b) t m mid ok at lead =
    by_loop (Onward code shapes images p None) (Over code shapes images) (λ n. Both shapes p b (t.address + 1) (then_shape (fewer_loops n (shape_in code shapes images p t mid)) marks) (then_shape (in_loop n (shape_in code shapes images p t mid)) marks)) (λ q. q) t.frame.loops m _ lead
    (λ l rest q. enters_fine code shapes images p t m mid l.iterations rest b q)
row code clear shapes shaped images p instr.StepBy t m mid ok at lead =
    by_loop (Onward code shapes images p (Some (t.address + 1))) (Over code shapes images) (λ n. LeadOn shapes p (way (t.address + 1) (then_shape (in_loop n (shape_in code shapes images p t mid)) pushes))) (λ q. q) t.frame.loops m _ lead
    (λ l rest q. (past_mid code shapes images p t mid (l.step ∷ t.frame.stack) q.0, refl))
row code clear shapes shaped images p (instr.Again b) t m mid ok at lead =
    by_loop (Onward code shapes images p None) (Over code shapes images) (λ n. Both shapes p b (t.address + 1) (then_shape (in_loop n (shape_in code shapes images p t mid)) marks) (then_shape (fewer_loops n (shape_in code shapes images p t mid)) marks) × (n ≡ length t.frame.loops)) (λ q. q.0) t.frame.loops m _ (lead, refl)
    (λ l rest q. turns_fine code shapes images p t m mid (pred l.iterations) l.step rest b q.1 q.0)
row code clear shapes shaped images p (instr.Ask e) t m mid ok at lead =
    by_element (Onward code shapes images p None) (Over code shapes images) (Popped shapes p (t.address + 1) (shape_in code shapes images p t mid) (λ k. Some (record k { held = suc k.held }))) (λ q. q) e t.frame.stack m _ lead
    (λ tested rest q. by_found (Onward code shapes images p None) (Over code shapes images) tested m (λ s. Stops (effect.Begins (begun.Read s)) (awaits wait.Value (past 1 rest t)) m)
    (λ s. waits code shapes images p t m mid wait.Value (t.address + 1) (record t.frame { stack = rest }) mid.frame.finishes refl q.0 refl mid.frame.listed refl))
row code clear shapes shaped images p (instr.Put e) t m mid ok at lead =
    by_one (Onward code shapes images p None) (Over code shapes images) (Popped shapes p (t.address + 1) (shape_in code shapes images p t mid) marks) (λ q. q) (element_numbers e) t.frame.stack m _ lead
    (λ value below q. by_element (Onward code shapes images p None) (Over code shapes images) (Popped shapes p (t.address + 1) (shape_in code shapes images p t mid) marks) (λ q. q) e below m _ q
    (λ tested rest r. by_found (Onward code shapes images p None) (Over code shapes images) tested m (λ s. stops (effect.Begins (begun.Write s value)) rest (awaits wait.Written t) m)
    (λ s. waits code shapes images p t m mid wait.Written (t.address + 1) (record t.frame { stack = rest; held = []; listed = [] }) mid.frame.finishes refl r.0 refl refl refl)))
row code clear shapes shaped images p (instr.Section (section.Region o f form)) t m mid ok at lead =
    by_named (Onward code shapes images p (Some (t.address + 1))) (Over code shapes images) code (Popped shapes p (t.address + 1) (shape_in code shapes images p t mid) (lists_sort IsSection)) (λ q. q) form (numbers f) t.frame.stack m _ (and_right (is_data code o) (names_place code form) ok) lead
    (λ place below good q. by_range (Onward code shapes images p (Some (t.address + 1))) (Over code shapes images) (Popped shapes p (t.address + 1) (shape_in code shapes images p t mid) (lists_sort IsSection)) (λ q. q) f below m _ q
    (λ r rest s. (lists_mid code shapes images p t m mid (listed.Section (wanted.Region o r place)) rest (both (is_data code o) (is_place code place) (and_left (is_data code o) (names_place code form) ok) good) s, refl)))
row code clear shapes shaped images p (instr.Section (section.Pointed c f)) t m mid ok at lead =
    by_range (Onward code shapes images p (Some (t.address + 1))) (Over code shapes images) (Popped shapes p (t.address + 1) (shape_in code shapes images p t mid) (lists_sort IsSection)) (λ q. q) f t.frame.stack m _ lead
    (λ r rest s. (lists_mid code shapes images p t m mid (listed.Section (wanted.Pointed c r)) rest ok s, refl))
row code clear shapes shaped images p (instr.EventAt o form r) t m mid ok at lead =
    by_named (Onward code shapes images p (Some (t.address + 1))) (Over code shapes images) code (Popped shapes p (t.address + 1) (shape_in code shapes images p t mid) (lists_sort (IsEvent r))) (λ q. q) form 1 t.frame.stack m _ (and_right (is_event code o) (names_place code form) ok) lead
    (λ place below good q. by_one (Onward code shapes images p (Some (t.address + 1))) (Over code shapes images) (Popped shapes p (t.address + 1) (shape_in code shapes images p t mid) (lists_sort (IsEvent r))) (λ q. q) 0 below m _ q
    (λ index rest s. (lists_mid code shapes images p t m mid (listed.Event r (record { object = o; index = index; place = place })) rest (both (is_event code o) (is_place code place) (and_left (is_event code o) (names_place code form) ok) good) s, refl)))
row code clear shapes shaped images p (instr.Use (purpose.Aim c)) t m mid ok at lead =
    by_section (Onward code shapes images p None) (Over code shapes images) shapes p (t.address + 1) (marks (shape_in code shapes images p t mid)) t.frame.listed m _ lead
    (λ w. by_found (Onward code shapes images p None) (Over code shapes images) (section_of false m w) m (λ s. stops effect.Ran t.frame.stack t (with_copointer m c s))
    (λ s. over code shapes images p t mid (t.address + 1) t.frame.stack t.frame.loops mid.frame.finishes (only shapes p (t.address + 1) (is_one_section (map sort_of t.frame.listed)) (marks (shape_in code shapes images p t mid)) lead).0))
row code clear shapes shaped images p (instr.Use purpose.Copy) t m mid ok at lead =
    by_sections (Onward code shapes images p None) (Over code shapes images) shapes p (t.address + 1) (marks (shape_in code shapes images p t mid)) t.frame.listed m _ lead
    (λ d s events. by_found (Onward code shapes images p None) (Over code shapes images) (copy_order m d s (copy_events events)) m (λ order. stops (effect.Begins (begun.Copy order)) t.frame.stack t m)
    (λ order. over code shapes images p t mid (t.address + 1) t.frame.stack t.frame.loops mid.frame.finishes (only shapes p (t.address + 1) (is_copy (map sort_of t.frame.listed)) (marks (shape_in code shapes images p t mid)) lead).0))
row code clear shapes shaped images p (instr.Event (event.Notify o form)) t m mid ok at lead =
    by_place (Onward code shapes images p None) (Over code shapes images) (Popped shapes p (t.address + 1) (shape_in code shapes images p t mid) marks) (λ q. q) form 1 t.frame.stack m _ lead
    (λ place below q. by_one (Onward code shapes images p None) (Over code shapes images) (Popped shapes p (t.address + 1) (shape_in code shapes images p t mid) marks) (λ q. q) 0 below m _ q
    (λ index rest r. by_found (Onward code shapes images p None) (Over code shapes images) (event_of m o index place) m (λ e. stops (effect.Begins (begun.Notice e)) rest t m) (λ e. over code shapes images p t mid (t.address + 1) rest t.frame.loops mid.frame.finishes r.0)))
row code clear shapes shaped images p (instr.Event (event.Wait o)) t m mid ok at lead =
    by_one (Onward code shapes images p None) (Over code shapes images) (Popped shapes p (t.address + 1) (shape_in code shapes images p t mid) marks) (λ q. q) 0 t.frame.stack m _ lead
    (λ index rest q. by_found (Onward code shapes images p None) (Over code shapes images) (within (slice_get m.objects o) index) m (λ i. takes_post (posts_at m o i) o i rest t m) (λ i. post_fine code shapes images p t m mid (posts_at m o i) o i rest q))
row code clear shapes shaped images p (instr.Cofence down) t m mid ok at lead = by_if (Onward code shapes images p None) (Over code shapes images) (passes down clear) (stops effect.Ran t.frame.stack t m) (Blocks need.Cofence) (over code shapes images p t mid (t.address + 1) t.frame.stack t.frame.loops mid.frame.finishes lead.0) tt
row code clear shapes shaped images p (instr.Spawn f form) t m mid ok at lead =
    spawn_fine code shapes images p t m mid f form (slice_get code.subs f) (is_there code.subs f (and_left (nat_lt f (length code.subs)) (names_place code form) ok))
    (only shapes p (t.address + 1) (is_ship (map sort_of t.frame.listed)) (then_shape (with_height (without (with_rank form (dummies_in (slice_get code.subs f))) (length t.frame.stack)) (shape_in code shapes images p t mid)) marks) lead)
row code clear shapes shaped images p (instr.Finish name) t m mid ok at lead = by_found (Onward code shapes images p None) (Over code shapes images) (team_named m name) m (λ x. stops (effect.Enters x) t.frame.stack t m) (λ x. over code shapes images p t mid (t.address + 1) t.frame.stack t.frame.loops (suc mid.frame.finishes) lead.0)
row code clear shapes shaped images p instr.Close t m mid ok at lead = tt
row code clear shapes shaped images p (instr.Split name o) t m mid ok at lead =
    by_two (Onward code shapes images p None) (Over code shapes images) (Popped shapes p (t.address + 1) (shape_in code shapes images p t mid) marks) (λ q. q) 0 t.frame.stack m _ lead
    (λ colour key rest q. by_found (Onward code shapes images p None) (Over code shapes images) (team_named m name) m (λ x. stops (effect.Arrives x colour key o) rest (awaits (wait.NewTeam o) t) m)
    (λ x. waits code shapes images p t m mid (wait.NewTeam o) (t.address + 1) (record t.frame { stack = rest; held = []; listed = [] }) mid.frame.finishes (and_right (names_team code name) (is_team code o) ok) q.0 refl refl refl))
row code clear shapes shaped images p (instr.Out (out.Scalar o)) t m mid ok at lead = (out_mid code shapes images p t m mid (target.Scalar o) t.frame.stack ok lead.0, refl)
row code clear shapes shaped images p (instr.Out (out.Element o)) t m mid ok at lead =
    by_one (Onward code shapes images p (Some (t.address + 1))) (Over code shapes images) (Popped shapes p (t.address + 1) (shape_in code shapes images p t mid) (λ k. Some (record k { outs = suc k.outs }))) (λ q. q) 0 t.frame.stack m _ lead
    (λ index rest q. by_found (Onward code shapes images p (Some (t.address + 1))) (Over code shapes images) (within (slice_get m.objects o) index) m (λ i. Goes (with_out (target.Element o i) rest t) m) (λ i. (out_mid code shapes images p t m mid (target.Element o i) rest ok q.0, refl)))
row code clear shapes shaped images p (instr.Out (out.Local k)) t m mid ok at lead =
    let more : Option Shape = Some (record (shape_in code shapes images p t mid) { outs = suc (length t.frame.outs) }) in
    let below : nat_lt k (cells_of code p) ≡ true = only_holds shapes p (t.address + 1) (nat_lt k (cells_of code p)) more lead in
    (out_mid code shapes images p t m mid (target.Local k) t.frame.stack (subst (λ n. nat_lt k n ≡ true) (sym mid.frame.cells) below) (only shapes p (t.address + 1) (nat_lt k (cells_of code p)) more lead).0, refl)
row code clear shapes shaped images p (instr.Call f) t m mid ok at lead =
    let test : Bool = nat_eq (length t.frame.outs) (copied_in (slice_get code.subs f)) in
    let ways : Option Shape = then_shape (with_height (without (dummies_in (slice_get code.subs f)) (length t.frame.stack)) (shape_in code shapes images p t mid)) (λ k. marks (record k { outs = 0 })) in
    call_fine code shapes shaped images p t m mid f (slice_get code.subs f) refl at (is_there code.subs f ok)
    (eqb-true (length t.frame.outs) (copied_in (slice_get code.subs f)) (only_holds shapes p (t.address + 1) test ways lead)) (only shapes p (t.address + 1) test ways lead)
row code clear shapes shaped images p instr.Ret t m mid ok at lead = leaves_fine code shapes images p t m mid t.calls mid.calls
row code clear shapes shaped images p (instr.Print printed.Number) t m mid ok at lead =
    by_one (Onward code shapes images p (Some (t.address + 1))) (Over code shapes images) (λ x. LeadOn shapes p (way (t.address + 1) (with_height x (shape_in code shapes images p t mid)))) (λ q. q) 0 t.frame.stack m _ lead
    (λ z rest q. (part_mid code shapes images p (past 1 rest t) _ (past_mid code shapes images p t mid rest q.0), refl))
row code clear shapes shaped images p (instr.Print printed.Logical) t m mid ok at lead =
    by_one (Onward code shapes images p (Some (t.address + 1))) (Over code shapes images) (λ x. LeadOn shapes p (way (t.address + 1) (with_height x (shape_in code shapes images p t mid)))) (λ q. q) 0 t.frame.stack m _ lead
    (λ z rest q. (part_mid code shapes images p (past 1 rest t) _ (past_mid code shapes images p t mid rest q.0), refl))
row code clear shapes shaped images p (instr.Print (printed.Text k)) t m mid ok at lead =
    by_there (Onward code shapes images p (Some (t.address + 1))) (Over code shapes images) (slice_get code.texts k) m _ (is_there code.texts k ok) (λ text e. (part_mid code shapes images p (past 1 t.frame.stack t) _ (past_mid code shapes images p t mid t.frame.stack lead.0), refl))
row code clear shapes shaped images p instr.Line t m mid ok at lead =
    by_if (Onward code shapes images p None) (Over code shapes images) (has_room m (line_of t.parts)) (stops effect.Ran t.frame.stack (record t { parts = [] }) (with_line m (line_of t.parts))) (Fails trap.Output m)
    (over code shapes images p (record t { parts = [] }) (part_mid code shapes images p t [] mid) (t.address + 1) t.frame.stack t.frame.loops mid.frame.finishes lead.0) tt
row code clear shapes shaped images p instr.Halt t m mid ok at lead = tt
