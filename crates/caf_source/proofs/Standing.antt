-- How a state stands.
use Rattle.std.proofs.lemmas.Bool.{eqb-true, false≢true}
use Rattle.std.proofs.lemmas.List.Quantifiers.{position-Some}
use Rattle.std.proofs.lemmas.Option.{get_or_from_slice_get, none-some}
use Rattle.std.proofs.Common.{◌≡◌, ℕ, zero, suc, ◌<◌, ◌++◌, Bool, true, false, ◌||◌, List, [], ◌∷◌, Option, Some, None, Result, Ok, Err, IfOk, ap, find, refl, sym, subst, ◌∙◌, is_some, slice_get, nat_eq, length, arith, if◌then◌else◌, inl, inr, ◌⊎◌}
use Rattle.std.specs.List.{list_any, position}
use Rattle.caf_base.specs.declared.operation.OpName.{OpName}
use Rattle.caf_base.specs.declared.summary.Ending.{Ending}
use Rattle.caf_base.specs.declared.summary.Ending.TheVariants as ending
use Rattle.caf_base.specs.Operations.{same_op}
use Rattle.caf_base.specs.Places.{below}
use Rattle.caf_base.specs.declared.memory.Memory.{Memory}
use Rattle.caf_pending.specs.declared.operation.Operation.{Operation}
use Rattle.caf_pending.specs.Pending.{is_named, operation_named}
use Rattle.caf_program.specs.declared.program.Program.{Program}
use Rattle.caf_program.specs.declared.program.SubR.{SubR}
use Rattle.caf_source.specs.declared.choice.Choice.{Choice}
use Rattle.caf_source.specs.declared.choice.Choice.TheVariants as choice
use Rattle.caf_source.specs.declared.state.Image.{Image}
use Rattle.caf_source.specs.declared.state.Live.{Live}
use Rattle.caf_source.specs.Effects.{place_of_task}
use Rattle.caf_source.specs.Ending.{can_go, can_go_at, can_leave, can_part, can_part_in, can_step, can_step_in, can_step_live, can_step_shipped, can_touch, can_touch_found, ending_of, live_in}
use Rattle.caf_source.specs.Next.{next, running_in, untrapped}
use Rattle.caf_source.specs.Run.{Stands, has_trapped, is_done}
use Rattle.caf_source.specs.State.{State}
use Rattle.caf_source.specs.Stepping.{can_leave_in}
use Rattle.caf_source.proofs.Both.{and_first, and_second}
use Rattle.caf_source.proofs.Refusals.{same_some}
use Rattle.caf_source.proofs.Defined.{ReadsAreHeld, leave_defined, part_defined, step_defined, touch_defined}

or_false : (a b : Bool) → (a || b) ≡ false → (a ≡ false) × (b ≡ false)
or_false false b h = (refl, h)
or_false true b h = absurd (false≢true (sym h))

or_true : (a b : Bool) → (a || b) ≡ true → (a ≡ true) ⊎ (b ≡ true)
or_true true b h = inl refl
or_true false b h = inr h

-- an element that passes a test
witness : {A : Type 0} (p : A → Bool) (xs : List A) → list_any p xs ≡ true → (x : A) × (p x ≡ true)
witness p [] h = absurd (false≢true h)
witness p (x ∷ xs) h = first_or x p xs (witness p xs) (or_true (p x) (list_any p xs) h)
  where
    first_or : {A : Type 0} (x : A) (p : A → Bool) (xs : List A) → (list_any p xs ≡ true → (y : A) × (p y ≡ true)) → (p x ≡ true) ⊎ (list_any p xs ≡ true) → (y : A) × (p y ≡ true)
    first_or x p xs rest (inl here) = (x, here)
    first_or x p xs rest (inr there) = rest there

-- where none passes, the one at a place doesn't
none_at : {A : Type 0} (p : A → Bool) (xs : List A) (k : ℕ) (x : A) → list_any p xs ≡ false → slice_get xs k ≡ Some x → p x ≡ false
none_at p [] k x h is = absurd (none-some x is)
none_at p (y ∷ xs) zero x h is = subst (λ z. p z ≡ false) (same_some y x is) (or_false (p y) (list_any p xs) h).0
none_at p (y ∷ xs) (suc k) x h is = none_at p xs k x (or_false (p y) (list_any p xs) h).1 is

any_both : {A : Type 0} (p : A → Bool) (xs ys : List A) → list_any p (xs ++ ys) ≡ (list_any p xs || list_any p ys)
any_both p [] ys = refl
any_both p (x ∷ xs) ys = go (p x) (any_both p xs ys)
  where
    go : (b : Bool) → list_any p (xs ++ ys) ≡ (list_any p xs || list_any p ys) → (b || list_any p (xs ++ ys)) ≡ ((b || list_any p xs) || list_any p ys)
    go true e = refl
    go false e = e

none_last : (p : ℕ → Bool) (n i : ℕ) (b : Bool) → nat_eq i n ≡ b → list_any p (below (suc n)) ≡ false → i < suc n → (list_any p (below n) ≡ false → i < n → p i ≡ false) → p i ≡ false
none_last p n i true is h within rest =
    let both = or_false (list_any p (below n)) (p n || false) (sym (any_both p (below n) (n ∷ [])) ∙ h) in
    let same : i ≡ n = eqb-true i n is in
    subst (λ k. p k ≡ false) (sym same) (or_false (p n) false both.1).0
none_last p n i false is h within rest =
    let both = or_false (list_any p (below n)) (p n || false) (sym (any_both p (below n) (n ∷ [])) ∙ h) in
    let other : i < n = grind (arith, is, within) in
    rest both.0 other

none_below : (p : ℕ → Bool) (n i : ℕ) → list_any p (below n) ≡ false → i < n → p i ≡ false
none_below p zero i h within = absurd (omega (arith, within))
none_below p (suc n) i h within = none_last p n i (nat_eq i n) refl h within (none_below p n i)

within : {A : Type 0} (l : List A) (i : ℕ) (x : A) → slice_get l i ≡ Some x → i < length l
within [] i x is = absurd (none-some x is)
within (y ∷ l) zero x is = omega arith
within (y ∷ l) (suc i) x is = omega (arith, within l i x is)

-- the element at the place that is found passes the test
position_passes : {A : Type 0} (p : A → Bool) (xs : List A) (k : ℕ) (x : A) → position p xs ≡ Some k → slice_get xs k ≡ Some x → p x ≡ true
position_passes p xs k x at is = subst (λ z. p z ≡ true) (get_or_from_slice_get xs k x x is) (position-Some p xs k x at).1

name_is : (a b : OpName) → same_op a b ≡ true → a ≡ b
name_is a b h =
    let image : a.image ≡ b.image = eqb-true a.image b.image (and_first (nat_eq a.image b.image) _ h) in
    let number : a.number ≡ b.number = eqb-true a.number b.number (and_second (nat_eq a.image b.image) _ h) in
    ap (λ n. record a { image = n }) image ∙ ap (λ n. record b { number = n }) number

none_is : {A : Type 0} (o : Option A) → is_some o ≡ false → o ≡ None
none_is None h = refl
none_is (Some x) h = absurd (false≢true (sym h))

some_is : {A : Type 0} (o : Option A) → is_some o ≡ true → (x : A) × (o ≡ Some x)
some_is None h = absurd (false≢true h)
some_is (Some x) h = (x, refl)

running_is : (o : Option Image) (im : Image) → running_in o ≡ Some im → o ≡ Some im
running_is None im is = absurd (none-some im is)
running_is (Some x) im is = by_trap x.trap is
  where
    by_trap : (t : Option _) → untrapped x t ≡ Some im → Some x ≡ Some im
    by_trap None h = h
    by_trap (Some t) h = absurd (none-some im h)

-- whether the choice is defined, by the tests
abbrev defined : Program → State → Choice → Bool
defined p s (choice.Step i t) = can_step s i t
defined p s (choice.Touch name) = can_touch p.subs s name
defined p s (choice.Part i) = can_part s i
defined p s (choice.Leave i) = can_leave s i

is_defined : (law : ReadsAreHeld) (p : Program) (s : State) (c : Choice) → is_some (next p s c) ≡ defined p s c
is_defined law p s (choice.Step i t) = step_defined law p s i t (running_in (slice_get s.images i))
is_defined law p s (choice.Touch name) = touch_defined p s (operation_named name s.pending)
is_defined law p s (choice.Part i) = part_defined s i (running_in (slice_get s.images i))
is_defined law p s (choice.Leave i) = leave_defined s i (running_in (slice_get s.images i))

-- an image that isn't there makes no Step
no_image : (s : State) (i t : ℕ) → slice_get s.images i ≡ None → can_step s i t ≡ false
no_image s i t is = ap (λ o. can_step_in s i t (running_in o)) is

-- none of its shipped tasks makes a Step
shipped_still : (s : State) (i n : ℕ) (im : Image) (place : Option ℕ) → place_of_task (suc n) im.shipped ≡ place → list_any (λ (l : Live). can_step s i l.number) im.shipped ≡ false
    → running_in (slice_get s.images i) ≡ Some im → can_step_live s i (suc n) im (live_in im.shipped place) ≡ false
shipped_still s i n im None at none runs = refl
shipped_still s i n im (Some k) at none runs = go (slice_get im.shipped k) refl
  where
    go : (found : Option Live) → slice_get im.shipped k ≡ found → can_step_live s i (suc n) im found ≡ false
    go None is = refl
    go (Some l) is =
        let number : nat_eq l.number (suc n) ≡ true = position_passes (λ (x : Live). nat_eq x.number (suc n)) im.shipped k l at is in
        let same : l.number ≡ suc n = eqb-true l.number (suc n) number in
        let still : can_step s i l.number ≡ false = none_at (λ (x : Live). can_step s i x.number) im.shipped k l none is in
        let stays : can_step s i (suc n) ≡ false = subst (λ t. can_step s i t ≡ false) same still in
        sym (ap (can_step_in s i (suc n)) runs ∙ ap (λ place. can_step_live s i (suc n) im (live_in im.shipped place)) at ∙ ap (can_step_live s i (suc n) im) is) ∙ stays

image_still : (s : State) (i t : ℕ) (r : Option Image) → running_in (slice_get s.images i) ≡ r → can_go_at s i ≡ false → can_step_in s i t r ≡ false
image_still s i t None runs none = refl
image_still s i zero (Some im) runs none = sym (ap (can_step_in s i 0) runs) ∙ (or_false (can_step s i 0) _ none).0
image_still s i (suc n) (Some im) runs none =
    let rest = (or_false (can_step s i 0) _ none).1 in
    let shipped = (or_false (can_step_shipped s i (slice_get s.images i)) _ rest).0 in
    let here = running_is (slice_get s.images i) im runs in
    shipped_still s i n im (place_of_task (suc n) im.shipped) refl (subst (λ o. can_step_shipped s i o ≡ false) here shipped) runs

step_still : (s : State) (i t : ℕ) (found : Option Image) → slice_get s.images i ≡ found → list_any (can_go_at s) (below (length s.images)) ≡ false → can_step s i t ≡ false
step_still s i t None is none = no_image s i t is
step_still s i t (Some im) is none = image_still s i t (running_in (slice_get s.images i)) refl (none_below (can_go_at s) (length s.images) i none (within s.images i im is))

part_still : (s : State) (i : ℕ) (found : Option Image) → slice_get s.images i ≡ found → list_any (can_go_at s) (below (length s.images)) ≡ false → can_part s i ≡ false
part_still s i None is none = ap (λ o. can_part_in s.images (running_in o)) is
part_still s i (Some im) is none =
    let all = none_below (can_go_at s) (length s.images) i none (within s.images i im is) in
    let rest = (or_false (can_step s i 0) _ all).1 in
    (or_false (can_part s i) (can_leave s i) (or_false (can_step_shipped s i (slice_get s.images i)) _ rest).1).0

leave_still : (s : State) (i : ℕ) (found : Option Image) → slice_get s.images i ≡ found → list_any (can_go_at s) (below (length s.images)) ≡ false → can_leave s i ≡ false
leave_still s i None is none = ap (λ o. can_leave_in s (running_in o)) is
leave_still s i (Some im) is none =
    let all = none_below (can_go_at s) (length s.images) i none (within s.images i im is) in
    let rest = (or_false (can_step s i 0) _ all).1 in
    (or_false (can_part s i) (can_leave s i) (or_false (can_step_shipped s i (slice_get s.images i)) _ rest).1).1

-- what is found passes the test by which it was looked for, and any other that all pass
found_in : {A : Type 0} (test p : A → Bool) (xs : List A) (x : A) → find test xs ≡ Some x → list_any p xs ≡ false → (test x ≡ true) × (p x ≡ false)
found_in test p [] x is none = absurd (none-some x is)
found_in test p (y ∷ xs) x is none = go (test y) refl is (λ there. found_in test p xs x there (or_false (p y) (list_any p xs) none).1)
  where
    go : (b : Bool) → test y ≡ b → (if b then Some y else find test xs) ≡ Some x → (find test xs ≡ Some x → (test x ≡ true) × (p x ≡ false)) → (test x ≡ true) × (p x ≡ false)
    go true passes here rest = let same : y ≡ x = same_some y x here in (subst (λ z. test z ≡ true) same passes, subst (λ z. p z ≡ false) same (or_false (p y) (list_any p xs) none).0)
    go false fails there rest = rest there

touch_still : (p : Program) (s : State) (name : OpName) (found : Option Operation) → operation_named name s.pending ≡ found → list_any (λ (op : Operation). can_touch p.subs s op.name) s.pending ≡ false → can_touch_found p.subs s found ≡ false
touch_still p s name None is none = refl
touch_still p s name (Some op) is none =
    let both = found_in (is_named name) (λ (o : Operation). can_touch p.subs s o.name) s.pending op is none in
    let same : op.name ≡ name = name_is op.name name both.0 in
    let stays : can_touch p.subs s name ≡ false = subst (λ n. can_touch p.subs s n ≡ false) same both.1 in
    sym (ap (can_touch_found p.subs s) is) ∙ stays

-- where no test passes, no choice is defined
still : (p : Program) (s : State) → can_go p.subs s ≡ false → (c : Choice) → defined p s c ≡ false
still p s none (choice.Step i t) = step_still s i t (slice_get s.images i) refl (or_false (list_any (can_go_at s) (below (length s.images))) _ none).0
still p s none (choice.Touch name) = touch_still p s name (operation_named name s.pending) refl (or_false (list_any (can_go_at s) (below (length s.images))) _ none).1
still p s none (choice.Part i) = part_still s i (slice_get s.images i) refl (or_false (list_any (can_go_at s) (below (length s.images))) _ none).0
still p s none (choice.Leave i) = leave_still s i (slice_get s.images i) refl (or_false (list_any (can_go_at s) (below (length s.images))) _ none).0

abbrev Passes : Program → State → Type 0
Passes p s = (c : Choice) × (defined p s c ≡ true)

at_passes : (p : Program) (s : State) (i : ℕ) → can_go_at s i ≡ true → Passes p s
at_passes p s i h = first (or_true (can_step s i 0) _ h)
  where
    third : (can_part s i ≡ true) ⊎ (can_leave s i ≡ true) → Passes p s
    third (inl part) = (choice.Part i, part)
    third (inr leave) = (choice.Leave i, leave)

    shipped : (found : Option Image) → can_step_shipped s i found ≡ true → Passes p s
    shipped None k = absurd (false≢true k)
    shipped (Some im) k = let l = witness (λ (x : Live). can_step s i x.number) im.shipped k in (choice.Step i l.0.number, l.1)

    second : (can_step_shipped s i (slice_get s.images i) ≡ true) ⊎ ((can_part s i || can_leave s i) ≡ true) → Passes p s
    second (inl steps) = shipped (slice_get s.images i) steps
    second (inr others) = third (or_true (can_part s i) (can_leave s i) others)

    first : (can_step s i 0 ≡ true) ⊎ ((can_step_shipped s i (slice_get s.images i) || (can_part s i || can_leave s i)) ≡ true) → Passes p s
    first (inl steps) = (choice.Step i 0, steps)
    first (inr others) = second (or_true (can_step_shipped s i (slice_get s.images i)) _ others)

passes : (p : Program) (s : State) → can_go p.subs s ≡ true → Passes p s
passes p s h = go (or_true (list_any (can_go_at s) (below (length s.images))) _ h)
  where
    go : (list_any (can_go_at s) (below (length s.images)) ≡ true) ⊎ (list_any (λ (op : Operation). can_touch p.subs s op.name) s.pending ≡ true) → Passes p s
    go (inl image) = let i = witness (can_go_at s) (below (length s.images)) image in at_passes p s i.0 i.1
    go (inr touch) = let op = witness (λ (o : Operation). can_touch p.subs s o.name) s.pending touch in (choice.Touch op.0.name, op.1)

-- how a state stands
pub stands : (p : Program) (s : State) → ReadsAreHeld → Stands p s (ending_of p.subs s)
stands p s law = by_trap (has_trapped s) refl
  where
    by_go : (b : Bool) → can_go p.subs s ≡ b → has_trapped s ≡ false → is_done s ≡ false → Stands p s (if b then ending.Going else ending.Stuck)
    by_go true is trap done =
        let c = passes p s is in
        let t = some_is (next p s c.0) (is_defined law p s c.0 ∙ c.1) in
        (trap, done, (c.0, t.0, t.1))
    by_go false is trap done = (trap, done, λ c. none_is (next p s c) (is_defined law p s c ∙ still p s is c))

    by_done : (b : Bool) → is_done s ≡ b → has_trapped s ≡ false → Stands p s (if b then ending.Done else (if can_go p.subs s then ending.Going else ending.Stuck))
    by_done true is trap = (trap, is)
    by_done false is trap = by_go (can_go p.subs s) refl trap is

    by_trap : (b : Bool) → has_trapped s ≡ b → Stands p s (if b then ending.Trapped else (if is_done s then ending.Done else (if can_go p.subs s then ending.Going else ending.Stuck)))
    by_trap true is = is
    by_trap false is = by_done (is_done s) refl is

-- how a state stands, as a call has found it
pub stands_led : (p : Program) (subs : List SubR) (s t : State) (r : Result Ending Memory) → IfOk r (λ e. e ≡ ending_of subs t) → subs ≡ p.subs → t ≡ s → ReadsAreHeld → IfOk r (λ e. Stands p s e)
stands_led p subs s t (Err x) is same at law = tt
stands_led p subs s t (Ok e) is same at law = subst (λ x. Stands p s x) (sym (is ∙ ap (λ l. ending_of l t) same ∙ ap (ending_of p.subs) at)) (stands p s law)
