-- What is done at one image, as the state sees it.
use Rattle.std.proofs.lemmas.Bool.{false≢true}
use Rattle.std.proofs.lemmas.Option.{none-some}
use Rattle.std.proofs.Common.{◌≡◌, ℕ, zero, suc, true, false, List, [], ◌∷◌, Option, Some, None, Result, Ok, Err, IfOk, IfSome, IsTrue, ap, refl, sym, subst, ◌∙◌, get_or, is_some, slice_get, slice_set, ◌<◌, length, arith, ℤ, if◌then◌else◌}
use Rattle.caf_base.specs.declared.fence.FenceClear.{FenceClear}
use Rattle.caf_base.specs.declared.memory.Memory.{Memory}
use Rattle.caf_base.specs.declared.operation.OpName.{OpName}
use Rattle.caf_base.specs.declared.operation.Stage.{Stage}
use Rattle.caf_base.specs.declared.team.FinishRef.{FinishRef}
use Rattle.caf_base.specs.declared.team.Team.{Team}
use Rattle.caf_base.specs.declared.trap.Trap.{Trap}
use Rattle.caf_pending.specs.declared.operation.Operation.{Operation}
use Rattle.caf_pending.specs.Pending.{clear_of}
use Rattle.caf_program.specs.declared.program.Program.{Program}
use Rattle.caf_program.specs.declared.program.SubR.{SubR}
use Rattle.caf_source.specs.declared.choice.Choice.{Choice}
use Rattle.caf_source.specs.declared.outcome.Outcome.{Outcome}
use Rattle.caf_source.specs.declared.outcome.Outcome.TheVariants as outcome
use Rattle.caf_source.specs.declared.outcome.Touched.{Touched}
use Rattle.caf_source.specs.declared.outcome.Touched.TheVariants as touched
use Rattle.caf_source.specs.declared.state.Image.{Image}
use Rattle.caf_source.specs.declared.stepped.Stepped.{Stepped}
use Rattle.caf_source.specs.declared.stepped.Stepped.TheVariants as stepped
use Rattle.caf_source.specs.Effects.{Did, did, image_step}
use Rattle.caf_source.specs.Next.{after_did, after_reached, answered_image, answered_in, images_touched, last_arrival, leave_finish, leave_in, next, part_in, part_waiting, parted, parted_image, past_end, pending_after, pending_touched, running_in, standing, step_in, team_of_split, touch_at, touch_found, touch_next, touch_staged, untrapped, with_image, with_pending}
use Rattle.caf_source.specs.Placed.{ArePlaceable, IsDoneAt, IsReachedAt}
use Rattle.caf_source.specs.Stages.{Reached, reached, touch}
use Rattle.caf_source.specs.State.{State, place_of}
use Rattle.caf_source.specs.Splits.{awaited_object}
use Rattle.caf_source.specs.Stepping.{Makes, can_leave_in, may_leave_end, of_images}
use Rattle.caf_source.proofs.Placing.{reached_fits}
use Rattle.caf_source.proofs.Refusals.{is_refusal, is_refused, same_set, same_some, step_stays, touch_keeps}
use Rattle.caf_treestep.specs.declared.task.Wait.{Wait}
use Rattle.caf_treestep.specs.declared.task.Wait.TheVariants as awaited
use Rattle.caf_treestep.specs.Placeable.{IsPlaceable}

-- an image that runs, at its place
pub running_at : (l : List Image) (i : ℕ) (x : Image) → true ≡ is_some (running_in (slice_get l i)) → slice_get l i ≡ Some x → running_in (slice_get l i) ≡ Some x
running_at l i x runs is = ap running_in is ∙ by_trap x.trap (subst (λ (o : Option Image). true ≡ is_some (running_in o)) is runs)
  where
    by_trap : (t : Option Trap) → true ≡ is_some (untrapped x t) → untrapped x t ≡ Some x
    by_trap None h = refl
    by_trap (Some t) h = absurd (false≢true (sym h))

-- an element that is there
pub found_at : {A : Type 0} (l : List A) (i : ℕ) (x : A) → i < length l → x ≡ get_or l i x → slice_get l i ≡ Some x
found_at [] i x within is = absurd (omega (arith, within))
found_at (y ∷ l) zero x within is = ap Some (sym is)
found_at (y ∷ l) (suc i) x within is = found_at l i x (omega (arith, within)) is

pub placeable_at : (l : List Image) (i : ℕ) (x : Image) → ArePlaceable l → slice_get l i ≡ Some x → IsPlaceable x.memory
placeable_at l i x all is = subst (λ (o : Option Image). IfSome o (λ (im : Image). IsPlaceable im.memory)) is (all i)

pub placeable_set : (l : List Image) (i : ℕ) (x : Image) → ArePlaceable l → IsPlaceable x.memory → ArePlaceable (slice_set l i x)
placeable_set [] i x all fits k = all k
placeable_set (y ∷ l) zero x all fits zero = fits
placeable_set (y ∷ l) zero x all fits (suc k) = all (suc k)
placeable_set (y ∷ l) (suc i) x all fits zero = all zero
placeable_set (y ∷ l) (suc i) x all fits (suc k) = placeable_set l i x (λ j. all (suc j)) fits k

none_refused : (o : Outcome) (ops : List Operation) → pending_after o ops ≡ None → IsTrue (is_refused o)
none_refused outcome.Refused ops is = refl
none_refused outcome.Local ops is = absurd (none-some ops (sym is))
none_refused (outcome.Begun op) ops is = absurd (none-some _ (sym is))
none_refused (outcome.Ended ship notice) ops is = absurd (none-some _ (sym is))

none_refusal : (t : Touched) (name : OpName) (ops : List Operation) → pending_touched t name ops ≡ None → IsTrue (is_refusal t)
none_refusal touched.Refused name ops is = refl
none_refusal touched.Trapped name ops is = absurd (none-some ops (sym is))
none_refusal touched.Passed name ops is = absurd (none-some _ (sym is))
none_refusal (touched.Read values notice) name ops is = absurd (none-some _ (sym is))
none_refusal (touched.Completed notice) name ops is = absurd (none-some _ (sym is))
none_refusal (touched.Answered value) name ops is = absurd (none-some _ (sym is))

-- the pending operations and the images after a choice make the state after it
joined : (found : Option (List Operation)) (images new : List Image) (ops after : List Operation) (r : Stepped) → (found ≡ None → new ≡ images) → Makes found ops after r → Makes (with_pending new found) (of_images images ops) (of_images new after) r
joined found images new ops after stepped.Done same made = ap (with_pending new) made
joined found images new ops after stepped.NotEnabled same made = (ap (with_pending new) made.0, ap (λ l. of_images l after) (same made.0) ∙ ap (of_images images) made.1)

-- the images where the choice isn't defined
step_same : (subs : List SubR) (clear : FenceClear) (i t : ℕ) (images new : List Image) (o : Outcome) (ops : List Operation) → IsDoneAt (λ im. image_step subs clear i im t) i images new o → pending_after o ops ≡ None → new ≡ images
step_same subs clear i t images new o ops done none =
    let refused : IsTrue (is_refused (image_step subs clear i done.before t).outcome) = subst (λ (d : Did). IsTrue (is_refused d.outcome)) (sym done.done) (none_refused o ops none) in
    let same : done.after ≡ done.before = ap (λ (d : Did). d.image) (sym done.done) ∙ step_stays subs clear i done.before t refused in
    done.set ∙ ap (slice_set images i) same ∙ same_set images i done.before done.found

-- the Step of a task, where it was made at its image
pub step_makes : (p : Program) (i t : ℕ) (images new : List Image) (ops after : List Operation) (clear : FenceClear) (o : Outcome) (r : Stepped)
    → true ≡ is_some (running_in (slice_get images i)) → clear ≡ clear_of ops i t → IsDoneAt (λ im. image_step p.subs clear i im t) i images new o → Makes (pending_after o ops) ops after r
    → Makes (step_in p (of_images images ops) i t (running_in (slice_get images i))) (of_images images ops) (of_images new after) r
step_makes p i t images new ops after clear o r runs clear_is done made =
    let s : State = of_images images ops in
    let is : step_in p s i t (running_in (slice_get images i)) ≡ with_pending new (pending_after o ops) =
    ap (step_in p s i t) (running_at images i done.before runs done.found)
    ∙ ap (λ c. after_did s i (image_step p.subs c i done.before t)) (sym clear_is)
    ∙ ap (after_did s i) done.done
    ∙ ap (λ l. with_pending l (pending_after o ops)) (sym done.set) in
    subst (λ found. Makes found s (of_images new after) r) (sym is) (joined (pending_after o ops) images new ops after r (step_same p.subs clear i t images new o ops done) made)

touch_same : (subs : List SubR) (i : ℕ) (op : Operation) (st : Stage) (images new : List Image) (t : Touched) → IsReachedAt (λ im. touch subs i im op st) i images new t → IsTrue (is_refusal t) → new ≡ images
touch_same subs i op st images new t done refusal =
    let refused : IsTrue (is_refusal (touch subs i done.before op st).touched) = subst (λ (d : Reached). IsTrue (is_refusal d.touched)) (sym done.done) refusal in
    let same : done.after ≡ done.before = ap (λ (d : Reached). d.image) (sym done.done) ∙ touch_keeps subs i done.before op st refused in
    done.set ∙ ap (slice_set images i) same ∙ same_set images i done.before done.found

images_same : (t : Touched) (i task : ℕ) (images : List Image) → IsTrue (is_refusal t) → images_touched t i task images ≡ images
images_same touched.Refused i task images h = refl
images_same touched.Trapped i task images h = refl
images_same touched.Passed i task images h = refl
images_same (touched.Read values notice) i task images h = refl
images_same (touched.Completed notice) i task images h = refl
images_same (touched.Answered value) i task images h = absurd (false≢true h)

-- the stage of an operation, where it was performed at its image
pub touch_makes : (p : Program) (op : Operation) (st : Stage) (i : ℕ) (images mid new : List Image) (ops after : List Operation) (t : Touched) (r : Stepped)
    → true ≡ is_some (running_in (slice_get images i)) → IsReachedAt (λ im. touch p.subs i im op st) i images mid t → new ≡ images_touched t op.name.image op.task mid → Makes (pending_touched t op.name ops) ops after r
    → Makes (touch_at p (of_images images ops) i op st (running_in (slice_get images i))) (of_images images ops) (of_images new after) r
touch_makes p op st i images mid new ops after t r runs done answered made =
    let s : State = of_images images ops in
    let is : touch_at p s i op st (running_in (slice_get images i)) ≡ with_pending new (pending_touched t op.name ops) =
    ap (touch_at p s i op st) (running_at images i done.before runs done.found)
    ∙ ap (after_reached s i op) done.done
    ∙ ap (λ l. with_pending (images_touched t op.name.image op.task l) (pending_touched t op.name ops)) (sym done.set)
    ∙ ap (λ l. with_pending l (pending_touched t op.name ops)) (sym answered) in
    subst (λ found. Makes found s (of_images new after) r) (sym is)
    (joined (pending_touched t op.name ops) images new ops after r (λ none. let refusal = none_refusal t op.name ops none in answered ∙ images_same t op.name.image op.task mid refusal ∙ touch_same p.subs i op st images mid t done refusal) made)

-- an image that runs is there
pub runs_within : (l : List Image) (i : ℕ) → true ≡ is_some (running_in (slice_get l i)) → i < length l
runs_within [] i runs = absurd (false≢true (sym runs))
runs_within (x ∷ l) zero runs = omega arith
runs_within (x ∷ l) (suc i) runs = omega (arith, runs_within l i runs)

pub some_runs : (o : Option Image) (im : Image) → Some im ≡ o → true ≡ is_some o
some_runs o im is = ap is_some is

-- where a running image is found, it is the one at the place
pub running_is : (o : Option Image) (im : Image) → running_in o ≡ Some im → o ≡ Some im
running_is None im is = absurd (none-some im is)
running_is (Some x) im is = by_trap x.trap is
  where
    by_trap : (t : Option Trap) → untrapped x t ≡ Some im → Some x ≡ Some im
    by_trap None h = h
    by_trap (Some t) h = absurd (none-some im h)

-- an image that stands at the end of a finish which may be left runs
leaves_runs : (s : State) (r : Option Image) → true ≡ can_leave_in s r → true ≡ is_some r
leaves_runs s None may = absurd (false≢true (sym may))
leaves_runs s (Some im) may = refl

pub leaves_within : (images : List Image) (ops : List Operation) (i : ℕ) → true ≡ can_leave_in (of_images images ops) (running_in (slice_get images i)) → i < length images
leaves_within images ops i may = runs_within images i (leaves_runs (of_images images ops) (running_in (slice_get images i)) may)

finish_left : (s : State) (i : ℕ) (im new : Image) (f : Option FinishRef) → standing im ≡ f → true ≡ may_leave_end s f → ((g : FinishRef) → standing im ≡ Some g → new ≡ past_end im g) → leave_finish s i im f ≡ Some (with_image s i new)
finish_left s i im new None is may past = absurd (false≢true (sym may))
finish_left s i im new (Some f) is may past =
    ap (λ b. if b then Some (with_image s i (past_end im f)) else None) (sym may) ∙ ap (λ x. Some (with_image s i x)) (sym (past f is))

-- the end of a finish, where it was passed at its image
pub leave_makes : (images new : List Image) (ops : List Operation) (i : ℕ) (im after : Image) → true ≡ can_leave_in (of_images images ops) (running_in (slice_get images i)) → im ≡ get_or images i im
    → ((f : FinishRef) → standing im ≡ Some f → after ≡ past_end im f) → new ≡ slice_set images i after → leave_in (of_images images ops) i (running_in (slice_get images i)) ≡ Some (of_images new ops)
leave_makes images new ops i im after may is past set =
    let s : State = of_images images ops in
    let here = running_at images i im (leaves_runs s (running_in (slice_get images i)) may) (found_at images i im (leaves_within images ops i may) is) in
    ap (leave_in s i) here ∙ finish_left s i im after (standing im) refl (subst (λ r. true ≡ can_leave_in s r) here may) past ∙ ap (λ l. Some (of_images l ops)) (sym set)

-- a split, where it was passed at its image
pub part_makes : (images new : List Image) (ops : List Operation) (i object : ℕ) (im at after : Image) (team : Team) → Some im ≡ running_in (slice_get images i) → Some object ≡ awaited_object im.main.task.wait
    → Some team ≡ team_of_split images (last_arrival im) → at ≡ get_or images i at → after ≡ parted_image at object team → new ≡ slice_set images i after → part_in (of_images images ops) i (running_in (slice_get images i)) ≡ Some (of_images new ops)
part_makes images new ops i object im at after team runs waits found is done set =
    let s : State = of_images images ops in
    let there = running_is (slice_get images i) im (sym runs) in
    let here = found_at images i at (runs_within images i (some_runs (running_in (slice_get images i)) im runs)) is in
    let same : im ≡ at = same_some im at (sym there ∙ here) in
    ap (part_in s i) (sym runs) ∙ by_wait im.main.task.wait waits ∙ ap (λ t. parted s i im object t) (sym found)
    ∙ ap (λ x. Some (with_image s i (parted_image x object team))) same ∙ ap (λ x. Some (with_image s i x)) (sym done) ∙ ap (λ l. Some (of_images l ops)) (sym set)
  where
    by_wait : (w : Option Wait) → Some object ≡ awaited_object w → part_waiting (of_images images ops) i im w ≡ parted (of_images images ops) i im object (team_of_split images (last_arrival im))
    by_wait None h = absurd (none-some object (sym h))
    by_wait (Some awaited.Value) h = absurd (none-some object (sym h))
    by_wait (Some awaited.Done) h = absurd (none-some object (sym h))
    by_wait (Some (awaited.NewTeam o)) h = ap (λ k. parted (of_images images ops) i im k (team_of_split images (last_arrival im))) (sym (same_some object o h))

-- what a call has done at the image at a place
pub done_at : (f : Image → Did) (i : ℕ) (l : List Image) (x y : Image) (r : Result Outcome Memory) → i < length l → x ≡ get_or l i x → IfOk r (λ o. f x ≡ did y o) → IfOk r (λ o. IsDoneAt f i l (slice_set l i y) o)
done_at f i l x y (Err e) within is done = tt
done_at f i l x y (Ok o) within is done = record { before = x; after = y; found = found_at l i x within is; done = done; set = refl }

pub reached_at : (f : Image → Reached) (i : ℕ) (l : List Image) (x y : Image) (r : Result Touched Memory) → i < length l → x ≡ get_or l i x → IfOk r (λ t. f x ≡ reached y t) → IfOk r (λ t. IsReachedAt f i l (slice_set l i y) t)
reached_at f i l x y (Err e) within is done = tt
reached_at f i l x y (Ok t) within is done = record { before = x; after = y; found = found_at l i x within is; done = done; set = refl }

pub placed_at : {A : Type 0} (l : List Image) (i : ℕ) (y : Image) (r : Result A Memory) → ArePlaceable l → IfOk r (λ _. IsPlaceable y.memory) → IfOk r (λ _. ArePlaceable (slice_set l i y))
placed_at l i y (Err e) all fits = tt
placed_at l i y (Ok x) all fits = placeable_set l i y all fits

pub touched_at : (subs : List SubR) (i : ℕ) (l : List Image) (x y : Image) (op : Operation) (st : Stage) (r : Result Touched Memory) → i < length l → x ≡ get_or l i x → ArePlaceable l → IfOk r (λ t. touch subs i x op st ≡ reached y t) → IfOk r (λ _. ArePlaceable (slice_set l i y))
touched_at subs i l x y op st (Err e) within is all done = tt
touched_at subs i l x y op st (Ok t) within is all done = placeable_set l i y all (reached_fits subs i x y op st t done (placeable_at l i x all (found_at l i x within is)))

-- the first stage of an operation that is found
pub first_stage : (p : Program) (s : State) (st : Stage) (found : Option Operation) (op : Operation) → Some op ≡ found → Some st ≡ slice_get op.stages 0 → touch_found p s found ≡ touch_staged p s st op
first_stage p s st found op is first = ap (touch_found p s) (sym is) ∙ by_stages op.stages first
  where
    by_stages : (stages : List Stage) → Some st ≡ slice_get stages 0 → touch_next p s op stages ≡ touch_staged p s st op
    by_stages [] h = absurd (none-some st (sym h))
    by_stages (x ∷ rest) h = ap (λ y. touch_staged p s y op) (same_some x st (sym h))

-- an operation without a stage left
pub no_stage : (p : Program) (s : State) (found : Option Operation) (op : Operation) → Some op ≡ found → None ≡ slice_get op.stages 0 → touch_found p s found ≡ None
no_stage p s found op is none = ap (touch_found p s) (sym is) ∙ by_stages op.stages none
  where
    by_stages : (stages : List Stage) → None ≡ slice_get stages 0 → touch_next p s op stages ≡ None
    by_stages [] h = refl
    by_stages (x ∷ rest) h = absurd (none-some x h)

if_ok : {A B : Type 0} (r : Result A B) (P Q : A → Type 0) → ((x : A) → P x → Q x) → IfOk r P → IfOk r Q
if_ok (Ok x) P Q implies h = implies x h
if_ok (Err e) P Q implies h = h

-- the Step of a task as a call has made it
pub step_led : (p : Program) (subs : List SubR) (i t : ℕ) (images new : List Image) (ops after : List Operation) (clear : FenceClear) (o : Outcome) (r : Result Stepped Memory)
    → subs ≡ p.subs → true ≡ is_some (running_in (slice_get images i)) → clear ≡ clear_of ops i t → IsDoneAt (λ im. image_step subs clear i im t) i images new o → IfOk r (λ x. Makes (pending_after o ops) ops after x)
    → IfOk r (λ x. Makes (step_in p (of_images images ops) i t (running_in (slice_get images i))) (of_images images ops) (of_images new after) x)
step_led p subs i t images new ops after clear o r same runs clear_is done made =
    let done_is : IsDoneAt (λ im. image_step p.subs clear i im t) i images new o = subst (λ l. IsDoneAt (λ im. image_step l clear i im t) i images new o) same done in
    if_ok r (λ x. Makes (pending_after o ops) ops after x) (λ x. Makes (step_in p (of_images images ops) i t (running_in (slice_get images i))) (of_images images ops) (of_images new after) x)
    (λ x made_x. step_makes p i t images new ops after clear o x runs clear_is done_is made_x) made

-- the stage of an operation as a call has made it
pub touch_led : (p : Program) (subs : List SubR) (op : Operation) (st : Stage) (found : Option Operation) (i : ℕ) (images mid new : List Image) (ops after : List Operation) (t : Touched) (r : Result Stepped Memory)
    → subs ≡ p.subs → Some op ≡ found → Some st ≡ slice_get op.stages 0 → i ≡ place_of op st → true ≡ is_some (running_in (slice_get images i)) → IsReachedAt (λ im. touch subs i im op st) i images mid t
    → new ≡ images_touched t op.name.image op.task mid → IfOk r (λ x. Makes (pending_touched t op.name ops) ops after x)
    → IfOk r (λ x. Makes (touch_found p (of_images images ops) found) (of_images images ops) (of_images new after) x)
touch_led p subs op st found i images mid new ops after t r same is first at runs done answered made =
    let s : State = of_images images ops in
    let done_is : IsReachedAt (λ im. touch p.subs i im op st) i images mid t = subst (λ l. IsReachedAt (λ im. touch l i im op st) i images mid t) same done in
    let here : touch_found p s found ≡ touch_at p s i op st (running_in (slice_get images i)) =
    first_stage p s st found op is first ∙ ap (λ j. touch_at p s j op st (running_in (slice_get images j))) (sym at) in
    if_ok r (λ x. Makes (pending_touched t op.name ops) ops after x) (λ x. Makes (touch_found p s found) s (of_images new after) x)
    (λ x made_x. subst (λ f. Makes f s (of_images new after) x) (sym here) (touch_makes p op st i images mid new ops after t x runs done_is answered made_x)) made

-- a stage at an image that doesn't run
pub touch_stops : (p : Program) (op : Operation) (st : Stage) (found : Option Operation) (i : ℕ) (images : List Image) (ops : List Operation) → Some op ≡ found → Some st ≡ slice_get op.stages 0 → i ≡ place_of op st
    → false ≡ is_some (running_in (slice_get images i)) → touch_found p (of_images images ops) found ≡ None
touch_stops p op st found i images ops is first at stops =
    let s : State = of_images images ops in
    first_stage p s st found op is first ∙ ap (λ j. touch_at p s j op st (running_in (slice_get images j))) (sym at) ∙ ap (touch_at p s i op st) (none_is (running_in (slice_get images i)) stops)
  where
    none_is : (o : Option Image) → false ≡ is_some o → o ≡ None
    none_is None h = refl
    none_is (Some x) h = absurd (false≢true h)

answered_fits : (i t : ℕ) (value : Option ℤ) (images : List Image) (found : Option Image) → slice_get images i ≡ found → ArePlaceable images → ArePlaceable (answered_in i t value images found)
answered_fits i t value images None is all = all
answered_fits i t value images (Some im) is all = placeable_set images i (answered_image t value im) all (same t (placeable_at images i im all is))
  where
    same : (k : ℕ) → IsPlaceable im.memory → IsPlaceable (answered_image k value im).memory
    same zero fits = fits
    same (suc n) fits = fits

pub touched_fits : (t : Touched) (i task : ℕ) (images : List Image) → ArePlaceable images → ArePlaceable (images_touched t i task images)
touched_fits touched.Refused i task images all = all
touched_fits touched.Trapped i task images all = all
touched_fits touched.Passed i task images all = all
touched_fits (touched.Read values notice) i task images all = all
touched_fits (touched.Completed notice) i task images all = all
touched_fits (touched.Answered value) i task images all = answered_fits i task value images (slice_get images i) refl all

-- a main task that stands at no split
pub part_nowhere : (s : State) (i : ℕ) (r : Option Image) (im : Image) → Some im ≡ r → None ≡ awaited_object im.main.task.wait → part_in s i r ≡ None
part_nowhere s i r im runs waits = ap (part_in s i) (sym runs) ∙ by_wait im.main.task.wait waits
  where
    by_wait : (w : Option Wait) → None ≡ awaited_object w → part_waiting s i im w ≡ None
    by_wait None h = refl
    by_wait (Some awaited.Value) h = refl
    by_wait (Some awaited.Done) h = refl
    by_wait (Some (awaited.NewTeam o)) h = absurd (none-some o h)

-- a split at which a member hasn't arrived
pub part_early : (s : State) (i object : ℕ) (r : Option Image) (im : Image) → Some im ≡ r → Some object ≡ awaited_object im.main.task.wait → None ≡ team_of_split s.images (last_arrival im) → part_in s i r ≡ None
part_early s i object r im runs waits none = ap (part_in s i) (sym runs) ∙ by_wait im.main.task.wait waits
  where
    by_wait : (w : Option Wait) → Some object ≡ awaited_object w → part_waiting s i im w ≡ None
    by_wait None h = absurd (none-some object (sym h))
    by_wait (Some awaited.Value) h = absurd (none-some object (sym h))
    by_wait (Some awaited.Done) h = absurd (none-some object (sym h))
    by_wait (Some (awaited.NewTeam o)) h = ap (parted s i im o) (sym none)

-- an image that may not leave
pub leave_early : (s : State) (i : ℕ) (r : Option Image) → false ≡ can_leave_in s r → leave_in s i r ≡ None
leave_early s i None h = refl
leave_early s i (Some im) h = by_finish (standing im) h
  where
    by_finish : (f : Option FinishRef) → false ≡ may_leave_end s f → leave_finish s i im f ≡ None
    by_finish None k = refl
    by_finish (Some f) k = ap (λ b. if b then Some (with_image s i (past_end im f)) else None) (sym k)

-- a Step at an image that doesn't run
pub step_stops : (p : Program) (s : State) (i t : ℕ) (r : Option Image) → false ≡ is_some r → step_in p s i t r ≡ None
step_stops p s i t None h = refl
step_stops p s i t (Some im) h = absurd (false≢true h)

pub all_placeable : {A : Type 0} (r : Result A Memory) (l : List Image) → ArePlaceable l → IfOk r (λ _. ArePlaceable l)
all_placeable (Err e) l all = tt
all_placeable (Ok x) l all = all

-- the memory of an image that has its new team
pub parted_fits : (im new : Image) (object : ℕ) (team : Team) → new ≡ parted_image im object team → IsPlaceable im.memory → IsPlaceable new.memory
parted_fits im new object team done fits = subst (λ (x : Image). IsPlaceable x.memory) (sym done) (record { objects = fits.objects; aims = fits.aims })

-- a choice as a call has made it
pub choice_led : (p : Program) (s t was : State) (c d : Choice) (r : Result Stepped Memory) → c ≡ d → was ≡ s → IfOk r (λ x. Makes (next p was d) was t x) → IfOk r (λ x. Makes (next p s c) s t x)
choice_led p s t was c d r same at made =
    subst (λ x. IfOk r (λ y. Makes (next p s x) s t y)) (sym same) (subst (λ x. IfOk r (λ y. Makes (next p x d) x t y)) at made)
