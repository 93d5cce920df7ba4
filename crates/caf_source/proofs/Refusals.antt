-- A Step or a stage that isn't defined leaves its image as it was.
use Rattle.std.proofs.lemmas.Bool.{false≢true}
use Rattle.std.proofs.Common.{◌≡◌, ℕ, zero, suc, Bool, true, false, List, [], ◌∷◌, ◌++◌, Option, Some, None, Result, Ok, Err, ap, refl, sym, ◌∙◌, slice_get, slice_set, if◌then◌else◌, ℤ, IsTrue, nat_eq, nat_le, length}
use Rattle.caf_base.specs.Arithmetic.{Answer}
use Rattle.caf_base.specs.declared.effect.Effect.{Effect}
use Rattle.caf_base.specs.declared.effect.Effect.TheVariants as effect
use Rattle.caf_base.specs.declared.fence.FenceClear.{FenceClear}
use Rattle.caf_base.specs.declared.operation.CopyOrder.{CopyOrder}
use Rattle.caf_base.specs.declared.operation.EventAt.{EventAt}
use Rattle.caf_base.specs.declared.operation.OpSpec.{OpSpec}
use Rattle.caf_base.specs.declared.operation.OpSpec.TheVariants as spec
use Rattle.caf_base.specs.declared.operation.Stage.{Stage}
use Rattle.caf_base.specs.declared.operation.Stage.TheVariants as stage
use Rattle.caf_base.specs.declared.trap.Trap.{Trap}
use Rattle.caf_base.specs.declared.trap.Trap.TheVariants as trap
use Rattle.caf_base.specs.Element.{element_of}
use Rattle.caf_base.specs.ImageMemory.{ImageMemory}
use Rattle.caf_base.specs.Places.{with_posts, written}
use Rattle.caf_memory.specs.Bounds.{posts_of}
use Rattle.caf_pending.specs.declared.operation.Operation.{Operation}
use Rattle.caf_program.specs.declared.program.SubR.{SubR}
use Rattle.caf_source.specs.Begun.{Noticed, is_outside, is_spent, notice_of, operation_of, with_one_more}
use Rattle.caf_source.specs.declared.outcome.Outcome.{Outcome}
use Rattle.caf_source.specs.declared.outcome.Outcome.TheVariants as outcome
use Rattle.caf_source.specs.declared.outcome.Touched.{Touched}
use Rattle.caf_source.specs.declared.outcome.Touched.TheVariants as touched
use Rattle.caf_source.specs.declared.state.Image.{Image}
use Rattle.caf_source.specs.declared.state.Live.{Live}
use Rattle.caf_source.specs.Effects.{Did, Lived, ends, image_step, kept_at, live_did, live_step, lived, place_of_task, step_at_place, step_shipped, stopped}
use Rattle.caf_source.specs.Stages.{Reached, reached, reads_source, shipped_live, source_read, start_copy, starts, stored_by, takes_post, touch, touch_copy, touch_notice, touch_read, touch_ship, touch_spec, touch_write, trapped}
use Rattle.caf_treestep.specs.Step.{step}

abbrev pub is_refused : Outcome → Bool
is_refused outcome.Refused = true
is_refused _ = false

abbrev pub is_refusal : Touched → Bool
is_refusal touched.Refused = true
is_refusal _ = false

abbrev Unchanged : Image → Live → Lived → Type 0
Unchanged im was d = IsTrue (is_refused d.outcome) → (d.image ≡ im) × (d.live ≡ was)

not_refused : {A : Type 0} → false ≡ true → A
not_refused h = absurd (false≢true h)

ends_unchanged : (im : Image) (was l : Live) (r : Result Noticed Trap) → Unchanged im was (ends im was l r)
ends_unchanged im was l (Err t) h = not_refused h
ends_unchanged im was l (Ok n) h = not_refused h

did_unchanged : (e : Effect) (i : ℕ) (im : Image) (was : Live) (after : Image) (l : Live) → Unchanged im was (live_did e i im was after l)
did_unchanged effect.Ran i im was after l h = not_refused h
did_unchanged (effect.Ends event) i im was after l h = ends_unchanged im was l (notice_of i after l.finishes l.number event) h
did_unchanged (effect.Begins what) i im was after l h = go (is_outside l.finishes what) (is_spent im) h
  where
    go : (b c : Bool) → Unchanged im was (if b then lived (stopped im trap.Outside) was outcome.Local else (if c then lived (stopped im trap.Operations) was outcome.Local else lived (with_one_more after) l (outcome.Begun (operation_of i after.operations what l.finishes l.number))))
    go true c k = not_refused k
    go false true k = not_refused k
    go false false k = not_refused k
did_unchanged (effect.Enters team) i im was after l h = not_refused h
did_unchanged (effect.Arrives team colour key object) i im was after l h = not_refused h
did_unchanged (effect.Blocks n) i im was after l h = (refl, refl)
did_unchanged (effect.Traps t) i im was after l h = not_refused h

live_unchanged : (subs : List SubR) (clear : FenceClear) (i : ℕ) (im : Image) (l : Live) → Unchanged im l (live_step subs clear i im l)
live_unchanged subs clear i im l h =
    let a = step subs clear l.task im.memory in
    did_unchanged a.effect i im l (record im { memory = a.memory }) (record l { task = a.task }) h

abbrev value_or : {A : Type 0} → A → Option A → A
value_or d None = d
value_or d (Some z) = z

pub same_some : {A : Type 0} (x y : A) → Some x ≡ Some y → x ≡ y
same_some x y e = ap (value_or x) e

pub same_set : {A : Type 0} (l : List A) (i : ℕ) (x : A) → slice_get l i ≡ Some x → slice_set l i x ≡ l
same_set [] i x is = refl
same_set (y ∷ l) zero x is = ap (λ z. z ∷ l) (sym (same_some y x is))
same_set (y ∷ l) (suc i) x is = ap (λ m. y ∷ m) (same_set l i x is)

kept_same : (o : Outcome) (k : ℕ) (l : Live) (all : List Live) → IsTrue (is_refused o) → slice_get all k ≡ Some l → kept_at o k l all ≡ all
kept_same outcome.Refused k l all h is = same_set all k l is
kept_same outcome.Local k l all h is = not_refused h
kept_same (outcome.Begun op) k l all h is = not_refused h
kept_same (outcome.Ended ship notice) k l all h is = not_refused h

abbrev Stays : Image → Did → Type 0
Stays im d = IsTrue (is_refused d.outcome) → d.image ≡ im

shipped_stays : (subs : List SubR) (clear : FenceClear) (i k : ℕ) (im : Image) (found : Option Live) → slice_get im.shipped k ≡ found → Stays im (step_shipped subs clear i im k found)
shipped_stays subs clear i k im None is h = refl
shipped_stays subs clear i k im (Some l) is h =
    let d = live_step subs clear i im l in
    let same = live_unchanged subs clear i im l h in
    ap (λ (x : Live). record d.image { shipped = kept_at d.outcome k x im.shipped }) same.1
    ∙ ap (λ (y : List Live). record d.image { shipped = y }) (kept_same d.outcome k l im.shipped h is)
    ∙ ap (λ (x : Image). record x { shipped = im.shipped }) same.0

place_stays : (subs : List SubR) (clear : FenceClear) (i : ℕ) (im : Image) (place : Option ℕ) → Stays im (step_at_place subs clear i im place)
place_stays subs clear i im None h = refl
place_stays subs clear i im (Some k) h = shipped_stays subs clear i k im (slice_get im.shipped k) refl h

-- a Step that isn't defined leaves its image as it was
pub step_stays : (subs : List SubR) (clear : FenceClear) (i : ℕ) (im : Image) (t : ℕ) → Stays im (image_step subs clear i im t)
step_stays subs clear i im zero h =
    let d = live_step subs clear i im im.main in
    let same = live_unchanged subs clear i im im.main h in
    ap (λ (x : Live). record d.image { main = x }) same.1 ∙ ap (λ (x : Image). record x { main = im.main }) same.0
step_stays subs clear i im (suc n) h = place_stays subs clear i im (place_of_task (suc n) im.shipped) h

abbrev Keeps : Image → Reached → Type 0
Keeps im r = IsTrue (is_refusal r.touched) → r.image ≡ im

ship_keeps : (im : Image) (op : Operation) (f : Option SubR) (args : List ℤ) (event : Option EventAt) → Keeps im (touch_ship im op f args event)
ship_keeps im op None args event h = refl
ship_keeps im op (Some f) args event h = go (record im { shipped = im.shipped ++ shipped_live (suc im.ships) op f args event ∷ []; ships = suc im.ships }) (nat_le 4096 (length im.shipped)) h
  where
    go : (new : Image) (b : Bool) → Keeps im (if b then trapped im trap.Tasks else reached new touched.Passed)
    go new true k = not_refused k
    go new false k = not_refused k

notice_keeps : (im : Image) (e : EventAt) (r : Result ℕ Trap) → Keeps im (touch_notice im e r)
notice_keeps im e (Err t) h = not_refused h
notice_keeps im e (Ok posts) h = go (record im { memory = with_posts im.memory e.object e.index (suc posts) }) (nat_le 65535 posts) h
  where
    go : (new : Image) (b : Bool) → Keeps im (if b then trapped im trap.Posts else reached new (touched.Completed None))
    go new true k = not_refused k
    go new false k = not_refused k

read_keeps : (im was : Image) (values : List ℤ) (r : Result Noticed Trap) → Keeps im (source_read was values r)
read_keeps im was values (Err t) h = not_refused h
read_keeps im was values (Ok n) h = not_refused h

store_keeps : (im was : Image) (r : Result Noticed Trap) → Keeps im (stored_by was r)
store_keeps im was (Err t) h = not_refused h
store_keeps im was (Ok n) h = not_refused h

starts_keeps : (i : ℕ) (im after : Image) (op : Operation) (o : CopyOrder) → Keeps im (starts i im after op o)
starts_keeps i im after op o h = go (nat_eq o.source.image i) h
  where
    go : (b : Bool) → Keeps im (if b then reads_source i im after op o else reached after touched.Passed)
    go true k = read_keeps im im _ _ k
    go false k = not_refused k

post_keeps : (i : ℕ) (im : Image) (op : Operation) (o : CopyOrder) (e : EventAt) (r : Result ℕ Trap) → Keeps im (takes_post i im op o e r)
post_keeps i im op o e (Err t) h = not_refused h
post_keeps i im op o e (Ok zero) h = refl
post_keeps i im op o e (Ok (suc posts)) h = starts_keeps i im _ op o h

start_keeps : (i : ℕ) (im : Image) (op : Operation) (o : CopyOrder) (e : Option EventAt) → Keeps im (start_copy i im op o e)
start_keeps i im op o None h = starts_keeps i im im op o h
start_keeps i im op o (Some e) h = post_keeps i im op o e (posts_of im.memory e.object e.index) h

copy_keeps : (i : ℕ) (im : Image) (op : Operation) (o : CopyOrder) (st : Stage) → Keeps im (touch_copy i im op o st)
copy_keeps i im op o stage.Start h = start_keeps i im op o o.pre h
copy_keeps i im op o stage.Fetch h = read_keeps im im _ _ h
copy_keeps i im op o stage.Store h = store_keeps im im _ h
copy_keeps i im op o stage.Ship h = refl
copy_keeps i im op o stage.Notice h = refl
copy_keeps i im op o stage.Read h = refl
copy_keeps i im op o stage.Write h = refl

answer_keeps : (im : Image) (r : Answer) → Keeps im (touch_read im r)
answer_keeps im (Err t) h = not_refused h
answer_keeps im (Ok z) h = not_refused h

write_keeps : (im : Image) (r : Result ImageMemory Trap) → Keeps im (touch_write im r)
write_keeps im (Err t) h = not_refused h
write_keeps im (Ok m) h = not_refused h

spec_keeps : (subs : List SubR) (i : ℕ) (im : Image) (op : Operation) (what : OpSpec) (st : Stage) → Keeps im (touch_spec subs i im op what st)
spec_keeps subs i im op (spec.Ship target f args event) st h = ship_keeps im op (slice_get subs f) args event h
spec_keeps subs i im op (spec.Notice e) st h = notice_keeps im e (posts_of im.memory e.object e.index) h
spec_keeps subs i im op (spec.Copy o) st h = copy_keeps i im op o st h
spec_keeps subs i im op (spec.Read c) st h = answer_keeps im (element_of im.memory.objects im.memory.cells c.object c.from) h
spec_keeps subs i im op (spec.Write c z) st h = write_keeps im (written im.memory c.object c.from z) h

-- a stage that isn't defined leaves its image as it was
pub touch_keeps : (subs : List SubR) (i : ℕ) (im : Image) (op : Operation) (st : Stage) → Keeps im (touch subs i im op st)
touch_keeps subs i im op st h = spec_keeps subs i im op op.spec st h
