-- What a choice does at an image gives the image's next number to what it begins, and else leaves its number as it was.
use Rattle.std.proofs.Common.{◌≡◌, ℕ, zero, suc, Bool, true, false, List, [], ◌∷◌, ◌++◌, Option, Some, None, Result, Ok, Err, ℤ, ap, refl, ◌∙◌, slice_get, nat_eq, nat_le, length, if◌then◌else◌}
use Rattle.caf_base.specs.Arithmetic.{Answer}
use Rattle.caf_base.specs.declared.effect.Effect.{Effect}
use Rattle.caf_base.specs.declared.effect.Effect.TheVariants as effect
use Rattle.caf_base.specs.declared.fence.FenceClear.{FenceClear}
use Rattle.caf_base.specs.declared.operation.CopyOrder.{CopyOrder}
use Rattle.caf_base.specs.declared.operation.EventAt.{EventAt}
use Rattle.caf_base.specs.declared.operation.OpSpec.{OpSpec}
use Rattle.caf_base.specs.declared.operation.OpSpec.TheVariants as spec
use Rattle.caf_base.specs.declared.operation.Stage.{Stage}
use Rattle.caf_base.specs.declared.operation.Stage.TheVariants as stage
use Rattle.caf_base.specs.declared.team.FinishRef.{FinishRef}
use Rattle.caf_base.specs.declared.trap.Trap.{Trap}
use Rattle.caf_base.specs.declared.trap.Trap.TheVariants as trap
use Rattle.caf_base.specs.Element.{element_of}
use Rattle.caf_base.specs.ImageMemory.{ImageMemory}
use Rattle.caf_base.specs.Places.{with_posts, written}
use Rattle.caf_memory.specs.Bounds.{posts_of}
use Rattle.caf_pending.specs.declared.operation.Operation.{Operation}
use Rattle.caf_program.specs.declared.program.SubR.{SubR}
use Rattle.caf_source.specs.Begun.{Noticed, is_outside, is_spent, notice_of, operation_of, with_one_more}
use Rattle.caf_source.specs.declared.outcome.Outcome.{Outcome}
use Rattle.caf_source.specs.declared.outcome.Outcome.TheVariants as outcome
use Rattle.caf_source.specs.declared.outcome.Touched.{Touched}
use Rattle.caf_source.specs.declared.outcome.Touched.TheVariants as touched
use Rattle.caf_source.specs.declared.state.Image.{Image}
use Rattle.caf_source.specs.declared.state.Live.{Live}
use Rattle.caf_source.specs.Effects.{Did, Lived, ends, image_step, live_did, live_step, lived, place_of_task, step_at_place, step_shipped, stopped}
use Rattle.caf_source.specs.Stages.{Reached, memory_stored, reached, reads_source, shipped_live, source_read, start_copy, starts, stored_by, takes_post, touch, touch_copy, touch_notice, touch_read, touch_ship, touch_spec, touch_write, trapped}
use Rattle.caf_treestep.specs.Step.{step}
use Rattle.caf_sourcelaws.specs.Named.{next_name}

-- an image that had begun so many has begun this operation, if it is one
abbrev pub Numbered : ℕ → ℕ → ℕ → Option Operation → Type 0
Numbered i before after None = after ≡ before
Numbered i before after (Some op) = (op.name ≡ next_name i before) × (after ≡ suc before)

renumbered : (i before was after : ℕ) (begun : Option Operation) → was ≡ before → Numbered i was after begun → Numbered i before after begun
renumbered i before was after None same is = is ∙ same
renumbered i before was after (Some op) same is = (is.0 ∙ ap (next_name i) same, is.1 ∙ ap suc same)

-- what a Step begins
abbrev pub begun_in : Outcome → Option Operation
begun_in outcome.Refused = None
begun_in outcome.Local = None
begun_in (outcome.Begun op) = Some op
begun_in (outcome.Ended ship notice) = notice

-- what a stage begins
abbrev pub noticed_in : Touched → Option Operation
noticed_in touched.Refused = None
noticed_in touched.Trapped = None
noticed_in touched.Passed = None
noticed_in (touched.Read values notice) = notice
noticed_in (touched.Completed notice) = notice
noticed_in (touched.Answered value) = None

abbrev IsNoticed : ℕ → Image → Result Noticed Trap → Type 0
IsNoticed i im (Err t) = Unit {0}
IsNoticed i im (Ok n) = Numbered i im.operations n.image.operations n.begun

is_noticed : (i : ℕ) (im : Image) (finishes : List FinishRef) (task : ℕ) (event : Option EventAt) → IsNoticed i im (notice_of i im finishes task event)
is_noticed i im finishes task None = refl
is_noticed i im finishes task (Some e) = go (is_spent im)
  where
    go : (b : Bool) → IsNoticed i im (if b then Err trap.Operations else Ok (record { image = with_one_more im; begun = Some (operation_of i im.operations (spec.Notice e) finishes task) }))
    go true = tt
    go false = (refl, refl)

abbrev HasLived : ℕ → Image → Lived → Type 0
HasLived i im d = Numbered i im.operations d.image.operations (begun_in d.outcome)

-- an image with the number of another
abbrev Alike : Image → Image → Type 0
Alike im after = after.operations ≡ im.operations

ends_numbered : (i : ℕ) (im after : Image) (was l : Live) (r : Result Noticed Trap) → Alike im after → IsNoticed i after r → HasLived i im (ends im was l r)
ends_numbered i im after was l (Err t) alike noticed = refl
ends_numbered i im after was l (Ok n) alike noticed = renumbered i im.operations after.operations n.image.operations n.begun alike noticed

did_numbered : (e : Effect) (i : ℕ) (im : Image) (was : Live) (after : Image) (l : Live) → Alike im after → HasLived i im (live_did e i im was after l)
did_numbered effect.Ran i im was after l alike = alike
did_numbered (effect.Ends event) i im was after l alike = ends_numbered i im after was l (notice_of i after l.finishes l.number event) alike (is_noticed i after l.finishes l.number event)
did_numbered (effect.Begins what) i im was after l alike = go (is_outside l.finishes what) (is_spent im)
  where
    go : (b c : Bool) → HasLived i im (if b then lived (stopped im trap.Outside) was outcome.Local else (if c then lived (stopped im trap.Operations) was outcome.Local else lived (with_one_more after) l (outcome.Begun (operation_of i after.operations what l.finishes l.number))))
    go true c = refl
    go false true = refl
    go false false = (ap (next_name i) alike, ap suc alike)
did_numbered (effect.Enters team) i im was after l alike = alike
did_numbered (effect.Arrives team colour key object) i im was after l alike = alike
did_numbered (effect.Blocks n) i im was after l alike = refl
did_numbered (effect.Traps t) i im was after l alike = refl

live_numbered : (subs : List SubR) (clear : FenceClear) (i : ℕ) (im : Image) (l : Live) → HasLived i im (live_step subs clear i im l)
live_numbered subs clear i im l =
    let a = step subs clear l.task im.memory in
    did_numbered a.effect i im l (record im { memory = a.memory }) (record l { task = a.task }) refl

abbrev pub HasDone : ℕ → Image → Did → Type 0
HasDone i im d = Numbered i im.operations d.image.operations (begun_in d.outcome)

shipped_numbered : (subs : List SubR) (clear : FenceClear) (i k : ℕ) (im : Image) (found : Option Live) → HasDone i im (step_shipped subs clear i im k found)
shipped_numbered subs clear i k im None = refl
shipped_numbered subs clear i k im (Some l) = live_numbered subs clear i im l

place_numbered : (subs : List SubR) (clear : FenceClear) (i : ℕ) (im : Image) (place : Option ℕ) → HasDone i im (step_at_place subs clear i im place)
place_numbered subs clear i im None = refl
place_numbered subs clear i im (Some k) = shipped_numbered subs clear i k im (slice_get im.shipped k)

pub step_numbered : (subs : List SubR) (clear : FenceClear) (i : ℕ) (im : Image) (t : ℕ) → HasDone i im (image_step subs clear i im t)
step_numbered subs clear i im zero = live_numbered subs clear i im im.main
step_numbered subs clear i im (suc n) = place_numbered subs clear i im (place_of_task (suc n) im.shipped)

abbrev pub HasReached : ℕ → Image → Reached → Type 0
HasReached i im r = Numbered i im.operations r.image.operations (noticed_in r.touched)

ship_numbered : (i : ℕ) (im : Image) (op : Operation) (f : Option SubR) (args : List ℤ) (event : Option EventAt) → HasReached i im (touch_ship im op f args event)
ship_numbered i im op None args event = refl
ship_numbered i im op (Some f) args event = go (nat_le 4096 (length im.shipped))
  where
    go : (b : Bool) → HasReached i im (if b then trapped im trap.Tasks else reached (record im { shipped = im.shipped ++ shipped_live (suc im.ships) op f args event ∷ []; ships = suc im.ships }) touched.Passed)
    go true = refl
    go false = refl

notice_numbered : (i : ℕ) (im : Image) (e : EventAt) (r : Result ℕ Trap) → HasReached i im (touch_notice im e r)
notice_numbered i im e (Err t) = refl
notice_numbered i im e (Ok posts) = go (nat_le 65535 posts)
  where
    go : (b : Bool) → HasReached i im (if b then trapped im trap.Posts else reached (record im { memory = with_posts im.memory e.object e.index (suc posts) }) (touched.Completed None))
    go true = refl
    go false = refl

read_numbered : (i : ℕ) (im after : Image) (values : List ℤ) (r : Result Noticed Trap) → Alike im after → IsNoticed i after r → HasReached i im (source_read im values r)
read_numbered i im after values (Err t) alike noticed = refl
read_numbered i im after values (Ok n) alike noticed = renumbered i im.operations after.operations n.image.operations n.begun alike noticed

reads_numbered : (i : ℕ) (im after : Image) (op : Operation) (o : CopyOrder) → Alike im after → HasReached i im (reads_source i im after op o)
reads_numbered i im after op o alike = read_numbered i im after _ (notice_of i after op.finishes op.task o.srce) alike (is_noticed i after op.finishes op.task o.srce)

starts_numbered : (i : ℕ) (im after : Image) (op : Operation) (o : CopyOrder) → Alike im after → HasReached i im (starts i im after op o)
starts_numbered i im after op o alike = go (nat_eq o.source.image i)
  where
    go : (b : Bool) → HasReached i im (if b then reads_source i im after op o else reached after touched.Passed)
    go true = reads_numbered i im after op o alike
    go false = alike

post_numbered : (i : ℕ) (im : Image) (op : Operation) (o : CopyOrder) (e : EventAt) (r : Result ℕ Trap) → HasReached i im (takes_post i im op o e r)
post_numbered i im op o e (Err t) = refl
post_numbered i im op o e (Ok zero) = refl
post_numbered i im op o e (Ok (suc posts)) = starts_numbered i im (record im { memory = with_posts im.memory e.object e.index posts }) op o refl

start_numbered : (i : ℕ) (im : Image) (op : Operation) (o : CopyOrder) (e : Option EventAt) → HasReached i im (start_copy i im op o e)
start_numbered i im op o None = starts_numbered i im im op o refl
start_numbered i im op o (Some e) = post_numbered i im op o e (posts_of im.memory e.object e.index)

stored_numbered : (i : ℕ) (im after : Image) (r : Result Noticed Trap) → Alike im after → IsNoticed i after r → HasReached i im (stored_by im r)
stored_numbered i im after (Err t) alike noticed = refl
stored_numbered i im after (Ok n) alike noticed = renumbered i im.operations after.operations n.image.operations n.begun alike noticed

copy_numbered : (i : ℕ) (im : Image) (op : Operation) (o : CopyOrder) (st : Stage) → HasReached i im (touch_copy i im op o st)
copy_numbered i im op o stage.Start = start_numbered i im op o o.pre
copy_numbered i im op o stage.Fetch = reads_numbered i im im op o refl
copy_numbered i im op o stage.Store =
    let after = record im { memory = memory_stored im.memory o.dest op.values } in
    stored_numbered i im after (notice_of i after op.finishes op.task o.deste) refl (is_noticed i after op.finishes op.task o.deste)
copy_numbered i im op o stage.Ship = refl
copy_numbered i im op o stage.Notice = refl
copy_numbered i im op o stage.Read = refl
copy_numbered i im op o stage.Write = refl

answer_numbered : (i : ℕ) (im : Image) (r : Answer) → HasReached i im (touch_read im r)
answer_numbered i im (Err t) = refl
answer_numbered i im (Ok z) = refl

write_numbered : (i : ℕ) (im : Image) (r : Result ImageMemory Trap) → HasReached i im (touch_write im r)
write_numbered i im (Err t) = refl
write_numbered i im (Ok m) = refl

spec_numbered : (subs : List SubR) (i : ℕ) (im : Image) (op : Operation) (what : OpSpec) (st : Stage) → HasReached i im (touch_spec subs i im op what st)
spec_numbered subs i im op (spec.Ship target f args event) st = ship_numbered i im op (slice_get subs f) args event
spec_numbered subs i im op (spec.Notice e) st = notice_numbered i im e (posts_of im.memory e.object e.index)
spec_numbered subs i im op (spec.Copy o) st = copy_numbered i im op o st
spec_numbered subs i im op (spec.Read c) st = answer_numbered i im (element_of im.memory.objects im.memory.cells c.object c.from)
spec_numbered subs i im op (spec.Write c z) st = write_numbered i im (written im.memory c.object c.from z)

pub touch_numbered : (subs : List SubR) (i : ℕ) (im : Image) (op : Operation) (st : Stage) → HasReached i im (touch subs i im op st)
touch_numbered subs i im op st = spec_numbered subs i im op op.spec st
