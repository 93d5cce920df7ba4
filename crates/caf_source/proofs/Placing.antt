-- A stage leaves the memory of its image one that a Step can run on.
use Rattle.std.proofs.Common.{◌≡◌, ℕ, zero, suc, Bool, true, false, List, [], ◌∷◌, ◌++◌, Option, Some, None, Result, Ok, Err, ℤ, IfOk, subst, slice_get, nat_eq, nat_le, length, if◌then◌else◌}
use Rattle.std.specs.Result.{result_unwrap_or}
use Rattle.caf_base.specs.Arithmetic.{Answer}
use Rattle.caf_base.specs.declared.object.Object.{Object}
use Rattle.caf_base.specs.declared.operation.CopyOrder.{CopyOrder}
use Rattle.caf_base.specs.declared.operation.EventAt.{EventAt}
use Rattle.caf_base.specs.declared.operation.OpSpec.{OpSpec}
use Rattle.caf_base.specs.declared.operation.OpSpec.TheVariants as spec
use Rattle.caf_base.specs.declared.operation.Section.{Section}
use Rattle.caf_base.specs.declared.operation.Stage.{Stage}
use Rattle.caf_base.specs.declared.operation.Stage.TheVariants as stage
use Rattle.caf_base.specs.declared.team.FinishRef.{FinishRef}
use Rattle.caf_base.specs.declared.trap.Trap.{Trap}
use Rattle.caf_base.specs.declared.trap.Trap.TheVariants as trap
use Rattle.caf_base.specs.Element.{element_of, has_index}
use Rattle.caf_base.specs.ImageMemory.{ImageMemory}
use Rattle.caf_base.specs.Places.{bind, set_element, with_posts, with_posts_in, written, written_in}
use Rattle.caf_base.specs.Sections.{section_values, with_section, with_section_in}
use Rattle.caf_memory.specs.Bounds.{posts_of}
use Rattle.caf_pending.specs.declared.operation.Operation.{Operation}
use Rattle.caf_program.specs.declared.program.SubR.{SubR}
use Rattle.caf_source.specs.Begun.{Noticed, notice_of}
use Rattle.caf_source.specs.declared.outcome.Touched.{Touched}
use Rattle.caf_source.specs.declared.outcome.Touched.TheVariants as touched
use Rattle.caf_source.specs.declared.state.Image.{Image}
use Rattle.caf_source.specs.declared.state.Live.{Live}
use Rattle.caf_source.specs.Stages.{Reached, memory_stored, reached, reads_source, shipped_live, source_read, start_copy, starts, stored_by, takes_post, tested_in, touch, touch_copy, touch_notice, touch_read, touch_ship, touch_spec, touch_write, trapped}
use Rattle.caf_source.proofs.Noticed.{notice_memory}
use Rattle.caf_treestep.specs.Placeable.{IsPlaceable}

posts_fit_in : (m : ImageMemory) (object : ℕ) (o : Option Object) (index : ℤ) (n : ℕ) → IsPlaceable m → IsPlaceable (with_posts_in m object o index n)
posts_fit_in m object None index n fits = fits
posts_fit_in m object (Some o) index n fits = record { objects = fits.objects; aims = fits.aims }

posts_fit : (m : ImageMemory) (object : ℕ) (index : ℤ) (n : ℕ) → IsPlaceable m → IsPlaceable (with_posts m object index n)
posts_fit m object index n fits = posts_fit_in m object (slice_get m.objects object) index n fits

section_fits_in : (m : ImageMemory) (o : Option Object) (s : Section) (values : List ℤ) → IsPlaceable m → IsPlaceable (with_section_in m o s values)
section_fits_in m None s values fits = fits
section_fits_in m (Some o) s values fits = record { objects = fits.objects; aims = fits.aims }

stored_fits : (m : ImageMemory) (s : Section) (values : List ℤ) → IsPlaceable m → IsPlaceable (memory_stored m s values)
stored_fits m s values fits = go (tested_in (slice_get m.objects s.object) s.from (length values))
  where
    go : (r : Result (Unit {0}) Trap) → IsPlaceable (result_unwrap_or (bind r (λ x. Ok (with_section m s values))) m)
    go (Err t) = fits
    go (Ok x) = section_fits_in m (slice_get m.objects s.object) s values fits

written_fits_in : (m : ImageMemory) (object : ℕ) (o : Option Object) (index value : ℤ) → IsPlaceable m → IfOk (written_in m object o index value) IsPlaceable
written_fits_in m object None index value fits = tt
written_fits_in m object (Some o) index value fits = go (has_index o index)
  where
    go : (b : Bool) → IfOk (if b then Ok (set_element m object o index value) else Err trap.Index) IsPlaceable
    go true = record { objects = fits.objects; aims = fits.aims }
    go false = tt

abbrev Fits : Reached → Type 0
Fits r = IsPlaceable r.image.memory

noticed_fits : (i : ℕ) (im : Image) (fs : List FinishRef) (t : ℕ) (e : Option EventAt) → IsPlaceable im.memory → IfOk (notice_of i im fs t e) (λ (n : Noticed). IsPlaceable n.image.memory)
noticed_fits i im fs t e fits = notice_memory i im fs t e IsPlaceable fits

read_fits : (was : Image) (values : List ℤ) (r : Result Noticed Trap) → IsPlaceable was.memory → IfOk r (λ (n : Noticed). IsPlaceable n.image.memory) → Fits (source_read was values r)
read_fits was values (Err t) fits after = fits
read_fits was values (Ok n) fits after = after

source_fits : (i : ℕ) (was im : Image) (op : Operation) (o : CopyOrder) → IsPlaceable was.memory → IsPlaceable im.memory → Fits (reads_source i was im op o)
source_fits i was im op o before fits = read_fits was (section_values im.memory o.source) (notice_of i im op.finishes op.task o.srce) before (noticed_fits i im op.finishes op.task o.srce fits)

starts_fit : (i : ℕ) (was im : Image) (op : Operation) (o : CopyOrder) → IsPlaceable was.memory → IsPlaceable im.memory → Fits (starts i was im op o)
starts_fit i was im op o before fits = go (nat_eq o.source.image i)
  where
    go : (b : Bool) → Fits (if b then reads_source i was im op o else reached im touched.Passed)
    go true = source_fits i was im op o before fits
    go false = fits

post_fits : (i : ℕ) (im : Image) (op : Operation) (o : CopyOrder) (e : EventAt) (r : Result ℕ Trap) → IsPlaceable im.memory → Fits (takes_post i im op o e r)
post_fits i im op o e (Err t) fits = fits
post_fits i im op o e (Ok zero) fits = fits
post_fits i im op o e (Ok (suc posts)) fits = starts_fit i im (record im { memory = with_posts im.memory e.object e.index posts }) op o fits (posts_fit im.memory e.object e.index posts fits)

start_fits : (i : ℕ) (im : Image) (op : Operation) (o : CopyOrder) (e : Option EventAt) → IsPlaceable im.memory → Fits (start_copy i im op o e)
start_fits i im op o None fits = starts_fit i im im op o fits fits
start_fits i im op o (Some e) fits = post_fits i im op o e (posts_of im.memory e.object e.index) fits

store_fits : (was : Image) (r : Result Noticed Trap) → IsPlaceable was.memory → IfOk r (λ (n : Noticed). IsPlaceable n.image.memory) → Fits (stored_by was r)
store_fits was (Err t) fits after = fits
store_fits was (Ok n) fits after = after

copy_fits : (i : ℕ) (im : Image) (op : Operation) (o : CopyOrder) (st : Stage) → IsPlaceable im.memory → Fits (touch_copy i im op o st)
copy_fits i im op o stage.Start fits = start_fits i im op o o.pre fits
copy_fits i im op o stage.Fetch fits = source_fits i im im op o fits fits
copy_fits i im op o stage.Store fits =
    let new : Image = record im { memory = memory_stored im.memory o.dest op.values } in
    store_fits im (notice_of i new op.finishes op.task o.deste) fits (noticed_fits i new op.finishes op.task o.deste (stored_fits im.memory o.dest op.values fits))
copy_fits i im op o stage.Ship fits = fits
copy_fits i im op o stage.Notice fits = fits
copy_fits i im op o stage.Read fits = fits
copy_fits i im op o stage.Write fits = fits

ship_fits : (im : Image) (op : Operation) (f : Option SubR) (args : List ℤ) (event : Option EventAt) → IsPlaceable im.memory → Fits (touch_ship im op f args event)
ship_fits im op None args event fits = fits
ship_fits im op (Some f) args event fits = go (im.shipped ++ shipped_live (suc im.ships) op f args event ∷ []) (nat_le 4096 (length im.shipped))
  where
    go : (l : List Live) (b : Bool) → Fits (if b then trapped im trap.Tasks else reached (record im { shipped = l; ships = suc im.ships }) touched.Passed)
    go l true = fits
    go l false = fits

notice_fits : (im : Image) (e : EventAt) (r : Result ℕ Trap) → IsPlaceable im.memory → Fits (touch_notice im e r)
notice_fits im e (Err t) fits = fits
notice_fits im e (Ok posts) fits = go (nat_le 65535 posts)
  where
    go : (b : Bool) → Fits (if b then trapped im trap.Posts else reached (record im { memory = with_posts im.memory e.object e.index (suc posts) }) (touched.Completed None))
    go true = fits
    go false = posts_fit im.memory e.object e.index (suc posts) fits

answer_fits : (im : Image) (r : Answer) → IsPlaceable im.memory → Fits (touch_read im r)
answer_fits im (Err t) fits = fits
answer_fits im (Ok z) fits = fits

write_fits : (im : Image) (r : Result ImageMemory Trap) → IsPlaceable im.memory → IfOk r IsPlaceable → Fits (touch_write im r)
write_fits im (Err t) fits after = fits
write_fits im (Ok m) fits after = after

spec_fits : (subs : List SubR) (i : ℕ) (im : Image) (op : Operation) (what : OpSpec) (st : Stage) → IsPlaceable im.memory → Fits (touch_spec subs i im op what st)
spec_fits subs i im op (spec.Ship target f args event) st fits = ship_fits im op (slice_get subs f) args event fits
spec_fits subs i im op (spec.Notice e) st fits = notice_fits im e (posts_of im.memory e.object e.index) fits
spec_fits subs i im op (spec.Copy o) st fits = copy_fits i im op o st fits
spec_fits subs i im op (spec.Read c) st fits = answer_fits im (element_of im.memory.objects im.memory.cells c.object c.from) fits
spec_fits subs i im op (spec.Write c z) st fits = write_fits im (written im.memory c.object c.from z) fits (written_fits_in im.memory c.object (slice_get im.memory.objects c.object) c.from z fits)

pub touch_fits : (subs : List SubR) (i : ℕ) (im : Image) (op : Operation) (st : Stage) → IsPlaceable im.memory → Fits (touch subs i im op st)
touch_fits subs i im op st fits = spec_fits subs i im op op.spec st fits

-- the same of what a call has left
pub reached_fits : (subs : List SubR) (i : ℕ) (im new : Image) (op : Operation) (st : Stage) (t : Touched) → touch subs i im op st ≡ reached new t → IsPlaceable im.memory → IsPlaceable new.memory
reached_fits subs i im new op st t is fits = subst Fits is (touch_fits subs i im op st fits)
