-- What a stage of an operation does at the image at which it is performed.
use Rattle.std.specs.Prelude.{ℕ, zero, suc, List, [], ◌∷◌, ◌++◌, length, nat_eq, nat_le, Option, Some, None, Result, Ok, Err, ℤ, slice_get, if◌then◌else◌}
use Rattle.std.specs.Result.{result_unwrap_or}
use Rattle.caf_base.specs.Arithmetic.{Answer}
use Rattle.caf_base.specs.declared.object.Object.{Object}
use Rattle.caf_base.specs.declared.operation.CopyOrder.{CopyOrder}
use Rattle.caf_base.specs.declared.operation.EventAt.{EventAt}
use Rattle.caf_base.specs.declared.operation.OpSpec.{OpSpec}
use Rattle.caf_base.specs.declared.operation.OpSpec.TheVariants as spec
use Rattle.caf_base.specs.declared.operation.Section.{Section}
use Rattle.caf_base.specs.declared.operation.Stage.{Stage}
use Rattle.caf_base.specs.declared.operation.Stage.TheVariants as stage
use Rattle.caf_base.specs.declared.trap.Trap.{Trap}
use Rattle.caf_base.specs.declared.trap.Trap.TheVariants as trap
use Rattle.caf_base.specs.Element.{element_of}
use Rattle.caf_base.specs.ImageMemory.{ImageMemory}
use Rattle.caf_base.specs.Places.{bind, with_posts, written}
use Rattle.caf_base.specs.Sections.{section_values, with_section}
use Rattle.caf_memory.specs.Bounds.{has_cells, posts_of, section_trap}
use Rattle.caf_pending.specs.declared.operation.Operation.{Operation}
use Rattle.caf_program.specs.declared.program.SubR.{SubR}
use Rattle.caf_source.specs.Begun.{Noticed, notice_of}
use Rattle.caf_source.specs.declared.outcome.Touched.{Touched}
use Rattle.caf_source.specs.declared.outcome.Touched.TheVariants as touched
use Rattle.caf_source.specs.declared.state.Image.{Image}
use Rattle.caf_source.specs.declared.state.Live.{Live}
use Rattle.caf_source.specs.Effects.{stopped}
use Rattle.caf_treestep.specs.Step.{shipped_task}

-- what a stage leaves of its image, and what it does beyond it
pub record Reached : Type 0 where
  pub image : Image
  pub touched : Touched

abbrev pub reached : Image → Touched → Reached
reached im t = record { image = im; touched = t }

-- a trap is recorded at the image, and nothing else changes
abbrev pub trapped : Image → Trap → Reached
trapped im t = reached (stopped im t) touched.Trapped

abbrev pub refused : Image → Reached
refused im = reached im touched.Refused

-- a stage that reads the source: the values are in hand, and the `srce` notice is begun
abbrev pub source_read : Image → List ℤ → Result Noticed Trap → Reached
source_read before values (Err t) = trapped before t
source_read before values (Ok n) = reached n.image (touched.Read values n.begun)

-- the image as it was, and as it is where a Start has taken its post
abbrev pub reads_source : ℕ → Image → Image → Operation → CopyOrder → Reached
reads_source i before im op o = source_read before (section_values im.memory o.source) (notice_of i im op.finishes op.task o.srce)

-- a Start, once its post is taken
abbrev pub starts : ℕ → Image → Image → Operation → CopyOrder → Reached
starts i before im op o = if nat_eq o.source.image i then reads_source i before im op o else reached im touched.Passed

-- An event is looked up where the stage is, as a statement looks it up: trap `Index`, which no run meets, since the
-- statement that began the operation has made that test.
abbrev pub takes_post : ℕ → Image → Operation → CopyOrder → EventAt → Result ℕ Trap → Reached
takes_post i im op o e (Err t) = trapped im t
takes_post i im op o e (Ok zero) = refused im
takes_post i im op o e (Ok (suc posts)) = starts i im (record im { memory = with_posts im.memory e.object e.index posts }) op o

-- a Start needs a post of `pre`, if it is given, and takes it
abbrev pub start_copy : ℕ → Image → Operation → CopyOrder → Option EventAt → Reached
start_copy i im op o None = starts i im im op o
start_copy i im op o (Some e) = takes_post i im op o e (posts_of im.memory e.object e.index)

abbrev pub tested_in : Option Object → ℤ → ℕ → Result (Unit {0}) Trap
tested_in None from extent = Err trap.Index
tested_in (Some o) from extent = if has_cells o.kind then section_trap (Some o) from extent else Err trap.Index

-- the memory with values in a section; trap `Index` where the section leaves its object
abbrev pub section_written : ImageMemory → Section → List ℤ → Result ImageMemory Trap
section_written m s values = bind (tested_in (slice_get m.objects s.object) s.from (length values)) (λ _. Ok (with_section m s values))

abbrev pub stored_by : Image → Result Noticed Trap → Reached
stored_by before (Err t) = trapped before t
stored_by before (Ok n) = reached n.image (touched.Completed n.begun)

-- the memory after a Store, which leaves a section outside its object as it is
abbrev pub memory_stored : ImageMemory → Section → List ℤ → ImageMemory
memory_stored m s values = result_unwrap_or (section_written m s values) m

-- a Store writes, begins the `deste` notice, and is the copy's end
abbrev pub stored : ℕ → Image → Operation → CopyOrder → Reached
stored i im op o = stored_by im (notice_of i (record im { memory = memory_stored im.memory o.dest op.values }) op.finishes op.task o.deste)

abbrev pub touch_copy : ℕ → Image → Operation → CopyOrder → Stage → Reached
touch_copy i im op o stage.Start = start_copy i im op o o.pre
touch_copy i im op o stage.Fetch = reads_source i im im op o
touch_copy i im op o stage.Store = stored i im op o
touch_copy i im op o _ = refused im

abbrev pub touch_read : Image → Answer → Reached
touch_read im (Err t) = trapped im t
touch_read im (Ok z) = reached im (touched.Answered (Some z))

abbrev pub touch_write : Image → Result ImageMemory Trap → Reached
touch_write im (Err t) = trapped im t
touch_write im (Ok m) = reached (record im { memory = m }) (touched.Answered None)

-- a post more; trap `Posts` where the event is full
abbrev pub touch_notice : Image → EventAt → Result ℕ Trap → Reached
touch_notice im e (Err t) = trapped im t
touch_notice im e (Ok posts) =
    if nat_le 65535 posts then trapped im trap.Posts
    else reached (record im { memory = with_posts im.memory e.object e.index (suc posts) }) (touched.Completed None)

-- the task of a ship that is taken
abbrev pub shipped_live : ℕ → Operation → SubR → List ℤ → Option EventAt → Live
shipped_live number op f arguments event = record { number = number; task = shipped_task f arguments event; finishes = op.finishes; ship = Some op.name }

-- a ship becomes a task, and stays pending until that task has ended; trap `Tasks` where 4,096 are live
abbrev pub touch_ship : Image → Operation → Option SubR → List ℤ → Option EventAt → Reached
touch_ship im op None arguments event = refused im
touch_ship im op (Some f) arguments event =
    if nat_le 4096 (length im.shipped) then trapped im trap.Tasks
    else reached (record im { shipped = im.shipped ++ shipped_live (suc im.ships) op f arguments event ∷ []; ships = suc im.ships }) touched.Passed

-- a stage, performed at an image
abbrev pub touch_spec : List SubR → ℕ → Image → Operation → OpSpec → Stage → Reached
touch_spec subs i im op (spec.Ship target f arguments event) st = touch_ship im op (slice_get subs f) arguments event
touch_spec subs i im op (spec.Notice e) st = touch_notice im e (posts_of im.memory e.object e.index)
touch_spec subs i im op (spec.Copy o) st = touch_copy i im op o st
touch_spec subs i im op (spec.Read c) st = touch_read im (element_of im.memory.objects im.memory.cells c.object c.from)
touch_spec subs i im op (spec.Write c z) st = touch_write im (written im.memory c.object c.from z)

abbrev pub touch : List SubR → ℕ → Image → Operation → Stage → Reached
touch subs i im op st = touch_spec subs i im op op.spec st
