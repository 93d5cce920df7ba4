-- Which choices are defined, as tests that compute, and how a state stands by them.
use Rattle.std.specs.Prelude.{ℕ, zero, suc, Bool, true, false, not, ◌&&◌, ◌||◌, List, [], ◌∷◌, nat_eq, nat_le, Option, Some, None, Result, Ok, Err, ℤ, is_some, length, slice_get, if◌then◌else◌}
use Rattle.std.specs.List.{list_any, list_all}
use Rattle.caf_base.specs.declared.fence.FenceClear.{FenceClear}
use Rattle.caf_base.specs.declared.operation.CopyOrder.{CopyOrder}
use Rattle.caf_base.specs.declared.operation.EventAt.{EventAt}
use Rattle.caf_base.specs.declared.operation.OpName.{OpName}
use Rattle.caf_base.specs.declared.operation.OpSpec.{OpSpec}
use Rattle.caf_base.specs.declared.operation.OpSpec.TheVariants as spec
use Rattle.caf_base.specs.declared.operation.Stage.{Stage}
use Rattle.caf_base.specs.declared.operation.Stage.TheVariants as stage
use Rattle.caf_base.specs.declared.summary.Ending.{Ending}
use Rattle.caf_base.specs.declared.summary.Ending.TheVariants as ending
use Rattle.caf_base.specs.declared.trap.Trap.{Trap}
use Rattle.caf_base.specs.Fence.{passes}
use Rattle.caf_base.specs.ImageMemory.{ImageMemory}
use Rattle.caf_base.specs.Places.{below, posts_at}
use Rattle.caf_history.specs.declared.arrival.Arrival.{Arrival}
use Rattle.caf_memory.specs.Bounds.{posts_of}
use Rattle.caf_pending.specs.declared.operation.Operation.{Operation}
use Rattle.caf_pending.specs.Pending.{clear_of, operation_named}
use Rattle.caf_program.specs.declared.parts.OwnEventR.{OwnEventR}
use Rattle.caf_program.specs.declared.program.SubR.{SubR}
use Rattle.caf_program.specs.declared.stmt.StmtR.{StmtR}
use Rattle.caf_program.specs.declared.stmt.StmtR.TheOpen.{StmtR-F}
use Rattle.caf_program.specs.declared.stmt.StmtR.TheViews.{out-StmtR}
use Rattle.caf_program.specs.Value.{count}
use Rattle.caf_source.specs.declared.state.Image.{Image}
use Rattle.caf_source.specs.declared.state.Live.{Live}
use Rattle.caf_source.specs.Effects.{place_of_task}
use Rattle.caf_source.specs.Next.{last_arrival, offer_in, running_in}
use Rattle.caf_source.specs.Run.{has_trapped, is_done}
use Rattle.caf_source.specs.State.{State, place_of}
use Rattle.caf_source.specs.Stepping.{can_leave_in}
use Rattle.caf_treestep.specs.declared.task.Frame.{Frame}
use Rattle.caf_treestep.specs.declared.task.Task.{Task}
use Rattle.caf_treestep.specs.declared.task.Wait.{Wait}
use Rattle.caf_treestep.specs.declared.task.Wait.TheVariants as awaited
use Rattle.caf_treestep.specs.declared.todo.Todo.{Todo}
use Rattle.caf_treestep.specs.declared.todo.Todo.TheVariants as item
use Rattle.caf_treestep.specs.Evaluated.{seen_in}
use Rattle.caf_treestep.specs.Step.{awaited_event}

abbrev pub lacks_post : ImageMemory → ℕ → Result ℤ Trap → Bool
lacks_post m object (Err t) = false
lacks_post m object (Ok i) = nat_eq (posts_at m object i) 0

-- whether an `event_wait` that has read all that it reads waits for a post
abbrev pub awaits_post : OwnEventR → Task → ImageMemory → Bool
awaits_post e t m = nat_le (count e.index) (length t.held) && lacks_post m e.object (awaited_event e 0 (seen_in m t.frame.locals t.held) m)

-- whether the next Step of a statement blocks
abbrev pub is_statement_still : StmtR-F StmtR → FenceClear → Task → ImageMemory → Bool
is_statement_still (StmtR-F.Wait line e) clear t m = awaits_post e t m
is_statement_still (StmtR-F.Cofence line down) clear t m = not (passes down clear)
is_statement_still _ clear t m = false

abbrev pub has_no_caller : List Frame → Bool
has_no_caller [] = true
has_no_caller (caller ∷ below) = false

abbrev pub is_next_still : List Todo → FenceClear → Task → ImageMemory → Bool
is_next_still [] clear t m = true
is_next_still (item.Does s ∷ rest) clear t m = is_statement_still (out-StmtR s) clear t m
is_next_still (item.Turns v step n body ∷ rest) clear t m = false
is_next_still (item.Closes ∷ rest) clear t m = true
is_next_still (item.Returns outs ∷ rest) clear t m = has_no_caller t.below
is_next_still (item.Ends ∷ rest) clear t m = false

abbrev pub is_waiting_still : Option Wait → FenceClear → Task → ImageMemory → Bool
is_waiting_still None clear t m = is_next_still t.frame.todo clear t m
is_waiting_still (Some w) clear t m = true

-- whether the next Step of a task blocks
abbrev pub is_task_still : FenceClear → Task → ImageMemory → Bool
is_task_still clear t m = is_waiting_still t.wait clear t m

abbrev pub live_in : List Live → Option ℕ → Option Live
live_in all None = None
live_in all (Some k) = slice_get all k

-- a live task of an image, by its number
abbrev pub live_at : Image → ℕ → Option Live
live_at im zero = Some im.main
live_at im (suc n) = live_in im.shipped (place_of_task (suc n) im.shipped)

abbrev pub can_step_live : State → ℕ → ℕ → Image → Option Live → Bool
can_step_live s i t im None = false
can_step_live s i t im (Some l) = not (is_task_still (clear_of s.pending i t) l.task im.memory)

abbrev pub can_step_in : State → ℕ → ℕ → Option Image → Bool
can_step_in s i t None = false
can_step_in s i t (Some im) = can_step_live s i t im (live_at im t)

-- whether a Step is defined
abbrev pub can_step : State → ℕ → ℕ → Bool
can_step s i t = can_step_in s i t (running_in (slice_get s.images i))

abbrev pub has_post_in : Result ℕ Trap → Bool
has_post_in (Err t) = true
has_post_in (Ok zero) = false
has_post_in (Ok (suc posts)) = true

abbrev pub can_start : Image → Option EventAt → Bool
can_start im None = true
can_start im (Some e) = has_post_in (posts_of im.memory e.object e.index)

abbrev pub can_copy : Image → CopyOrder → Stage → Bool
can_copy im o stage.Start = can_start im o.pre
can_copy im o stage.Fetch = true
can_copy im o stage.Store = true
can_copy im o _ = false

-- whether a stage is defined where it is performed
abbrev pub can_touch_spec : List SubR → Image → OpSpec → Stage → Bool
can_touch_spec subs im (spec.Ship target f arguments event) st = is_some (slice_get subs f)
can_touch_spec subs im (spec.Notice e) st = true
can_touch_spec subs im (spec.Copy o) st = can_copy im o st
can_touch_spec subs im (spec.Read c) st = true
can_touch_spec subs im (spec.Write c z) st = true

abbrev pub can_touch_at : List SubR → Operation → Stage → Option Image → Bool
can_touch_at subs op st None = false
can_touch_at subs op st (Some im) = can_touch_spec subs im op.spec st

abbrev pub can_touch_next : List SubR → State → Operation → List Stage → Bool
can_touch_next subs s op [] = false
can_touch_next subs s op (st ∷ rest) = can_touch_at subs op st (running_in (slice_get s.images (place_of op st)))

abbrev pub can_touch_found : List SubR → State → Option Operation → Bool
can_touch_found subs s None = false
can_touch_found subs s (Some op) = can_touch_next subs s op op.stages

-- whether the next stage of the pending operation of a name is defined
abbrev pub can_touch : List SubR → State → OpName → Bool
can_touch subs s name = can_touch_found subs s (operation_named name s.pending)

abbrev pub can_touch_named : List SubR → State → Option Operation → Bool
can_touch_named subs s None = false
can_touch_named subs s (Some op) = can_touch subs s op.name

abbrev pub has_arrived : List Image → Arrival → ℕ → Bool
has_arrived images a member = is_some (offer_in a.team a.number member (slice_get images member))

abbrev pub have_arrived : List Image → Option Arrival → Bool
have_arrived images None = false
have_arrived images (Some a) = list_all (has_arrived images a) a.team.members

abbrev pub can_part_waiting : List Image → Image → Option Wait → Bool
can_part_waiting images im (Some (awaited.NewTeam object)) = have_arrived images (last_arrival im)
can_part_waiting images im _ = false

abbrev pub can_part_in : List Image → Option Image → Bool
can_part_in images None = false
can_part_in images (Some im) = can_part_waiting images im im.main.task.wait

abbrev pub can_part : State → ℕ → Bool
can_part s i = can_part_in s.images (running_in (slice_get s.images i))

abbrev pub can_leave : State → ℕ → Bool
can_leave s i = can_leave_in s (running_in (slice_get s.images i))

abbrev pub can_step_shipped : State → ℕ → Option Image → Bool
can_step_shipped s i None = false
can_step_shipped s i (Some im) = list_any (λ (l : Live). can_step s i l.number) im.shipped

-- whether a choice of an image is defined
abbrev pub can_go_at : State → ℕ → Bool
can_go_at s i = can_step s i 0 || (can_step_shipped s i (slice_get s.images i) || (can_part s i || can_leave s i))

-- whether some choice is defined
abbrev pub can_go : List SubR → State → Bool
can_go subs s = list_any (can_go_at s) (below (length s.images)) || list_any (λ (op : Operation). can_touch subs s op.name) s.pending

abbrev pub ending_of : List SubR → State → Ending
ending_of subs s =
    if has_trapped s then ending.Trapped
    else (if is_done s then ending.Done
    else (if can_go subs s then ending.Going else ending.Stuck))
