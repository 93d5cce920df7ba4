-- The next state of the source machine after a choice, or none where the choice isn't defined.
use Rattle.std.specs.Prelude.{ℕ, zero, suc, ◌-◌, Bool, true, false, not, ◌&&◌, ◌||◌, List, [], ◌∷◌, ◌++◌, find, Option, Some, None, ℤ, slice_get, slice_set, if◌then◌else◌}
use Rattle.std.specs.List.{list_all}
use Rattle.caf_base.specs.declared.effect.Effect.{Effect}
use Rattle.caf_base.specs.declared.operation.OpName.{OpName}
use Rattle.caf_base.specs.declared.operation.Stage.{Stage}
use Rattle.caf_base.specs.declared.team.FinishRef.{FinishRef}
use Rattle.caf_base.specs.declared.team.Team.{Team}
use Rattle.caf_base.specs.declared.trap.Trap.{Trap}
use Rattle.caf_base.specs.FinishRef.{same_name, encloses}
use Rattle.caf_base.specs.Groups.{Offer, group_of}
use Rattle.caf_base.specs.Orders.{with_team}
use Rattle.caf_history.specs.Splits.{is_split, last_of}
use Rattle.caf_history.specs.declared.arrival.Arrival.{Arrival}
use Rattle.caf_pending.specs.Pending.{clear_of, operation_named, passed_by, with_operation, without}
use Rattle.caf_pending.specs.declared.operation.Operation.{Operation}
use Rattle.caf_program.specs.declared.program.Program.{Program}
use Rattle.caf_source.specs.declared.choice.Choice.{Choice}
use Rattle.caf_source.specs.declared.choice.Choice.TheVariants as choice
use Rattle.caf_source.specs.declared.outcome.Outcome.{Outcome}
use Rattle.caf_source.specs.declared.outcome.Outcome.TheVariants as outcome
use Rattle.caf_source.specs.declared.outcome.Touched.{Touched}
use Rattle.caf_source.specs.declared.outcome.Touched.TheVariants as touched
use Rattle.caf_source.specs.declared.state.Image.{Image}
use Rattle.caf_source.specs.declared.state.Live.{Live}
use Rattle.caf_source.specs.Effects.{Did, image_step, live_did, main_did, place_of_task}
use Rattle.caf_source.specs.Stages.{Reached, touch}
use Rattle.caf_source.specs.State.{State, place_of}
use Rattle.caf_treestep.specs.declared.task.Wait.{Wait}
use Rattle.caf_treestep.specs.declared.task.Wait.TheVariants as awaited
use Rattle.caf_treestep.specs.declared.todo.Todo.{Todo}
use Rattle.caf_treestep.specs.declared.todo.Todo.TheVariants as item
use Rattle.caf_treestep.specs.Step.{answered, parted_task, past_finish, without_first}

abbrev pub with_image : State → ℕ → Image → State
with_image s i im = record s { images = slice_set s.images i im }

abbrev pub untrapped : Image → Option Trap → Option Image
untrapped im None = Some im
untrapped im (Some t) = None

-- an image that has no trap
abbrev pub running_in : Option Image → Option Image
running_in None = None
running_in (Some im) = untrapped im im.trap

-- without the ship that brought a task, if one did
abbrev pub without_ship : Option OpName → List Operation → List Operation
without_ship None ops = ops
without_ship (Some name) ops = without name ops

-- with the notice that was begun, if one was
abbrev pub with_notice : Option Operation → List Operation → List Operation
with_notice None ops = ops
with_notice (Some op) ops = with_operation op ops

-- the pending operations after a Step, or none where it isn't defined
abbrev pub pending_after : Outcome → List Operation → Option (List Operation)
pending_after outcome.Refused ops = None
pending_after outcome.Local ops = Some ops
pending_after (outcome.Begun op) ops = Some (with_operation op ops)
pending_after (outcome.Ended ship notice) ops = Some (with_notice notice (without_ship ship ops))

abbrev pub with_pending : List Image → Option (List Operation) → Option State
with_pending images None = None
with_pending images (Some ops) = Some (record { images = images; pending = ops })

abbrev pub after_did : State → ℕ → Did → Option State
after_did s i d = with_pending (slice_set s.images i d.image) (pending_after d.outcome s.pending)

-- the effect of a Step of the main task, where `im` and `l` are the image and the task as the Step leaves them
abbrev pub by_effect : Effect → State → ℕ → Image → Image → Live → Option State
by_effect e s i before im l = after_did s i (main_did (live_did e i before before.main im l))

abbrev pub step_in : Program → State → ℕ → ℕ → Option Image → Option State
step_in p s i t None = None
step_in p s i t (Some im) = after_did s i (image_step p.subs (clear_of s.pending i t) i im t)

-- the task of a blocking operation goes on, with the value of a read
abbrev pub answered_live : Option ℤ → Live → Live
answered_live value l = record l { task = answered value l.task }

abbrev pub answered_shipped : Option ℤ → List Live → ℕ → Option Live → List Live
answered_shipped value all k None = all
answered_shipped value all k (Some l) = slice_set all k (answered_live value l)

abbrev pub answered_at : Option ℤ → List Live → Option ℕ → List Live
answered_at value all None = all
answered_at value all (Some k) = answered_shipped value all k (slice_get all k)

abbrev pub answered_image : ℕ → Option ℤ → Image → Image
answered_image zero value im = record im { main = answered_live value im.main }
answered_image (suc n) value im = record im { shipped = answered_at value im.shipped (place_of_task (suc n) im.shipped) }

abbrev pub answered_in : ℕ → ℕ → Option ℤ → List Image → Option Image → List Image
answered_in i t value images None = images
answered_in i t value images (Some im) = slice_set images i (answered_image t value im)

abbrev pub answered_images : ℕ → ℕ → Option ℤ → List Image → List Image
answered_images i t value images = answered_in i t value images (slice_get images i)

-- the pending operations after a stage of the one of a name, or none where the stage isn't defined
abbrev pub pending_touched : Touched → OpName → List Operation → Option (List Operation)
pending_touched touched.Refused name ops = None
pending_touched touched.Trapped name ops = Some ops
pending_touched touched.Passed name ops = Some (passed_by None name ops)
pending_touched (touched.Read values notice) name ops = Some (with_notice notice (passed_by (Some values) name ops))
pending_touched (touched.Completed notice) name ops = Some (with_notice notice (without name ops))
pending_touched (touched.Answered value) name ops = Some (without name ops)

-- the images after it, where that of the stage is as after it, and this task of an image began the operation
abbrev pub images_touched : Touched → ℕ → ℕ → List Image → List Image
images_touched (touched.Answered value) i t images = answered_images i t value images
images_touched _ i t images = images

abbrev pub after_reached : State → ℕ → Operation → Reached → Option State
after_reached s i op r = with_pending (images_touched r.touched op.name.image op.task (slice_set s.images i r.image)) (pending_touched r.touched op.name s.pending)

abbrev pub touch_at : Program → State → ℕ → Operation → Stage → Option Image → Option State
touch_at p s i op st None = None
touch_at p s i op st (Some im) = after_reached s i op (touch p.subs i im op st)

-- this stage of a pending operation
abbrev pub touch_staged : Program → State → Stage → Operation → Option State
touch_staged p s st op = touch_at p s (place_of op st) op st (running_in (slice_get s.images (place_of op st)))

-- the next stage of an operation
abbrev pub touch_next : Program → State → Operation → List Stage → Option State
touch_next p s op [] = None
touch_next p s op (st ∷ rest) = touch_staged p s st op

-- the next stage of the operation that is found by its name
abbrev pub touch_found : Program → State → Option Operation → Option State
touch_found p s None = None
touch_found p s (Some op) = touch_next p s op op.stages

-- what a member has brought to a split, if it has arrived at it
abbrev pub offer_of : ℕ → Option Arrival → Option Offer
offer_of image None = None
offer_of image (Some a) = Some (record { image = image; colour = a.colour; key = a.key })

abbrev pub offer_in : Team → ℕ → ℕ → Option Image → Option Offer
offer_in team number image None = None
offer_in team number image (Some im) = offer_of image (find (is_split team number) im.arrived)

abbrev pub joined : Option Offer → Option (List Offer) → Option (List Offer)
joined (Some o) (Some rest) = Some (o ∷ rest)
joined _ _ = None

-- the offers of all members in the order of their ranks, or none where one hasn't arrived
abbrev pub offers_of : List Image → Team → ℕ → List ℕ → Option (List Offer)
offers_of images team number [] = Some []
offers_of images team number (image ∷ rest) = joined (offer_in team number image (slice_get images image)) (offers_of images team number rest)

abbrev pub team_by : Arrival → Option (List Offer) → Option Team
team_by a None = None
team_by a (Some offers) = Some (group_of a.team a.number offers a.colour)

-- the new team of an image that has arrived at a split, once all members have
abbrev pub team_of_split : List Image → Option Arrival → Option Team
team_of_split images None = None
team_of_split images (Some a) = team_by a (offers_of images a.team a.number a.team.members)

-- the split at which the main task of an image stands
abbrev pub last_arrival : Image → Option Arrival
last_arrival im = last_of im.arrived

-- the image once it has its new team and its main task has gone past the split
abbrev pub parted_image : Image → ℕ → Team → Image
parted_image im object team = record im { memory = with_team im.memory object team; main = record im.main { task = parted_task im.main.task } }

abbrev pub parted : State → ℕ → Image → ℕ → Option Team → Option State
parted s i im object None = None
parted s i im object (Some team) = Some (with_image s i (parted_image im object team))

abbrev pub part_waiting : State → ℕ → Image → Option Wait → Option State
part_waiting s i im (Some (awaited.NewTeam object)) = parted s i im object (team_of_split s.images (last_arrival im))
part_waiting s i im _ = None

abbrev pub part_in : State → ℕ → Option Image → Option State
part_in s i None = None
part_in s i (Some im) = part_waiting s i im im.main.task.wait

abbrev pub is_closing : List Todo → Bool
is_closing (item.Closes ∷ rest) = true
is_closing _ = false

-- whether a task waits for nothing and stands at the end of a finish
abbrev pub stands : Option Wait → List Todo → Bool
stands None todo = is_closing todo
stands (Some w) todo = false

-- the finish at whose end the main task stands
abbrev pub finish_in : Bool → List FinishRef → Option FinishRef
finish_in true (f ∷ rest) = Some f
finish_in _ _ = None

abbrev pub standing : Image → Option FinishRef
standing im = finish_in (stands im.main.task.wait im.main.task.frame.todo) im.main.finishes

abbrev pub is_finish : FinishRef → Option FinishRef → Bool
is_finish f None = false
is_finish f (Some g) = same_name f g

-- whether the main task stands at the end of the finish or has left it
abbrev pub has_come : FinishRef → Option Image → Bool
has_come f None = false
has_come f (Some im) = is_finish f (standing im) || encloses f im.left

-- no pending operation and no live shipped task has the finish in its list
abbrev pub is_quiet : State → FinishRef → Bool
is_quiet s f =
    list_all (λ (op : Operation). not (encloses f op.finishes)) s.pending
    && list_all (λ (im : Image). list_all (λ (l : Live). not (encloses f l.finishes)) im.shipped) s.images

abbrev pub may_leave : State → FinishRef → Bool
may_leave s f = list_all (λ member. has_come f (slice_get s.images member)) f.team.members && is_quiet s f

-- the image once its main task has gone past the finish at whose end it stands
abbrev pub past_end : Image → FinishRef → Image
past_end im f = record im { left = im.left ++ f ∷ []; main = record im.main { task = past_finish im.main.task; finishes = without_first im.main.finishes } }

abbrev pub leave_finish : State → ℕ → Image → Option FinishRef → Option State
leave_finish s i im None = None
leave_finish s i im (Some f) = if may_leave s f then Some (with_image s i (past_end im f)) else None

abbrev pub leave_in : State → ℕ → Option Image → Option State
leave_in s i None = None
leave_in s i (Some im) = leave_finish s i im (standing im)

-- the state after a choice
abbrev pub next : Program → State → Choice → Option State
next p s (choice.Step i t) = step_in p s i t (running_in (slice_get s.images i))
next p s (choice.Touch name) = touch_found p s (operation_named name s.pending)
next p s (choice.Part i) = part_in s i (running_in (slice_get s.images i))
next p s (choice.Leave i) = leave_in s i (running_in (slice_get s.images i))
