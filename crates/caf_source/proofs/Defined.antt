-- The tests of choices tell which are defined.
use Rattle.std.proofs.Common.{◌≡◌, ℕ, zero, suc, ◌≤◌, ◌<◌, ◌-◌, ◌++◌, Bool, true, false, not, ◌&&◌, List, [], ◌∷◌, Option, Some, None, Result, Ok, Err, ℤ, ap, refl, sym, ◌∙◌, is_some, slice_get, nat_eq, nat_le, length, arith, if◌then◌else◌}
use Rattle.std.specs.List.{list_all}
use Rattle.caf_base.specs.Arithmetic.{Answer, is_zero}
use Rattle.caf_base.specs.declared.effect.Effect.{Effect}
use Rattle.caf_base.specs.declared.effect.Effect.TheVariants as effect
use Rattle.caf_base.specs.declared.effect.Need.TheVariants as need
use Rattle.caf_base.specs.declared.fence.FenceClear.{FenceClear}
use Rattle.caf_base.specs.declared.operation.CopyOrder.{CopyOrder}
use Rattle.caf_base.specs.declared.operation.EventAt.{EventAt}
use Rattle.caf_base.specs.declared.operation.OpName.{OpName}
use Rattle.caf_base.specs.declared.operation.OpSpec.{OpSpec}
use Rattle.caf_base.specs.declared.operation.OpSpec.TheVariants as spec
use Rattle.caf_base.specs.declared.operation.Section.{Section}
use Rattle.caf_base.specs.declared.operation.Stage.{Stage}
use Rattle.caf_base.specs.declared.operation.Stage.TheVariants as stage
use Rattle.caf_base.specs.declared.team.FinishRef.{FinishRef}
use Rattle.caf_base.specs.declared.team.Team.{Team}
use Rattle.caf_base.specs.declared.trap.Trap.{Trap}
use Rattle.caf_base.specs.declared.trap.Trap.TheVariants as trap
use Rattle.caf_base.specs.Element.{element_of}
use Rattle.caf_base.specs.Fence.{passes}
use Rattle.caf_base.specs.Groups.{Offer}
use Rattle.caf_base.specs.ImageMemory.{ImageMemory}
use Rattle.caf_base.specs.Orders.{with_copointer}
use Rattle.caf_base.specs.Places.{posts_at, with_posts, written}
use Rattle.caf_history.specs.declared.arrival.Arrival.{Arrival}
use Rattle.caf_memory.specs.Bounds.{posts_of}
use Rattle.caf_pending.specs.declared.operation.Operation.{Operation}
use Rattle.caf_pending.specs.Pending.{clear_of}
use Rattle.caf_program.specs.declared.expr.ExprR.{ExprR}
use Rattle.caf_program.specs.declared.parts.OwnEventR.{OwnEventR}
use Rattle.caf_program.specs.declared.parts.VariableR.{VariableR}
use Rattle.caf_program.specs.declared.parts.VariableR.TheVariants as variable
use Rattle.caf_program.specs.declared.program.Program.{Program}
use Rattle.caf_program.specs.declared.program.SubR.{SubR}
use Rattle.caf_program.specs.declared.stmt.StmtR.{StmtR}
use Rattle.caf_program.specs.declared.stmt.StmtR.TheOpen.{StmtR-F}
use Rattle.caf_program.specs.declared.stmt.StmtR.TheViews.{out-StmtR, roll-StmtR}
use Rattle.caf_program.specs.Expressions.{count_all, of_form, reads_all}
use Rattle.caf_program.specs.Value.{Read, count, value_at}
use Rattle.caf_source.specs.Begun.{Noticed, is_outside, is_spent, notice_of, operation_of, with_one_more}
use Rattle.caf_source.specs.declared.outcome.Outcome.{Outcome}
use Rattle.caf_source.specs.declared.outcome.Outcome.TheVariants as outcome
use Rattle.caf_source.specs.declared.outcome.Touched.{Touched}
use Rattle.caf_source.specs.declared.outcome.Touched.TheVariants as touched
use Rattle.caf_source.specs.declared.state.Image.{Image}
use Rattle.caf_source.specs.declared.state.Live.{Live}
use Rattle.caf_source.specs.Effects.{ends, image_step, live_did, live_step, lived, place_of_task, step_at_place, step_shipped, stopped}
use Rattle.caf_source.specs.Ending.{can_copy, can_part_in, can_part_waiting, can_start, can_step_in, can_step_live, can_touch_at, can_touch_found, can_touch_next, can_touch_spec, has_arrived, has_no_caller, has_post_in, have_arrived, is_next_still, is_statement_still, is_task_still, is_waiting_still, lacks_post, live_at, live_in}
use Rattle.caf_source.specs.Next.{joined, last_arrival, leave_finish, leave_in, may_leave, offer_in, offers_of, part_in, part_waiting, parted, past_end, pending_after, pending_touched, running_in, standing, step_in, team_by, team_of_split, touch_at, touch_found, touch_next, with_image, with_pending}
use Rattle.caf_source.specs.Stages.{reached, reads_source, shipped_live, source_read, start_copy, starts, stored_by, takes_post, touch, touch_copy, touch_notice, touch_read, touch_ship, touch_spec, touch_write, trapped}
use Rattle.caf_source.specs.State.{State, place_of}
use Rattle.caf_source.specs.Stepping.{can_leave_in, may_leave_end}
use Rattle.caf_source.proofs.Blocking.{given_moves, is_block}
use Rattle.caf_source.proofs.Refusals.{is_refusal, is_refused}
use Rattle.caf_treestep.specs.declared.task.Frame.{Frame}
use Rattle.caf_treestep.specs.declared.task.Task.{Task}
use Rattle.caf_treestep.specs.declared.task.Wait.{Wait}
use Rattle.caf_treestep.specs.declared.task.Wait.TheVariants as awaited
use Rattle.caf_treestep.specs.declared.todo.CopyOut.{CopyOut}
use Rattle.caf_treestep.specs.declared.todo.Todo.{Todo}
use Rattle.caf_treestep.specs.declared.todo.Todo.TheVariants as item
use Rattle.caf_treestep.specs.Step.{At, aimed, assigned, assigns, awaited_event, awaits, blocks, called, coindexed_write, copy, does_first, does_last, does_next, does_read, given, goes_in, goes_on, kept, loop_begun, notice, pointed_write, printed, ran, read_section, reads_section, returns_to, seen, ship, split, starts as begins_op, step, team_of, turn_taken, turns, unless_waiting, variables, waits, waits_for_post, with_todo}
use Rattle.caf_treestep.specs.Task.{all_of}

-- the law of the reads of expressions
pub record ReadsAreHeld : Type 0 where
  pub listed : (es : List ExprR) (at : ℕ) → length (reads_all es at) ≡ count_all es
  pub past : (es : List ExprR) (at held : ℕ) → count_all es ≤ held → slice_get (reads_all es at) held ≡ None

awaits_move : (r : Result OpSpec Trap) (a : At) → is_block (awaits r a).effect ≡ false
awaits_move (Err t) a = refl
awaits_move (Ok what) a = refl

starts_move : (r : Result OpSpec Trap) (a : At) → is_block (begins_op r a).effect ≡ false
starts_move (Err t) a = refl
starts_move (Ok what) a = refl

assign_moves : (v : VariableR) (e : ExprR) (a : At) → is_block (assigns v e a).effect ≡ false
assign_moves (variable.Scalar o) e a = given_moves (assigned (variable.Scalar o) e (seen a) (variables a)) a (λ v. kept v a.rest a) (λ v. refl)
assign_moves (variable.Local k) e a = given_moves (assigned (variable.Local k) e (seen a) (variables a)) a (λ v. kept v a.rest a) (λ v. refl)
assign_moves (variable.Element o i) e a = given_moves (assigned (variable.Element o i) e (seen a) (variables a)) a (λ v. kept v a.rest a) (λ v. refl)
assign_moves (variable.Coindexed o i p) e a = awaits_move (coindexed_write o i p e 0 (seen a) a.memory) a
assign_moves (variable.Pointed c i) e a = awaits_move (pointed_write c i e 0 (seen a) a.memory) a

fence_blocks : (b : Bool) (a : At) → is_block (if b then ran a.memory a else blocks need.Cofence a).effect ≡ not b
fence_blocks true a = refl
fence_blocks false a = refl

suc_not : (n : ℕ) → nat_eq (suc n) 0 ≡ false
suc_not n = grind arith

post_blocks : (o : ℕ) (i : ℤ) (posts : ℕ) (a : At) → is_block (waits_for_post o i posts a).effect ≡ nat_eq posts 0
post_blocks o i zero a = refl
post_blocks o i (suc posts) a = sym (suc_not posts)

wait_blocks : (e : OwnEventR) (r : Result ℤ Trap) (a : At) → is_block (given r a (λ i. waits_for_post e.object i (posts_at a.memory e.object i) a)).effect ≡ lacks_post a.memory e.object r
wait_blocks e (Err t) a = refl
wait_blocks e (Ok i) a = post_blocks e.object i (posts_at a.memory e.object i) a

read_moves : (r : Read) (a : At) → is_block (does_read r a).effect ≡ false
read_moves r a = go (read_section r (seen a) a.memory)
  where
    go : (x : Result Section Trap) → is_block (reads_section x a).effect ≡ false
    go (Err t) = refl
    go (Ok c) = refl

-- a statement whose last Step doesn't block doesn't block at all
moves_on : (subs : List SubR) (clear : FenceClear) (f : StmtR-F StmtR) (a : At) → is_block (does_last subs clear f a).effect ≡ false → is_block (does_next subs clear (slice_get (reads_all (of_form f) 0) (length a.task.held)) f a).effect ≡ false
moves_on subs clear f a moves = by_read (slice_get (reads_all (of_form f) 0) (length a.task.held))
  where
    by_read : (r : Option Read) → is_block (does_next subs clear r f a).effect ≡ false
    by_read None = moves
    by_read (Some r) = read_moves r a

some_there : {A : Type 0} (l : List A) (k : ℕ) → k < length l → (x : A) × (slice_get l k ≡ Some x)
some_there [] k within = absurd (omega (arith, within))
some_there (x ∷ l) zero within = (x, refl)
some_there (x ∷ l) (suc k) within = some_there l k (omega (arith, within))

le_true : (m n : ℕ) → nat_le m n ≡ true → m ≤ n
le_true m n e = grind (arith, e)

le_false : (m n : ℕ) → nat_le m n ≡ false → n < m
le_false m n e = grind (arith, e)

awaited_blocks : (law : ReadsAreHeld) (subs : List SubR) (clear : FenceClear) (line : ℕ) (e : OwnEventR) (a : At)
    → is_block (does_next subs clear (slice_get (reads_all (e.index ∷ []) 0) (length a.task.held)) (StmtR-F.Wait line e) a).effect ≡ is_statement_still (StmtR-F.Wait line e) clear a.task a.memory
awaited_blocks law subs clear line e a = go (nat_le (count e.index) (length a.task.held)) refl
  where
    held : ℕ
    held = length a.task.held

    go : (b : Bool) → nat_le (count e.index) held ≡ b
        → is_block (does_next subs clear (slice_get (reads_all (e.index ∷ []) 0) held) (StmtR-F.Wait line e) a).effect ≡ (b && lacks_post a.memory e.object (awaited_event e 0 (seen a) a.memory))
    go true is =
        let none : slice_get (reads_all (e.index ∷ []) 0) held ≡ None = law.past (e.index ∷ []) 0 held (omega (arith, le_true (count e.index) held is)) in
        ap (λ (r : Option Read). is_block (does_next subs clear r (StmtR-F.Wait line e) a).effect) none ∙ wait_blocks e (awaited_event e 0 (seen a) a.memory) a
    go false is =
        let found = some_there (reads_all (e.index ∷ []) 0) held (omega (arith, law.listed (e.index ∷ []) 0, le_false (count e.index) held is)) in
        ap (λ (r : Option Read). is_block (does_next subs clear r (StmtR-F.Wait line e) a).effect) found.1 ∙ read_moves found.0 a

statement_blocks : (law : ReadsAreHeld) (subs : List SubR) (clear : FenceClear) (f : StmtR-F StmtR) (a : At)
    → is_block (does_next subs clear (slice_get (reads_all (of_form f) 0) (length a.task.held)) f a).effect ≡ is_statement_still f clear a.task a.memory
statement_blocks law subs clear (StmtR-F.Assign line v e) a = moves_on subs clear (StmtR-F.Assign line v e) a (assign_moves v e a)
statement_blocks law subs clear (StmtR-F.Aim line c r) a = moves_on subs clear (StmtR-F.Aim line c r) a (given_moves (aimed r 0 (seen a) a.memory) a (λ s. ran (with_copointer a.memory c s) a) (λ s. refl))
statement_blocks law subs clear (StmtR-F.Print line parts) a = moves_on subs clear (StmtR-F.Print line parts) a (given_moves (printed parts (seen a) a.memory) a (λ m. ran m a) (λ m. refl))
statement_blocks law subs clear (StmtR-F.If line e block otherwise) a =
    moves_on subs clear (StmtR-F.If line e block otherwise) a (given_moves (value_at e 0 (seen a)) a (λ z. goes_on (all_of (if is_zero z then otherwise else block) ++ a.rest) a) (λ z. refl))
statement_blocks law subs clear (StmtR-F.Do line v from last step body) a =
    moves_on subs clear (StmtR-F.Do line v from last step body) a (given_moves (loop_begun v from last step (seen a) (variables a)) a (λ p. kept p.1 (turns p.0.count v p.0.step body a.rest) a) (λ p. refl))
statement_blocks law subs clear (StmtR-F.While line e body) a =
    moves_on subs clear (StmtR-F.While line e body) a (given_moves (value_at e 0 (seen a)) a (λ z. goes_on (if is_zero z then a.rest else all_of body ++ (item.Does (roll-StmtR (StmtR-F.While line e body)) ∷ a.rest)) a) (λ z. refl))
statement_blocks law subs clear (StmtR-F.Call line g actuals) a =
    moves_on subs clear (StmtR-F.Call line g actuals) a (given_moves (called (slice_get subs g) actuals (length a.task.below) (seen a)) a (λ frame. goes_in frame a) (λ frame. refl))
statement_blocks law subs clear (StmtR-F.Spawn line event g actuals p) a = moves_on subs clear (StmtR-F.Spawn line event g actuals p) a (starts_move (ship event g actuals p 0 (seen a) a.memory) a)
statement_blocks law subs clear (StmtR-F.Notify line e) a = moves_on subs clear (StmtR-F.Notify line e) a (starts_move (notice e 0 (seen a) a.memory) a)
statement_blocks law subs clear (StmtR-F.Wait line e) a = awaited_blocks law subs clear line e a
statement_blocks law subs clear (StmtR-F.Copy line dest source events) a = moves_on subs clear (StmtR-F.Copy line dest source events) a (starts_move (copy dest source events 0 (seen a) a.memory) a)
statement_blocks law subs clear (StmtR-F.Cofence line class) a = fence_blocks (passes class clear) a
statement_blocks law subs clear (StmtR-F.Split line t colour key o) a =
    moves_on subs clear (StmtR-F.Split line t colour key o) a (given_moves (split t colour key 0 (seen a) a.memory) a (λ p. waits (awaited.NewTeam o) (effect.Arrives p.1.1 p.0 p.1.0 o) a) (λ p. refl))
statement_blocks law subs clear (StmtR-F.Finish line t body) a =
    moves_on subs clear (StmtR-F.Finish line t body) a (given_moves (team_of a.memory t) a (λ found. record { effect = effect.Enters found; task = with_todo (all_of body ++ (item.Closes ∷ a.rest)) a; memory = a.memory }) (λ found. refl))

return_blocks : (below : List Frame) (outs : List CopyOut) (a : At) → is_block (returns_to below outs a).effect ≡ has_no_caller below
return_blocks [] outs a = refl
return_blocks (caller ∷ below) outs a = refl

next_blocks : (law : ReadsAreHeld) (subs : List SubR) (clear : FenceClear) (todo : List Todo) (t : Task) (m : ImageMemory) → is_block (does_first todo subs clear t m).effect ≡ is_next_still todo clear t m
next_blocks law subs clear [] t m = refl
next_blocks law subs clear (item.Does s ∷ rest) t m = statement_blocks law subs clear (out-StmtR s) (record { task = t; memory = m; rest = rest })
next_blocks law subs clear (item.Turns v step n body ∷ rest) t m =
    let a : At = record { task = t; memory = m; rest = rest } in
    given_moves (turn_taken v step (seen a) (variables a)) a (λ x. kept x (turns (n - 1) v step body rest) a) (λ x. refl)
next_blocks law subs clear (item.Closes ∷ rest) t m = refl
next_blocks law subs clear (item.Returns outs ∷ rest) t m = return_blocks t.below outs (record { task = t; memory = m; rest = rest })
next_blocks law subs clear (item.Ends ∷ rest) t m = refl

waiting_blocks : (law : ReadsAreHeld) (subs : List SubR) (clear : FenceClear) (w : Option Wait) (t : Task) (m : ImageMemory) → is_block (unless_waiting w subs clear t m).effect ≡ is_waiting_still w clear t m
waiting_blocks law subs clear None t m = next_blocks law subs clear t.frame.todo t m
waiting_blocks law subs clear (Some w) t m = refl

-- a Step blocks exactly where its task is still
pub step_blocks : (law : ReadsAreHeld) (subs : List SubR) (clear : FenceClear) (t : Task) (m : ImageMemory) → is_block (step subs clear t m).effect ≡ is_task_still clear t m
step_blocks law subs clear t m = waiting_blocks law subs clear t.wait t m

ends_refused : (im : Image) (was l : Live) (r : Result Noticed Trap) → is_refused (ends im was l r).outcome ≡ false
ends_refused im was l (Err t) = refl
ends_refused im was l (Ok n) = refl

did_refused : (e : Effect) (i : ℕ) (im : Image) (was : Live) (after : Image) (l : Live) → is_refused (live_did e i im was after l).outcome ≡ is_block e
did_refused effect.Ran i im was after l = refl
did_refused (effect.Ends event) i im was after l = ends_refused im was l (notice_of i after l.finishes l.number event)
did_refused (effect.Begins what) i im was after l = go (is_outside l.finishes what) (is_spent im)
  where
    go : (b c : Bool) → is_refused (if b then lived (stopped im trap.Outside) was outcome.Local else (if c then lived (stopped im trap.Operations) was outcome.Local else lived (with_one_more after) l (outcome.Begun (operation_of i after.operations what l.finishes l.number)))).outcome ≡ false
    go true c = refl
    go false true = refl
    go false false = refl
did_refused (effect.Enters team) i im was after l = refl
did_refused (effect.Arrives team colour key object) i im was after l = refl
did_refused (effect.Blocks n) i im was after l = refl
did_refused (effect.Traps t) i im was after l = refl

live_refused : (law : ReadsAreHeld) (subs : List SubR) (clear : FenceClear) (i : ℕ) (im : Image) (l : Live) → is_refused (live_step subs clear i im l).outcome ≡ is_task_still clear l.task im.memory
live_refused law subs clear i im l =
    let a = step subs clear l.task im.memory in
    did_refused a.effect i im l (record im { memory = a.memory }) (record l { task = a.task }) ∙ step_blocks law subs clear l.task im.memory

after_some : (images : List Image) (o : Outcome) (ops : List Operation) → is_some (with_pending images (pending_after o ops)) ≡ not (is_refused o)
after_some images outcome.Refused ops = refl
after_some images outcome.Local ops = refl
after_some images (outcome.Begun op) ops = refl
after_some images (outcome.Ended ship notice) ops = refl

shipped_refused : (law : ReadsAreHeld) (p : Program) (s : State) (i t k : ℕ) (im : Image) (found : Option Live) → not (is_refused (step_shipped p.subs (clear_of s.pending i t) i im k found).outcome) ≡ can_step_live s i t im found
shipped_refused law p s i t k im None = refl
shipped_refused law p s i t k im (Some l) = ap not (live_refused law p.subs (clear_of s.pending i t) i im l)

place_refused : (law : ReadsAreHeld) (p : Program) (s : State) (i t : ℕ) (im : Image) (place : Option ℕ) → not (is_refused (step_at_place p.subs (clear_of s.pending i t) i im place).outcome) ≡ can_step_live s i t im (live_in im.shipped place)
place_refused law p s i t im None = refl
place_refused law p s i t im (Some k) = shipped_refused law p s i t k im (slice_get im.shipped k)

image_refused : (law : ReadsAreHeld) (p : Program) (s : State) (i t : ℕ) (im : Image) → not (is_refused (image_step p.subs (clear_of s.pending i t) i im t).outcome) ≡ can_step_live s i t im (live_at im t)
image_refused law p s i zero im = ap not (live_refused law p.subs (clear_of s.pending i 0) i im im.main)
image_refused law p s i (suc n) im = place_refused law p s i (suc n) im (place_of_task (suc n) im.shipped)

-- a Step is defined exactly where the test says so
pub step_defined : (law : ReadsAreHeld) (p : Program) (s : State) (i t : ℕ) (r : Option Image) → is_some (step_in p s i t r) ≡ can_step_in s i t r
step_defined law p s i t None = refl
step_defined law p s i t (Some im) = after_some _ (image_step p.subs (clear_of s.pending i t) i im t).outcome s.pending ∙ image_refused law p s i t im

reached_some : (images : List Image) (t : Touched) (name : OpName) (ops : List Operation) → is_some (with_pending images (pending_touched t name ops)) ≡ not (is_refusal t)
reached_some images touched.Refused name ops = refl
reached_some images touched.Trapped name ops = refl
reached_some images touched.Passed name ops = refl
reached_some images (touched.Read values notice) name ops = refl
reached_some images (touched.Completed notice) name ops = refl
reached_some images (touched.Answered value) name ops = refl

ship_some : (im : Image) (op : Operation) (f : Option SubR) (args : List ℤ) (event : Option EventAt) → not (is_refusal (touch_ship im op f args event).touched) ≡ is_some f
ship_some im op None args event = refl
ship_some im op (Some f) args event = go (record im { shipped = im.shipped ++ shipped_live (suc im.ships) op f args event ∷ []; ships = suc im.ships }) (nat_le 4096 (length im.shipped))
  where
    go : (new : Image) (b : Bool) → not (is_refusal (if b then trapped im trap.Tasks else reached new touched.Passed).touched) ≡ true
    go new true = refl
    go new false = refl

notice_some : (im : Image) (e : EventAt) (r : Result ℕ Trap) → not (is_refusal (touch_notice im e r).touched) ≡ true
notice_some im e (Err t) = refl
notice_some im e (Ok posts) = go (record im { memory = with_posts im.memory e.object e.index (suc posts) }) (nat_le 65535 posts)
  where
    go : (new : Image) (b : Bool) → not (is_refusal (if b then trapped im trap.Posts else reached new (touched.Completed None)).touched) ≡ true
    go new true = refl
    go new false = refl

read_some : (was : Image) (values : List ℤ) (r : Result Noticed Trap) → not (is_refusal (source_read was values r).touched) ≡ true
read_some was values (Err t) = refl
read_some was values (Ok n) = refl

store_some : (was : Image) (r : Result Noticed Trap) → not (is_refusal (stored_by was r).touched) ≡ true
store_some was (Err t) = refl
store_some was (Ok n) = refl

starts_some : (i : ℕ) (was im : Image) (op : Operation) (o : CopyOrder) → not (is_refusal (starts i was im op o).touched) ≡ true
starts_some i was im op o = go (nat_eq o.source.image i)
  where
    go : (b : Bool) → not (is_refusal (if b then reads_source i was im op o else reached im touched.Passed).touched) ≡ true
    go true = read_some was _ _
    go false = refl

post_some : (i : ℕ) (im : Image) (op : Operation) (o : CopyOrder) (e : EventAt) (r : Result ℕ Trap) → not (is_refusal (takes_post i im op o e r).touched) ≡ has_post_in r
post_some i im op o e (Err t) = refl
post_some i im op o e (Ok zero) = refl
post_some i im op o e (Ok (suc posts)) = starts_some i im _ op o

start_some : (i : ℕ) (im : Image) (op : Operation) (o : CopyOrder) (e : Option EventAt) → not (is_refusal (start_copy i im op o e).touched) ≡ can_start im e
start_some i im op o None = starts_some i im im op o
start_some i im op o (Some e) = post_some i im op o e (posts_of im.memory e.object e.index)

copy_some : (i : ℕ) (im : Image) (op : Operation) (o : CopyOrder) (st : Stage) → not (is_refusal (touch_copy i im op o st).touched) ≡ can_copy im o st
copy_some i im op o stage.Start = start_some i im op o o.pre
copy_some i im op o stage.Fetch = read_some im _ _
copy_some i im op o stage.Store = store_some im _
copy_some i im op o stage.Ship = refl
copy_some i im op o stage.Notice = refl
copy_some i im op o stage.Read = refl
copy_some i im op o stage.Write = refl

answer_some : (im : Image) (r : Answer) → not (is_refusal (touch_read im r).touched) ≡ true
answer_some im (Err t) = refl
answer_some im (Ok z) = refl

write_some : (im : Image) (r : Result ImageMemory Trap) → not (is_refusal (touch_write im r).touched) ≡ true
write_some im (Err t) = refl
write_some im (Ok m) = refl

spec_some : (subs : List SubR) (i : ℕ) (im : Image) (op : Operation) (what : OpSpec) (st : Stage) → not (is_refusal (touch_spec subs i im op what st).touched) ≡ can_touch_spec subs im what st
spec_some subs i im op (spec.Ship target f args event) st = ship_some im op (slice_get subs f) args event
spec_some subs i im op (spec.Notice e) st = notice_some im e (posts_of im.memory e.object e.index)
spec_some subs i im op (spec.Copy o) st = copy_some i im op o st
spec_some subs i im op (spec.Read c) st = answer_some im (element_of im.memory.objects im.memory.cells c.object c.from)
spec_some subs i im op (spec.Write c z) st = write_some im (written im.memory c.object c.from z)

touch_some : (p : Program) (s : State) (i : ℕ) (op : Operation) (st : Stage) (r : Option Image) → is_some (touch_at p s i op st r) ≡ can_touch_at p.subs op st r
touch_some p s i op st None = refl
touch_some p s i op st (Some im) = reached_some _ (touch p.subs i im op st).touched op.name s.pending ∙ spec_some p.subs i im op op.spec st

next_some : (p : Program) (s : State) (op : Operation) (stages : List Stage) → is_some (touch_next p s op stages) ≡ can_touch_next p.subs s op stages
next_some p s op [] = refl
next_some p s op (st ∷ rest) = touch_some p s (place_of op st) op st (running_in (slice_get s.images (place_of op st)))

-- a Touch is defined exactly where the test says so
pub touch_defined : (p : Program) (s : State) (found : Option Operation) → is_some (touch_found p s found) ≡ can_touch_found p.subs s found
touch_defined p s None = refl
touch_defined p s (Some op) = next_some p s op op.stages

joined_some : (o : Option Offer) (rest : Option (List Offer)) → is_some (joined o rest) ≡ (is_some o && is_some rest)
joined_some None rest = refl
joined_some (Some o) None = refl
joined_some (Some o) (Some rest) = refl

offers_some : (images : List Image) (a : Arrival) (members : List ℕ) → is_some (offers_of images a.team a.number members) ≡ list_all (has_arrived images a) members
offers_some images a [] = refl
offers_some images a (m ∷ rest) =
    let o = offer_in a.team a.number m (slice_get images m) in
    joined_some o (offers_of images a.team a.number rest) ∙ ap (λ b. is_some o && b) (offers_some images a rest)

team_some : (a : Arrival) (found : Option (List Offer)) → is_some (team_by a found) ≡ is_some found
team_some a None = refl
team_some a (Some offers) = refl

split_some : (images : List Image) (last : Option Arrival) → is_some (team_of_split images last) ≡ have_arrived images last
split_some images None = refl
split_some images (Some a) = team_some a (offers_of images a.team a.number a.team.members) ∙ offers_some images a a.team.members

parted_some : (s : State) (i : ℕ) (im : Image) (object : ℕ) (team : Option Team) → is_some (parted s i im object team) ≡ is_some team
parted_some s i im object None = refl
parted_some s i im object (Some team) = refl

waiting_some : (s : State) (i : ℕ) (im : Image) (w : Option Wait) → is_some (part_waiting s i im w) ≡ can_part_waiting s.images im w
waiting_some s i im None = refl
waiting_some s i im (Some awaited.Value) = refl
waiting_some s i im (Some awaited.Done) = refl
waiting_some s i im (Some (awaited.NewTeam object)) = parted_some s i im object (team_of_split s.images (last_arrival im)) ∙ split_some s.images (last_arrival im)

-- a Part is defined exactly where the test says so
pub part_defined : (s : State) (i : ℕ) (r : Option Image) → is_some (part_in s i r) ≡ can_part_in s.images r
part_defined s i None = refl
part_defined s i (Some im) = waiting_some s i im im.main.task.wait

finish_some : (s : State) (i : ℕ) (im : Image) (f : Option FinishRef) → is_some (leave_finish s i im f) ≡ may_leave_end s f
finish_some s i im None = refl
finish_some s i im (Some f) = go (may_leave s f)
  where
    go : (b : Bool) → is_some (if b then Some (with_image s i (past_end im f)) else None) ≡ b
    go true = refl
    go false = refl

-- a Leave is defined exactly where the test says so
pub leave_defined : (s : State) (i : ℕ) (r : Option Image) → is_some (leave_in s i r) ≡ can_leave_in s r
leave_defined s i None = refl
leave_defined s i (Some im) = finish_some s i im (standing im)
