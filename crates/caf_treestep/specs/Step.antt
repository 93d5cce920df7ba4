-- One Step of a task over trees.
use Rattle.std.specs.Prelude.{ℕ, zero, suc, ◌+◌, ◌-◌, map, Bool, true, false, List, [], ◌∷◌, ◌++◌, replicate, length, sum_by, nat_le, Option, Some, None, Result, Ok, Err, ℤ, pos, slice_get, slice_set, slice_index_or, if◌then◌else◌}
use Rattle.caf_base.specs.declared.trap.Trap.{Trap}
use Rattle.caf_base.specs.declared.trap.Trap.TheVariants as trap
use Rattle.caf_base.specs.declared.effect.Effect.{Effect}
use Rattle.caf_base.specs.declared.effect.Effect.TheVariants as effect
use Rattle.caf_base.specs.declared.effect.Need.{Need}
use Rattle.caf_base.specs.declared.effect.Need.TheVariants as need
use Rattle.caf_base.specs.declared.operation.OpSpec.{OpSpec}
use Rattle.caf_base.specs.declared.operation.OpSpec.TheVariants as begun
use Rattle.caf_base.specs.declared.operation.Section.{Section}
use Rattle.caf_base.specs.declared.fence.FenceClear.{FenceClear}
use Rattle.caf_base.specs.declared.operation.EventAt.{EventAt}
use Rattle.caf_base.specs.declared.team.Team.{Team}
use Rattle.caf_base.specs.declared.arithmetic.BinaryOperator.TheVariants as operator
use Rattle.caf_base.specs.Arithmetic.{Answer, is_zero, iterations, of_two}
use Rattle.caf_base.specs.ImageMemory.{ImageMemory}
use Rattle.caf_base.specs.Line.{has_room, with_line}
use Rattle.caf_base.specs.After.{After}
use Rattle.caf_base.specs.Fence.{passes}
use Rattle.caf_base.specs.Orders.{copy_order, ship_order, with_copointer, team_set}
use Rattle.caf_base.specs.Places.{bind, world, team_at, element_section, pointed_section, section_of, event_of, within, written, posts_at, with_posts}
use Rattle.caf_program.specs.Seen.{Seen, scalar, local}
use Rattle.caf_program.specs.Value.{Read, value_at, count}
use Rattle.caf_program.specs.Expressions.{count_all, reads_all, of_form, of_variable, of_section, of_done}
use Rattle.std.specs.Result.{result_unwrap_or}
use Rattle.caf_program.specs.declared.expr.TeamR.{TeamR}
use Rattle.caf_program.specs.declared.expr.TeamR.TheVariants as team
use Rattle.caf_program.specs.declared.program.SubR.{SubR}
use Rattle.caf_program.specs.declared.stmt.LoopVariableR.{LoopVariableR}
use Rattle.caf_program.specs.declared.stmt.LoopVariableR.TheVariants as loop_variable
use Rattle.caf_program.specs.declared.parts.ActualR.{ActualR}
use Rattle.caf_program.specs.declared.parts.PrintR.{PrintR}
use Rattle.caf_program.specs.declared.parts.VariableR.{VariableR}
use Rattle.caf_program.specs.declared.parts.VariableR.TheVariants as variable
use Rattle.caf_program.specs.declared.stmt.StmtR.{StmtR}
use Rattle.caf_program.specs.declared.stmt.StmtR.TheOpen.{StmtR-F}
use Rattle.caf_program.specs.declared.stmt.StmtR.TheViews.{out-StmtR, roll-StmtR}
use Rattle.caf_program.specs.declared.expr.ExprR.{ExprR}
use Rattle.caf_program.specs.declared.expr.PlaceR.{PlaceR}
use Rattle.caf_program.specs.declared.parts.CopyEventR.{CopyEventR}
use Rattle.caf_program.specs.declared.parts.EventR.{EventR}
use Rattle.caf_program.specs.declared.parts.OwnEventR.{OwnEventR}
use Rattle.caf_program.specs.declared.parts.RegionR.{RegionR}
use Rattle.caf_program.specs.declared.parts.SectionR.{SectionR}
use Rattle.caf_treestep.specs.declared.argument.Argument.{Argument}
use Rattle.caf_treestep.specs.declared.bounds.Bounds.{Bounds}
use Rattle.caf_treestep.specs.declared.task.Frame.{Frame}
use Rattle.caf_treestep.specs.declared.task.Task.{Task}
use Rattle.caf_treestep.specs.declared.task.Wait.{Wait}
use Rattle.caf_treestep.specs.declared.task.Wait.TheVariants as awaited
use Rattle.caf_treestep.specs.declared.todo.CopyOut.{CopyOut}
use Rattle.caf_treestep.specs.declared.todo.Target.{Target}
use Rattle.caf_treestep.specs.declared.todo.Target.TheVariants as target
use Rattle.caf_treestep.specs.declared.todo.Todo.{Todo}
use Rattle.caf_treestep.specs.declared.todo.Todo.TheVariants as item
use Rattle.caf_treestep.specs.Task.{all_of}
use Rattle.caf_treestep.specs.Evaluated.{seen_in, place_in, place_of, region_of, wanted_of, event_wanted, event_if, copy_events_from, arguments_of, held_by_actual, no_events, outs_from, line_text}

-- where a task stands: before something that is to do
pub record At : Type 0 where
  pub task : Task
  pub memory : ImageMemory
  -- what there is to do after it
  pub rest : List Todo

-- where a task stands, with what is to do next beside it and not in its list
abbrev pub standing : Todo → Task → ImageMemory → At
standing next t m = record { task = record t { frame = record t.frame { todo = next ∷ t.frame.todo } }; memory = m; rest = t.frame.todo }

abbrev pub seen : At → Seen
seen a = seen_in a.memory a.task.frame.locals a.task.held

-- a trap changes neither the task nor the memory
abbrev pub traps : Trap → At → After Task
traps t a = record { effect = effect.Traps t; task = a.task; memory = a.memory }

-- what it waits for isn't there, and nothing changes
abbrev pub blocks : Need → At → After Task
blocks n a = record { effect = effect.Blocks n; task = a.task; memory = a.memory }

-- goes on with what was found, or traps
abbrev pub given : {A : Type 0} → Result A Trap → At → (A → After Task) → After Task
given (Err t) a go = traps t a
given (Ok x) a go = go x

-- the task with this to do in its frame, with no value held
abbrev pub with_todo : List Todo → At → Task
with_todo todo a = record a.task { frame = record a.task.frame { todo = todo }; held = [] }

-- the statement is over, with this effect and memory
abbrev pub over : Effect → ImageMemory → At → After Task
over e m a = record { effect = e; task = with_todo a.rest a; memory = m }

abbrev pub ran : ImageMemory → At → After Task
ran m a = over effect.Ran m a

-- the statement leads on to this
abbrev pub goes_on : List Todo → At → After Task
goes_on todo a = record { effect = effect.Ran; task = with_todo todo a; memory = a.memory }

-- the statement is over but for a wait
abbrev pub waits : Wait → Effect → At → After Task
waits w e a = record { effect = e; task = record (with_todo a.rest a) { wait = Some w }; memory = a.memory }

-- what a Step may write without leaving its image: the cells of the task's frame, and the memory
pub record Variables : Type 0 where
  pub locals : List ℤ
  pub memory : ImageMemory

abbrev pub variables : At → Variables
variables a = record { locals = a.task.frame.locals; memory = a.memory }

-- a number is put into a variable of this image or a cell of the frame; trap `Index` outside the bounds
abbrev pub store : Target → ℤ → Variables → Result Variables Trap
store (target.Scalar o) z v = bind (written v.memory o (pos 1) z) (λ m. Ok (record v { memory = m }))
store (target.Local k) z v = Ok (record v { locals = slice_set v.locals k z })
store (target.Element o i) z v = bind (written v.memory o i z) (λ m. Ok (record v { memory = m }))

abbrev pub with_locals : List ℤ → Task → Task
with_locals locals t = record t { frame = record t.frame { locals = locals } }

-- these are the variables after the Step, and this is to do then
abbrev pub kept : Variables → List Todo → At → After Task
kept v todo a = record { effect = effect.Ran; task = with_locals v.locals (with_todo todo a); memory = v.memory }

abbrev pub keeps : Result Variables Trap → List Todo → At → After Task
keeps found todo a = given found a (λ v. kept v todo a)

abbrev pub team_of : ImageMemory → TeamR → Result Team Trap
team_of m team.World = Ok (world m)
team_of m (team.Object o) = team_set (team_at m o)

-- an element that is read before the statement's last Step: its subscript and rank, and the tests
abbrev pub read_section : Read → Seen → ImageMemory → Result Section Trap
read_section (Read.Coindexed o t index rank) s m = bind (index s) (λ i. bind (rank s) (λ r. element_section m o i (place_in t r)))
read_section (Read.Pointed c index) s m = bind (index s) (pointed_section m c)

-- a Step that begins a blocking read of the section, or traps
abbrev pub reads_section : Result Section Trap → At → After Task
reads_section found a = given found a (λ s. record { effect = effect.Begins (begun.Read s); task = record a.task { wait = Some awaited.Value }; memory = a.memory })

abbrev pub does_read : Read → At → After Task
does_read r a = reads_section (read_section r (seen a) a.memory) a

-- the left side of an assignment to a variable of this image or a cell of the frame, with its subscript evaluated
abbrev pub target_of : VariableR → ℕ → Seen → Result Target Trap
target_of (variable.Scalar o) at s = Ok (target.Scalar o)
target_of (variable.Local k) at s = Ok (target.Local k)
target_of (variable.Element o i) at s = bind (value_at i at s) (λ x. Ok (target.Element o x))
target_of (variable.Coindexed o i p) at s = Err trap.Rank
target_of (variable.Pointed c i) at s = Err trap.Copointer

-- whether a variable is one of this image or a cell of the frame
abbrev pub is_own : VariableR → Bool
is_own (variable.Scalar o) = true
is_own (variable.Local k) = true
is_own (variable.Element o i) = true
is_own _ = false

-- what an assignment to such a variable puts where: the left subscript, and then the right side
abbrev pub assignment_of : VariableR → ExprR → ℕ → Seen → Result (Target × ℤ) Trap
assignment_of v e at s = bind (target_of v at s) (λ t. bind (value_at e (at + count_all (of_variable v)) s) (λ z. Ok (t, z)))

-- the variables after it; the left side's tests come last
abbrev pub assigned : VariableR → ExprR → Seen → Variables → Result Variables Trap
assigned v e s vs = bind (assignment_of v e 0 s) (λ p. store p.0 p.1 vs)

-- a blocking write of an element at a place: the left subscript and rank, the right side, and the left side's tests
abbrev pub coindexed_write : ℕ → ExprR → PlaceR ExprR → ExprR → ℕ → Seen → ImageMemory → Result OpSpec Trap
coindexed_write o i p e at s m =
    bind (value_at i at s) (λ x. bind (place_of p (at + count i) s) (λ to. bind (value_at e (at + count i + count p.rank) s) (λ z.
    bind (element_section m o x to) (λ c. Ok (begun.Write c z)))))

-- the same of an element behind a copointer
abbrev pub pointed_write : ℕ → ExprR → ExprR → ℕ → Seen → ImageMemory → Result OpSpec Trap
pointed_write c i e at s m =
    bind (value_at i at s) (λ x. bind (value_at e (at + count i) s) (λ z. bind (pointed_section m c x) (λ w. Ok (begun.Write w z))))

-- a blocking operation is begun, and the statement is over but for its end
abbrev pub awaits : Result OpSpec Trap → At → After Task
awaits found a = given found a (λ what. waits awaited.Done (effect.Begins what) a)

-- an operation is begun, and the statement is over
abbrev pub starts : Result OpSpec Trap → At → After Task
starts found a = given found a (λ what. over (effect.Begins what) a.memory a)

abbrev pub assigns : VariableR → ExprR → At → After Task
assigns (variable.Coindexed o i p) e a = awaits (coindexed_write o i p e 0 (seen a) a.memory) a
assigns (variable.Pointed c i) e a = awaits (pointed_write c i e 0 (seen a) a.memory) a
assigns v e a = keeps (assigned v e (seen a) (variables a)) a.rest a

-- what is to do with these iterations left
abbrev pub turns : ℕ → LoopVariableR → ℤ → List StmtR → List Todo → List Todo
turns zero v step body rest = rest
turns (suc n) v step body rest = all_of body ++ (item.Turns v step (suc n) body ∷ rest)

abbrev pub counter : LoopVariableR → Target
counter (loop_variable.Scalar o) = target.Scalar o
counter (loop_variable.Local k) = target.Local k

abbrev pub counted : LoopVariableR → Seen → Answer
counted (loop_variable.Scalar o) s = scalar s o
counted (loop_variable.Local k) s = Ok (local s k)

-- the bounds of a `do` by its first and last number and its step; trap `Step` where the step is 0
abbrev pub bounds_by : ℤ → ℤ → ℤ → Result Bounds Trap
bounds_by m1 m2 m3 = if is_zero m3 then Err trap.Step else Ok (record { first = m1; step = m3; count = iterations m1 m2 m3 })

-- the same, where they are evaluated from the left
abbrev pub bounds_of : ExprR → ExprR → ExprR → ℕ → Seen → Result Bounds Trap
bounds_of first last step at s =
    bind (value_at first at s) (λ m1. bind (value_at last (at + count first) s) (λ m2. bind (value_at step (at + count first + count last) s) (λ m3. bounds_by m1 m2 m3)))

-- the beginning of a `do`: its bounds, and then the first number goes to its variable
abbrev pub loop_begun : LoopVariableR → ExprR → ExprR → ExprR → Seen → Variables → Result (Bounds × Variables) Trap
loop_begun v first last step s vs = bind (bounds_of first last step 0 s) (λ b. bind (store (counter v) b.first vs) (λ ws. Ok (b, ws)))

-- the end of an iteration: the step is added to the variable
abbrev pub turn_taken : LoopVariableR → ℤ → Seen → Variables → Result Variables Trap
turn_taken v step s vs = bind (counted v s) (λ now. bind (of_two operator.Add now step) (λ z. store (counter v) z vs))

-- the cells of a call's frame: the arguments, and 0 in each local
abbrev pub cells_of_call : List Argument → ℕ → List ℤ
cells_of_call arguments locals = map (λ (x : Argument). x.value) arguments ++ replicate locals (pos 0)

abbrev pub opened : SubR → List Argument → Frame
opened f arguments = record {
  locals = cells_of_call arguments (length f.locals);
  todo = all_of f.body ++ (item.Returns (outs_from 0 arguments) ∷ []);
}

-- a call opens a frame, where fewer than 200 calls are open; else trap `Depth`
abbrev pub frame_of : Option SubR → ℕ → List Argument → Result Frame Trap
frame_of None open_calls arguments = Err trap.Depth
frame_of (Some f) open_calls arguments = if nat_le 200 open_calls then Err trap.Depth else Ok (opened f arguments)

-- the frame of a call: the arguments, and then the test of its depth
abbrev pub called : Option SubR → List ActualR → ℕ → Seen → Result Frame Trap
called f actuals open_calls s = bind (arguments_of actuals 0 s) (frame_of f open_calls)

abbrev pub goes_in : Frame → At → After Task
goes_in frame a = record {
  effect = effect.Ran;
  task = record a.task { frame = frame; below = record a.task.frame { todo = a.rest } ∷ a.task.below; held = [] };
  memory = a.memory;
}

-- a number goes to a place that was fixed at the call
abbrev pub put : Target → ℤ → Variables → Variables
put t z v = result_unwrap_or (store t z v) v

-- dummies are copied out, from left to right, where these are the cells of their frame
abbrev pub copies_out : List CopyOut → List ℤ → Variables → Variables
copies_out [] cells v = v
copies_out (o ∷ rest) cells v = copies_out rest cells (put o.target (slice_index_or cells o.cell (pos 0)) v)

-- the end of a called subroutine: the caller goes on, with these variables
abbrev pub returned : Frame → List Frame → Variables → At → After Task
returned caller below v a = record {
  effect = effect.Ran;
  task = record a.task { frame = record caller { locals = v.locals }; below = below; held = [] };
  memory = v.memory;
}

abbrev pub returns_to : List Frame → List CopyOut → At → After Task
returns_to [] outs a = blocks need.Finish a
returns_to (caller ∷ below) outs a = returned caller below (copies_out outs a.task.frame.locals (record { locals = caller.locals; memory = a.memory })) a

abbrev pub waits_for_post : ℕ → ℤ → ℕ → At → After Task
waits_for_post o i zero a = blocks (need.Event o i) a
waits_for_post o i (suc posts) a = ran (with_posts a.memory o i posts) a

-- the memory with a line more; trap `Output` where it doesn't fit
abbrev pub added : ImageMemory → List ℕ → Result ImageMemory Trap
added m line = if has_room m line then Ok (with_line m line) else Err trap.Output

abbrev pub printed : List PrintR → Seen → ImageMemory → Result ImageMemory Trap
printed parts s m = bind (line_text parts 0 s) (added m)

-- the section that a copointer is aimed at
abbrev pub aimed : RegionR → ℕ → Seen → ImageMemory → Result Section Trap
aimed r at s m = bind (region_of r at s) (section_of false m)

-- the values of the arguments of a ship
abbrev pub values_of : List ActualR → ℕ → Seen → Result (List ℤ) Trap
values_of actuals at s = bind (arguments_of actuals at s) (λ arguments. Ok (map (λ (x : Argument). x.value) arguments))

-- a ship: its event, its arguments and the rank of its target, and then the tests
abbrev pub ship : Option EventR → ℕ → List ActualR → PlaceR ExprR → ℕ → Seen → ImageMemory → Result OpSpec Trap
ship event f actuals p at s m =
    bind (event_if event at s) (λ e. bind (values_of actuals (at + count_all (of_done event)) s) (λ values.
    bind (place_of p (at + count_all (of_done event) + sum_by held_by_actual actuals) s) (ship_order m f values e)))

abbrev pub notice : EventR → ℕ → Seen → ImageMemory → Result OpSpec Trap
notice e at s m = bind (event_wanted e at s) (λ w. bind (event_of m w.object w.index w.place) (λ found. Ok (begun.Notice found)))

-- a copy: all its expressions in written order, and then the tests
abbrev pub copy : SectionR → SectionR → List CopyEventR → ℕ → Seen → ImageMemory → Result OpSpec Trap
copy dest source events at s m =
    bind (wanted_of dest at s) (λ d. bind (wanted_of source (at + count_all (of_section dest)) s) (λ w.
    bind (copy_events_from events (at + count_all (of_section dest) + count_all (of_section source)) s no_events) (λ es. bind (copy_order m d w es) (λ o. Ok (begun.Copy o)))))

-- the index of the event of this image that is waited for
abbrev pub awaited_event : OwnEventR → ℕ → Seen → ImageMemory → Result ℤ Trap
awaited_event e at s m = bind (value_at e.index at s) (within (slice_get m.objects e.object))

-- what a split brings: colour, key, and the team that is split
abbrev pub split : TeamR → ExprR → ExprR → ℕ → Seen → ImageMemory → Result (ℤ × (ℤ × Team)) Trap
split t colour key at s m = bind (value_at colour at s) (λ c. bind (value_at key (at + count colour) s) (λ k. bind (team_of m t) (λ found. Ok (c, (k, found)))))

-- the last Step of a statement
abbrev pub does_last : List SubR → FenceClear → StmtR-F StmtR → At → After Task
does_last subs clear (StmtR-F.Assign line v e) a = assigns v e a
does_last subs clear (StmtR-F.Aim line c r) a = given (aimed r 0 (seen a) a.memory) a (λ s. ran (with_copointer a.memory c s) a)
does_last subs clear (StmtR-F.Print line parts) a = given (printed parts (seen a) a.memory) a (λ m. ran m a)
does_last subs clear (StmtR-F.If line e block otherwise) a = given (value_at e 0 (seen a)) a (λ z. goes_on (all_of (if is_zero z then otherwise else block) ++ a.rest) a)
does_last subs clear (StmtR-F.Do line v first last step body) a =
    given (loop_begun v first last step (seen a) (variables a)) a (λ p. kept p.1 (turns p.0.count v p.0.step body a.rest) a)
does_last subs clear (StmtR-F.While line e body) a =
    given (value_at e 0 (seen a)) a (λ z. goes_on (if is_zero z then a.rest else all_of body ++ (item.Does (roll-StmtR (StmtR-F.While line e body)) ∷ a.rest)) a)
does_last subs clear (StmtR-F.Call line f actuals) a = given (called (slice_get subs f) actuals (length a.task.below) (seen a)) a (λ frame. goes_in frame a)
does_last subs clear (StmtR-F.Spawn line event f actuals p) a = starts (ship event f actuals p 0 (seen a) a.memory) a
does_last subs clear (StmtR-F.Notify line e) a = starts (notice e 0 (seen a) a.memory) a
does_last subs clear (StmtR-F.Wait line e) a = given (awaited_event e 0 (seen a) a.memory) a (λ i. waits_for_post e.object i (posts_at a.memory e.object i) a)
does_last subs clear (StmtR-F.Copy line dest source events) a = starts (copy dest source events 0 (seen a) a.memory) a
does_last subs clear (StmtR-F.Cofence line class) a = if passes class clear then ran a.memory a else blocks need.Cofence a
does_last subs clear (StmtR-F.Split line t colour key o) a =
    given (split t colour key 0 (seen a) a.memory) a (λ p. waits (awaited.NewTeam o) (effect.Arrives p.1.1 p.0 p.1.0 o) a)
does_last subs clear (StmtR-F.Finish line t body) a =
    given (team_of a.memory t) a (λ found. record { effect = effect.Enters found; task = with_todo (all_of body ++ (item.Closes ∷ a.rest)) a; memory = a.memory })

-- the next read of a statement, or its last Step
abbrev pub does_next : List SubR → FenceClear → Option Read → StmtR-F StmtR → At → After Task
does_next subs clear (Some r) s a = does_read r a
does_next subs clear None s a = does_last subs clear s a

-- the end of an iteration of a loop, with one less left
abbrev pub turned : ℕ → LoopVariableR → ℤ → List StmtR → At → After Task
turned n v step body a = keeps (turn_taken v step (seen a) (variables a)) (turns (n - 1) v step body a.rest) a

abbrev pub does : List SubR → FenceClear → Todo → At → After Task
does subs clear (item.Does s) a = does_next subs clear (slice_get (reads_all (of_form (out-StmtR s)) 0) (length a.task.held)) (out-StmtR s) a
does subs clear (item.Turns v step n body) a = turned n v step body a
does subs clear item.Closes a = blocks need.Finish a
does subs clear (item.Returns outs) a = returns_to a.task.below outs a
does subs clear item.Ends a = over (effect.Ends a.task.done) a.memory a

abbrev pub does_first : List Todo → List SubR → FenceClear → Task → ImageMemory → After Task
does_first [] subs clear t m = record { effect = effect.Blocks need.Finish; task = t; memory = m }
does_first (first ∷ rest) subs clear t m = does subs clear first (record { task = t; memory = m; rest = rest })

abbrev pub need_of : Wait → Need
need_of awaited.Value = need.Operation
need_of awaited.Done = need.Operation
need_of (awaited.NewTeam o) = need.Split

abbrev pub unless_waiting : Option Wait → List SubR → FenceClear → Task → ImageMemory → After Task
unless_waiting (Some w) subs clear t m = record { effect = effect.Blocks (need_of w); task = t; memory = m }
unless_waiting None subs clear t m = does_first t.frame.todo subs clear t m

-- one Step of a task, where these are the program's subroutines
abbrev pub step : List SubR → FenceClear → Task → ImageMemory → After Task
step subs clear t m = unless_waiting t.wait subs clear t m

-- the wait of a task is over: for a blocking read with its value
abbrev pub with_held : Option ℤ → List ℤ → List ℤ
with_held None held = held
with_held (Some z) held = held ++ z ∷ []

abbrev pub answered : Option ℤ → Task → Task
answered value t = record t { wait = None; held = with_held value t.held }

abbrev pub without_first : {A : Type 0} → List A → List A
without_first [] = []
without_first (first ∷ rest) = rest

-- the task goes past the end of a finish
abbrev pub past_finish : Task → Task
past_finish t = record t { frame = record t.frame { todo = without_first t.frame.todo } }

-- the task goes past its split
abbrev pub parted_task : Task → Task
parted_task t = record t { wait = None }

abbrev pub main_task : List StmtR → Task
main_task body = record { frame = record { locals = []; todo = all_of body ++ (item.Closes ∷ []) }; below = []; held = []; wait = None; done = None }

abbrev pub shipped_task : SubR → List ℤ → Option EventAt → Task
shipped_task f arguments done = record {
  frame = record { locals = arguments ++ replicate (length f.locals) (pos 0); todo = all_of f.body ++ (item.Ends ∷ []) };
  below = [];
  held = [];
  wait = None;
  done = done;
}
