-- A Step of a task of the forms that run so far leaves such a task.
use Rattle.std.proofs.lemmas.Bool.{false≢true}
use Rattle.std.proofs.Common.{◌≡◌, ℕ, zero, suc, ◌-◌, List, [], ◌∷◌, ◌++◌, map, Bool, true, false, ◌&&◌, Option, None, Result, Ok, Err, ℤ, IsTrue, refl, sym, subst, nat_le, slice_get, length, if◌then◌else◌}
use Rattle.caf_base.specs.After.{After}
use Rattle.caf_base.specs.Arithmetic.{is_zero}
use Rattle.caf_base.specs.declared.effect.Effect.TheVariants as effect
use Rattle.caf_base.specs.declared.fence.FenceClear.{FenceClear}
use Rattle.caf_base.specs.declared.trap.Trap.{Trap}
use Rattle.caf_base.specs.declared.trap.Trap.TheVariants as trap
use Rattle.caf_base.specs.ImageMemory.{ImageMemory}
use Rattle.caf_base.specs.Places.{bind}
use Rattle.caf_program.specs.declared.parts.VariableR.{VariableR}
use Rattle.caf_program.specs.declared.parts.VariableR.TheVariants as variable
use Rattle.caf_program.specs.declared.program.SubR.{SubR}
use Rattle.caf_program.specs.declared.stmt.LoopVariableR.{LoopVariableR}
use Rattle.caf_program.specs.declared.stmt.StmtR.{StmtR}
use Rattle.caf_program.specs.declared.stmt.StmtR.TheFolds.{fold_out-StmtR, fold-roll-StmtR, map-StmtR}
use Rattle.caf_program.specs.declared.stmt.StmtR.TheOpen.{StmtR-F}
use Rattle.caf_program.specs.declared.stmt.StmtR.TheViews.{out-StmtR, roll-StmtR}
use Rattle.caf_program.specs.Expressions.{of_form, reads_all}
use Rattle.caf_program.specs.Value.{Read, value_at}
use Rattle.caf_source.specs.Built.{all_true, are_subs_built, built_layer, is_block_built, is_built, is_here, is_plain}
use Rattle.caf_treestep.specs.declared.argument.Argument.{Argument}
use Rattle.caf_treestep.specs.declared.task.Frame.{Frame}
use Rattle.caf_treestep.specs.declared.task.Task.{Task}
use Rattle.caf_treestep.specs.declared.todo.CopyOut.{CopyOut}
use Rattle.caf_treestep.specs.declared.todo.Todo.{Todo}
use Rattle.caf_treestep.specs.declared.todo.Todo.TheVariants as item
use Rattle.caf_treestep.specs.Evaluated.{arguments_of, outs_from}
use Rattle.caf_source.specs.Plain.{IsPlainTask, StaysPlain, is_frame_built, is_todo_built}
use Rattle.caf_treestep.specs.Step.{At, Variables, assigned, assigns, called, does, does_first, does_last, does_next, frame_of, given, goes_in, goes_on, kept, loop_begun, opened, printed, ran, returns_to, seen, step, turn_taken, turns, unless_waiting, variables, with_todo}
use Rattle.caf_treestep.specs.Task.{all_of}
use Rattle.caf_source.proofs.Both.{and_first, and_second}
use Rattle.caf_source.proofs.Last.{PastReads, holds_nothing}

both : (a b : Bool) → IsTrue a → IsTrue b → IsTrue (a && b)
both true b h k = k
both false b h k = h

-- a frame that is found is built
abbrev IsFrameBuilt : Result Frame Trap → Type 0
IsFrameBuilt (Err t) = Unit {0}
IsFrameBuilt (Ok frame) = IsTrue (is_frame_built frame)

-- a Step from here that leaves such a task
abbrev Stays : At → After Task → Type 0
Stays a x = StaysPlain x a.task a.memory

-- what is built before what is built
pub front_built : (block : List StmtR) (rest : List Todo) → IsTrue (is_block_built block) → IsTrue (all_true (map is_todo_built rest)) → IsTrue (all_true (map is_todo_built (all_of block ++ rest)))
front_built [] rest h k = k
front_built (s ∷ block) rest h k =
    both (is_built s) _ (and_first (is_built s) (is_block_built block) h) (front_built block rest (and_second (is_built s) (is_block_built block) h) k)

-- what is left of a `do` is built
turns_built : (n : ℕ) (v : LoopVariableR) (step : ℤ) (body : List StmtR) (rest : List Todo) → IsTrue (is_block_built body) → IsTrue (all_true (map is_todo_built rest)) → IsTrue (all_true (map is_todo_built (turns n v step body rest)))
turns_built zero v step body rest h k = k
turns_built (suc n) v step body rest h k = front_built body _ h (both (is_block_built body) _ h k)

-- the frame that a call finds is built
frame_built : (subs : List SubR) (f n : ℕ) (arguments : List Argument) → IsTrue (are_subs_built subs) → IsFrameBuilt (frame_of (slice_get subs f) n arguments)
frame_built [] f n arguments h = tt
frame_built (s ∷ subs) zero n arguments h = by_depth (nat_le 200 n)
  where
    by_depth : (deep : Bool) → IsFrameBuilt (if deep then Err trap.Depth else Ok (opened s arguments))
    by_depth true = tt
    by_depth false = front_built s.body (item.Returns (outs_from 0 arguments) ∷ []) (and_first (is_block_built s.body) (are_subs_built subs) h) refl
frame_built (s ∷ subs) (suc f) n arguments h = frame_built subs f n arguments (and_second (is_block_built s.body) (are_subs_built subs) h)

-- a trap leaves the task as it was
given_plain : {A : Type 0} (r : Result A Trap) (a : At) (go : A → After Task) → IsPlainTask a.task → ((x : A) → r ≡ Ok x → Stays a (go x)) → Stays a (given r a go)
given_plain (Err t) a go plain goes = record { task = plain; effect = refl; same = λ e. (refl, refl) }
given_plain (Ok x) a go plain goes = goes x refl

-- the task with this to do
todo_plain : (a : At) (todo : List Todo) → IsPlainTask a.task → IsTrue (all_true (map is_todo_built todo)) → IsPlainTask (with_todo todo a)
todo_plain a todo plain built = record { frame = built; below = plain.below; held = refl; wait = plain.wait }

ran_plain : (a : At) (m : ImageMemory) (todo : List Todo) → IsPlainTask a.task → IsTrue (all_true (map is_todo_built todo)) → Stays a (record { effect = effect.Ran; task = with_todo todo a; memory = m })
ran_plain a m todo plain built = record { task = todo_plain a todo plain built; effect = refl; same = λ e. absurd (false≢true e) }

kept_plain : (a : At) (v : Variables) (todo : List Todo) → IsPlainTask a.task → IsTrue (all_true (map is_todo_built todo)) → Stays a (kept v todo a)
kept_plain a v todo plain built = record { task = record { frame = built; below = plain.below; held = refl; wait = plain.wait }; effect = refl; same = λ e. absurd (false≢true e) }

chosen_built : (b : Bool) (block otherwise : List StmtR) → IsTrue (is_block_built block) → IsTrue (is_block_built otherwise) → IsTrue (is_block_built (if b then otherwise else block))
chosen_built true block otherwise h k = k
chosen_built false block otherwise h k = h

again_built : (b : Bool) (x y : List Todo) → IsTrue (all_true (map is_todo_built x)) → IsTrue (all_true (map is_todo_built y)) → IsTrue (all_true (map is_todo_built (if b then x else y)))
again_built true x y h k = h
again_built false x y h k = k

return_plain : (a : At) (below : List Frame) (outs : List CopyOut) → IsPlainTask a.task → IsTrue (all_true (map is_frame_built below)) → Stays a (returns_to below outs a)
return_plain a [] outs plain built = record { task = plain; effect = refl; same = λ e. (refl, refl) }
return_plain a (caller ∷ below) outs plain built =
    record { task = record { frame = and_first (is_frame_built caller) _ built; below = and_second (is_frame_built caller) _ built; held = refl; wait = plain.wait }; effect = refl; same = λ e. absurd (false≢true e) }

call_plain : (r : Result Frame Trap) (a : At) → IsFrameBuilt r → IsPlainTask a.task → IsTrue (all_true (map is_todo_built a.rest)) → Stays a (given r a (λ frame. goes_in frame a))
call_plain (Err t) a h plain rest = record { task = plain; effect = refl; same = λ e. (refl, refl) }
call_plain (Ok frame) a h plain rest = record { task = record { frame = h; below = both _ _ rest plain.below; held = refl; wait = plain.wait }; effect = refl; same = λ e. absurd (false≢true e) }

called_built : (subs : List SubR) (f n : ℕ) (r : Result (List Argument) Trap) → IsTrue (are_subs_built subs) → IsFrameBuilt (bind r (frame_of (slice_get subs f) n))
called_built subs f n (Err t) h = tt
called_built subs f n (Ok arguments) h = frame_built subs f n arguments h

-- an assignment to a variable of this image
assign_plain : (v : VariableR) (e : _) (a : At) → IsTrue (is_here v) → IsPlainTask a.task → IsTrue (all_true (map is_todo_built a.rest)) → Stays a (assigns v e a)
assign_plain (variable.Scalar o) e a here plain rest = given_plain (assigned (variable.Scalar o) e (seen a) (variables a)) a (λ v. kept v a.rest a) plain (λ v is. kept_plain a v a.rest plain rest)
assign_plain (variable.Local k) e a here plain rest = given_plain (assigned (variable.Local k) e (seen a) (variables a)) a (λ v. kept v a.rest a) plain (λ v is. kept_plain a v a.rest plain rest)
assign_plain (variable.Element o i) e a here plain rest = given_plain (assigned (variable.Element o i) e (seen a) (variables a)) a (λ v. kept v a.rest a) plain (λ v is. kept_plain a v a.rest plain rest)
assign_plain (variable.Coindexed o i p) e a here plain rest = absurd (false≢true here)
assign_plain (variable.Pointed c i) e a here plain rest = absurd (false≢true here)

-- the last Step of each form
last_plain : (subs : List SubR) (clear : FenceClear) (f : StmtR-F StmtR) (a : At) → IsTrue (are_subs_built subs) → IsTrue (built_layer (map-StmtR StmtR Bool is_built f)) → IsTrue (is_built (roll-StmtR f)) → IsPlainTask a.task → IsTrue (all_true (map is_todo_built a.rest)) → Stays a (does_last subs clear f a)
last_plain subs clear (StmtR-F.Assign line v e) a h built rolled plain rest = assign_plain v e a (and_first (is_here v) _ built) plain rest
last_plain subs clear (StmtR-F.Print line parts) a h built rolled plain rest = given_plain (printed parts (seen a) a.memory) a (λ m. ran m a) plain (λ m is. ran_plain a m a.rest plain rest)
last_plain subs clear (StmtR-F.If line e block otherwise) a h built rolled plain rest =
    let blocks = and_second (is_plain e) _ built in
    given_plain (value_at e 0 (seen a)) a (λ z. goes_on (all_of (if is_zero z then otherwise else block) ++ a.rest) a) plain
    (λ z is. ran_plain a a.memory _ plain (front_built (if is_zero z then otherwise else block) a.rest (chosen_built (is_zero z) block otherwise (and_first (is_block_built block) _ blocks) (and_second (is_block_built block) _ blocks)) rest))
last_plain subs clear (StmtR-F.Do line v first last step body) a h built rolled plain rest =
    given_plain (loop_begun v first last step (seen a) (variables a)) a (λ p. kept p.1 (turns p.0.count v p.0.step body a.rest) a) plain
    (λ p is. kept_plain a p.1 _ plain (turns_built p.0.count v p.0.step body a.rest (and_second (is_plain first && (is_plain last && is_plain step)) _ built) rest))
last_plain subs clear (StmtR-F.While line e body) a h built rolled plain rest =
    let more : List Todo = all_of body ++ (item.Does (roll-StmtR (StmtR-F.While line e body)) ∷ a.rest) in
    given_plain (value_at e 0 (seen a)) a (λ z. goes_on (if is_zero z then a.rest else more) a) plain
    (λ z is. ran_plain a a.memory _ plain (again_built (is_zero z) a.rest more rest (front_built body _ (and_second (is_plain e) _ built) (both (is_built (roll-StmtR (StmtR-F.While line e body))) _ rolled rest))))
last_plain subs clear (StmtR-F.Call line f actuals) a h built rolled plain rest =
    call_plain (called (slice_get subs f) actuals (length a.task.below) (seen a)) a (called_built subs f (length a.task.below) (arguments_of actuals 0 (seen a)) h) plain rest
last_plain subs clear (StmtR-F.Aim line c r) a h built rolled plain rest = absurd (false≢true built)
last_plain subs clear (StmtR-F.Spawn line event f actuals p) a h built rolled plain rest = absurd (false≢true built)
last_plain subs clear (StmtR-F.Notify line e) a h built rolled plain rest = absurd (false≢true built)
last_plain subs clear (StmtR-F.Wait line e) a h built rolled plain rest = absurd (false≢true built)
last_plain subs clear (StmtR-F.Copy line dest source events) a h built rolled plain rest = absurd (false≢true built)
last_plain subs clear (StmtR-F.Cofence line down) a h built rolled plain rest = absurd (false≢true built)
last_plain subs clear (StmtR-F.Split line t colour key o) a h built rolled plain rest = absurd (false≢true built)
last_plain subs clear (StmtR-F.Finish line t body) a h built rolled plain rest = absurd (false≢true built)

-- a statement of such a form
statement_plain : (subs : List SubR) (clear : FenceClear) (s : StmtR) (a : At) → PastReads → IsTrue (are_subs_built subs) → IsTrue (is_built s) → IsPlainTask a.task → IsTrue (all_true (map is_todo_built a.rest)) → Stays a (does subs clear (item.Does s) a)
statement_plain subs clear s a past h built plain rest =
    let held = length a.task.held in
    let none : slice_get (reads_all (of_form (out-StmtR s)) 0) held ≡ None = past (of_form (out-StmtR s)) 0 held (holds_nothing s held built) in
    let layered : IsTrue (built_layer (map-StmtR StmtR Bool is_built (out-StmtR s))) = subst IsTrue (fold_out-StmtR Bool built_layer s) built in
    let rolled : IsTrue (is_built (roll-StmtR (out-StmtR s))) = subst IsTrue (sym (fold-roll-StmtR Bool built_layer (out-StmtR s))) layered in
    subst (λ (x : Option Read). Stays a (does_next subs clear x (out-StmtR s) a)) (sym none) (last_plain subs clear (out-StmtR s) a h layered rolled plain rest)

does_plain : (subs : List SubR) (clear : FenceClear) (next : Todo) (a : At) → PastReads → IsTrue (are_subs_built subs) → IsTrue (is_todo_built next) → IsPlainTask a.task → IsTrue (all_true (map is_todo_built a.rest)) → Stays a (does subs clear next a)
does_plain subs clear (item.Does s) a past h built plain rest = statement_plain subs clear s a past h built plain rest
does_plain subs clear (item.Turns v step n body) a past h built plain rest =
    given_plain (turn_taken v step (seen a) (variables a)) a (λ x. kept x (turns (n - 1) v step body a.rest) a) plain (λ x is. kept_plain a x _ plain (turns_built (n - 1) v step body a.rest built rest))
does_plain subs clear item.Closes a past h built plain rest = record { task = plain; effect = refl; same = λ e. (refl, refl) }
does_plain subs clear (item.Returns outs) a past h built plain rest = return_plain a a.task.below outs plain plain.below
does_plain subs clear item.Ends a past h built plain rest = absurd (false≢true built)

first_plain : (todo : List Todo) (subs : List SubR) (clear : FenceClear) (t : Task) (m : ImageMemory) → PastReads → IsTrue (are_subs_built subs) → IsPlainTask t → IsTrue (all_true (map is_todo_built todo)) → StaysPlain (does_first todo subs clear t m) t m
first_plain [] subs clear t m past h plain built = record { task = plain; effect = refl; same = λ e. (refl, refl) }
first_plain (next ∷ rest) subs clear t m past h plain built =
    does_plain subs clear next _ past h (and_first (is_todo_built next) _ built) plain (and_second (is_todo_built next) _ built)

pub step_plain : (subs : List SubR) (clear : FenceClear) (t : Task) (m : ImageMemory) → PastReads → IsTrue (are_subs_built subs) → IsPlainTask t → StaysPlain (step subs clear t m) t m
step_plain subs clear t m past h plain =
    subst (λ w. StaysPlain (unless_waiting w subs clear t m) t m) (sym plain.wait) (first_plain t.frame.todo subs clear t m past h plain plain.frame)
