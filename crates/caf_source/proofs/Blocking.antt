-- Where a task of the forms that run so far blocks, and how its state stands.
use Rattle.std.proofs.lemmas.Bool.{false≢true}
use Rattle.std.proofs.Common.{◌≡◌, ◌-◌, List, [], ◌∷◌, ◌++◌, Bool, true, false, Option, None, Result, Ok, Err, IsTrue, refl, sym, ap, subst, ◌∙◌, map, length, slice_get, if◌then◌else◌}
use Rattle.caf_base.specs.After.{After}
use Rattle.caf_base.specs.Arithmetic.{is_zero}
use Rattle.caf_base.specs.declared.effect.Effect.{Effect}
use Rattle.caf_base.specs.declared.effect.Effect.TheVariants as effect
use Rattle.caf_base.specs.declared.fence.FenceClear.{FenceClear}
use Rattle.caf_base.specs.declared.trap.Trap.{Trap}
use Rattle.caf_base.specs.ImageMemory.{ImageMemory}
use Rattle.caf_program.specs.declared.parts.VariableR.{VariableR}
use Rattle.caf_program.specs.declared.parts.VariableR.TheVariants as variable
use Rattle.caf_program.specs.declared.program.SubR.{SubR}
use Rattle.caf_program.specs.declared.stmt.StmtR.{StmtR}
use Rattle.caf_program.specs.declared.stmt.StmtR.TheFolds.{fold_out-StmtR, map-StmtR}
use Rattle.caf_program.specs.declared.stmt.StmtR.TheOpen.{StmtR-F}
use Rattle.caf_program.specs.declared.stmt.StmtR.TheViews.{out-StmtR, roll-StmtR}
use Rattle.caf_program.specs.Expressions.{of_form, reads_all}
use Rattle.caf_program.specs.Value.{Read, value_at}
use Rattle.caf_source.specs.Built.{all_true, built_layer, is_built, is_here}
use Rattle.caf_treestep.specs.declared.task.Frame.{Frame}
use Rattle.caf_treestep.specs.declared.task.Task.{Task}
use Rattle.caf_treestep.specs.declared.todo.CopyOut.{CopyOut}
use Rattle.caf_treestep.specs.declared.todo.Todo.{Todo}
use Rattle.caf_treestep.specs.declared.todo.Todo.TheVariants as item
use Rattle.caf_source.specs.Plain.{IsPlainTask, is_still, is_todo_built}
use Rattle.caf_treestep.specs.Step.{At, assigned, assigns, called, does, does_first, does_last, does_next, given, goes_in, goes_on, kept, loop_begun, printed, ran, returns_to, seen, step, turn_taken, turns, unless_waiting, variables}
use Rattle.caf_treestep.specs.Task.{all_of}
use Rattle.caf_source.proofs.Last.{PastReads, holds_nothing}
use Rattle.caf_source.proofs.Both.{and_first}

abbrev pub is_block : Effect → Bool
is_block (effect.Blocks n) = true
is_block _ = false

-- the Step doesn't block
abbrev Moves : After Task → Type 0
Moves x = is_block x.effect ≡ false

pub given_moves : {A : Type 0} (r : Result A Trap) (a : At) (go : A → After Task) → ((x : A) → Moves (go x)) → Moves (given r a go)
given_moves (Err t) a go moves = refl
given_moves (Ok x) a go moves = moves x

assign_moves : (v : VariableR) (e : _) (a : At) → IsTrue (is_here v) → Moves (assigns v e a)
assign_moves (variable.Scalar o) e a here = given_moves (assigned (variable.Scalar o) e (seen a) (variables a)) a (λ v. kept v a.rest a) (λ v. refl)
assign_moves (variable.Local k) e a here = given_moves (assigned (variable.Local k) e (seen a) (variables a)) a (λ v. kept v a.rest a) (λ v. refl)
assign_moves (variable.Element o i) e a here = given_moves (assigned (variable.Element o i) e (seen a) (variables a)) a (λ v. kept v a.rest a) (λ v. refl)
assign_moves (variable.Coindexed o i p) e a here = absurd (false≢true here)
assign_moves (variable.Pointed c i) e a here = absurd (false≢true here)

last_moves : (subs : List SubR) (clear : FenceClear) (f : StmtR-F StmtR) (a : At) → IsTrue (built_layer (map-StmtR StmtR Bool is_built f)) → Moves (does_last subs clear f a)
last_moves subs clear (StmtR-F.Assign line v e) a built = assign_moves v e a (and_first (is_here v) _ built)
last_moves subs clear (StmtR-F.Print line parts) a built = given_moves (printed parts (seen a) a.memory) a (λ m. ran m a) (λ m. refl)
last_moves subs clear (StmtR-F.If line e block otherwise) a built = given_moves (value_at e 0 (seen a)) a (λ z. goes_on (all_of (if is_zero z then otherwise else block) ++ a.rest) a) (λ z. refl)
last_moves subs clear (StmtR-F.Do line v first last step body) a built =
    given_moves (loop_begun v first last step (seen a) (variables a)) a (λ p. kept p.1 (turns p.0.count v p.0.step body a.rest) a) (λ p. refl)
last_moves subs clear (StmtR-F.While line e body) a built =
    given_moves (value_at e 0 (seen a)) a (λ z. goes_on (if is_zero z then a.rest else all_of body ++ (item.Does (roll-StmtR (StmtR-F.While line e body)) ∷ a.rest)) a) (λ z. refl)
last_moves subs clear (StmtR-F.Call line f actuals) a built = given_moves (called (slice_get subs f) actuals (length a.task.below) (seen a)) a (λ frame. goes_in frame a) (λ frame. refl)
last_moves subs clear (StmtR-F.Aim line c r) a built = absurd (false≢true built)
last_moves subs clear (StmtR-F.Spawn line event f actuals p) a built = absurd (false≢true built)
last_moves subs clear (StmtR-F.Notify line e) a built = absurd (false≢true built)
last_moves subs clear (StmtR-F.Wait line e) a built = absurd (false≢true built)
last_moves subs clear (StmtR-F.Copy line dest source events) a built = absurd (false≢true built)
last_moves subs clear (StmtR-F.Cofence line down) a built = absurd (false≢true built)
last_moves subs clear (StmtR-F.Split line t colour key o) a built = absurd (false≢true built)
last_moves subs clear (StmtR-F.Finish line t body) a built = absurd (false≢true built)

statement_moves : (subs : List SubR) (clear : FenceClear) (s : StmtR) (a : At) → PastReads → IsTrue (is_built s) → Moves (does subs clear (item.Does s) a)
statement_moves subs clear s a past built =
    let held = length a.task.held in
    let none : slice_get (reads_all (of_form (out-StmtR s)) 0) held ≡ None = past (of_form (out-StmtR s)) 0 held (holds_nothing s held built) in
    subst (λ (x : Option Read). Moves (does_next subs clear x (out-StmtR s) a)) (sym none) (last_moves subs clear (out-StmtR s) a (subst IsTrue (fold_out-StmtR Bool built_layer s) built))

return_blocks : (below : List Frame) (outs : List CopyOut) (rest : List Todo) (a : At) → is_block (returns_to below outs a).effect ≡ is_still (item.Returns outs ∷ rest) below
return_blocks [] outs rest a = refl
return_blocks (caller ∷ below) outs rest a = refl

first_blocks : (todo : List Todo) (subs : List SubR) (clear : FenceClear) (t : Task) (m : ImageMemory) → PastReads → IsTrue (all_true (map is_todo_built todo)) → is_block (does_first todo subs clear t m).effect ≡ is_still todo t.below
first_blocks [] subs clear t m past built = refl
first_blocks (item.Does s ∷ rest) subs clear t m past built = statement_moves subs clear s _ past (and_first (is_built s) _ built)
first_blocks (item.Turns v step n body ∷ rest) subs clear t m past built =
    let a : At = record { task = t; memory = m; rest = rest } in
    given_moves (turn_taken v step (seen a) (variables a)) a (λ x. kept x (turns (n - 1) v step body rest) a) (λ x. refl)
first_blocks (item.Closes ∷ rest) subs clear t m past built = refl
first_blocks (item.Returns outs ∷ rest) subs clear t m past built = return_blocks t.below outs rest _
first_blocks (item.Ends ∷ rest) subs clear t m past built = absurd (false≢true built)

-- the Step blocks exactly where the task is still
pub step_blocks : (subs : List SubR) (clear : FenceClear) (t : Task) (m : ImageMemory) → PastReads → IsPlainTask t → is_block (step subs clear t m).effect ≡ is_still t.frame.todo t.below
step_blocks subs clear t m past plain = ap (λ w. is_block (unless_waiting w subs clear t m).effect) plain.wait ∙ first_blocks t.frame.todo subs clear t m past plain.frame
