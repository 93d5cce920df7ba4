-- A Step that blocks or traps changes nothing, and one that begins an operation or ends its task can be undone.
use Rattle.std.proofs.Common.{◌≡◌, ℕ, zero, suc, ◌-◌, List, [], ◌∷◌, ◌++◌, Bool, true, false, Option, Some, None, Result, Ok, Err, ℤ, ap, refl, sym, subst, ◌∙◌, slice_get, length, if◌then◌else◌}
use Rattle.caf_base.specs.After.{After}
use Rattle.caf_base.specs.Arithmetic.{is_zero}
use Rattle.caf_base.specs.declared.effect.Effect.{Effect}
use Rattle.caf_base.specs.declared.effect.Effect.TheVariants as effect
use Rattle.caf_base.specs.declared.effect.Need.TheVariants as need
use Rattle.caf_base.specs.declared.fence.FenceClear.{FenceClear}
use Rattle.caf_base.specs.declared.operation.OpSpec.{OpSpec}
use Rattle.caf_base.specs.declared.operation.Section.{Section}
use Rattle.caf_base.specs.declared.trap.Trap.{Trap}
use Rattle.caf_base.specs.Fence.{passes}
use Rattle.caf_base.specs.ImageMemory.{ImageMemory}
use Rattle.caf_base.specs.Orders.{with_copointer}
use Rattle.caf_base.specs.Places.{posts_at}
use Rattle.caf_program.specs.declared.parts.VariableR.{VariableR}
use Rattle.caf_program.specs.declared.parts.VariableR.TheVariants as variable
use Rattle.caf_program.specs.declared.program.SubR.{SubR}
use Rattle.caf_program.specs.declared.stmt.StmtR.{StmtR}
use Rattle.caf_program.specs.declared.stmt.StmtR.TheOpen.{StmtR-F}
use Rattle.caf_program.specs.declared.stmt.StmtR.TheViews.{out-StmtR, roll-StmtR}
use Rattle.caf_program.specs.Expressions.{of_form, reads_all}
use Rattle.caf_program.specs.Value.{Read, value_at}
use Rattle.caf_source.specs.declared.rewind.Saved.{Saved}
use Rattle.caf_source.specs.Rewound.{CanRewind, IsOrderly, begins_layer, next_saved, rewound_by, saved_of}
use Rattle.caf_treestep.specs.declared.task.Frame.{Frame}
use Rattle.caf_treestep.specs.declared.task.Task.{Task}
use Rattle.caf_treestep.specs.declared.task.Wait.{Wait}
use Rattle.caf_treestep.specs.declared.task.Wait.TheVariants as awaited
use Rattle.caf_treestep.specs.declared.todo.CopyOut.{CopyOut}
use Rattle.caf_treestep.specs.declared.todo.Todo.{Todo}
use Rattle.caf_treestep.specs.declared.todo.Todo.TheVariants as item
use Rattle.caf_treestep.specs.Step.{At, aimed, assigned, assigns, awaited_event, awaits, blocks, called, coindexed_write, copy, does, does_first, does_last, does_next, given, goes_in, goes_on, kept, loop_begun, notice, over, pointed_write, printed, ran, read_section, reads_section, returns_to, seen, ship, split, starts, step, team_of, turn_taken, turns, unless_waiting, variables, waits, waits_for_post, with_todo}
use Rattle.caf_treestep.specs.Stood.{Leaves}
use Rattle.caf_treestep.specs.Task.{all_of}

-- what a Step leaves is orderly, where this was saved before it
abbrev Orderly : Saved → At → After Task → Type 0
Orderly s a x = IsOrderly x.effect s a.task a.memory x.task x.memory

given_orderly : {A : Type 0} (s : Saved) (r : Result A Trap) (a : At) (go : A → After Task) → ((x : A) → Orderly s a (go x)) → Orderly s a (given r a go)
given_orderly s (Err t) a go each = (refl, refl)
given_orderly s (Ok x) a go each = each x

-- where a task stands, with its statement at hand
pub record Stands (a : At) (first : Todo) : Type 0 where
  pub todo : a.task.frame.todo ≡ first ∷ a.rest
  pub wait : a.task.wait ≡ None

abbrev saved_with : List Todo → Task → Saved
saved_with next t = record { next = next; held = t.held }

-- what was taken off is put back
back : (a : At) (first : Todo) → Stands a first → record a.task { frame = record a.task.frame { todo = first ∷ a.rest }; wait = None } ≡ a.task
back a first stands =
    ap (λ (l : List Todo). record a.task { frame = record a.task.frame { todo = l }; wait = None }) (sym stands.todo)
    ∙ ap (λ (w : Option Wait). record a.task { wait = w }) (sym stands.wait)

over_rewinds : (a : At) (first : Todo) (e : Effect) → Stands a first → CanRewind (saved_with (first ∷ []) a.task) a.task a.memory (over e a.memory a).task a.memory
over_rewinds a first e stands = (
  ap (λ (w : Option Wait). rewound_by w (saved_with (first ∷ []) a.task) (record (with_todo a.rest a) { wait = w })) stands.wait ∙ back a first stands,
  refl,
)

awaits_rewinds : (a : At) (first : Todo) (r : Result OpSpec Trap) → Stands a first → Orderly (saved_with (first ∷ []) a.task) a (awaits r a)
awaits_rewinds a first (Err t) stands = (refl, refl)
awaits_rewinds a first (Ok what) stands = (back a first stands, refl)

starts_rewinds : (a : At) (first : Todo) (r : Result OpSpec Trap) → Stands a first → Orderly (saved_with (first ∷ []) a.task) a (starts r a)
starts_rewinds a first (Err t) stands = (refl, refl)
starts_rewinds a first (Ok what) stands = over_rewinds a first (effect.Begins what) stands

assign_orderly : (v : VariableR) (e : _) (a : At) (first : Todo) → Stands a first → Orderly (saved_with (first ∷ []) a.task) a (assigns v e a)
assign_orderly (variable.Scalar o) e a first stands = given_orderly (saved_with (first ∷ []) a.task) (assigned (variable.Scalar o) e (seen a) (variables a)) a (λ v. kept v a.rest a) (λ v. tt)
assign_orderly (variable.Local k) e a first stands = given_orderly (saved_with (first ∷ []) a.task) (assigned (variable.Local k) e (seen a) (variables a)) a (λ v. kept v a.rest a) (λ v. tt)
assign_orderly (variable.Element o i) e a first stands = given_orderly (saved_with (first ∷ []) a.task) (assigned (variable.Element o i) e (seen a) (variables a)) a (λ v. kept v a.rest a) (λ v. tt)
assign_orderly (variable.Coindexed o i p) e a first stands = awaits_rewinds a first (coindexed_write o i p e 0 (seen a) a.memory) stands
assign_orderly (variable.Pointed c i) e a first stands = awaits_rewinds a first (pointed_write c i e 0 (seen a) a.memory) stands

fence_orderly : (s : Saved) (b : Bool) (a : At) → Orderly s a (if b then ran a.memory a else blocks need.Cofence a)
fence_orderly s true a = tt
fence_orderly s false a = (refl, refl)

post_orderly : (s : Saved) (o : ℕ) (i : ℤ) (posts : ℕ) (a : At) → Orderly s a (waits_for_post o i posts a)
post_orderly s o i zero a = (refl, refl)
post_orderly s o i (suc posts) a = tt

-- what is saved of a statement by its form
abbrev saved_at : Todo → StmtR-F StmtR → Task → Saved
saved_at first f t = saved_with (if begins_layer f then first ∷ [] else []) t

last_orderly : (subs : List SubR) (clear : FenceClear) (f : StmtR-F StmtR) (first : Todo) (a : At) → Stands a first → Orderly (saved_at first f a.task) a (does_last subs clear f a)
last_orderly subs clear (StmtR-F.Assign line v e) first a stands = assign_orderly v e a first stands
last_orderly subs clear (StmtR-F.Aim line c r) first a stands = given_orderly (saved_with [] a.task) (aimed r 0 (seen a) a.memory) a (λ s. ran (with_copointer a.memory c s) a) (λ s. tt)
last_orderly subs clear (StmtR-F.Print line parts) first a stands = given_orderly (saved_with [] a.task) (printed parts (seen a) a.memory) a (λ m. ran m a) (λ m. tt)
last_orderly subs clear (StmtR-F.If line e block otherwise) first a stands =
    given_orderly (saved_with [] a.task) (value_at e 0 (seen a)) a (λ z. goes_on (all_of (if is_zero z then otherwise else block) ++ a.rest) a) (λ z. tt)
last_orderly subs clear (StmtR-F.Do line v from last step body) first a stands =
    given_orderly (saved_with [] a.task) (loop_begun v from last step (seen a) (variables a)) a (λ p. kept p.1 (turns p.0.count v p.0.step body a.rest) a) (λ p. tt)
last_orderly subs clear (StmtR-F.While line e body) first a stands =
    given_orderly (saved_with [] a.task) (value_at e 0 (seen a)) a (λ z. goes_on (if is_zero z then a.rest else all_of body ++ (item.Does (roll-StmtR (StmtR-F.While line e body)) ∷ a.rest)) a) (λ z. tt)
last_orderly subs clear (StmtR-F.Call line g actuals) first a stands =
    given_orderly (saved_with [] a.task) (called (slice_get subs g) actuals (length a.task.below) (seen a)) a (λ frame. goes_in frame a) (λ frame. tt)
last_orderly subs clear (StmtR-F.Spawn line event g actuals p) first a stands = starts_rewinds a first (ship event g actuals p 0 (seen a) a.memory) stands
last_orderly subs clear (StmtR-F.Notify line e) first a stands = starts_rewinds a first (notice e 0 (seen a) a.memory) stands
last_orderly subs clear (StmtR-F.Wait line e) first a stands =
    given_orderly (saved_with [] a.task) (awaited_event e 0 (seen a) a.memory) a (λ i. waits_for_post e.object i (posts_at a.memory e.object i) a) (λ i. post_orderly (saved_with [] a.task) e.object i (posts_at a.memory e.object i) a)
last_orderly subs clear (StmtR-F.Copy line dest source events) first a stands = starts_rewinds a first (copy dest source events 0 (seen a) a.memory) stands
last_orderly subs clear (StmtR-F.Cofence line class) first a stands = fence_orderly (saved_with [] a.task) (passes class clear) a
last_orderly subs clear (StmtR-F.Split line t colour key o) first a stands =
    given_orderly (saved_with [] a.task) (split t colour key 0 (seen a) a.memory) a (λ p. waits (awaited.NewTeam o) (effect.Arrives p.1.1 p.0 p.1.0 o) a) (λ p. tt)
last_orderly subs clear (StmtR-F.Finish line t body) first a stands =
    given_orderly (saved_with [] a.task) (team_of a.memory t) a (λ found. record { effect = effect.Enters found; task = with_todo (all_of body ++ (item.Closes ∷ a.rest)) a; memory = a.memory }) (λ found. tt)

read_orderly : (s : Saved) (r : Result Section Trap) (a : At) → a.task.wait ≡ None → Orderly s a (reads_section r a)
read_orderly s (Err t) a none = (refl, refl)
read_orderly s (Ok c) a none = (ap (λ (w : Option Wait). record a.task { wait = w }) (sym none), refl)

next_orderly : (subs : List SubR) (clear : FenceClear) (r : Option Read) (f : StmtR-F StmtR) (first : Todo) (a : At) → Stands a first → Orderly (saved_at first f a.task) a (does_next subs clear r f a)
next_orderly subs clear None f first a stands = last_orderly subs clear f first a stands
next_orderly subs clear (Some r) f first a stands = read_orderly (saved_at first f a.task) (read_section r (seen a) a.memory) a stands.wait

return_orderly : (s : Saved) (below : List Frame) (outs : List CopyOut) (a : At) → Orderly s a (returns_to below outs a)
return_orderly s [] outs a = (refl, refl)
return_orderly s (caller ∷ below) outs a = tt

does_orderly : (subs : List SubR) (clear : FenceClear) (first : Todo) (a : At) → Stands a first → Orderly (saved_with (next_saved (first ∷ a.rest)) a.task) a (does subs clear first a)
does_orderly subs clear (item.Does s) a stands = next_orderly subs clear (slice_get (reads_all (of_form (out-StmtR s)) 0) (length a.task.held)) (out-StmtR s) (item.Does s) a stands
does_orderly subs clear (item.Turns v step n body) a stands =
    given_orderly (saved_with [] a.task) (turn_taken v step (seen a) (variables a)) a (λ x. kept x (turns (n - 1) v step body a.rest) a) (λ x. tt)
does_orderly subs clear item.Closes a stands = (refl, refl)
does_orderly subs clear (item.Returns outs) a stands = return_orderly (saved_with [] a.task) a.task.below outs a
does_orderly subs clear item.Ends a stands = over_rewinds a item.Ends (effect.Ends a.task.done) stands

first_orderly : (subs : List SubR) (clear : FenceClear) (todo : List Todo) (t : Task) (m : ImageMemory) → t.frame.todo ≡ todo → t.wait ≡ None
    → let x = does_first todo subs clear t m in IsOrderly x.effect (saved_with (next_saved todo) t) t m x.task x.memory
first_orderly subs clear [] t m todo wait = (refl, refl)
first_orderly subs clear (first ∷ rest) t m todo wait = does_orderly subs clear first (record { task = t; memory = m; rest = rest }) (record { todo = todo; wait = wait })

waiting_orderly : (subs : List SubR) (clear : FenceClear) (w : Option Wait) (t : Task) (m : ImageMemory) → t.wait ≡ w → let x = unless_waiting w subs clear t m in IsOrderly x.effect (saved_of t) t m x.task x.memory
waiting_orderly subs clear (Some w) t m wait = (refl, refl)
waiting_orderly subs clear None t m wait = first_orderly subs clear t.frame.todo t m refl wait

pub step_orderly : (subs : List SubR) (clear : FenceClear) (t : Task) (m : ImageMemory) → let x = step subs clear t m in IsOrderly x.effect (saved_of t) t m x.task x.memory
step_orderly subs clear t m = waiting_orderly subs clear t.wait t m refl

-- the same of what a call has left
pub left_orderly : (subs : List SubR) (clear : FenceClear) (t : Task) (m : ImageMemory) (e : Effect) (s : Saved) (u : Task) (n : ImageMemory) → s ≡ saved_of t → Leaves e (step subs clear t m) u n → IsOrderly e s t m u n
left_orderly subs clear t m e s u n saved leaves =
    subst (λ (z : Saved). IsOrderly e z t m u n) (sym saved) (subst (λ (x : After Task). IsOrderly x.effect (saved_of t) t m x.task x.memory) leaves (step_orderly subs clear t m))
