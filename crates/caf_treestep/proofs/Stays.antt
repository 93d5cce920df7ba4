-- A Step leaves a memory in which each index fits.
use Rattle.std.proofs.Common.{ℕ, zero, suc, List, [], ◌∷◌, ◌++◌, Bool, true, false, Option, Some, None, Result, Ok, Err, ℤ, IfOk, IfSome, length, pos, slice_get, slice_index_or, slice_set, subst, if◌then◌else◌}
use Rattle.std.specs.Result.{result_unwrap_or}
use Rattle.caf_base.specs.After.{After}
use Rattle.caf_base.specs.Arithmetic.{is_zero, of_two}
use Rattle.caf_base.specs.Element.{has_index}
use Rattle.caf_base.specs.Fence.{passes}
use Rattle.caf_base.specs.ImageMemory.{ImageMemory}
use Rattle.caf_base.specs.Line.{has_room, with_line}
use Rattle.caf_base.specs.Orders.{with_copointer}
use Rattle.caf_base.specs.Places.{bind, posts_at, set_element, with_posts_in, written_in}
use Rattle.caf_base.specs.declared.arithmetic.BinaryOperator.TheVariants as operator
use Rattle.caf_base.specs.declared.effect.Effect.{Effect}
use Rattle.caf_base.specs.declared.memory.Memory.{Memory}
use Rattle.caf_base.specs.declared.fence.FenceClear.{FenceClear}
use Rattle.caf_base.specs.declared.object.Object.{Object}
use Rattle.caf_base.specs.declared.operation.OpSpec.{OpSpec}
use Rattle.caf_base.specs.declared.operation.Section.{Section}
use Rattle.caf_base.specs.declared.trap.Trap.{Trap}
use Rattle.caf_base.specs.declared.trap.Trap.TheVariants as trap
use Rattle.caf_memory.specs.Placed.{EndsWithin}
use Rattle.caf_program.specs.Seen.{Seen}
use Rattle.caf_program.specs.Value.{value_at}
use Rattle.caf_program.specs.declared.expr.ExprR.{ExprR}
use Rattle.caf_program.specs.declared.parts.VariableR.{VariableR}
use Rattle.caf_program.specs.declared.parts.VariableR.TheVariants as variable
use Rattle.caf_program.specs.declared.program.SubR.{SubR}
use Rattle.caf_program.specs.declared.stmt.LoopVariableR.{LoopVariableR}
use Rattle.caf_program.specs.declared.stmt.StmtR.{StmtR}
use Rattle.caf_program.specs.declared.stmt.StmtR.TheOpen.{StmtR-F}
use Rattle.caf_program.specs.declared.stmt.StmtR.TheViews.{out-StmtR, roll-StmtR}
use Rattle.caf_treestep.specs.declared.bounds.Bounds.{Bounds}
use Rattle.caf_treestep.specs.declared.task.Frame.{Frame}
use Rattle.caf_treestep.specs.declared.task.Task.{Task}
use Rattle.caf_treestep.specs.declared.todo.CopyOut.{CopyOut}
use Rattle.caf_treestep.specs.declared.todo.Target.{Target}
use Rattle.caf_treestep.specs.declared.todo.Target.TheVariants as target
use Rattle.caf_treestep.specs.declared.todo.Todo.{Todo}
use Rattle.caf_treestep.specs.declared.todo.Todo.TheVariants as item
use Rattle.caf_treestep.specs.Evaluated.{line_text}
use Rattle.caf_treestep.specs.Placeable.{IsPlaceable}
use Rattle.caf_treestep.specs.Reading.{does_unread, unread_first}
use Rattle.caf_treestep.specs.Step.{At, Variables, added, aimed, assigned, assignment_of, assigns, awaited_event, awaits, bounds_of, called, coindexed_write, copies_out, copy, counted, counter, does_last, given, keeps, loop_begun, notice, pointed_write, printed, put, returns_to, seen, ship, split, starts, store, team_of, turn_taken, variables, waits_for_post}
use Rattle.caf_treestep.specs.Stood.{Leaves}
use Rattle.caf_treestep.proofs.Fits.{aimed_fits, bind_all}

given_fits : {A : Type 0} (r : Result A Trap) (a : At) (go : A → After Task) → IsPlaceable a.memory → IfOk r (λ x. IsPlaceable (go x).memory) → IsPlaceable (given r a go).memory
given_fits (Err t) a go fits found = fits
given_fits (Ok x) a go fits found = found

-- a Step that changes nothing in the memory
given_same : {A : Type 0} (r : Result A Trap) (a : At) (go : A → After Task) → IsPlaceable a.memory → ((x : A) → IsPlaceable (go x).memory) → IsPlaceable (given r a go).memory
given_same (Err t) a go fits found = fits
given_same (Ok x) a go fits found = found x

abbrev VariablesFit : Variables → Type 0
VariablesFit v = IsPlaceable v.memory

if_fits : (b : Bool) (m : ImageMemory) (t : Trap) → IsPlaceable m → IfOk (if b then Ok m else Err t) IsPlaceable
if_fits true m t fits = fits
if_fits false m t fits = tt

written_fits : (m : ImageMemory) (o : ℕ) (x : Option Object) (i z : ℤ) → IsPlaceable m → IfOk (written_in m o x i z) IsPlaceable
written_fits m o None i z fits = tt
written_fits m o (Some x) i z fits = if_fits (has_index x i) (set_element m o x i z) trap.Index (record { objects = fits.objects; aims = fits.aims })

from_memory : (r : Result ImageMemory Trap) (v : Variables) → IfOk r IsPlaceable → IfOk (bind r (λ m. Ok (record v { memory = m }))) VariablesFit
from_memory (Err t) v fits = tt
from_memory (Ok m) v fits = fits

store_fits : (t : Target) (z : ℤ) (v : Variables) → VariablesFit v → IfOk (store t z v) VariablesFit
store_fits (target.Scalar o) z v fits = from_memory _ v (written_fits v.memory o (slice_get v.memory.objects o) (pos 1) z fits)
store_fits (target.Local k) z v fits = fits
store_fits (target.Element o i) z v fits = from_memory _ v (written_fits v.memory o (slice_get v.memory.objects o) i z fits)

keeps_fits : (r : Result Variables Trap) (todo : List Todo) (a : At) → IsPlaceable a.memory → IfOk r VariablesFit → IsPlaceable (keeps r todo a).memory
keeps_fits (Err t) todo a fits found = fits
keeps_fits (Ok v) todo a fits found = found

assigned_fits : (v : VariableR) (e : ExprR) (s : Seen) (vs : Variables) → VariablesFit vs → IfOk (assigned v e s vs) VariablesFit
assigned_fits v e s vs fits = bind_all VariablesFit (assignment_of v e 0 s) (λ p. store p.0 p.1 vs) (λ p. store_fits p.0 p.1 vs fits)

assigns_fits : (v : VariableR) (e : ExprR) (a : At) → IsPlaceable a.memory → IsPlaceable (assigns v e a).memory
assigns_fits (variable.Scalar o) e a fits = keeps_fits (assigned (variable.Scalar o) e (seen a) (variables a)) a.rest a fits (assigned_fits (variable.Scalar o) e (seen a) (variables a) fits)
assigns_fits (variable.Local k) e a fits = keeps_fits (assigned (variable.Local k) e (seen a) (variables a)) a.rest a fits (assigned_fits (variable.Local k) e (seen a) (variables a) fits)
assigns_fits (variable.Element o i) e a fits = keeps_fits (assigned (variable.Element o i) e (seen a) (variables a)) a.rest a fits (assigned_fits (variable.Element o i) e (seen a) (variables a) fits)
assigns_fits (variable.Coindexed o i p) e a fits = given_same (coindexed_write o i p e 0 (seen a) a.memory) a _ fits (λ what. fits)
assigns_fits (variable.Pointed c i) e a fits = given_same (pointed_write c i e 0 (seen a) a.memory) a _ fits (λ what. fits)

abbrev BegunFits : Bounds × Variables → Type 0
BegunFits p = IsPlaceable p.1.memory

begun_store : (b : Bounds) (r : Result Variables Trap) → IfOk r VariablesFit → IfOk (bind r (λ ws. Ok (b, ws))) BegunFits
begun_store b (Err t) fits = tt
begun_store b (Ok v) fits = fits

begun_fits : (v : LoopVariableR) (first last step : ExprR) (s : Seen) (vs : Variables) → VariablesFit vs → IfOk (loop_begun v first last step s vs) BegunFits
begun_fits v first last step s vs fits =
    bind_all BegunFits (bounds_of first last step 0 s) (λ b. bind (store (counter v) b.first vs) (λ ws. Ok (b, ws))) (λ b. begun_store b (store (counter v) b.first vs) (store_fits (counter v) b.first vs fits))

turn_fits : (v : LoopVariableR) (step : ℤ) (s : Seen) (vs : Variables) → VariablesFit vs → IfOk (turn_taken v step s vs) VariablesFit
turn_fits v step s vs fits =
    bind_all VariablesFit (counted v s) (λ now. bind (of_two operator.Add now step) (λ z. store (counter v) z vs)) (λ now.
    bind_all VariablesFit (of_two operator.Add now step) (λ z. store (counter v) z vs) (λ z. store_fits (counter v) z vs fits))

put_fits : (t : Target) (z : ℤ) (v : Variables) → VariablesFit v → VariablesFit (put t z v)
put_fits t z v fits = by (store t z v) (store_fits t z v fits) where
  by : (r : Result Variables Trap) → IfOk r VariablesFit → VariablesFit (result_unwrap_or r v)
  by (Err trap) found = fits
  by (Ok w) found = found

copied_fits : (outs : List CopyOut) (cells : List ℤ) (v : Variables) → VariablesFit v → VariablesFit (copies_out outs cells v)
copied_fits [] cells v fits = fits
copied_fits (o ∷ rest) cells v fits = copied_fits rest cells (put o.target (slice_index_or cells o.cell (pos 0)) v) (put_fits o.target (slice_index_or cells o.cell (pos 0)) v fits)

returned_fits : (below : List Frame) (outs : List CopyOut) (a : At) → IsPlaceable a.memory → IsPlaceable (returns_to below outs a).memory
returned_fits [] outs a fits = fits
returned_fits (caller ∷ below) outs a fits = copied_fits outs a.task.frame.locals (record { locals = caller.locals; memory = a.memory }) fits

added_fits : (m : ImageMemory) (line : List ℕ) → IsPlaceable m → IfOk (added m line) IsPlaceable
added_fits m line fits = if_fits (has_room m line) (with_line m line) trap.Output (record { objects = fits.objects; aims = fits.aims })

posts_fit : (m : ImageMemory) (o : ℕ) (x : Option Object) (i : ℤ) (posts : ℕ) → IsPlaceable m → IsPlaceable (with_posts_in m o x i posts)
posts_fit m o None i posts fits = fits
posts_fit m o (Some x) i posts fits = record { objects = fits.objects; aims = fits.aims }

waited_fits : (o : ℕ) (i : ℤ) (posts : ℕ) (a : At) → IsPlaceable a.memory → IsPlaceable (waits_for_post o i posts a).memory
waited_fits o i zero a fits = fits
waited_fits o i (suc posts) a fits = posts_fit a.memory o (slice_get a.memory.objects o) i posts fits

-- each copointer of a list that is set ends within, with one more
abbrev AimsFit : List (Option Section) → Type 0
AimsFit l = (c : ℕ) → IfSome (slice_index_or l c None) (λ (s : Section). EndsWithin s.from s.extent)

set_fits : (l : List (Option Section)) (at : ℕ) (s : Section) → EndsWithin s.from s.extent → AimsFit l → AimsFit (slice_set l at (Some s))
set_fits [] at s ends fits c = fits c
set_fits (x ∷ l) zero s ends fits zero = ends
set_fits (x ∷ l) zero s ends fits (suc c) = fits (suc c)
set_fits (x ∷ l) (suc at) s ends fits zero = fits zero
set_fits (x ∷ l) (suc at) s ends fits (suc c) = set_fits l at s ends (λ k. fits (suc k)) c

copointer_fits : (m : ImageMemory) (c : ℕ) (r : Result Section Trap) → IsPlaceable m → IfOk r (λ s. EndsWithin s.from s.extent) → IfOk r (λ s. IsPlaceable (with_copointer m c s))
copointer_fits m c (Err t) fits ends = tt
copointer_fits m c (Ok s) fits ends = record { objects = fits.objects; aims = set_fits m.copointers c s ends fits.aims }

fence_fits : (b : Bool) (a : At) (x y : After Task) → IsPlaceable x.memory → IsPlaceable y.memory → IsPlaceable (if b then x else y).memory
fence_fits true a x y one other = one
fence_fits false a x y one other = other

last_fits : (subs : List SubR) (clear : FenceClear) (f : StmtR-F StmtR) (a : At) → IsPlaceable a.memory → IsPlaceable (does_last subs clear f a).memory
last_fits subs clear (StmtR-F.Assign line v e) a fits = assigns_fits v e a fits
last_fits subs clear (StmtR-F.Aim line c r) a fits = given_fits (aimed r 0 (seen a) a.memory) a _ fits (copointer_fits a.memory c (aimed r 0 (seen a) a.memory) fits (aimed_fits r 0 (seen a) a.memory fits))
last_fits subs clear (StmtR-F.Print line parts) a fits = given_fits (printed parts (seen a) a.memory) a _ fits (bind_all IsPlaceable (line_text parts 0 (seen a)) (added a.memory) (λ text. added_fits a.memory text fits))
last_fits subs clear (StmtR-F.If line e block otherwise) a fits = given_same (value_at e 0 (seen a)) a _ fits (λ z. fits)
last_fits subs clear (StmtR-F.Do line v first last step body) a fits = given_fits (loop_begun v first last step (seen a) (variables a)) a _ fits (begun_fits v first last step (seen a) (variables a) fits)
last_fits subs clear (StmtR-F.While line e body) a fits = given_same (value_at e 0 (seen a)) a _ fits (λ z. fits)
last_fits subs clear (StmtR-F.Call line f actuals) a fits = given_same (called (slice_get subs f) actuals (length a.task.below) (seen a)) a _ fits (λ frame. fits)
last_fits subs clear (StmtR-F.Spawn line event f actuals p) a fits = given_same (ship event f actuals p 0 (seen a) a.memory) a _ fits (λ what. fits)
last_fits subs clear (StmtR-F.Notify line e) a fits = given_same (notice e 0 (seen a) a.memory) a _ fits (λ what. fits)
last_fits subs clear (StmtR-F.Wait line e) a fits = given_same (awaited_event e 0 (seen a) a.memory) a _ fits (λ i. waited_fits e.object i (posts_at a.memory e.object i) a fits)
last_fits subs clear (StmtR-F.Copy line dest source events) a fits = given_same (copy dest source events 0 (seen a) a.memory) a _ fits (λ what. fits)
last_fits subs clear (StmtR-F.Cofence line class) a fits = fence_fits (passes class clear) a _ _ fits fits
last_fits subs clear (StmtR-F.Split line t colour key o) a fits = given_same (split t colour key 0 (seen a) a.memory) a _ fits (λ p. fits)
last_fits subs clear (StmtR-F.Finish line t body) a fits = given_same (team_of a.memory t) a _ fits (λ found. fits)

next_fits : (subs : List SubR) (clear : FenceClear) (next : Todo) (a : At) → IsPlaceable a.memory → IsPlaceable (does_unread subs clear next a).memory
next_fits subs clear (item.Does s) a fits = last_fits subs clear (out-StmtR s) a fits
next_fits subs clear (item.Turns v step n body) a fits = keeps_fits (turn_taken v step (seen a) (variables a)) _ a fits (turn_fits v step (seen a) (variables a) fits)
next_fits subs clear item.Closes a fits = fits
next_fits subs clear (item.Returns outs) a fits = returned_fits a.task.below outs a fits
next_fits subs clear item.Ends a fits = fits

pub unread_fits : (todo : List Todo) (subs : List SubR) (clear : FenceClear) (t : Task) (m : ImageMemory) → IsPlaceable m → IsPlaceable (unread_first todo subs clear t m).memory
unread_fits [] subs clear t m fits = fits
unread_fits (first ∷ rest) subs clear t m fits = next_fits subs clear first (record { task = t; memory = m; rest = rest }) fits

-- the memory that a Step leaves
pub placed : (r : Result Effect Memory) (a : After Task) (t : Task) (m : ImageMemory) → IfOk r (λ e. Leaves e a t m) → IsPlaceable a.memory → IfOk r (λ e. IsPlaceable m)
placed (Ok e) a t m leaves fits = subst (λ (x : After Task). IsPlaceable x.memory) leaves fits
placed (Err e) a t m leaves fits = tt
