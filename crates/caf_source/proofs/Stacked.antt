-- A Step of a main task leaves a main task, and blocks only at the end of the program.
use Rattle.std.proofs.lemmas.Bool.{false≢true}
use Rattle.std.proofs.Common.{◌≡◌, ℕ, zero, suc, ◌-◌, List, [], ◌∷◌, ◌++◌, Bool, true, false, ◌&&◌, Option, None, Some, Result, Ok, Err, ℤ, IsTrue, refl, sym, ap, subst, ◌∙◌, nat_le, slice_get, length, if◌then◌else◌}
use Rattle.caf_base.specs.After.{After}
use Rattle.caf_base.specs.Arithmetic.{is_zero}
use Rattle.caf_base.specs.ImageMemory.{ImageMemory}
use Rattle.caf_base.specs.Places.{bind}
use Rattle.caf_base.specs.declared.effect.Effect.TheVariants as effect
use Rattle.caf_base.specs.declared.effect.Need.{Need}
use Rattle.caf_base.specs.declared.fence.FenceClear.{FenceClear}
use Rattle.caf_base.specs.declared.trap.Trap.{Trap}
use Rattle.caf_base.specs.declared.trap.Trap.TheVariants as trap
use Rattle.caf_program.specs.Expressions.{of_form, reads_all}
use Rattle.caf_program.specs.Value.{Read, value_at}
use Rattle.caf_program.specs.declared.parts.VariableR.{VariableR}
use Rattle.caf_program.specs.declared.parts.VariableR.TheVariants as variable
use Rattle.caf_program.specs.declared.program.SubR.{SubR}
use Rattle.caf_program.specs.declared.stmt.LoopVariableR.{LoopVariableR}
use Rattle.caf_program.specs.declared.stmt.StmtR.{StmtR}
use Rattle.caf_program.specs.declared.stmt.StmtR.TheFolds.{fold_out-StmtR, map-StmtR}
use Rattle.caf_program.specs.declared.stmt.StmtR.TheOpen.{StmtR-F}
use Rattle.caf_program.specs.declared.stmt.StmtR.TheViews.{out-StmtR, roll-StmtR}
use Rattle.caf_treestep.specs.declared.argument.Argument.{Argument}
use Rattle.caf_treestep.specs.declared.task.Frame.{Frame}
use Rattle.caf_treestep.specs.declared.task.Task.{Task}
use Rattle.caf_treestep.specs.declared.todo.CopyOut.{CopyOut}
use Rattle.caf_treestep.specs.declared.todo.Todo.{Todo}
use Rattle.caf_treestep.specs.declared.todo.Todo.TheVariants as item
use Rattle.caf_treestep.specs.Evaluated.{arguments_of, outs_from}
use Rattle.caf_treestep.specs.Step.{At, assigned, assigns, called, does, does_first, does_last, does_next, frame_of, given, goes_in, goes_on, kept, loop_begun, main_task, opened, printed, ran, returns_to, seen, step, turn_taken, turns, unless_waiting, variables}
use Rattle.caf_treestep.specs.Task.{all_of}
use Rattle.caf_source.specs.Built.{are_subs_built, built_layer, is_block_built, is_built, is_here}
use Rattle.caf_source.specs.Main.{IsMainTask, are_stacked, ends_as, is_nothing}
use Rattle.caf_source.specs.Plain.{all_clear, is_frame_built, is_still}
use Rattle.caf_source.proofs.Both.{and_first, and_second}
use Rattle.caf_source.proofs.Last.{PastReads, holds_nothing}
use Rattle.caf_source.proofs.Plain.{front_built, step_plain}
use Rattle.caf_source.proofs.Blocking.{is_block, step_blocks}

ends_front : (main : Bool) (block : List StmtR) (rest : List Todo) → ends_as main (all_of block ++ rest) ≡ ends_as main rest
ends_front main [] rest = refl
ends_front main (s ∷ block) rest = ends_front main block rest

stacked_front : (block : List StmtR) (rest : List Todo) (below : List Frame) → are_stacked (all_of block ++ rest) below ≡ are_stacked rest below
stacked_front block rest [] = ends_front true block rest
stacked_front block rest (f ∷ below) = ap (λ b. b && are_stacked f.todo below) (ends_front false block rest)

-- a statement or an end of a turn more
stacked_does : (s : StmtR) (rest : List Todo) (below : List Frame) → are_stacked (item.Does s ∷ rest) below ≡ are_stacked rest below
stacked_does s rest [] = refl
stacked_does s rest (f ∷ below) = refl

stacked_turn : (v : LoopVariableR) (step : ℤ) (n : ℕ) (body : List StmtR) (rest : List Todo) (below : List Frame) → are_stacked (item.Turns v step n body ∷ rest) below ≡ are_stacked rest below
stacked_turn v step n body rest [] = refl
stacked_turn v step n body rest (f ∷ below) = refl

stacked_turns : (n : ℕ) (v : LoopVariableR) (step : ℤ) (body : List StmtR) (rest : List Todo) (below : List Frame) → are_stacked (turns n v step body rest) below ≡ are_stacked rest below
stacked_turns zero v step body rest below = refl
stacked_turns (suc n) v step body rest below = stacked_front body (item.Turns v step (suc n) body ∷ rest) below ∙ stacked_turn v step (suc n) body rest below

abbrev IsStacked : After Task → Type 0
IsStacked x = IsTrue (are_stacked x.task.frame.todo x.task.below)

-- what is there, and what is left to do
pub record Stands (a : At) : Type 0 where
  pub whole : IsTrue (are_stacked a.task.frame.todo a.task.below)
  pub rest : IsTrue (are_stacked a.rest a.task.below)

given_stacked : {A : Type 0} (r : Result A Trap) (a : At) (go : A → After Task) → Stands a → ((x : A) → r ≡ Ok x → IsStacked (go x)) → IsStacked (given r a go)
given_stacked (Err t) a go stands goes = stands.whole
given_stacked (Ok x) a go stands goes = goes x refl

chosen : (b : Bool) (x y : List Todo) (below : List Frame) → IsTrue (are_stacked x below) → IsTrue (are_stacked y below) → IsTrue (are_stacked (if b then x else y) below)
chosen true x y below h k = h
chosen false x y below h k = k

assign_stacked : (v : VariableR) (e : _) (a : At) → IsTrue (is_here v) → Stands a → IsStacked (assigns v e a)
assign_stacked (variable.Scalar o) e a here stands = given_stacked (assigned (variable.Scalar o) e (seen a) (variables a)) a (λ v. kept v a.rest a) stands (λ v is. stands.rest)
assign_stacked (variable.Local k) e a here stands = given_stacked (assigned (variable.Local k) e (seen a) (variables a)) a (λ v. kept v a.rest a) stands (λ v is. stands.rest)
assign_stacked (variable.Element o i) e a here stands = given_stacked (assigned (variable.Element o i) e (seen a) (variables a)) a (λ v. kept v a.rest a) stands (λ v is. stands.rest)
assign_stacked (variable.Coindexed o i p) e a here stands = absurd (false≢true here)
assign_stacked (variable.Pointed c i) e a here stands = absurd (false≢true here)

-- the frame of a call ends as a called subroutine
abbrev IsCalled : Result Frame Trap → Type 0
IsCalled (Err t) = Unit {0}
IsCalled (Ok frame) = IsTrue (ends_as false frame.todo)

frame_called : (f : Option SubR) (n : ℕ) (arguments : List Argument) → IsCalled (frame_of f n arguments)
frame_called None n arguments = tt
frame_called (Some f) n arguments = by_depth (nat_le 200 n)
  where
    by_depth : (deep : Bool) → IsCalled (if deep then Err trap.Depth else Ok (opened f arguments))
    by_depth true = tt
    by_depth false = ends_front false f.body (item.Returns (outs_from 0 arguments) ∷ [])

called_ends : (f : Option SubR) (n : ℕ) (r : Result (List Argument) Trap) → IsCalled (bind r (frame_of f n))
called_ends f n (Err t) = tt
called_ends f n (Ok arguments) = frame_called f n arguments

both : (a b : Bool) → IsTrue a → IsTrue b → IsTrue (a && b)
both true b h k = k
both false b h k = h

call_stacked : (r : Result Frame Trap) (a : At) → IsCalled r → Stands a → IsStacked (given r a (λ frame. goes_in frame a))
call_stacked (Err t) a ends stands = stands.whole
call_stacked (Ok frame) a ends stands = both (ends_as false frame.todo) _ ends stands.rest

last_stacked : (subs : List SubR) (clear : FenceClear) (f : StmtR-F StmtR) (a : At) → IsTrue (built_layer (map-StmtR StmtR Bool is_built f)) → Stands a → IsStacked (does_last subs clear f a)
last_stacked subs clear (StmtR-F.Assign line v e) a built stands = assign_stacked v e a (and_first (is_here v) _ built) stands
last_stacked subs clear (StmtR-F.Print line parts) a built stands = given_stacked (printed parts (seen a) a.memory) a (λ m. ran m a) stands (λ m is. stands.rest)
last_stacked subs clear (StmtR-F.If line e block otherwise) a built stands =
    given_stacked (value_at e 0 (seen a)) a (λ z. goes_on (all_of (if is_zero z then otherwise else block) ++ a.rest) a) stands
    (λ z is. subst IsTrue (sym (stacked_front (if is_zero z then otherwise else block) a.rest a.task.below)) stands.rest)
last_stacked subs clear (StmtR-F.Do line v first last step body) a built stands =
    given_stacked (loop_begun v first last step (seen a) (variables a)) a (λ p. kept p.1 (turns p.0.count v p.0.step body a.rest) a) stands
    (λ p is. subst IsTrue (sym (stacked_turns p.0.count v p.0.step body a.rest a.task.below)) stands.rest)
last_stacked subs clear (StmtR-F.While line e body) a built stands =
    let again : StmtR = roll-StmtR (StmtR-F.While line e body) in
    let more : List Todo = all_of body ++ (item.Does again ∷ a.rest) in
    given_stacked (value_at e 0 (seen a)) a (λ z. goes_on (if is_zero z then a.rest else more) a) stands
    (λ z is. chosen (is_zero z) a.rest more a.task.below stands.rest (subst IsTrue (sym (stacked_front body (item.Does again ∷ a.rest) a.task.below ∙ stacked_does again a.rest a.task.below)) stands.rest))
last_stacked subs clear (StmtR-F.Call line f actuals) a built stands =
    call_stacked (called (slice_get subs f) actuals (length a.task.below) (seen a)) a (called_ends (slice_get subs f) (length a.task.below) (arguments_of actuals 0 (seen a))) stands
last_stacked subs clear (StmtR-F.Aim line c r) a built stands = absurd (false≢true built)
last_stacked subs clear (StmtR-F.Spawn line event f actuals p) a built stands = absurd (false≢true built)
last_stacked subs clear (StmtR-F.Notify line e) a built stands = absurd (false≢true built)
last_stacked subs clear (StmtR-F.Wait line e) a built stands = absurd (false≢true built)
last_stacked subs clear (StmtR-F.Copy line dest source events) a built stands = absurd (false≢true built)
last_stacked subs clear (StmtR-F.Cofence line down) a built stands = absurd (false≢true built)
last_stacked subs clear (StmtR-F.Split line t colour key o) a built stands = absurd (false≢true built)
last_stacked subs clear (StmtR-F.Finish line t body) a built stands = absurd (false≢true built)

return_stacked : (a : At) (below : List Frame) (outs : List CopyOut) → IsTrue (are_stacked a.task.frame.todo a.task.below) → IsTrue (are_stacked (item.Returns outs ∷ a.rest) below) → IsStacked (returns_to below outs a)
return_stacked a [] outs whole stands = whole
return_stacked a (caller ∷ below) outs whole stands = and_second (ends_as false (item.Returns outs ∷ a.rest)) _ stands

statement_stacked : (subs : List SubR) (clear : FenceClear) (s : StmtR) (a : At) → PastReads → IsTrue (is_built s) → Stands a → IsStacked (does subs clear (item.Does s) a)
statement_stacked subs clear s a past built stands =
    let held = length a.task.held in
    let none : slice_get (reads_all (of_form (out-StmtR s)) 0) held ≡ None = past (of_form (out-StmtR s)) 0 held (holds_nothing s held built) in
    let layered : IsTrue (built_layer (map-StmtR StmtR Bool is_built (out-StmtR s))) = subst IsTrue (fold_out-StmtR Bool built_layer s) built in
    subst (λ (x : Option Read). IsStacked (does_next subs clear x (out-StmtR s) a)) (sym none) (last_stacked subs clear (out-StmtR s) a layered stands)

first_stacked : (todo : List Todo) (subs : List SubR) (clear : FenceClear) (t : Task) (m : ImageMemory) → PastReads → IsTrue (is_frame_built (record t.frame { todo = todo })) → t.frame.todo ≡ todo → IsTrue (are_stacked todo t.below) → IsTrue (are_stacked t.frame.todo t.below) → IsStacked (does_first todo subs clear t m)
first_stacked [] subs clear t m past built is stands whole = whole
first_stacked (item.Does s ∷ rest) subs clear t m past built is stands whole =
    statement_stacked subs clear s (record { task = t; memory = m; rest = rest }) past (and_first (is_built s) _ built) (record { whole = whole; rest = subst IsTrue (stacked_does s rest t.below) stands })
first_stacked (item.Turns v step n body ∷ rest) subs clear t m past built is stands whole =
    let a : At = record { task = t; memory = m; rest = rest } in
    let left : IsTrue (are_stacked rest t.below) = subst IsTrue (stacked_turn v step n body rest t.below) stands in
    given_stacked (turn_taken v step (seen a) (variables a)) a (λ x. kept x (turns (n - 1) v step body rest) a) (record { whole = whole; rest = left })
    (λ x is. subst IsTrue (sym (stacked_turns (n - 1) v step body rest t.below)) left)
first_stacked (item.Closes ∷ rest) subs clear t m past built is stands whole = whole
first_stacked (item.Returns outs ∷ rest) subs clear t m past built is stands whole = return_stacked (record { task = t; memory = m; rest = rest }) t.below outs whole stands
first_stacked (item.Ends ∷ rest) subs clear t m past built is stands whole = absurd (false≢true built)

step_stacked : (subs : List SubR) (clear : FenceClear) (t : Task) (m : ImageMemory) → PastReads → IsMainTask t → IsStacked (step subs clear t m)
step_stacked subs clear t m past main =
    subst (λ w. IsStacked (unless_waiting w subs clear t m)) (sym main.plain.wait) (first_stacked t.frame.todo subs clear t m past main.plain.frame refl main.stacked main.stacked)

pub stays_main : (subs : List SubR) (t : Task) (m : ImageMemory) → PastReads → IsTrue (are_subs_built subs) → IsMainTask t → IsMainTask (step subs all_clear t m).task
stays_main subs t m past built main = record { plain = (step_plain subs all_clear t m past built main.plain).task; stacked = step_stacked subs all_clear t m past main }

pub begins_main : (body : List StmtR) → IsTrue (is_block_built body) → IsMainTask (main_task body)
begins_main body built = record {
  plain = record { frame = front_built body (item.Closes ∷ []) built refl; below = refl; held = refl; wait = refl };
  stacked = subst IsTrue (sym (ends_front true body (item.Closes ∷ []))) refl;
}

nothing : (rest : List Todo) → IsTrue (is_nothing rest) → rest ≡ []
nothing [] h = refl
nothing (x ∷ rest) h = absurd (false≢true h)

-- a main task that is still stands at the end of the program
still_ends : (todo : List Todo) (below : List Frame) → is_still todo below ≡ true → IsTrue (are_stacked todo below) → (todo ≡ item.Closes ∷ []) × (below ≡ [])
still_ends [] [] still stacked = absurd (false≢true stacked)
still_ends [] (f ∷ below) still stacked = absurd (false≢true stacked)
still_ends (item.Does s ∷ rest) below still stacked = absurd (false≢true still)
still_ends (item.Turns v step n body ∷ rest) below still stacked = absurd (false≢true still)
still_ends (item.Closes ∷ rest) [] still stacked = (ap (λ l. item.Closes ∷ l) (nothing rest stacked), refl)
still_ends (item.Closes ∷ rest) (f ∷ below) still stacked = absurd (false≢true stacked)
still_ends (item.Returns outs ∷ rest) [] still stacked = absurd (false≢true stacked)
still_ends (item.Returns outs ∷ rest) (f ∷ below) still stacked = absurd (false≢true still)
still_ends (item.Ends ∷ rest) below still stacked = absurd (false≢true still)

pub blocks_at_end : (subs : List SubR) (t : Task) (m : ImageMemory) (n : Need) → PastReads → IsMainTask t → (step subs all_clear t m).effect ≡ effect.Blocks n → (t.frame.todo ≡ item.Closes ∷ []) × (t.below ≡ [])
blocks_at_end subs t m n past main is =
    still_ends t.frame.todo t.below (sym (step_blocks subs all_clear t m past main.plain) ∙ ap is_block is) main.stacked
