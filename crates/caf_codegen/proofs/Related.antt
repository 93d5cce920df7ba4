-- Tasks that stand at the same place of a program, and instructions that lead from one Step to the next.
use Rattle.std.proofs.Common.{map, true, pos, Some, ◌≡◌, ℕ, zero, suc, ◌+◌, ◌-◌, ◌≤◌, List, [], ◌∷◌, ◌++◌, length, Option, None, Result, Ok, Err, ℤ, refl, sym, ap, ◌∙◌, subst, arith, length-append}
use Rattle.std.specs.Prelude.{slice_get}
use Rattle.caf_base.specs.After.{After}
use Rattle.caf_base.specs.Arithmetic.{Answer}
use Rattle.caf_base.specs.ImageMemory.{ImageMemory}
use Rattle.caf_base.specs.declared.effect.Effect.TheVariants as effect
use Rattle.caf_base.specs.declared.fence.FenceClear.{FenceClear}
use Rattle.caf_base.specs.declared.operation.EventAt.{EventAt}
use Rattle.caf_base.specs.declared.operation.OpSpec.{OpSpec}
use Rattle.caf_base.specs.declared.team.Team.{Team}
use Rattle.caf_base.specs.Places.{bind}
use Rattle.caf_base.specs.declared.trap.Trap.{Trap}
use Rattle.caf_program.specs.Seen.{Seen}
use Rattle.caf_program.specs.Value.{value_at}
use Rattle.caf_program.specs.declared.expr.ExprR.{ExprR}
use Rattle.caf_treestep.specs.Step.{At, given}
use Rattle.caf_treestep.specs.declared.task.Frame.{Frame as TreeFrame}
use Rattle.caf_treestep.specs.declared.task.Task.{Task as TreeTask}
use Rattle.caf_treestep.specs.declared.todo.Todo.{Todo}
use Rattle.caf_code.specs.Did.{Did, Goes, Stops, Blocks, Fails, Lacks, answers, found}
use Rattle.caf_code.specs.Step.{does, does_at, ended, exec, runs, settled, settles, then_run, unless_waiting}
use Rattle.caf_code.specs.Task.{Frame, OpenCall, Task, past}
use Rattle.caf_base.specs.Element.{has_index}
use Rattle.caf_base.specs.declared.object.Object.{Object}
use Rattle.caf_program.specs.declared.program.Program.{Program}
use Rattle.caf_treestep.specs.declared.todo.CopyOut.{CopyOut as TreeCopyOut}
use Rattle.caf_treestep.specs.declared.todo.Target.{Target}
use Rattle.caf_treestep.specs.declared.todo.Target.TheVariants as target
use Rattle.caf_code.specs.declared.task.CopyOut.{CopyOut}
use Rattle.caf_code.specs.declared.task.CopyTarget.{CopyTarget}
use Rattle.caf_code.specs.declared.task.CopyTarget.TheVariants as copied
use Rattle.caf_code.specs.declared.instr.Instr.{Instr}
use Rattle.caf_code.specs.declared.listing.Listing.{Listing}
use Rattle.caf_code.specs.declared.task.Loop.{Loop}
use Rattle.caf_exprgen.specs.Asks.{LeavesThis}
use Rattle.caf_exprgen.specs.ExprCode.{expr_code}
use Rattle.caf_exprgen.specs.Leaves.{seen_by}
use Rattle.caf_exprgen.specs.Placed.{HasAt}
use Rattle.caf_exprgen.specs.Words.{CodesLeaveValues}
use Rattle.caf_codegen.specs.Agreement.{SameStep}
use Rattle.caf_codegen.proofs.Follows.{Continues, FrameEnd, OfCall, OfMain, OfShip, Stands, between, settle}
use Rattle.caf_codegen.proofs.Places.{has_back, has_front, has_length}

-- what a plain statement leaves of a task over trees and of one of the code: the open calls, the end of the frame, and
-- the event of a ship
pub record Around : Type 0 where
  pub below : List TreeFrame
  pub calls : List OpenCall
  pub end : FrameEnd
  pub done : Option EventAt

-- a task over trees that holds these values
abbrev pub tree_with : Around → List ℤ → List ℤ → List Todo → TreeTask
tree_with w held locals todo = record { frame = record { locals = locals; todo = todo }; below = w.below; held = held; wait = None; done = w.done }

-- one between two statements
abbrev pub tree_at : Around → List ℤ → List Todo → TreeTask
tree_at w locals todo = tree_with w [] locals todo

-- a frame of the code that holds these values, between two Steps
abbrev pub frame_with : List ℤ → List ℤ → List Loop → Frame
frame_with held locals loops = record { cells = locals; stack = []; held = held; loops = loops; listed = []; outs = [] }

abbrev pub frame_at : List ℤ → List Loop → Frame
frame_at locals loops = frame_with [] locals loops

-- a task of the code that holds these values, and one between two statements
abbrev pub code_with : Around → List ℤ → List ℤ → List Loop → ℕ → Task
code_with w held locals loops a = record { address = a; frame = frame_with held locals loops; calls = w.calls; parts = []; wait = None; done = w.done }

abbrev pub code_at : Around → List ℤ → List Loop → ℕ → Task
code_at w locals loops a = code_with w [] locals loops a

abbrev pub target_of : Target → CopyTarget
target_of (target.Scalar o) = copied.Scalar o
target_of (target.Local k) = copied.Local k
target_of (target.Element o i) = copied.Element o i

abbrev pub out_of : TreeCopyOut → CopyOut
out_of x = record { cell = x.cell; target = target_of x.target }

-- an object that has the index
abbrev pub HasIndex : List Object → ℕ → ℤ → Type 0
HasIndex objects o i = (x : Object) × (slice_get objects o ≡ Some x) × (has_index x i ≡ true)

-- a place that can be written in each memory of these objects
abbrev pub CanPut : List Object → Target → Type 0
CanPut objects (target.Scalar o) = HasIndex objects o (pos 1)
CanPut objects (target.Local k) = Unit {0}
CanPut objects (target.Element o i) = HasIndex objects o i

abbrev pub CanPutAll : List Object → List TreeCopyOut → Type 0
CanPutAll objects [] = Unit {0}
CanPutAll objects (x ∷ outs) = CanPut objects x.target × CanPutAll objects outs

-- The frames below are those of the same calls: each goes on behind its call with the same cells, and the same dummies
-- are copied out to places that can be written.
abbrev pub AreCallers : Listing → Program → FrameEnd → List TreeFrame → List OpenCall → Type 0
AreCallers code p OfMain [] [] = Unit {0}
AreCallers code p OfShip [] [] = Unit {0}
AreCallers code p (OfCall outs) (f ∷ below) (c ∷ calls) = (end : FrameEnd) × (loops : List Loop) × (c.caller ≡ frame_at f.locals loops) × (c.outs ≡ map out_of outs) × CanPutAll p.objects outs
    × Continues code p end (c.from + 1) f.todo loops × AreCallers code p end below calls
AreCallers code p _ _ _ = ⊥

-- The task of the code stands where the code does what the task over trees has still to do, with the same cells and the
-- same held values.
pub record Related (code : Listing) (p : Program) (t : TreeTask) (c : Task) : Type 0 where
  pub around : Around
  pub held : List ℤ
  pub locals : List ℤ
  pub todo : List Todo
  pub loops : List Loop
  pub address : ℕ
  pub tree : t ≡ tree_with around held locals todo
  pub task : c ≡ code_with around held locals loops address
  pub there : Stands code p around.end held address todo loops
  pub callers : AreCallers code p around.end around.below around.calls

-- an end of the way through instructions
abbrev pub IsEnd : Did → Type 0
IsEnd (Goes t m) = ⊥
IsEnd _ = Unit {0}

ends_there : (d : Did) (go : Task → ImageMemory → Did) → IsEnd d → then_run d go ≡ d
ends_there (Goes t m) go h = absurd h
ends_there (Stops e t m) go h = refl
ends_there (Blocks n) go h = refl
ends_there (Fails trap m) go h = refl
ends_there (Lacks m) go h = refl

then_goes : (d : Did) → then_run d Goes ≡ d
then_goes (Goes t m) = refl
then_goes (Stops e t m) = refl
then_goes (Blocks n) = refl
then_goes (Fails trap m) = refl
then_goes (Lacks m) = refl

then_run_split : (d : Did) (f g h : Task → ImageMemory → Did) → ((t : Task) (m : ImageMemory) → h t m ≡ then_run (f t m) g) → then_run d h ≡ then_run (then_run d f) g
then_run_split (Goes t m) f g h e = e t m
then_run_split (Stops x t m) f g h e = refl
then_run_split (Blocks n) f g h e = refl
then_run_split (Fails trap m) f g h e = refl
then_run_split (Lacks m) f g h e = refl

exec_split : (code : Listing) (clear : FenceClear) (i j : ℕ) (t : Task) (m : ImageMemory) → exec code clear (i + j) t m ≡ then_run (exec code clear i t m) (exec code clear j)
exec_split code clear zero j t m = let e : 0 + j ≡ j = omega arith in ap (λ n. exec code clear n t m) e
exec_split code clear (suc i) j t m =
    let e : suc i + j ≡ suc (i + j) = omega arith in
    ap (λ n. exec code clear n t m) e ∙ then_run_split (does_at code clear (slice_get code.instrs t.address) t m) (exec code clear i) (exec code clear j) (exec code clear (i + j)) (exec_split code clear i j)

exec_ends : (code : Listing) (clear : FenceClear) (i j : ℕ) (t : Task) (m : ImageMemory) (d : Did) → exec code clear i t m ≡ d → IsEnd d → i ≤ j → exec code clear j t m ≡ d
exec_ends code clear i j t m d e h le =
    let e' : j ≡ i + (j - i) = omega arith in
    ap (λ n. exec code clear n t m) e' ∙ exec_split code clear i (j - i) t m ∙ ap (λ d. then_run d (exec code clear (j - i))) e ∙ ends_there d (exec code clear (j - i)) h

-- what is at hand in a Step: the code, what is known of the code of expressions, and which copies are open
pub record Setting : Type 0 where
  pub code : Listing
  pub program : Program
  pub laws : CodesLeaveValues
  pub clear : FenceClear

-- from here these instructions lead to this
pub record Leads (g : Setting) (is : List Instr) (d : Did) (t : Task) (m : ImageMemory) : Type 0 where
  pub by : HasAt g.code.instrs t.address is → exec g.code g.clear (length is) t m ≡ d

-- after an instruction that goes on, or traps
after_first : (g : Setting) (i : Instr) (js : List Instr) (t : Task) (m : ImageMemory) (d : Did) → does g.code g.clear i t m ≡ d → HasAt g.code.instrs t.address (i ∷ js) → exec g.code g.clear (length (i ∷ js)) t m ≡ then_run d (exec g.code g.clear (length js))
after_first g i js t m d e has =
    ap (λ o. then_run (does_at g.code g.clear o t m) (exec g.code g.clear (length js))) has.0 ∙ ap (λ d. then_run d (exec g.code g.clear (length js))) e

pub leads_last : (g : Setting) (i : Instr) (t : Task) (m : ImageMemory) (d : Did) → does g.code g.clear i t m ≡ d → Leads g (i ∷ []) d t m
leads_last g i t m d e = record { by = λ has. after_first g i [] t m d e has ∙ then_goes d }

pub leads_on : (g : Setting) (i : Instr) (js : List Instr) (t u : Task) (m n : ImageMemory) (d : Did) → does g.code g.clear i t m ≡ Goes u n → u.address ≡ t.address + 1 → Leads g js d u n → Leads g (i ∷ js) d t m
leads_on g i js t u m n d e at more = record { by = λ has. after_first g i js t m (Goes u n) e has ∙ more.by (subst (λ a. HasAt g.code.instrs a js) (sym at) has.1) }

found_then : {A : Type 0} (r : Result A Trap) (m : ImageMemory) (go : A → Did) (next : Task → ImageMemory → Did) (d : A → Did) → ((x : A) → then_run (go x) next ≡ d x) → then_run (found r m go) next ≡ found r m d
found_then (Err trap) m go next d e = refl
found_then (Ok x) m go next d e = e x

-- the same, where what is found is known
found_then_is : {A : Type 0} (r q : Result A Trap) (m : ImageMemory) (go : A → Did) (next : Task → ImageMemory → Did) (d : A → Did) → r ≡ q → ((x : A) → r ≡ Ok x → then_run (go x) next ≡ d x) → then_run (found q m go) next ≡ found q m d
found_then_is r (Err trap) m go next d is e = refl
found_then_is r (Ok x) m go next d is e = e x is

-- what is found and then turned into something
pub found_map : {A B : Type 0} (r : Result A Trap) (f : A → B) (m : ImageMemory) (d : B → Did) → found (bind r (λ x. Ok (f x))) m d ≡ found r m (λ x. d (f x))
found_map (Err t) f m d = refl
found_map (Ok x) f m d = refl

pub found_both : {A B C : Type 0} (r : Result A Trap) (q : Result B Trap) (f : A → B → C) (m : ImageMemory) (d : C → Did) → found (bind r (λ x. bind q (λ y. Ok (f x y)))) m d ≡ found r m (λ x. found q m (λ y. d (f x y)))
found_both (Err t) q f m d = refl
found_both (Ok x) q f m d = found_map q (f x) m d

pub found_bind : {A B : Type 0} (r : Result A Trap) (go : A → Result B Trap) (m : ImageMemory) (d : B → Did) → found (bind r go) m d ≡ found r m (λ x. found (go x) m d)
found_bind (Err t) go m d = refl
found_bind (Ok x) go m d = refl

-- an instruction that finds something, or traps
pub leads_found : {A : Type 0} (g : Setting) (i : Instr) (js : List Instr) (t : Task) (m : ImageMemory) (r : Result A Trap) (u : A → Task) (n : A → ImageMemory) (d : A → Did)
    → does g.code g.clear i t m ≡ found r m (λ x. Goes (u x) (n x)) → ((x : A) → (u x).address ≡ t.address + 1) → ((x : A) → Leads g js (d x) (u x) (n x)) → Leads g (i ∷ js) (found r m d) t m
leads_found g i js t m r u n d e at more = record {
  by = λ has.
      after_first g i js t m (found r m (λ x. Goes (u x) (n x))) e has
      ∙ found_then r m (λ x. Goes (u x) (n x)) (exec g.code g.clear (length js)) d (λ x. (more x).by (subst (λ a. HasAt g.code.instrs a js) (sym (at x)) has.1));
}

answers_found : (v : Answer) (n : ℕ) (stack : List ℤ) (t : Task) (m : ImageMemory) → answers v n stack t m ≡ found v m (λ z. Goes (past n (z ∷ stack) t) m)
answers_found (Err trap) n stack t m = refl
answers_found (Ok z) n stack t m = refl

-- the same for an instruction that pushes its answer
pub leads_answer : (g : Setting) (i : Instr) (js : List Instr) (t : Task) (m : ImageMemory) (v : Answer) (stack : List ℤ) (d : ℤ → Did)
    → does g.code g.clear i t m ≡ answers v 1 stack t m → ((z : ℤ) → Leads g js (d z) (past 1 (z ∷ stack) t) m) → Leads g (i ∷ js) (found v m d) t m
leads_answer g i js t m v stack d e more = leads_found g i js t m v (λ z. past 1 (z ∷ stack) t) (λ z. m) d (e ∙ answers_found v 1 stack t m) (λ z. refl) more

-- instructions that leave a value, and what follows them
pub leads_this : (g : Setting) (value : Seen → Answer) (is : List Instr) → LeavesThis value is → (js : List Instr) (t : Task) (m : ImageMemory) (d : ℤ → Did)
    → ((z : ℤ) → Leads g js (d z) (past (length is) (z ∷ t.frame.stack) t) m) → Leads g (is ++ js) (found (value (seen_by t m)) m d) t m
leads_this g value is leaves js t m d more = record {
  by = λ has.
      let v = value (seen_by t m) in
      ap (λ n. exec g.code g.clear n t m) (length-append is js) ∙ exec_split g.code g.clear (length is) (length js) t m
      ∙ ap (λ d. then_run d (exec g.code g.clear (length js))) (leaves g.code g.clear t m (has_front g.code.instrs t.address is js has) ∙ answers_found v (length is) t.frame.stack t m)
      ∙ found_then v m (λ z. Goes (past (length is) (z ∷ t.frame.stack) t) m) (exec g.code g.clear (length js)) d (λ z. (more z).by (has_back g.code.instrs t.address is js has));
}

-- the value of an expression, and what follows it
pub leads_value : (g : Setting) (e : ExprR) (at : ℕ) (js : List Instr) (t : Task) (m : ImageMemory) (d : ℤ → Did)
    → ((z : ℤ) → Leads g js (d z) (past (length (expr_code e at)) (z ∷ t.frame.stack) t) m) → Leads g (expr_code e at ++ js) (found (value_at e at (seen_by t m)) m d) t m
leads_value g e at js t m d more = leads_this g (value_at e at) (expr_code e at) (g.laws.leaves e at) js t m d more

-- the same two, where the value is known
pub leads_answer_is : (g : Setting) (i : Instr) (js : List Instr) (t : Task) (m : ImageMemory) (v : Answer) (stack : List ℤ) (d : ℤ → Did)
    → does g.code g.clear i t m ≡ answers v 1 stack t m → ((z : ℤ) → v ≡ Ok z → Leads g js (d z) (past 1 (z ∷ stack) t) m) → Leads g (i ∷ js) (found v m d) t m
leads_answer_is g i js t m v stack d e more = record {
  by = λ has.
      after_first g i js t m (found v m (λ z. Goes (past 1 (z ∷ stack) t) m)) (e ∙ answers_found v 1 stack t m) has
      ∙ found_then_is v v m (λ z. Goes (past 1 (z ∷ stack) t) m) (exec g.code g.clear (length js)) d refl (λ z is. (more z is).by has.1);
}

pub leads_value_is : (g : Setting) (e : ExprR) (at : ℕ) (js : List Instr) (t : Task) (m : ImageMemory) (d : ℤ → Did)
    → ((z : ℤ) → value_at e at (seen_by t m) ≡ Ok z → Leads g js (d z) (past (length (expr_code e at)) (z ∷ t.frame.stack) t) m) → Leads g (expr_code e at ++ js) (found (value_at e at (seen_by t m)) m d) t m
leads_value_is g e at js t m d more = record {
  by = λ has.
      let is = expr_code e at in
      let v = value_at e at (seen_by t m) in
      ap (λ n. exec g.code g.clear n t m) (length-append is js) ∙ exec_split g.code g.clear (length is) (length js) t m
      ∙ ap (λ d. then_run d (exec g.code g.clear (length js))) (g.laws.leaves e at g.code g.clear t m (has_front g.code.instrs t.address is js has) ∙ answers_found v (length is) t.frame.stack t m)
      ∙ found_then_is v v m (λ z. Goes (past (length is) (z ∷ t.frame.stack) t) m) (exec g.code g.clear (length js)) d refl (λ z is_z. (more z is_z).by (has_back g.code.instrs t.address is js has));
}

-- the Step of the tree, and what the code did from a task on
abbrev pub SameFor : Setting → Task → ImageMemory → After TreeTask → Did → Type 0
SameFor g c m x d = SameStep g.code (Related g.code g.program) x (ended g.code c m d)

-- a trap on both sides
pub trap_same : (g : Setting) (c : Task) (a : At) (trap : Trap) → SameFor g c a.memory (record { effect = effect.Traps trap; task = a.task; memory = a.memory }) (Fails trap a.memory)
trap_same g c a trap = record { effect = refl; memory = refl; tasks = tt }

-- what is found by both, and then what both do with it
pub found_same : {A : Type 0} (g : Setting) (c : Task) (a : At) (r : Result A Trap) (go : A → After TreeTask) (d : A → Did) → ((x : A) → SameFor g c a.memory (go x) (d x)) → SameFor g c a.memory (given r a go) (found r a.memory d)
found_same g c a (Err trap) go d same = trap_same g c a trap
found_same g c a (Ok x) go d same = same x

pub found_ends : {A : Type 0} (r : Result A Trap) (m : ImageMemory) (d : A → Did) → ((x : A) → IsEnd (d x)) → IsEnd (found r m d)
found_ends (Err trap) m d h = tt
found_ends (Ok x) m d h = h x

-- where the code goes on with what the tree has still to do
pub related_after : (g : Setting) (w : Around) (locals : List ℤ) (todo : List Todo) (loops : List Loop) (a : ℕ) → AreCallers g.code g.program w.end w.below w.calls → Continues g.code g.program w.end a todo loops
    → Related g.code g.program (tree_at w locals todo) (settles g.code (code_at w locals loops a))
related_after g w locals todo loops a callers there = record {
  around = w;
  held = [];
  locals = locals;
  todo = todo;
  loops = loops;
  address = settled g.code.instrs (length g.code.instrs) a;
  tree = refl;
  task = refl;
  there = between (settled g.code.instrs (length g.code.instrs) a) todo loops (settle g.laws g.code g.program w.end a todo loops there (length g.code.instrs) (omega arith));
  callers = callers;
}

-- a Step that ends there
pub ran_same : (g : Setting) (c : Task) (m n : ImageMemory) (w : Around) (locals : List ℤ) (todo : List Todo) (loops : List Loop) (a : ℕ) → AreCallers g.code g.program w.end w.below w.calls → Continues g.code g.program w.end a todo loops
    → SameFor g c m (record { effect = effect.Ran; task = tree_at w locals todo; memory = n }) (Stops effect.Ran (code_at w locals loops a) n)
ran_same g c m n w locals todo loops a callers there = record { effect = refl; memory = refl; tasks = related_after g w locals todo loops a callers there }

-- the same for one that begins an operation, and for one that enters a finish
pub begun_same : (g : Setting) (c : Task) (m n : ImageMemory) (w : Around) (locals : List ℤ) (todo : List Todo) (loops : List Loop) (a : ℕ) (what : OpSpec) → AreCallers g.code g.program w.end w.below w.calls → Continues g.code g.program w.end a todo loops
    → SameFor g c m (record { effect = effect.Begins what; task = tree_at w locals todo; memory = n }) (Stops (effect.Begins what) (code_at w locals loops a) n)
begun_same g c m n w locals todo loops a what callers there = record { effect = refl; memory = refl; tasks = related_after g w locals todo loops a callers there }

pub entered_same : (g : Setting) (c : Task) (m n : ImageMemory) (w : Around) (locals : List ℤ) (todo : List Todo) (loops : List Loop) (a : ℕ) (t : Team) → AreCallers g.code g.program w.end w.below w.calls → Continues g.code g.program w.end a todo loops
    → SameFor g c m (record { effect = effect.Enters t; task = tree_at w locals todo; memory = n }) (Stops (effect.Enters t) (code_at w locals loops a) n)
entered_same g c m n w locals todo loops a t callers there = record { effect = refl; memory = refl; tasks = related_after g w locals todo loops a callers there }

-- a Step whose instructions stand at the task's address
pub step_by : (g : Setting) (c : Task) (m : ImageMemory) (x : After TreeTask) (is : List Instr) (d : Did) → c.wait ≡ None → HasAt g.code.instrs c.address is → Leads g is d c m → IsEnd d → SameFor g c m x d → SameStep g.code (Related g.code g.program) x (runs g.code g.clear c m)
step_by g c m x is d free has leads h same =
    let le : length is ≤ length g.code.instrs = omega (arith, has_length g.code.instrs c.address is has) in
    let e : exec g.code g.clear (length g.code.instrs) c m ≡ d = exec_ends g.code g.clear (length is) (length g.code.instrs) c m d (leads.by has) h le in
    subst (λ w. SameStep g.code (Related g.code g.program) x (unless_waiting w g.code g.clear c m)) (sym free)
    (subst (λ y. SameStep g.code (Related g.code g.program) x (ended g.code c m y)) (sym e) same)
