-- An assignment to a scalar, a cell of the frame or an element of this image.
use Rattle.std.proofs.Common.{◌≡◌, ℕ, ◌+◌, List, [], ◌∷◌, ◌++◌, length, Result, Ok, Err, ℤ, pos, refl, subst, arith, length-append}
use Rattle.std.specs.Prelude.{slice_set}
use Rattle.caf_base.specs.After.{After}
use Rattle.caf_base.specs.Arithmetic.{Answer}
use Rattle.caf_base.specs.ImageMemory.{ImageMemory}
use Rattle.caf_base.specs.Places.{bind, written}
use Rattle.caf_base.specs.declared.effect.Effect.TheVariants as effect
use Rattle.caf_base.specs.declared.trap.Trap.{Trap}
use Rattle.caf_program.specs.Expressions.{count_all}
use Rattle.caf_program.specs.Value.{value_at}
use Rattle.caf_program.specs.declared.expr.ExprR.{ExprR}
use Rattle.caf_program.specs.declared.parts.VariableR.TheVariants as variable
use Rattle.caf_treestep.specs.Step.{At, assigns, keeps, store, variables}
use Rattle.caf_treestep.specs.declared.task.Task.{Task as TreeTask}
use Rattle.caf_treestep.specs.declared.todo.Target.{Target}
use Rattle.caf_treestep.specs.declared.todo.Target.TheVariants as target
use Rattle.caf_treestep.specs.declared.todo.Todo.{Todo}
use Rattle.caf_code.specs.Did.{Did, Stops, found}
use Rattle.caf_code.specs.Step.{runs}
use Rattle.caf_code.specs.Task.{Task, past}
use Rattle.caf_code.specs.declared.instr.CellUse.TheVariants as cell
use Rattle.caf_code.specs.declared.instr.Instr.TheVariants as instr
use Rattle.caf_code.specs.declared.instr.Reach.TheVariants as reach
use Rattle.caf_code.specs.declared.task.Loop.{Loop}
use Rattle.caf_exprgen.specs.ExprCode.{expr_code}
use Rattle.caf_exprgen.specs.Leaves.{seen_by}
use Rattle.caf_exprgen.specs.Placed.{HasAt}
use Rattle.caf_codegen.specs.Agreement.{SameStep}
use Rattle.caf_codegen.specs.StmtCode.{assign_code}
use Rattle.caf_codegen.proofs.Follows.{Continues}
use Rattle.caf_codegen.proofs.Related.{AreCallers, Around, Related, SameFor, Setting, code_at, code_with, found_ends, leads_found, leads_last, leads_on, leads_value, ran_same, step_by, trap_same, tree_with}

-- where the tree task stands before a statement
abbrev pub before : Around → List ℤ → List ℤ → Todo → List Todo → ImageMemory → At
before w held locals s rest m = record { task = tree_with w held locals (s ∷ rest); memory = m; rest = rest }

module _ (g : Setting) (w : Around) (callers : AreCallers g.code g.program w.end w.below w.calls) (held : List ℤ) (locals : List ℤ) (loops : List Loop) (a : ℕ) (m : ImageMemory) (s : Todo) (rest : List Todo) where
  abbrev here : Task
  here = code_with w held locals loops a

  abbrev at : At
  at = before w held locals s rest m

  -- the code's Step is that of the tree
  abbrev Same : After TreeTask → Type 0
  Same x = SameStep g.code (Related g.code g.program) x (runs g.code g.clear here m)

  -- a value that goes into the memory
  stored_same : (t : Target) (z : ℤ) (b : ℕ) (r : Result ImageMemory Trap) → Continues g.code g.program w.end b rest loops
      → SameFor g here m (keeps (bind r (λ n. Ok (record (variables at) { memory = n }))) rest at) (found r m (λ n. Stops effect.Ran (code_at w locals loops b) n))
  stored_same t z b (Err trap) there = trap_same g here at trap
  stored_same t z b (Ok n) there = ran_same g here m n w locals rest loops b callers there

  scalar_same : (o b : ℕ) (v : Answer) → Continues g.code g.program w.end b rest loops
      → SameFor g here m (keeps (bind {A = Target × ℤ} (bind v (λ z. Ok (target.Scalar o, z))) (λ p. store p.0 p.1 (variables at))) rest at) (found v m (λ z. found (written m o (pos 1) z) m (λ n. Stops effect.Ran (code_at w locals loops b) n)))
  scalar_same o b (Err trap) there = trap_same g here at trap
  scalar_same o b (Ok z) there = stored_same (target.Scalar o) z b (written m o (pos 1) z) there

  pub scalar_steps : (o : ℕ) (e : ExprR) → HasAt g.code.instrs a (assign_code (variable.Scalar o) e) → Continues g.code g.program w.end (a + length (assign_code (variable.Scalar o) e)) rest loops → Same (assigns (variable.Scalar o) e at)
  scalar_steps o e has there =
      let n = length (expr_code e 0) in
      let v = value_at e 0 (seen_by here m) in
      let tail = instr.Store reach.Scalar o ∷ instr.Next ∷ [] in
      let b = a + n + 1 + 1 in
      let d : ℤ → Did = λ z. found (written m o (pos 1) z) m (λ x. Stops effect.Ran (code_at w locals loops b) x) in
      let u : Task = code_with w held locals loops (a + n + 1) in
      let len : a + length (expr_code e 0 ++ tail) ≡ b = omega (arith, length-append (expr_code e 0) tail) in
      step_by g here m (assigns (variable.Scalar o) e at) (expr_code e 0 ++ tail) (found v m d) refl has
      (leads_value g e 0 tail here m d (λ z.
      leads_found g (instr.Store reach.Scalar o) (instr.Next ∷ []) (past n (z ∷ []) here) m (written m o (pos 1) z) (λ x. u) (λ x. x) (λ x. Stops effect.Ran (code_at w locals loops b) x) refl (λ x. refl)
      (λ x. leads_last g instr.Next u x (Stops effect.Ran (code_at w locals loops b) x) refl)))
      (found_ends v m d (λ z. found_ends (written m o (pos 1) z) m _ (λ x. tt)))
      (scalar_same o b v (subst (λ k. Continues g.code g.program w.end k rest loops) len there))

  local_same : (k b : ℕ) (v : Answer) → Continues g.code g.program w.end b rest loops
      → SameFor g here m (keeps (bind {A = Target × ℤ} (bind v (λ z. Ok (target.Local k, z))) (λ p. store p.0 p.1 (variables at))) rest at) (found v m (λ z. Stops effect.Ran (code_at w (slice_set locals k z) loops b) m))
  local_same k b (Err trap) there = trap_same g here at trap
  local_same k b (Ok z) there = ran_same g here m m w (slice_set locals k z) rest loops b callers there

  pub local_steps : (k : ℕ) (e : ExprR) → HasAt g.code.instrs a (assign_code (variable.Local k) e) → Continues g.code g.program w.end (a + length (assign_code (variable.Local k) e)) rest loops → Same (assigns (variable.Local k) e at)
  local_steps k e has there =
      let n = length (expr_code e 0) in
      let v = value_at e 0 (seen_by here m) in
      let tail = instr.Cell cell.Set k ∷ instr.Next ∷ [] in
      let b = a + n + 1 + 1 in
      let d : ℤ → Did = λ z. Stops effect.Ran (code_at w (slice_set locals k z) loops b) m in
      let u : ℤ → Task = λ z. code_with w held (slice_set locals k z) loops (a + n + 1) in
      let len : a + length (expr_code e 0 ++ tail) ≡ b = omega (arith, length-append (expr_code e 0) tail) in
      step_by g here m (assigns (variable.Local k) e at) (expr_code e 0 ++ tail) (found v m d) refl has
      (leads_value g e 0 tail here m d (λ z.
      leads_on g (instr.Cell cell.Set k) (instr.Next ∷ []) (past n (z ∷ []) here) (u z) m m (d z) refl refl (leads_last g instr.Next (u z) m (d z) refl)))
      (found_ends v m d (λ z. tt))
      (local_same k b v (subst (λ k. Continues g.code g.program w.end k rest loops) len there))

  element_same : (o b : ℕ) (i v : Answer) → Continues g.code g.program w.end b rest loops
      → SameFor g here m (keeps (bind {A = Target × ℤ} (bind (bind i (λ x. Ok (target.Element o x))) (λ t. bind v (λ z. Ok (t, z)))) (λ p. store p.0 p.1 (variables at))) rest at)
      (found i m (λ x. found v m (λ z. found (written m o x z) m (λ n. Stops effect.Ran (code_at w locals loops b) n))))
  element_same o b (Err trap) v there = trap_same g here at trap
  element_same o b (Ok x) (Err trap) there = trap_same g here at trap
  element_same o b (Ok x) (Ok z) there = stored_same (target.Element o x) z b (written m o x z) there

  pub element_steps : (o : ℕ) (i e : ExprR) → HasAt g.code.instrs a (assign_code (variable.Element o i) e) → Continues g.code g.program w.end (a + length (assign_code (variable.Element o i) e)) rest loops → Same (assigns (variable.Element o i) e at)
  element_steps o i e has there =
      let k = 0 + count_all (i ∷ []) in
      let I = expr_code i 0 in
      let E = expr_code e k in
      let u = value_at i 0 (seen_by here m) in
      let v = value_at e k (seen_by here m) in
      let tail = instr.Store reach.Element o ∷ instr.Next ∷ [] in
      let b = a + length I + length E + 1 + 1 in
      let d : ℤ → ℤ → Did = λ x z. found (written m o x z) m (λ n. Stops effect.Ran (code_at w locals loops b) n) in
      let c : Task = code_with w held locals loops (a + length I + length E + 1) in
      let len : a + length (I ++ (E ++ tail)) ≡ b = omega (arith, length-append I (E ++ tail), length-append E tail) in
      step_by g here m (assigns (variable.Element o i) e at) (I ++ (E ++ tail)) (found u m (λ x. found v m (d x))) refl has
      (leads_value g i 0 (E ++ tail) here m (λ x. found v m (d x)) (λ x.
      leads_value g e k tail (past (length I) (x ∷ []) here) m (d x) (λ z.
      leads_found g (instr.Store reach.Element o) (instr.Next ∷ []) (past (length E) (z ∷ x ∷ []) (past (length I) (x ∷ []) here)) m (written m o x z) (λ n. c) (λ n. n) (λ n. Stops effect.Ran (code_at w locals loops b) n) refl (λ n. refl)
      (λ n. leads_last g instr.Next c n (Stops effect.Ran (code_at w locals loops b) n) refl))))
      (found_ends u m _ (λ x. found_ends v m _ (λ z. found_ends (written m o x z) m _ (λ n. tt))))
      (element_same o b u v (subst (λ k. Continues g.code g.program w.end k rest loops) len there))
