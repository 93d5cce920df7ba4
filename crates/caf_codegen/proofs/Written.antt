-- A blocking write of an element at a place, and of one behind a copointer.
use Rattle.std.proofs.Common.{◌≡◌, ℕ, ◌+◌, List, [], ◌∷◌, ◌++◌, length, Some, Result, Ok, Err, ℤ, refl, subst, arith, length-append}
use Rattle.caf_base.specs.After.{After}
use Rattle.caf_base.specs.Arithmetic.{Answer}
use Rattle.caf_base.specs.ImageMemory.{ImageMemory}
use Rattle.caf_base.specs.Places.{bind, element_section, pointed_section}
use Rattle.caf_base.specs.declared.effect.Effect.TheVariants as effect
use Rattle.caf_base.specs.declared.operation.OpSpec.TheVariants as begun
use Rattle.caf_base.specs.declared.operation.Section.{Section}
use Rattle.caf_base.specs.declared.place.Place.{Place}
use Rattle.caf_base.specs.declared.trap.Trap.{Trap}
use Rattle.caf_program.specs.Value.{count, value_at}
use Rattle.caf_program.specs.declared.expr.ExprR.{ExprR}
use Rattle.caf_program.specs.declared.expr.PlaceR.{PlaceR}
use Rattle.caf_program.specs.declared.parts.VariableR.TheVariants as variable
use Rattle.caf_treestep.specs.Evaluated.{place_of}
use Rattle.caf_treestep.specs.Step.{At, assigns, awaits}
use Rattle.caf_treestep.specs.declared.task.Task.{Task as TreeTask}
use Rattle.caf_treestep.specs.declared.todo.Todo.{Todo}
use Rattle.caf_code.specs.Did.{Did, Stops, found, on_one, stops}
use Rattle.caf_code.specs.Operations.{awaits as code_awaits}
use Rattle.caf_code.specs.Step.{runs}
use Rattle.caf_code.specs.Task.{Task, past}
use Rattle.caf_code.specs.declared.instr.ElementForm.TheVariants as element
use Rattle.caf_code.specs.declared.instr.Instr.TheVariants as instr
use Rattle.caf_code.specs.declared.task.Loop.{Loop}
use Rattle.caf_code.specs.declared.task.Wait.TheVariants as wait
use Rattle.caf_exprgen.specs.ExprCode.{expr_code, team_place}
use Rattle.caf_exprgen.specs.Leaves.{seen_by}
use Rattle.caf_exprgen.specs.Placed.{HasAt}
use Rattle.caf_codegen.specs.Agreement.{SameStep}
use Rattle.caf_codegen.specs.StmtCode.{assign_code}
use Rattle.caf_codegen.proofs.Assigned.{before}
use Rattle.caf_codegen.proofs.Follows.{Continues}
use Rattle.caf_codegen.proofs.Ranked.{leads_place}
use Rattle.caf_codegen.proofs.Related.{AreCallers, Around, Related, SameFor, Setting, code_at, code_with, found_ends, leads_last, leads_value, related_after, step_by, trap_same}

module _ (g : Setting) (w : Around) (callers : AreCallers g.code g.program w.end w.below w.calls) (held : List ℤ) (locals : List ℤ) (loops : List Loop) (a : ℕ) (m : ImageMemory) (s : Todo) (rest : List Todo) where
  abbrev here : Task
  here = code_with w held locals loops a

  abbrev at : At
  at = before w held locals s rest m

  -- the code's Step is that of the tree
  abbrev Same : After TreeTask → Type 0
  Same x = SameStep g.code (Related g.code g.program) x (runs g.code g.clear here m)

  -- the task of the code as it waits for the end of its write
  abbrev writing : ℕ → Task
  writing b = record (code_at w locals loops b) { wait = Some wait.Written }

  abbrev write_did : ℕ → ℤ → Section → Did
  write_did b z c = Stops (effect.Begins (begun.Write c z)) (writing b) m

  written_same : (b : ℕ) (z : ℤ) (r : Result Section Trap) → Continues g.code g.program w.end b rest loops → SameFor g here m (awaits (bind r (λ c. Ok (begun.Write c z))) at) (found r m (write_did b z))
  written_same b z (Err trap) more = trap_same g here at trap
  written_same b z (Ok c) more = record { effect = refl; memory = refl; tasks = related_after g w locals rest loops b callers more }

  coindexed_same : (b o : ℕ) (x : Answer) (q : Result Place Trap) (z : Answer) → Continues g.code g.program w.end b rest loops
      → SameFor g here m (awaits (bind x (λ x. bind q (λ to. bind z (λ z. bind (element_section m o x to) (λ c. Ok (begun.Write c z)))))) at) (found x m (λ x. found q m (λ to. found z m (λ z. found (element_section m o x to) m (write_did b z)))))
  coindexed_same b o (Err trap) q z more = trap_same g here at trap
  coindexed_same b o (Ok x) (Err trap) z more = trap_same g here at trap
  coindexed_same b o (Ok x) (Ok to) (Err trap) more = trap_same g here at trap
  coindexed_same b o (Ok x) (Ok to) (Ok z) more = written_same b z (element_section m o x to) more

  pub coindexed_steps : (o : ℕ) (i : ExprR) (p : PlaceR ExprR) (e : ExprR) → HasAt g.code.instrs a (assign_code (variable.Coindexed o i p) e) → Continues g.code g.program w.end (a + length (assign_code (variable.Coindexed o i p) e)) rest loops → Same (assigns (variable.Coindexed o i p) e at)
  coindexed_steps o i p e has more =
      let k = 0 + count i in
      let j = 0 + count i + count p.rank in
      let I = expr_code i 0 in
      let R = expr_code p.rank k in
      let E = expr_code e j in
      let last = instr.Put (element.Coindexed o (team_place p.team)) in
      let view = seen_by here m in
      let rx = value_at i 0 view in
      let rq = place_of p k view in
      let rz = value_at e j view in
      let b = a + length I + length R + length E + 1 in
      let d : ℤ → Place → ℤ → Did = λ x to z. found (element_section m o x to) m (write_did b z) in
      let len : a + length (I ++ (R ++ (E ++ last ∷ []))) ≡ b = omega (arith, length-append I (R ++ (E ++ last ∷ [])), length-append R (E ++ last ∷ []), length-append E (last ∷ [])) in
      step_by g here m _ (I ++ (R ++ (E ++ last ∷ []))) (found rx m (λ x. found rq m (λ to. found rz m (d x to)))) refl has
      (leads_value g i 0 (R ++ (E ++ last ∷ [])) here m (λ x. found rq m (λ to. found rz m (d x to))) (λ x. (let t : Task = past (length I) (x ∷ []) here in
      leads_place g (Some p) k (E ++ last ∷ []) t m (λ to. found rz m (d x to)) (λ to stack pops. (let u : Task = past (length R) stack t in
      leads_value g e j (last ∷ []) u m (d x to) (λ z. (let v : Task = past (length E) (z ∷ stack) u in
      leads_last g last v m (d x to z) (pops m (λ q below. on_one below m (λ index left. found (element_section m o index q) m (λ c. stops (effect.Begins (begun.Write c z)) left (code_awaits wait.Written v) m)))))))))))
      (found_ends rx m _ (λ x. found_ends rq m _ (λ to. found_ends rz m _ (λ z. found_ends (element_section m o x to) m _ (λ c. tt)))))
      (coindexed_same b o rx rq rz (subst (λ n. Continues g.code g.program w.end n rest loops) len more))

  pointed_same : (b c : ℕ) (x z : Answer) → Continues g.code g.program w.end b rest loops
      → SameFor g here m (awaits (bind x (λ x. bind z (λ z. bind (pointed_section m c x) (λ y. Ok (begun.Write y z))))) at) (found x m (λ x. found z m (λ z. found (pointed_section m c x) m (write_did b z))))
  pointed_same b c (Err trap) z more = trap_same g here at trap
  pointed_same b c (Ok x) (Err trap) more = trap_same g here at trap
  pointed_same b c (Ok x) (Ok z) more = written_same b z (pointed_section m c x) more

  pub pointed_steps : (c : ℕ) (i e : ExprR) → HasAt g.code.instrs a (assign_code (variable.Pointed c i) e) → Continues g.code g.program w.end (a + length (assign_code (variable.Pointed c i) e)) rest loops → Same (assigns (variable.Pointed c i) e at)
  pointed_steps c i e has more =
      let k = 0 + count i in
      let I = expr_code i 0 in
      let E = expr_code e k in
      let last = instr.Put (element.Pointed c) in
      let view = seen_by here m in
      let rx = value_at i 0 view in
      let rz = value_at e k view in
      let b = a + length I + length E + 1 in
      let d : ℤ → ℤ → Did = λ x z. found (pointed_section m c x) m (write_did b z) in
      let len : a + length (I ++ (E ++ last ∷ [])) ≡ b = omega (arith, length-append I (E ++ last ∷ []), length-append E (last ∷ [])) in
      step_by g here m _ (I ++ (E ++ last ∷ [])) (found rx m (λ x. found rz m (d x))) refl has
      (leads_value g i 0 (E ++ last ∷ []) here m (λ x. found rz m (d x)) (λ x. (let t : Task = past (length I) (x ∷ []) here in
      leads_value g e k (last ∷ []) t m (d x) (λ z. leads_last g last (past (length E) (z ∷ x ∷ []) t) m (d x z) refl))))
      (found_ends rx m _ (λ x. found_ends rz m _ (λ z. found_ends (pointed_section m c x) m _ (λ y. tt))))
      (pointed_same b c rx rz (subst (λ n. Continues g.code g.program w.end n rest loops) len more))
