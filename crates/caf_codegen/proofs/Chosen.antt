-- A choice between two blocks.
use Rattle.std.proofs.Common.{◌≡◌, ℕ, ◌+◌, true, false, List, [], ◌∷◌, ◌++◌, length, ℤ, refl, sym, subst, arith, append_assoc}
use Rattle.std.specs.Prelude.{Bool, if◌then◌else◌}
use Rattle.caf_base.specs.Arithmetic.{is_zero}
use Rattle.caf_base.specs.ImageMemory.{ImageMemory}
use Rattle.caf_base.specs.declared.effect.Effect.TheVariants as effect
use Rattle.caf_program.specs.Value.{value_at}
use Rattle.caf_program.specs.declared.expr.ExprR.{ExprR}
use Rattle.caf_program.specs.declared.stmt.StmtR.{StmtR}
use Rattle.caf_treestep.specs.Step.{given, goes_on}
use Rattle.caf_treestep.specs.Task.{all_of}
use Rattle.caf_treestep.specs.declared.todo.Todo.{Todo}
use Rattle.caf_code.specs.Did.{Did, Stops, found}
use Rattle.caf_code.specs.Step.{runs}
use Rattle.caf_code.specs.Task.{past}
use Rattle.caf_code.specs.declared.instr.Instr.{Instr}
use Rattle.caf_code.specs.declared.instr.Instr.TheVariants as instr
use Rattle.caf_code.specs.declared.task.Loop.{Loop}
use Rattle.caf_exprgen.specs.ExprCode.{expr_code}
use Rattle.caf_exprgen.specs.Leaves.{seen_by}
use Rattle.caf_exprgen.specs.Placed.{HasAt}
use Rattle.caf_codegen.specs.Agreement.{SameStep}
use Rattle.caf_codegen.proofs.Fits.{is_block_fit}
use Rattle.caf_codegen.specs.StmtCode.{StandsAt, block, codes, if_code, sizes, texts_in}
use Rattle.caf_codegen.proofs.Assigned.{before}
use Rattle.caf_codegen.proofs.Follows.{Continues, block_continues, jumps}
use Rattle.caf_codegen.proofs.Places.{has_back, has_behind, has_front, stands_back, stands_front}
use Rattle.caf_codegen.proofs.Related.{AreCallers, Around, Related, SameFor, Setting, code_at, code_with, found_ends, found_same, leads_last, leads_value, ran_same, step_by}
use Rattle.caf_codegen.proofs.Sized.{sized_block}

module _ (g : Setting) (w : Around) (callers : AreCallers g.code g.program w.end w.below w.calls) (held : List ℤ) (locals : List ℤ) (loops : List Loop) (a k : ℕ) (m : ImageMemory) (s : Todo) (rest : List Todo) (e : ExprR) (x y : List StmtR) where
  abbrev first : ℕ
  first = a + length (expr_code e 0) + 1

  abbrev behind_first : ℕ
  behind_first = first + sizes (codes x)

  abbrev second : ℕ
  second = behind_first + 1

  abbrev end : ℕ
  end = second + sizes (codes y)

  abbrev branches : List Instr
  branches = block (codes x) first k ++ (instr.Go end ∷ block (codes y) second (k + length (texts_in (codes x))))

  -- the block that comes next
  block_same : is_block_fit g.program.subs x ≡ true → is_block_fit g.program.subs y ≡ true → HasAt g.code.instrs first branches → StandsAt g.code.texts k (texts_in (codes x) ++ texts_in (codes y)) → Continues g.code g.program w.end end rest loops → (fails : Bool)
      → SameFor g (code_with w held locals loops a) m (goes_on (all_of (if fails then y else x) ++ rest) (before w held locals s rest m)) (Stops effect.Ran (code_at w locals loops (if fails then second else first)) m)
  block_same simple_x simple_y has texts more true =
      let jump = has_behind g.code.instrs first behind_first (block (codes x) first k) (instr.Go end ∷ block (codes y) second (k + length (texts_in (codes x)))) (omega (arith, sized_block x first k)) has in
      ran_same g (code_with w held locals loops a) m m w locals (all_of y ++ rest) loops second callers
      (block_continues g.laws g.code g.program w.end y rest loops second end (k + length (texts_in (codes x))) simple_y refl jump.1 (stands_back g.code.texts k (texts_in (codes x)) (texts_in (codes y)) texts) more)
  block_same simple_x simple_y has texts more false =
      let jump = has_behind g.code.instrs first behind_first (block (codes x) first k) (instr.Go end ∷ block (codes y) second (k + length (texts_in (codes x)))) (omega (arith, sized_block x first k)) has in
      ran_same g (code_with w held locals loops a) m m w locals (all_of x ++ rest) loops first callers
      (block_continues g.laws g.code g.program w.end x rest loops first behind_first k simple_x refl (has_front g.code.instrs first (block (codes x) first k) _ has) (stands_front g.code.texts k (texts_in (codes x)) (texts_in (codes y)) texts)
      (jumps behind_first end rest loops jump.0 (omega arith) more))

  pub if_steps : is_block_fit g.program.subs x ≡ true → is_block_fit g.program.subs y ≡ true → HasAt g.code.instrs a ((if_code (expr_code e 0) (codes x) (codes y)).code a k) → StandsAt g.code.texts k (texts_in (codes x) ++ texts_in (codes y))
      → Continues g.code g.program w.end (a + (if_code (expr_code e 0) (codes x) (codes y)).size) rest loops
      → SameStep g.code (Related g.code g.program) (given (value_at e 0 (seen_by (code_with w held locals loops a) m)) (before w held locals s rest m) (λ z. goes_on (all_of (if is_zero z then y else x) ++ rest) (before w held locals s rest m))) (runs g.code g.clear (code_with w held locals loops a) m)
  if_steps simple_x simple_y has texts more =
      let here = code_with w held locals loops a in
      let E = expr_code e 0 in
      let n = length E in
      let test = instr.Test second in
      let v = value_at e 0 (seen_by here m) in
      let d : ℤ → Did = λ z. Stops effect.Ran (code_at w locals loops (if is_zero z then second else first)) m in
      let front = has_front g.code.instrs a (E ++ test ∷ []) branches (subst (HasAt g.code.instrs a) (sym (append_assoc E (test ∷ []) branches)) has) in
      let behind = (has_back g.code.instrs a E (test ∷ branches) has).1 in
      let at_end : a + (n + 1 + sizes (codes x) + 1 + sizes (codes y)) ≡ end = omega arith in
      step_by g here m _ (E ++ test ∷ []) (found v m d) refl front
      (leads_value g e 0 (test ∷ []) here m d (λ z. leads_last g test (past n (z ∷ []) here) m (d z) refl))
      (found_ends v m d (λ z. tt))
      (found_same g here (before w held locals s rest m) v (λ z. goes_on (all_of (if is_zero z then y else x) ++ rest) (before w held locals s rest m)) d
      (λ z. block_same simple_x simple_y behind texts (subst (λ b. Continues g.code g.program w.end b rest loops) at_end more) (is_zero z)))
