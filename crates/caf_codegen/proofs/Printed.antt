-- A printed line.
use Rattle.std.proofs.Common.{◌≡◌, ℕ, ◌+◌, true, false, List, [], ◌∷◌, ◌++◌, length, Some, Result, Ok, Err, ℤ, refl, sym, ap, subst, arith, append_assoc, append-nil, length-append}
use Rattle.std.specs.Prelude.{Bool, slice_get, if◌then◌else◌}
use Rattle.caf_base.specs.Arithmetic.{Answer}
use Rattle.caf_base.specs.ImageMemory.{ImageMemory}
use Rattle.caf_base.specs.Line.{has_room, line_of, logical_text, number_text, with_line}
use Rattle.caf_base.specs.Places.{bind}
use Rattle.caf_base.specs.declared.effect.Effect.TheVariants as effect
use Rattle.caf_base.specs.declared.trap.Trap.{Trap}
use Rattle.caf_base.specs.declared.trap.Trap.TheVariants as trap
use Rattle.caf_program.specs.Seen.{Seen}
use Rattle.caf_program.specs.Value.{value_at}
use Rattle.caf_program.specs.declared.parts.PrintR.{PrintR}
use Rattle.caf_program.specs.declared.parts.PrintR.TheVariants as part
use Rattle.caf_treestep.specs.Evaluated.{held_by_part, texts_of}
use Rattle.caf_treestep.specs.Step.{added, given, printed, ran}
use Rattle.caf_treestep.specs.declared.todo.Todo.{Todo}
use Rattle.caf_code.specs.Did.{Did, Goes, Stops, Fails, found, there}
use Rattle.caf_code.specs.Step.{does, runs}
use Rattle.caf_code.specs.Task.{Task, past}
use Rattle.caf_code.specs.declared.instr.Instr.TheVariants as instr
use Rattle.caf_code.specs.declared.instr.Printed.TheVariants as row
use Rattle.caf_code.specs.declared.task.Loop.{Loop}
use Rattle.caf_exprgen.specs.ExprCode.{expr_code}
use Rattle.caf_exprgen.specs.Leaves.{seen_by}
use Rattle.caf_exprgen.specs.Placed.{HasAt}
use Rattle.caf_codegen.specs.Agreement.{SameStep}
use Rattle.caf_codegen.specs.StmtCode.{StandsAt, part_texts, parts_code}
use Rattle.caf_codegen.proofs.Assigned.{before}
use Rattle.caf_codegen.proofs.Follows.{Continues}
use Rattle.caf_codegen.proofs.Places.{stands_back}
use Rattle.caf_codegen.proofs.Related.{AreCallers, Around, IsEnd, Leads, Related, SameFor, Setting, code_at, code_with, found_ends, leads_last, leads_on, leads_value, ran_same, step_by, trap_same}

module _ (g : Setting) (w : Around) (held : List ℤ) (locals : List ℤ) (loops : List Loop) (m : ImageMemory) where
  -- while a line is made
  abbrev in_line : ℕ → List (List ℕ) → Task
  in_line a parts = record (code_with w held locals loops a) { parts = parts }

  abbrev seen_here : Seen
  seen_here = seen_by (in_line 0 []) m

  -- what `line` leads to
  abbrev lined : ℕ → List (List ℕ) → Did
  lined b parts = if has_room m (line_of parts) then Stops effect.Ran (code_at w locals loops b) (with_line m (line_of parts)) else Fails trap.Output m

  -- what the instructions of these parts lead to, behind parts that are there already
  abbrev of_texts : ℕ → List (List ℕ) → Result (List (List ℕ)) Trap → Did
  of_texts b parts r = found r m (λ more. lined b (parts ++ more))

  value_text : (v : Answer) (f : ℤ → List ℕ) (more : Result (List (List ℕ)) Trap) (b : ℕ) (parts : List (List ℕ))
      → found v m (λ z. of_texts b (parts ++ f z ∷ []) more) ≡ of_texts b parts (bind (bind v (λ z. Ok (f z))) (λ x. bind more (λ xs. Ok (x ∷ xs))))
  value_text (Err t) f more b parts = refl
  value_text (Ok z) f (Err t) b parts = refl
  value_text (Ok z) f (Ok xs) b parts = ap (lined b) (append_assoc parts (f z ∷ []) xs)

  one_text : (text : List ℕ) (more : Result (List (List ℕ)) Trap) (b : ℕ) (parts : List (List ℕ)) → of_texts b (parts ++ text ∷ []) more ≡ of_texts b parts (bind (Ok text) (λ x. bind more (λ xs. Ok (x ∷ xs))))
  one_text text (Err t) b parts = refl
  one_text text (Ok xs) b parts = ap (lined b) (append_assoc parts (text ∷ []) xs)

  text_does : (k a : ℕ) (text : List ℕ) (parts : List (List ℕ)) → slice_get g.code.texts k ≡ Some text → does g.code g.clear (instr.Print (row.Text k)) (in_line a parts) m ≡ Goes (in_line (a + 1) (parts ++ text ∷ [])) m
  text_does k a text parts e = ap (λ o. there o m (λ x. Goes (in_line (a + 1) (parts ++ x ∷ [])) m)) e

  parts_lead : (l : List PrintR) (at k a b : ℕ) (parts : List (List ℕ)) → StandsAt g.code.texts k (part_texts l) → b ≡ a + length (parts_code l at k) → Leads g (parts_code l at k) (of_texts b parts (texts_of l at seen_here)) (in_line a parts) m
  parts_lead [] at k a b parts texts e =
      subst (λ x. Leads g (instr.Line ∷ []) (lined b x) (in_line a parts) m) (sym (append-nil parts))
      (leads_last g instr.Line (in_line a parts) m (lined b parts) (ap (λ n. lined n parts) (sym e)))
  parts_lead (part.Number e ∷ l) at k a b parts texts len =
      let E = expr_code e at in
      let n = length E in
      let shown = instr.Print row.Number in
      let next = at + held_by_part (part.Number e) in
      let js = parts_code l next (k + 0) in
      let rest = texts_of l next seen_here in
      let flat : (E ++ shown ∷ []) ++ js ≡ E ++ (shown ∷ js) = append_assoc E (shown ∷ []) js in
      subst (λ is. Leads g is (of_texts b parts (texts_of (part.Number e ∷ l) at seen_here)) (in_line a parts) m) (sym flat)
      (subst (λ d. Leads g (E ++ (shown ∷ js)) d (in_line a parts) m) (value_text (value_at e at seen_here) number_text rest b parts)
      (leads_value g e at (shown ∷ js) (in_line a parts) m (λ z. of_texts b (parts ++ number_text z ∷ []) rest) (λ z.
      leads_on g shown js (past n (z ∷ []) (in_line a parts)) (in_line (a + n + 1) (parts ++ number_text z ∷ [])) m m (of_texts b (parts ++ number_text z ∷ []) rest) refl refl
      (parts_lead l next (k + 0) (a + n + 1) b (parts ++ number_text z ∷ []) (stands_back g.code.texts k [] (part_texts l) texts) (omega (arith, len, length-append (E ++ shown ∷ []) js, length-append E (shown ∷ [])))))))
  parts_lead (part.Logical e ∷ l) at k a b parts texts len =
      let E = expr_code e at in
      let n = length E in
      let shown = instr.Print row.Logical in
      let next = at + held_by_part (part.Logical e) in
      let js = parts_code l next (k + 0) in
      let rest = texts_of l next seen_here in
      let flat : (E ++ shown ∷ []) ++ js ≡ E ++ (shown ∷ js) = append_assoc E (shown ∷ []) js in
      subst (λ is. Leads g is (of_texts b parts (texts_of (part.Logical e ∷ l) at seen_here)) (in_line a parts) m) (sym flat)
      (subst (λ d. Leads g (E ++ (shown ∷ js)) d (in_line a parts) m) (value_text (value_at e at seen_here) logical_text rest b parts)
      (leads_value g e at (shown ∷ js) (in_line a parts) m (λ z. of_texts b (parts ++ logical_text z ∷ []) rest) (λ z.
      leads_on g shown js (past n (z ∷ []) (in_line a parts)) (in_line (a + n + 1) (parts ++ logical_text z ∷ [])) m m (of_texts b (parts ++ logical_text z ∷ []) rest) refl refl
      (parts_lead l next (k + 0) (a + n + 1) b (parts ++ logical_text z ∷ []) (stands_back g.code.texts k [] (part_texts l) texts) (omega (arith, len, length-append (E ++ shown ∷ []) js, length-append E (shown ∷ [])))))))
  parts_lead (part.Text text ∷ l) at k a b parts texts len =
      let next = at + held_by_part (part.Text text) in
      let js = parts_code l next (k + 1) in
      let rest = texts_of l next seen_here in
      subst (λ d. Leads g (instr.Print (row.Text k) ∷ js) d (in_line a parts) m) (one_text text rest b parts)
      (leads_on g (instr.Print (row.Text k)) js (in_line a parts) (in_line (a + 1) (parts ++ text ∷ [])) m m (of_texts b (parts ++ text ∷ []) rest) (text_does k a text parts texts.0) refl
      (parts_lead l next (k + 1) (a + 1) b (parts ++ text ∷ []) texts.1 (omega (arith, len))))

  lined_ends : (x : Bool) (y z : Did) → IsEnd y → IsEnd z → IsEnd (if x then y else z)
  lined_ends true y z h i = h
  lined_ends false y z h i = i

  line_same : (callers : AreCallers g.code g.program w.end w.below w.calls) (a b : ℕ) (s : Todo) (rest : List Todo) → Continues g.code g.program w.end b rest loops → (xs : List (List ℕ)) (r : Bool)
      → SameFor g (code_with w held locals loops a) m (given (if r then Ok (with_line m (line_of xs)) else Err trap.Output) (before w held locals s rest m) (λ n. ran n (before w held locals s rest m)))
      (if r then Stops effect.Ran (code_at w locals loops b) (with_line m (line_of xs)) else Fails trap.Output m)
  line_same callers a b s rest more xs true = ran_same g (code_with w held locals loops a) m (with_line m (line_of xs)) w locals rest loops b callers more
  line_same callers a b s rest more xs false = trap_same g (code_with w held locals loops a) (before w held locals s rest m) trap.Output

  print_same : (callers : AreCallers g.code g.program w.end w.below w.calls) (a b : ℕ) (s : Todo) (rest : List Todo) → Continues g.code g.program w.end b rest loops → (r : Result (List (List ℕ)) Trap)
      → SameFor g (code_with w held locals loops a) m (given (bind (bind r (λ xs. Ok (line_of xs))) (added m)) (before w held locals s rest m) (λ n. ran n (before w held locals s rest m))) (of_texts b [] r)
  print_same callers a b s rest more (Err t) = trap_same g (code_with w held locals loops a) (before w held locals s rest m) t
  print_same callers a b s rest more (Ok xs) = line_same callers a b s rest more xs (has_room m (line_of xs))

  pub print_steps : (callers : AreCallers g.code g.program w.end w.below w.calls) (a k : ℕ) (s : Todo) (rest : List Todo) (l : List PrintR) → StandsAt g.code.texts k (part_texts l) → HasAt g.code.instrs a (parts_code l 0 k) → Continues g.code g.program w.end (a + length (parts_code l 0 k)) rest loops
      → SameStep g.code (Related g.code g.program) (given (printed l (seen_by (code_with w held locals loops a) m) m) (before w held locals s rest m) (λ n. ran n (before w held locals s rest m))) (runs g.code g.clear (code_with w held locals loops a) m)
  print_steps callers a k s rest l texts has more =
      let b = a + length (parts_code l 0 k) in
      let ts = texts_of l 0 seen_here in
      step_by g (code_with w held locals loops a) m _ (parts_code l 0 k) (of_texts b [] ts) refl has (parts_lead l 0 k a b [] texts refl) (found_ends ts m (λ xs. lined b xs) (λ xs. lined_ends (has_room m (line_of xs)) _ _ tt tt)) (print_same callers a b s rest more ts)
