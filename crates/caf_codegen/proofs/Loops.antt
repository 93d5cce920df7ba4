-- Loops: `do while`, and `do` with the ends of its iterations.
use Rattle.std.proofs.Common.{◌≡◌, ℕ, zero, suc, pred, ◌+◌, ◌-◌, true, false, List, [], ◌∷◌, ◌++◌, length, Result, Ok, Err, ℤ, pos, refl, sym, ◌∙◌, subst, arith, append_assoc, length-append}
use Rattle.std.specs.Prelude.{Bool, if◌then◌else◌}
use Rattle.caf_base.specs.Arithmetic.{Answer, is_zero, iterations, of_two}
use Rattle.caf_base.specs.ImageMemory.{ImageMemory}
use Rattle.caf_base.specs.Places.{bind, written}
use Rattle.caf_base.specs.declared.arithmetic.BinaryOperator.TheVariants as operator
use Rattle.caf_base.specs.declared.effect.Effect.TheVariants as effect
use Rattle.caf_base.specs.declared.trap.Trap.{Trap}
use Rattle.caf_base.specs.declared.trap.Trap.TheVariants as trap
use Rattle.caf_program.specs.Value.{count, value_at}
use Rattle.caf_program.specs.declared.expr.ExprR.{ExprR}
use Rattle.caf_program.specs.declared.program.SubR.{SubR}
use Rattle.caf_program.specs.declared.stmt.LoopVariableR.{LoopVariableR}
use Rattle.caf_program.specs.declared.stmt.LoopVariableR.TheVariants as loop_variable
use Rattle.caf_program.specs.declared.stmt.StmtR.{StmtR}
use Rattle.caf_program.specs.declared.stmt.StmtR.TheOpen.{StmtR-F}
use Rattle.caf_program.specs.declared.stmt.StmtR.TheFolds.{fold-roll-StmtR}
use Rattle.caf_program.specs.declared.stmt.StmtR.TheViews.{roll-StmtR}
use Rattle.caf_treestep.specs.Step.{Variables, bounds_by, counted, counter, given, goes_on, keeps, kept, loop_begun, store, turned, turns}
use Rattle.caf_treestep.specs.Task.{all_of}
use Rattle.caf_treestep.specs.declared.bounds.Bounds.{Bounds}
use Rattle.caf_treestep.specs.declared.todo.Todo.{Todo}
use Rattle.caf_treestep.specs.declared.todo.Todo.TheVariants as item
use Rattle.caf_code.specs.Did.{Did, Goes, Stops, Fails, answers, found}
use Rattle.caf_code.specs.Flow.{enters, opens_loop, turns as code_turns}
use Rattle.caf_code.specs.Step.{does, runs}
use Rattle.caf_code.specs.Task.{Task, past, with_stack}
use Rattle.caf_code.specs.declared.instr.Arithmetic.TheVariants as arithmetic
use Rattle.caf_code.specs.declared.instr.Instr.TheVariants as instr
use Rattle.caf_code.specs.declared.task.Loop.{Loop}
use Rattle.caf_exprgen.specs.ExprCode.{expr_code}
use Rattle.caf_exprgen.specs.Leaves.{seen_by}
use Rattle.caf_exprgen.specs.Placed.{HasAt}
use Rattle.caf_codegen.specs.Agreement.{SameStep}
use Rattle.caf_codegen.proofs.Fits.{is_block_fit, is_fit, fit_layer}
use Rattle.caf_codegen.specs.StmtCode.{StandsAt, block, bounds_code, codes, do_code, load_of, sizes, stmt_code, store_of, texts_in, turn_code, while_code}
use Rattle.caf_codegen.proofs.Assigned.{before}
use Rattle.caf_codegen.proofs.Follows.{Continues, IsSettledAt, at_statement, at_turn, block_continues, goes_back, still_at}
use Rattle.caf_codegen.proofs.Places.{has_back, has_behind, has_front}
use Rattle.caf_codegen.proofs.Related.{AreCallers, Around, IsEnd, Related, SameFor, Setting, code_at, code_with, found_ends, found_same, leads_answer, leads_found, leads_last, leads_on, leads_value, ran_same, step_by, trap_same}
use Rattle.caf_codegen.proofs.Sized.{sized_block}
use Rattle.caf_codegen.proofs.Still.{stmt_still}

fit_While : (subs : List SubR) (line : ℕ) (e : ExprR) (x : List StmtR) → is_fit subs (roll-StmtR (StmtR-F.While line e x)) ≡ is_block_fit subs x
fit_While subs line e x = fold-roll-StmtR Bool (fit_layer subs) (StmtR-F.While line e x)

module _ (g : Setting) (w : Around) (callers : AreCallers g.code g.program w.end w.below w.calls) (m : ImageMemory) (rest : List Todo) where
  -- the code of the whole statement, which a further iteration goes back to
  pub record Whole (start k : ℕ) (loops : List Loop) (s : StmtR) : Type 0 where
    pub simple : is_fit g.program.subs s ≡ true
    pub has : HasAt g.code.instrs start ((stmt_code s).code start k)
    pub texts : StandsAt g.code.texts k (stmt_code s).texts
    pub more : Continues g.code g.program w.end (start + (stmt_code s).size) rest loops

  -- a further iteration, or the rest
  while_same : (s : Todo) (held : List ℤ) (locals : List ℤ) (loops : List Loop) (start a k line : ℕ) (e : ExprR) (x : List StmtR) → Whole start k loops (roll-StmtR (StmtR-F.While line e x))
      → HasAt g.code.instrs a ((while_code start (expr_code e 0) (codes x)).code a k) → StandsAt g.code.texts k (texts_in (codes x)) → Continues g.code g.program w.end (a + (while_code start (expr_code e 0) (codes x)).size) rest loops → (fails : Bool)
      → SameFor g (code_with w held locals loops a) m
      (goes_on (if fails then rest else all_of x ++ (item.Does (roll-StmtR (StmtR-F.While line e x)) ∷ rest)) (before w held locals s rest m))
      (Stops effect.Ran (code_at w locals loops (if fails then a + length (expr_code e 0) + 1 + sizes (codes x) + 1 else a + length (expr_code e 0) + 1)) m)
  while_same s held locals loops start a k line e x whole has texts more true =
      let at_end : a + (length (expr_code e 0) + 1 + sizes (codes x) + 1) ≡ a + length (expr_code e 0) + 1 + sizes (codes x) + 1 = omega arith in
      ran_same g (code_with w held locals loops a) m m w locals rest loops _ callers (subst (λ b. Continues g.code g.program w.end b rest loops) at_end more)
  while_same s held locals loops start a k line e x whole has texts more false =
      let E = expr_code e 0 in
      let again = roll-StmtR (StmtR-F.While line e x) in
      let first = a + length E + 1 in
      let behind = first + sizes (codes x) in
      let ours = block (codes x) first k in
      let inside = (has_back g.code.instrs a E (instr.Test (behind + 1) ∷ (ours ++ (instr.Go start ∷ []))) has).1 in
      let go = has_behind g.code.instrs first behind ours (instr.Go start ∷ []) (omega (arith, sized_block x first k)) inside in
      let still : IsSettledAt g.code start = still_at g.code start ((stmt_code again).code start k) (stmt_still g.laws again start k) whole.has in
      let back : Continues g.code g.program w.end behind (item.Does again ∷ rest) loops =
      goes_back behind start (item.Does again ∷ rest) loops go.0 still (at_statement start k again rest loops whole.simple whole.has whole.texts whole.more) in
      ran_same g (code_with w held locals loops a) m m w locals (all_of x ++ (item.Does again ∷ rest)) loops first callers
      (block_continues g.laws g.code g.program w.end x (item.Does again ∷ rest) loops first behind k (sym (fit_While g.program.subs line e x) ∙ whole.simple) refl (has_front g.code.instrs first ours _ inside) texts back)

  pub while_steps : (s : Todo) (held : List ℤ) (locals : List ℤ) (loops : List Loop) (start a k line : ℕ) (e : ExprR) (x : List StmtR) → Whole start k loops (roll-StmtR (StmtR-F.While line e x))
      → HasAt g.code.instrs a ((while_code start (expr_code e 0) (codes x)).code a k) → StandsAt g.code.texts k (texts_in (codes x)) → Continues g.code g.program w.end (a + (while_code start (expr_code e 0) (codes x)).size) rest loops
      → SameStep g.code (Related g.code g.program)
      (given (value_at e 0 (seen_by (code_with w held locals loops a) m)) (before w held locals s rest m)
      (λ z. goes_on (if is_zero z then rest else all_of x ++ (item.Does (roll-StmtR (StmtR-F.While line e x)) ∷ rest)) (before w held locals s rest m)))
      (runs g.code g.clear (code_with w held locals loops a) m)
  while_steps s held locals loops start a k line e x whole has texts more =
      let here = code_with w held locals loops a in
      let E = expr_code e 0 in
      let n = length E in
      let first = a + n + 1 in
      let out = first + sizes (codes x) + 1 in
      let test = instr.Test out in
      let others = block (codes x) first k ++ (instr.Go start ∷ []) in
      let v = value_at e 0 (seen_by here m) in
      let d : ℤ → Did = λ z. Stops effect.Ran (code_at w locals loops (if is_zero z then out else first)) m in
      let front = has_front g.code.instrs a (E ++ test ∷ []) others (subst (HasAt g.code.instrs a) (sym (append_assoc E (test ∷ []) others)) has) in
      step_by g here m _ (E ++ test ∷ []) (found v m d) refl front
      (leads_value g e 0 (test ∷ []) here m d (λ z. leads_last g test (past n (z ∷ []) here) m (d z) refl))
      (found_ends v m d (λ z. tt))
      (found_same g here (before w held locals s rest m) v _ d (λ z. while_same s held locals loops start a k line e x whole has texts more (is_zero z)))

module _ (g : Setting) (w : Around) (callers : AreCallers g.code g.program w.end w.below w.calls) (m : ImageMemory) (rest : List Todo) (held : List ℤ) where
  -- the variable of a `do`, as instructions read and write it
  load_does : (v : LoopVariableR) (locals : List ℤ) (loops : List Loop) (a : ℕ) → does g.code g.clear (load_of v) (code_with w held locals loops a) m ≡ answers (counted v (seen_by (code_with w held locals loops a) m)) 1 [] (code_with w held locals loops a) m
  load_does (loop_variable.Scalar o) locals loops a = refl
  load_does (loop_variable.Local k) locals loops a = refl

  -- past a store, with these variables
  abbrev kept_at : List Loop → ℕ → Variables → Task
  kept_at loops a vs = code_with w held vs.locals loops a

  stored_found : (r : Result ImageMemory Trap) (locals : List ℤ) (loops : List Loop) (a : ℕ)
      → found r m (λ n. Goes (code_with w held locals loops a) n) ≡ found (bind r (λ n. Ok (record { locals = locals; memory = n }))) m (λ vs. Goes (kept_at loops a vs) vs.memory)
  stored_found (Err t) locals loops a = refl
  stored_found (Ok n) locals loops a = refl

  abbrev vars : List ℤ → Variables
  vars locals = record { locals = locals; memory = m }

  store_does : (v : LoopVariableR) (locals : List ℤ) (loops : List Loop) (a : ℕ) (z : ℤ) → does g.code g.clear (store_of v) (with_stack (z ∷ []) (code_with w held locals loops a)) m ≡ found (store (counter v) z (vars locals)) m (λ vs. Goes (kept_at loops (a + 1) vs) vs.memory)
  store_does (loop_variable.Scalar o) locals loops a z = stored_found (written m o (pos 1) z) locals loops (a + 1)
  store_does (loop_variable.Local k) locals loops a z = refl

  -- where the iterations begin, or the loop is over
  abbrev after_turn : ℕ → ℤ → List Loop → ℕ → ℕ → Variables → Did
  after_turn zero step loops top out vs = Stops effect.Ran (code_at w vs.locals loops out) vs.memory
  after_turn (suc n) step loops top out vs = Stops effect.Ran (code_at w vs.locals (record { iterations = suc n; step = step } ∷ loops) top) vs.memory

  turns_same : (c : Task) (s : Todo) (locals : List ℤ) (v : LoopVariableR) (step : ℤ) (x : List StmtR) (loops : List Loop) (top k out : ℕ) → is_block_fit g.program.subs x ≡ true
      → HasAt g.code.instrs top (block (codes x) top k) → StandsAt g.code.texts k (texts_in (codes x)) → HasAt g.code.instrs (top + sizes (codes x)) (turn_code v top) → out ≡ top + sizes (codes x) + 5 → Continues g.code g.program w.end out rest loops
      → (vs : Variables) (n : ℕ) → SameFor g c m (kept vs (turns n v step x rest) (before w held locals s rest m)) (after_turn n step loops top out vs)
  turns_same c s locals v step x loops top k out simple has texts turn e more vs zero = ran_same g c m vs.memory w vs.locals rest loops out callers more
  turns_same c s locals v step x loops top k out simple has texts turn e more vs (suc n) =
      let behind = top + sizes (codes x) in
      let inner : List Loop = record { iterations = suc n; step = step } ∷ loops in
      let next : Continues g.code g.program w.end behind (item.Turns v step (suc n) x ∷ rest) inner = at_turn behind top k v step (suc n) x rest loops simple turn has texts refl (subst (λ b. Continues g.code g.program w.end b rest loops) e more) in
      ran_same g c m vs.memory w vs.locals (all_of x ++ (item.Turns v step (suc n) x ∷ rest)) inner top callers (block_continues g.laws g.code g.program w.end x (item.Turns v step (suc n) x ∷ rest) inner top behind k simple refl has texts next)

  after_ends : (n : ℕ) (step : ℤ) (loops : List Loop) (top out : ℕ) (vs : Variables) → IsEnd (after_turn n step loops top out vs)
  after_ends zero step loops top out vs = tt
  after_ends (suc n) step loops top out vs = tt

  again_does : (n : ℕ) (step : ℤ) (loops : List Loop) (top b : ℕ) (vs : Variables) (i : ℕ) → code_turns i step loops top (code_with w held vs.locals (record { iterations = n; step = step } ∷ loops) b) vs.memory ≡ after_turn i step loops top (b + 1) vs
  again_does n step loops top b vs zero = refl
  again_does n step loops top b vs (suc i) = refl

  -- the tree's end of an iteration, where these are found
  turn_same : (c : Task) (s : Todo) (locals : List ℤ) (v : LoopVariableR) (step : ℤ) (d : Variables → Did) (todo : List Todo)
      → ((vs : Variables) → SameFor g c m (kept vs todo (before w held locals s rest m)) (d vs)) → (now : Answer)
      → SameFor g c m (keeps (bind now (λ z. bind (of_two operator.Add z step) (λ y. store (counter v) y (vars locals)))) todo (before w held locals s rest m))
      (found now m (λ z. found (of_two operator.Add z step) m (λ y. found (store (counter v) y (vars locals)) m d)))
  turn_same c s locals v step d todo same (Err t) = trap_same g c (before w held locals s rest m) t
  turn_same c s locals v step d todo same (Ok z) = sum_same (of_two operator.Add z step)
    where
      last_same : (r : Result Variables Trap) → SameFor g c m (keeps r todo (before w held locals s rest m)) (found r m d)
      last_same (Err t) = trap_same g c (before w held locals s rest m) t
      last_same (Ok vs) = same vs

      sum_same : (r : Answer) → SameFor g c m (keeps (bind r (λ y. store (counter v) y (vars locals))) todo (before w held locals s rest m)) (found r m (λ y. found (store (counter v) y (vars locals)) m d))
      sum_same (Err t) = trap_same g c (before w held locals s rest m) t
      sum_same (Ok y) = last_same (store (counter v) y (vars locals))

  one_less : (n : ℕ) → pred n ≡ n - 1
  one_less zero = omega arith
  one_less (suc n) = omega arith

  -- the end of an iteration
  pub turn_steps : (locals : List ℤ) (loops : List Loop) (a top k : ℕ) (v : LoopVariableR) (step : ℤ) (n : ℕ) (x : List StmtR) → is_block_fit g.program.subs x ≡ true
      → HasAt g.code.instrs a (turn_code v top) → HasAt g.code.instrs top (block (codes x) top k) → StandsAt g.code.texts k (texts_in (codes x)) → a ≡ top + sizes (codes x) → Continues g.code g.program w.end (a + 5) rest loops
      → SameStep g.code (Related g.code g.program) (turned n v step x (before w held locals (item.Turns v step n x) rest m)) (runs g.code g.clear (code_with w held locals (record { iterations = n; step = step } ∷ loops) a) m)
  turn_steps locals loops a top k v step n x simple has under texts e more =
      let inner : List Loop = record { iterations = n; step = step } ∷ loops in
      let here = code_with w held locals inner a in
      let now = counted v (seen_by here m) in
      let sum : ℤ → Answer = λ z. of_two operator.Add z step in
      let stored : ℤ → Result Variables Trap = λ y. store (counter v) y (vars locals) in
      let b = a + 1 + 1 + 1 + 1 in
      let five : a + 5 ≡ b + 1 = omega arith in
      let out : b + 1 ≡ top + sizes (codes x) + 5 = omega arith in
      let d : Variables → Did = λ vs. after_turn (pred n) step loops top (b + 1) vs in
      let t1 : ℤ → Task = λ z. past 1 (z ∷ []) here in
      let t2 : ℤ → Task = λ z. past 1 (step ∷ z ∷ []) (t1 z) in
      let t3 : ℤ → ℤ → Task = λ z y. past 1 (y ∷ []) (t2 z) in
      let same : (i : ℕ) → i ≡ n - 1 → SameFor g here m (turned n v step x (before w held locals (item.Turns v step n x) rest m)) (found now m (λ z. found (sum z) m (λ y. found (stored y) m (λ vs. after_turn i step loops top (b + 1) vs))))
      = λ i eq. subst (λ j. SameFor g here m (turned n v step x (before w held locals (item.Turns v step n x) rest m)) (found now m (λ z. found (sum z) m (λ y. found (stored y) m (λ vs. after_turn j step loops top (b + 1) vs))))) (sym eq)
      (turn_same here (item.Turns v step n x) locals v step (λ vs. after_turn (n - 1) step loops top (b + 1) vs) (turns (n - 1) v step x rest)
      (λ vs. turns_same here (item.Turns v step n x) locals v step x loops top k (b + 1) simple under texts (subst (λ p. HasAt g.code.instrs p (turn_code v top)) e has) out (subst (λ p. Continues g.code g.program w.end p rest loops) five more) vs (n - 1)) now) in
      step_by g here m _ (turn_code v top) (found now m (λ z. found (sum z) m (λ y. found (stored y) m d))) refl has
      (leads_answer g (load_of v) _ here m now [] (λ z. found (sum z) m (λ y. found (stored y) m d)) (load_does v locals inner a) (λ z.
      leads_on g instr.StepBy _ (t1 z) (t2 z) m m (found (sum z) m (λ y. found (stored y) m d)) refl refl
      (leads_answer g (instr.Arithmetic arithmetic.Add) _ (t2 z) m (sum z) [] (λ y. found (stored y) m d) refl (λ y.
      leads_found g (store_of v) (instr.Again top ∷ []) (t3 z y) m (stored y) (λ vs. kept_at inner b vs) (λ vs. vs.memory) d (store_does v locals inner (a + 1 + 1 + 1) y) (λ vs. refl) (λ vs.
      leads_last g (instr.Again top) (kept_at inner b vs) vs.memory (d vs) (again_does n step loops top b vs (pred n)))))))
      (found_ends now m _ (λ z. found_ends (sum z) m _ (λ y. found_ends (stored y) m _ (λ vs. after_ends (pred n) step loops top (b + 1) vs))))
      (same (pred n) (one_less n))

  enters_does : (n : ℕ) (step : ℤ) (loops : List Loop) (b out : ℕ) (vs : Variables) → enters n loops out (code_with w held vs.locals (record { iterations = n; step = step } ∷ loops) b) vs.memory ≡ after_turn n step loops (b + 1) out vs
  enters_does zero step loops b out vs = refl
  enters_does (suc n) step loops b out vs = refl

  -- the loop is open, and its first number stands on the stack
  abbrev opened : List ℤ → List Loop → ℕ → Bounds → Task
  opened locals loops b x = with_stack (x.first ∷ []) (code_with w held locals (record { iterations = x.count; step = x.step } ∷ loops) b)

  loop_does : (locals : List ℤ) (loops : List Loop) (b : ℕ) (m1 m2 m3 : ℤ) (zero_step : Bool)
      → (if zero_step then Fails trap.Step m else Goes (opens_loop m1 m2 m3 [] (with_stack (m3 ∷ m2 ∷ m1 ∷ []) (code_with w held locals loops b))) m)
      ≡ found (if zero_step then Err trap.Step else Ok (record { first = m1; step = m3; count = iterations m1 m2 m3 })) m (λ x. Goes (opened locals loops (b + 1) x) m)
  loop_does locals loops b m1 m2 m3 true = refl
  loop_does locals loops b m1 m2 m3 false = refl

  -- the beginning of the loop, where its bounds are found
  begin_same : (c : Task) (s : Todo) (locals : List ℤ) (v : LoopVariableR) (x : List StmtR) (d : Bounds → Variables → Did)
      → ((b : Bounds) (vs : Variables) → SameFor g c m (kept vs (turns b.count v b.step x rest) (before w held locals s rest m)) (d b vs)) → (r : Result Bounds Trap)
      → SameFor g c m (given (bind {B = Bounds × Variables} r (λ b. bind (store (counter v) b.first (vars locals)) (λ ws. Ok (b, ws)))) (before w held locals s rest m) (λ p. kept p.1 (turns p.0.count v p.0.step x rest) (before w held locals s rest m)))
      (found r m (λ b. found (store (counter v) b.first (vars locals)) m (d b)))
  begin_same c s locals v x d same (Err t) = trap_same g c (before w held locals s rest m) t
  begin_same c s locals v x d same (Ok b) = last_same (store (counter v) b.first (vars locals))
    where
      last_same : (r : Result Variables Trap) → SameFor g c m (given (bind {B = Bounds × Variables} r (λ ws. Ok (b, ws))) (before w held locals s rest m) (λ p. kept p.1 (turns p.0.count v p.0.step x rest) (before w held locals s rest m))) (found r m (d b))
      last_same (Err t) = trap_same g c (before w held locals s rest m) t
      last_same (Ok vs) = same b vs

  -- the same, with the three numbers before
  do_same : (c : Task) (s : Todo) (locals : List ℤ) (v : LoopVariableR) (x : List StmtR) (d : Bounds → Variables → Did)
      → ((b : Bounds) (vs : Variables) → SameFor g c m (kept vs (turns b.count v b.step x rest) (before w held locals s rest m)) (d b vs)) → (u1 u2 u3 : Answer)
      → SameFor g c m
      (given (bind {B = Bounds × Variables} (bind u1 (λ m1. bind u2 (λ m2. bind u3 (λ m3. bounds_by m1 m2 m3)))) (λ b. bind (store (counter v) b.first (vars locals)) (λ ws. Ok (b, ws)))) (before w held locals s rest m)
      (λ p. kept p.1 (turns p.0.count v p.0.step x rest) (before w held locals s rest m)))
      (found u1 m (λ m1. found u2 m (λ m2. found u3 m (λ m3. found (bounds_by m1 m2 m3) m (λ b. found (store (counter v) b.first (vars locals)) m (d b))))))
  do_same c s locals v x d same (Err t) u2 u3 = trap_same g c (before w held locals s rest m) t
  do_same c s locals v x d same (Ok m1) (Err t) u3 = trap_same g c (before w held locals s rest m) t
  do_same c s locals v x d same (Ok m1) (Ok m2) (Err t) = trap_same g c (before w held locals s rest m) t
  do_same c s locals v x d same (Ok m1) (Ok m2) (Ok m3) = begin_same c s locals v x d same (bounds_by m1 m2 m3)

  pub do_steps : (s : Todo) (locals : List ℤ) (loops : List Loop) (a k : ℕ) (v : LoopVariableR) (e1 e2 e3 : ExprR) (x : List StmtR) → is_block_fit g.program.subs x ≡ true
      → HasAt g.code.instrs a ((do_code v (bounds_code e1 e2 e3) (codes x)).code a k) → StandsAt g.code.texts k (texts_in (codes x)) → Continues g.code g.program w.end (a + (do_code v (bounds_code e1 e2 e3) (codes x)).size) rest loops
      → SameStep g.code (Related g.code g.program) (given (loop_begun v e1 e2 e3 (seen_by (code_with w held locals loops a) m) (vars locals)) (before w held locals s rest m) (λ p. kept p.1 (turns p.0.count v p.0.step x rest) (before w held locals s rest m)))
      (runs g.code g.clear (code_with w held locals loops a) m)
  do_steps s locals loops a k v e1 e2 e3 x simple has texts more =
      let here = code_with w held locals loops a in
      let k2 = 0 + count e1 in
      let k3 = 0 + count e1 + count e2 in
      let E1 = expr_code e1 0 in
      let E2 = expr_code e2 k2 in
      let E3 = expr_code e3 k3 in
      let bounds = bounds_code e1 e2 e3 in
      let top = a + length bounds + 3 in
      let behind = top + sizes (codes x) in
      let out = behind + 5 in
      let ours = block (codes x) top k in
      let tail = turn_code v top in
      let others = ours ++ tail in
      let three = instr.Loop ∷ store_of v ∷ instr.Enter out ∷ [] in
      let u1 = value_at e1 0 (seen_by here m) in
      let u2 = value_at e2 k2 (seen_by here m) in
      let u3 = value_at e3 k3 (seen_by here m) in
      let b = a + length E1 + length E2 + length E3 in
      let t1 : ℤ → Task = λ m1. past (length E1) (m1 ∷ []) here in
      let t2 : ℤ → ℤ → Task = λ m1 m2. past (length E2) (m2 ∷ m1 ∷ []) (t1 m1) in
      let t3 : ℤ → ℤ → ℤ → Task = λ m1 m2 m3. past (length E3) (m3 ∷ m2 ∷ m1 ∷ []) (t2 m1 m2) in
      let inner : Bounds → List Loop = λ y. record { iterations = y.count; step = y.step } ∷ loops in
      let stored : Bounds → Result Variables Trap = λ y. store (counter v) y.first (vars locals) in
      let d : ℕ → Bounds → Variables → Did = λ p y vs. after_turn y.count y.step loops p out vs in
      let all : ℕ → Did = λ p. found u1 m (λ m1. found u2 m (λ m2. found u3 m (λ m3. found (bounds_by m1 m2 m3) m (λ y. found (stored y) m (d p y))))) in
      let flat : bounds ++ (three ++ others) ≡ (E1 ++ (E2 ++ (E3 ++ three))) ++ others = simp append_assoc in
      let front = has_front g.code.instrs a (E1 ++ (E2 ++ (E3 ++ three))) others (subst (HasAt g.code.instrs a) flat has) in
      let l = length-append E1 (E2 ++ E3) in
      let l' = length-append E2 E3 in
      let at_top : b + 1 + 1 + 1 ≡ top = omega (arith, l, l') in
      let inside = has_behind g.code.instrs (a + length bounds) top three others refl (has_back g.code.instrs a bounds (three ++ others) has) in
      let under = has_front g.code.instrs top ours tail inside in
      let turn = has_behind g.code.instrs top behind ours tail (omega (arith, sized_block x top k)) inside in
      let at_out : a + (length bounds + 3 + sizes (codes x) + 5) ≡ out = omega arith in
      step_by g here m _ (E1 ++ (E2 ++ (E3 ++ three))) (all (b + 1 + 1 + 1)) refl front
      (leads_value g e1 0 (E2 ++ (E3 ++ three)) here m (λ m1. found u2 m (λ m2. found u3 m (λ m3. found (bounds_by m1 m2 m3) m (λ y. found (stored y) m (d (b + 1 + 1 + 1) y))))) (λ m1.
      leads_value g e2 k2 (E3 ++ three) (t1 m1) m (λ m2. found u3 m (λ m3. found (bounds_by m1 m2 m3) m (λ y. found (stored y) m (d (b + 1 + 1 + 1) y)))) (λ m2.
      leads_value g e3 k3 three (t2 m1 m2) m (λ m3. found (bounds_by m1 m2 m3) m (λ y. found (stored y) m (d (b + 1 + 1 + 1) y))) (λ m3.
      leads_found g instr.Loop (store_of v ∷ instr.Enter out ∷ []) (t3 m1 m2 m3) m (bounds_by m1 m2 m3) (λ y. opened locals loops (b + 1) y) (λ y. m) (λ y. found (stored y) m (d (b + 1 + 1 + 1) y)) (loop_does locals loops b m1 m2 m3 (is_zero m3)) (λ y. refl) (λ y.
      leads_found g (store_of v) (instr.Enter out ∷ []) (opened locals loops (b + 1) y) m (stored y) (λ vs. kept_at (inner y) (b + 1 + 1) vs) (λ vs. vs.memory) (d (b + 1 + 1 + 1) y) (store_does v locals (inner y) (b + 1) y.first) (λ vs. refl) (λ vs.
      leads_last g (instr.Enter out) (kept_at (inner y) (b + 1 + 1) vs) vs.memory (d (b + 1 + 1 + 1) y vs) (enters_does y.count y.step loops (b + 1 + 1) out vs)))))))
      (found_ends u1 m _ (λ m1. found_ends u2 m _ (λ m2. found_ends u3 m _ (λ m3. found_ends (bounds_by m1 m2 m3) m _ (λ y. found_ends (stored y) m _ (λ vs. after_ends y.count y.step loops (b + 1 + 1 + 1) out vs))))))
      (subst (λ p. SameFor g here m (given (loop_begun v e1 e2 e3 (seen_by here m) (vars locals)) (before w held locals s rest m) (λ p. kept p.1 (turns p.0.count v p.0.step x rest) (before w held locals s rest m))) (all p)) (sym at_top)
      (do_same here s locals v x (d top)
      (λ y vs. turns_same here s locals v y.step x loops top k out simple under texts turn refl (subst (λ p. Continues g.code g.program w.end p rest loops) at_out more) vs y.count)
      u1 u2 u3))
