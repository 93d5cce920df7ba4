-- A Step of any statement: one of its reads, or its last one.
use Rattle.std.proofs.Common.{◌≡◌, ℕ, ◌+◌, true, List, [], ◌∷◌, ◌++◌, length, Option, Some, None, Result, Ok, Err, ℤ, refl, sym, ap, ◌∙◌, subst, arith, append_assoc, append-nil, length-append}
use Rattle.std.specs.Prelude.{Bool, slice_get}
use Rattle.caf_base.specs.Arithmetic.{Answer}
use Rattle.caf_base.specs.ImageMemory.{ImageMemory}
use Rattle.caf_base.specs.Places.{bind, element_section, pointed_section}
use Rattle.caf_base.specs.declared.effect.Effect.TheVariants as effect
use Rattle.caf_base.specs.declared.operation.OpSpec.TheVariants as begun
use Rattle.caf_base.specs.declared.operation.Section.{Section}
use Rattle.caf_base.specs.declared.trap.Trap.{Trap}
use Rattle.caf_program.specs.Expressions.{expressions, reads_all}
use Rattle.caf_program.specs.Value.{Read}
use Rattle.caf_program.specs.declared.expr.TeamR.{TeamR}
use Rattle.caf_program.specs.declared.parts.VariableR.TheVariants as variable
use Rattle.caf_program.specs.declared.stmt.StmtR.{StmtR}
use Rattle.caf_program.specs.declared.stmt.StmtR.TheOpen.{StmtR-F}
use Rattle.caf_program.specs.declared.stmt.StmtR.TheFolds.{fold_out-StmtR, fold-roll-StmtR, map-StmtR}
use Rattle.caf_program.specs.declared.stmt.StmtR.TheViews.{out-StmtR, roll-StmtR}
use Rattle.caf_treestep.specs.Evaluated.{place_in}
use Rattle.caf_treestep.specs.Step.{At, does, does_last, does_next, does_read, reads_section}
use Rattle.caf_treestep.specs.declared.todo.Todo.{Todo}
use Rattle.caf_treestep.specs.declared.todo.Todo.TheVariants as item
use Rattle.caf_code.specs.Did.{Did, Stops, found, on_one}
use Rattle.caf_code.specs.Operations.{awaits}
use Rattle.caf_code.specs.Step.{runs, settled}
use Rattle.caf_code.specs.Task.{Task, past}
use Rattle.caf_code.specs.declared.instr.ElementForm.TheVariants as element
use Rattle.caf_code.specs.declared.instr.Instr.{Instr}
use Rattle.caf_code.specs.declared.instr.Instr.TheVariants as instr
use Rattle.caf_code.specs.declared.task.Loop.{Loop}
use Rattle.caf_code.specs.declared.task.Wait.TheVariants as wait
use Rattle.caf_exprgen.specs.Asks.{AllAsk, Asks}
use Rattle.caf_exprgen.specs.ExprCode.{joined, team_place}
use Rattle.caf_exprgen.specs.Leaves.{seen_by}
use Rattle.caf_exprgen.specs.Placed.{HasAt}
use Rattle.caf_codegen.specs.Agreement.{SameStep}
use Rattle.caf_codegen.specs.StmtCode.{StandsAt, StmtCode, last_code, last_layer, stmt_code, stmt_layer}
use Rattle.caf_codegen.proofs.Assigned.{before, element_steps, local_steps, scalar_steps}
use Rattle.caf_codegen.proofs.Awaited.{fence_steps, notify_steps, wait_steps}
use Rattle.caf_codegen.proofs.Both.{first_true, second_true}
use Rattle.caf_codegen.proofs.Called.{SubsPlaced, call_steps}
use Rattle.caf_codegen.proofs.Chosen.{if_steps}
use Rattle.caf_codegen.proofs.Fits.{is_block_fit, is_fit, fit_layer}
use Rattle.caf_codegen.proofs.Follows.{Continues, settled_same, still_at, within}
use Rattle.caf_codegen.proofs.Gathered.{finish_steps, split_steps}
use Rattle.caf_codegen.proofs.Loops.{Whole, do_steps, while_steps}
use Rattle.caf_codegen.proofs.Parts.{code_parts, coded_blocks, pieces_of, reads_size, size_anywhere, size_parts, texts_anywhere, texts_same}
use Rattle.caf_codegen.proofs.Pieces.{all_ask, ask_at, ask_none, joined_append}
use Rattle.caf_codegen.proofs.Places.{has_back, has_behind, has_front}
use Rattle.caf_codegen.proofs.Printed.{print_steps}
use Rattle.caf_codegen.proofs.Ranked.{pops_rank}
use Rattle.caf_codegen.proofs.Related.{AreCallers, Around, Related, SameFor, Setting, code_with, found_ends, leads_last, leads_this, step_by, trap_same, tree_with}
use Rattle.caf_codegen.proofs.Shipped.{aim_steps, copy_steps, spawn_steps}
use Rattle.caf_codegen.proofs.Sized.{sized_parts}
use Rattle.caf_codegen.proofs.Still.{parts_still}
use Rattle.caf_codegen.proofs.Written.{coindexed_steps, pointed_steps}

-- what is read, and then what the code does with it
module _ (g : Setting) (w : Around) (callers : AreCallers g.code g.program w.end w.below w.calls) (held : List ℤ) (locals : List ℤ) (loops : List Loop) (a : ℕ) (m : ImageMemory) (s : Todo) (rest : List Todo) where
  abbrev here : Task
  here = code_with w held locals loops a

  abbrev at : At
  at = before w held locals s rest m

  -- a task of the code that waits for a value
  abbrev asking : ℕ → Task
  asking b = record (code_with w held locals loops b) { wait = Some wait.Value }

  abbrev ask_did : ℕ → Section → Did
  ask_did b y = Stops (effect.Begins (begun.Read y)) (asking b) m

  -- where the read is over, with any value
  abbrev GoesOn : ℕ → Type 0
  GoesOn b = (z : ℤ) → Related g.code g.program (tree_with w (held ++ z ∷ []) locals (s ∷ rest)) (code_with w (held ++ z ∷ []) locals loops (settled g.code.instrs (length g.code.instrs) b))

  asked_same : (b : ℕ) → GoesOn b → (r : Result Section Trap) → SameFor g here m (reads_section r at) (found r m (ask_did b))
  asked_same b more (Err trap) = trap_same g here at trap
  asked_same b more (Ok y) = record { effect = refl; memory = refl; tasks = more }

  coindexed_same : (b o : ℕ) (t : TeamR) → GoesOn b → (x q : Answer)
      → SameFor g here m (reads_section (bind x (λ i. bind q (λ r. element_section m o i (place_in t r)))) at) (found x m (λ i. found q m (λ r. found (element_section m o i (place_in t r)) m (ask_did b))))
  coindexed_same b o t more (Err trap) q = trap_same g here at trap
  coindexed_same b o t more (Ok i) (Err trap) = trap_same g here at trap
  coindexed_same b o t more (Ok i) (Ok r) = asked_same b more (element_section m o i (place_in t r))

  pointed_same : (b c : ℕ) → GoesOn b → (x : Answer) → SameFor g here m (reads_section (bind x (pointed_section m c)) at) (found x m (λ i. found (pointed_section m c i) m (ask_did b)))
  pointed_same b c more (Err trap) = trap_same g here at trap
  pointed_same b c more (Ok i) = asked_same b more (pointed_section m c i)

  -- a read
  pub read_steps : (r : Read) (is : List Instr) → Asks r is → HasAt g.code.instrs a is → GoesOn (a + length is) → SameStep g.code (Related g.code g.program) (does_read r at) (runs g.code g.clear here m)
  read_steps (Read.Coindexed o t index rank) is asks has more =
      let I = asks.first in
      let R = asks.second in
      let last = instr.Ask (element.Coindexed o (team_place t)) in
      let view = seen_by here m in
      let x = index view in
      let q = rank view in
      let b = a + length I + length R + 1 in
      let len : a + length is ≡ b = omega (arith, ap (λ (l : List Instr). length l) asks.are, length-append I (R ++ (last ∷ [])), length-append R (last ∷ [])) in
      let d : ℤ → ℤ → Did = λ i r. found (element_section m o i (place_in t r)) m (ask_did b) in
      step_by g here m _ (I ++ (R ++ (last ∷ []))) (found x m (λ i. found q m (d i))) refl (subst (HasAt g.code.instrs a) asks.are has)
      (leads_this g index I asks.leaves (R ++ (last ∷ [])) here m (λ i. found q m (d i)) (λ i. (let u : Task = past (length I) (i ∷ []) here in
      leads_this g rank R asks.then_leaves (last ∷ []) u m (d i) (λ r. (let v : Task = past (length R) (r ∷ i ∷ []) u in
      leads_last g last v m (d i r) (pops_rank t r (i ∷ []) m (λ to below. on_one below m (λ index rest. found (element_section m o index to) m (λ y. Stops (effect.Begins (begun.Read y)) (awaits wait.Value (past 1 rest v)) m)))))))))
      (found_ends x m _ (λ i. found_ends q m _ (λ r. found_ends (element_section m o i (place_in t r)) m _ (λ y. tt))))
      (coindexed_same b o t (subst GoesOn len more) x q)
  read_steps (Read.Pointed c index) is asks has more =
      let I = asks.first in
      let last = instr.Ask (element.Pointed c) in
      let x = index (seen_by here m) in
      let b = a + length I + 1 in
      let len : a + length is ≡ b = omega (arith, ap (λ (l : List Instr). length l) asks.are, length-append I (last ∷ [])) in
      let d : ℤ → Did = λ i. found (pointed_section m c i) m (ask_did b) in
      step_by g here m _ (I ++ (last ∷ [])) (found x m d) refl (subst (HasAt g.code.instrs a) asks.are has)
      (leads_this g index I asks.leaves (last ∷ []) here m d (λ i. leads_last g last (past (length I) (i ∷ []) here) m (d i) refl))
      (found_ends x m d (λ i. found_ends (pointed_section m c i) m _ (λ y. tt)))
      (pointed_same b c (subst GoesOn len more) x)

module _ (g : Setting) (placed : SubsPlaced g.code g.program) (w : Around) (callers : AreCallers g.code g.program w.end w.below w.calls) (held : List ℤ) (locals : List ℤ) (loops : List Loop) (start a k : ℕ) (m : ImageMemory) (known : m.objects ≡ g.program.objects) (s : StmtR) (rest : List Todo) (stays : Related g.code g.program (tree_with w held locals (item.Does s ∷ rest)) (code_with w held locals loops a)) where
  -- the last Step of a statement whose code stands here
  abbrev Steps : StmtR-F StmtR → StmtCode → Type 0
  Steps l c = HasAt g.code.instrs a (c.code a k) → StandsAt g.code.texts k c.texts → Continues g.code g.program w.end (a + c.size) rest loops → Whole g w callers m rest start k loops (roll-StmtR l)
      → SameStep g.code (Related g.code g.program) (does_last g.program.subs g.clear l (before w held locals (item.Does s) rest m)) (runs g.code g.clear (code_with w held locals loops a) m)

  layer_steps : (l : StmtR-F StmtR) → fit_layer g.program.subs (map-StmtR StmtR Bool (is_fit g.program.subs) l) ≡ true → Steps l (last_layer start (coded_blocks l))
  layer_steps (StmtR-F.Assign line (variable.Scalar o) e) h = λ has texts more whole. scalar_steps g w callers held locals loops a m (item.Does s) rest o e has more
  layer_steps (StmtR-F.Assign line (variable.Local n) e) h = λ has texts more whole. local_steps g w callers held locals loops a m (item.Does s) rest n e has more
  layer_steps (StmtR-F.Assign line (variable.Element o i) e) h = λ has texts more whole. element_steps g w callers held locals loops a m (item.Does s) rest o i e has more
  layer_steps (StmtR-F.Assign line (variable.Coindexed o i p) e) h = λ has texts more whole. coindexed_steps g w callers held locals loops a m (item.Does s) rest o i p e has more
  layer_steps (StmtR-F.Assign line (variable.Pointed c i) e) h = λ has texts more whole. pointed_steps g w callers held locals loops a m (item.Does s) rest c i e has more
  layer_steps (StmtR-F.Print line l) h = λ has texts more whole.
      print_steps g w held locals loops m callers a k (item.Does s) rest l texts has (subst (λ n. Continues g.code g.program w.end (a + n) rest loops) (sized_parts l 0 0 k) more)
  layer_steps (StmtR-F.If line e x y) h = λ has texts more whole.
      if_steps g w callers held locals loops a k m (item.Does s) rest e x y (first_true (is_block_fit g.program.subs x) (is_block_fit g.program.subs y) h) (second_true (is_block_fit g.program.subs x) (is_block_fit g.program.subs y) h) has texts more
  layer_steps (StmtR-F.Do line v e1 e2 e3 x) h = λ has texts more whole. do_steps g w callers m rest held (item.Does s) locals loops a k v e1 e2 e3 x h has texts more
  layer_steps (StmtR-F.While line e x) h = λ has texts more whole. while_steps g w callers m rest (item.Does s) held locals loops start a k line e x whole has texts more
  layer_steps (StmtR-F.Call line f actuals) h = λ has texts more whole. call_steps g placed w callers held locals loops a m (item.Does s) rest known f actuals h has more
  layer_steps (StmtR-F.Aim line c r) h = λ has texts more whole. aim_steps g placed w callers held locals loops a m (item.Does s) rest c r has more
  layer_steps (StmtR-F.Spawn line e f l p) h = λ has texts more whole. spawn_steps g placed w callers held locals loops a m (item.Does s) rest e f l p h has more
  layer_steps (StmtR-F.Copy line dest source events) h = λ has texts more whole. copy_steps g placed w callers held locals loops a m (item.Does s) rest dest source events h has more
  layer_steps (StmtR-F.Notify line e) h = λ has texts more whole. notify_steps g w callers held locals loops a m (item.Does s) rest e has more
  layer_steps (StmtR-F.Wait line e) h = λ has texts more whole. wait_steps g w callers held locals loops a m (item.Does s) rest e stays has more
  layer_steps (StmtR-F.Cofence line down) h = λ has texts more whole. fence_steps g w callers held locals loops a m (item.Does s) rest down stays has more
  layer_steps (StmtR-F.Split line t colour key o) h = λ has texts more whole. split_steps g w callers held locals loops a m (item.Does s) rest t colour key o has more
  layer_steps (StmtR-F.Finish line t x) h = λ has texts more whole. finish_steps g w callers held locals loops a m (item.Does s) rest t x k h has texts more

  abbrev OneStep : Type 0
  OneStep = SameStep g.code (Related g.code g.program) (does g.program.subs g.clear (item.Does s) (before w held locals (item.Does s) rest m)) (runs g.code g.clear (code_with w held locals loops a) m)

  abbrev Next : Option Read → Type 0
  Next o = SameStep g.code (Related g.code g.program) (does_next g.program.subs g.clear o (out-StmtR s) (before w held locals (item.Does s) rest m)) (runs g.code g.clear (code_with w held locals loops a) m)

  -- the same, as the statement appears among what is left to do
  again : Whole g w callers m rest start k loops s → Whole g w callers m rest start k loops (roll-StmtR (out-StmtR s))
  again whole =
      let l = out-StmtR s in
      let same : stmt_code (roll-StmtR l) ≡ stmt_code s = fold-roll-StmtR StmtCode stmt_layer l ∙ sym (fold_out-StmtR StmtCode stmt_layer s) in
      record {
        simple = fold-roll-StmtR Bool (fit_layer g.program.subs) l ∙ sym (fold_out-StmtR Bool (fit_layer g.program.subs) s) ∙ whole.simple;
        has = subst (λ (c : StmtCode). HasAt g.code.instrs start (c.code start k)) (sym same) whole.has;
        texts = subst (λ (c : StmtCode). StandsAt g.code.texts k c.texts) (sym same) whole.texts;
        more = subst (λ (c : StmtCode). Continues g.code g.program w.end (start + c.size) rest loops) (sym same) whole.more;
      }

  -- one Step of it, where these of its reads are done and these are left
  pub stmt_steps : (done left : List (List Instr)) → pieces_of s ≡ done ++ left → length done ≡ length held → a ≡ start + length (joined done) → Whole g w callers m rest start k loops s → OneStep
  stmt_steps done [] are count here whole =
      let l = out-StmtR s in
      let all : pieces_of s ≡ done = are ∙ append-nil done in
      let front = joined (pieces_of s) in
      let last = last_code start s in
      let has = subst (HasAt g.code.instrs start) (code_parts s start k) whole.has in
      let there : start + reads_size s ≡ a = ap (λ (ps : List (List Instr)). start + length (joined ps)) all ∙ sym here in
      let has_last : HasAt g.code.instrs a (last.code a k) =
      subst (λ n. HasAt g.code.instrs n (last.code n k)) there (has_behind g.code.instrs start (start + reads_size s) front (last.code (start + reads_size s) k) refl has) in
      let texts : StandsAt g.code.texts k last.texts = subst (StandsAt g.code.texts k) (texts_same s ∙ sym (texts_anywhere start (coded_blocks l))) whole.texts in
      let size : start + (stmt_code s).size ≡ a + last.size = omega (arith, size_parts s, size_anywhere start (coded_blocks l), there) in
      let more = subst (λ n. Continues g.code g.program w.end n rest loops) size whole.more in
      let simple : fit_layer g.program.subs (map-StmtR StmtR Bool (is_fit g.program.subs) l) ≡ true = sym (fold_out-StmtR Bool (fit_layer g.program.subs) s) ∙ whole.simple in
      let none : slice_get (reads_all (expressions s) 0) (length held) ≡ None =
      ap (slice_get (reads_all (expressions s) 0)) (sym count) ∙ ask_none (reads_all (expressions s) 0) done (subst (AllAsk (reads_all (expressions s) 0)) all (all_ask g.laws (expressions s) 0)) in
      subst Next (sym none) (layer_steps l simple has_last texts more (again whole))
  stmt_steps done (is ∷ left) are count here whole =
      let reads = reads_all (expressions s) 0 in
      let asks = subst (AllAsk reads) are (all_ask g.laws (expressions s) 0) in
      let r = ask_at reads done is left asks in
      let next : slice_get reads (length held) ≡ Some r.0 = ap (slice_get reads) (sym count) ∙ r.1 in
      let last = (last_code start s).code (start + reads_size s) k in
      let parts : (stmt_code s).code start k ≡ joined done ++ (is ++ (joined left ++ last)) =
      code_parts s start k ∙ ap (λ (ps : List (List Instr)). joined ps ++ last) are ∙ ap (λ (l : List Instr). l ++ last) (joined_append done (is ∷ left)) ∙ append_assoc (joined done) (is ++ joined left) last ∙ ap (λ l. joined done ++ l) (append_assoc is (joined left) last) in
      let has = has_behind g.code.instrs start a (joined done) (is ++ (joined left ++ last)) here (subst (HasAt g.code.instrs start) parts whole.has) in
      let done' = done ++ is ∷ [] in
      let are' : pieces_of s ≡ done' ++ left = are ∙ sym (append_assoc done (is ∷ []) left) in
      let b = a + length is in
      let joined_is : length (joined done') ≡ length (joined done) + length is = omega (arith, ap (λ (l : List Instr). length l) (joined_append done (is ∷ [])), length-append (joined done) (is ++ []), length-append is []) in
      let there : b ≡ start + length (joined done') = omega (arith, here, joined_is) in
      let still = still_at g.code b (joined left ++ last) (parts_still g.laws s start (start + reads_size s) k done' left are') (has_back g.code.instrs a is (joined left ++ last) has) in
      let settles : settled g.code.instrs (length g.code.instrs) b ≡ b = settled_same g.code.instrs (length g.code.instrs) b still in
      let goes : GoesOn g w callers held locals loops a m (item.Does s) rest b = λ z.
      (let held' = held ++ z ∷ [] in
      let count' : length done' ≡ length held' = omega (arith, length-append done (is ∷ []), length-append held (z ∷ []), count) in
      let c = settled g.code.instrs (length g.code.instrs) b in
      record {
        around = w;
        held = held';
        locals = locals;
        todo = item.Does s ∷ rest;
        loops = loops;
        address = c;
        tree = refl;
        task = refl;
        there = within held' c start k s rest loops done' left are' count' (settles ∙ there) whole.simple whole.has whole.texts whole.more;
        callers = callers;
      }) in
      subst Next (sym next) (read_steps g w callers held locals loops a m (item.Does s) rest r.0 is r.2 (has_front g.code.instrs a is (joined left ++ last) has) goes)
