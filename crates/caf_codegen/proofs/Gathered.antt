-- Finishes and splits.
use Rattle.std.proofs.Common.{◌≡◌, ℕ, ◌+◌, true, List, [], ◌∷◌, ◌++◌, length, Result, Ok, Err, Some, ℤ, refl, ap, subst, arith, length-append}
use Rattle.caf_base.specs.After.{After}
use Rattle.caf_base.specs.Arithmetic.{Answer}
use Rattle.caf_base.specs.ImageMemory.{ImageMemory}
use Rattle.caf_base.specs.Places.{bind}
use Rattle.caf_base.specs.declared.effect.Effect.TheVariants as effect
use Rattle.caf_base.specs.declared.team.Team.{Team}
use Rattle.caf_base.specs.declared.trap.Trap.{Trap}
use Rattle.caf_program.specs.Value.{count, value_at}
use Rattle.caf_program.specs.declared.expr.ExprR.{ExprR}
use Rattle.caf_program.specs.declared.expr.TeamR.{TeamR}
use Rattle.caf_program.specs.declared.expr.TeamR.TheVariants as team
use Rattle.caf_program.specs.declared.stmt.StmtR.{StmtR}
use Rattle.caf_treestep.specs.Step.{At, given, seen, split, team_of, waits, with_todo}
use Rattle.caf_treestep.specs.Task.{all_of}
use Rattle.caf_treestep.specs.declared.task.Task.{Task as TreeTask}
use Rattle.caf_treestep.specs.declared.task.Wait.TheVariants as awaited
use Rattle.caf_treestep.specs.declared.todo.Todo.{Todo}
use Rattle.caf_treestep.specs.declared.todo.Todo.TheVariants as item
use Rattle.caf_code.specs.Did.{Did, Stops, found}
use Rattle.caf_code.specs.Step.{runs}
use Rattle.caf_code.specs.Task.{Task, past}
use Rattle.caf_code.specs.Teams.{team_named}
use Rattle.caf_code.specs.declared.instr.Instr.TheVariants as instr
use Rattle.caf_code.specs.declared.task.Loop.{Loop}
use Rattle.caf_code.specs.declared.task.Wait.TheVariants as wait
use Rattle.caf_exprgen.specs.ExprCode.{expr_code, team_name}
use Rattle.caf_exprgen.specs.Leaves.{seen_by}
use Rattle.caf_exprgen.specs.Placed.{HasAt}
use Rattle.caf_codegen.specs.Agreement.{SameStep}
use Rattle.caf_codegen.specs.StmtCode.{StandsAt, block, codes, finish_code, sizes, split_code, texts_in}
use Rattle.caf_codegen.proofs.Assigned.{before}
use Rattle.caf_codegen.proofs.Fits.{is_block_fit}
use Rattle.caf_codegen.proofs.Follows.{Continues, at_close, block_continues}
use Rattle.caf_codegen.proofs.Places.{has_behind, has_front}
use Rattle.caf_codegen.proofs.Related.{AreCallers, Around, Related, SameFor, Setting, code_at, code_with, entered_same, found_ends, found_same, leads_last, leads_value, related_after, step_by, trap_same}
use Rattle.caf_codegen.proofs.Sized.{sized_block}

-- a team by its name
team_same : (m : ImageMemory) (t : TeamR) → team_named m (team_name t) ≡ team_of m t
team_same m team.World = refl
team_same m (team.Object o) = refl

module _ (g : Setting) (w : Around) (callers : AreCallers g.code g.program w.end w.below w.calls) (held : List ℤ) (locals : List ℤ) (loops : List Loop) (a : ℕ) (m : ImageMemory) (s : Todo) (rest : List Todo) where
  abbrev here : Task
  here = code_with w held locals loops a

  abbrev at : At
  at = before w held locals s rest m

  -- the code's Step is that of the tree
  abbrev Same : After TreeTask → Type 0
  Same x = SameStep g.code (Related g.code g.program) x (runs g.code g.clear here m)

  -- the body of a finish, its end, and the rest
  finish_continues : (x : List StmtR) (k : ℕ) → is_block_fit g.program.subs x ≡ true → HasAt g.code.instrs (a + 1) (block (codes x) (a + 1) k ++ (instr.Close ∷ [])) → StandsAt g.code.texts k (texts_in (codes x)) → Continues g.code g.program w.end (a + (1 + sizes (codes x) + 1)) rest loops
      → Continues g.code g.program w.end (a + 1) (all_of x ++ (item.Closes ∷ rest)) loops
  finish_continues x k simple has texts there =
      let ours = block (codes x) (a + 1) k in
      let q = a + 1 + sizes (codes x) in
      let close = has_behind g.code.instrs (a + 1) q ours (instr.Close ∷ []) (omega (arith, sized_block x (a + 1) k)) has in
      let at_end : a + (1 + sizes (codes x) + 1) ≡ q + 1 = omega arith in
      block_continues g.laws g.code g.program w.end x (item.Closes ∷ rest) loops (a + 1) q k simple refl (has_front g.code.instrs (a + 1) ours _ has) texts
      (at_close q rest loops close.0 (subst (λ b. Continues g.code g.program w.end b rest loops) at_end there))

  pub finish_steps : (t : TeamR) (x : List StmtR) (k : ℕ) → is_block_fit g.program.subs x ≡ true → HasAt g.code.instrs a ((finish_code (team_name t) (codes x)).code a k) → StandsAt g.code.texts k (texts_in (codes x)) → Continues g.code g.program w.end (a + (finish_code (team_name t) (codes x)).size) rest loops
      → Same (given (team_of m t) at (λ found. record { effect = effect.Enters found; task = with_todo (all_of x ++ (item.Closes ∷ rest)) at; memory = m }))
  finish_steps t x k simple has texts there =
      let i = instr.Finish (team_name t) in
      let d : Team → Did = λ found. Stops (effect.Enters found) (code_at w locals loops (a + 1)) m in
      let inside = finish_continues x k simple has.1 texts there in
      step_by g here m _ (i ∷ []) (found (team_of m t) m d) refl (has.0, tt) (leads_last g i here m (found (team_of m t) m d) (ap (λ r. found r m d) (team_same m t)))
      (found_ends (team_of m t) m d (λ found. tt))
      (found_same g here at (team_of m t) _ d (λ found. entered_same g here m m w locals (all_of x ++ (item.Closes ∷ rest)) loops (a + 1) found callers inside))

  -- the task of the code as it waits for its new team
  abbrev waiting : ℕ → ℕ → Task
  waiting o b = record (code_at w locals loops b) { wait = Some (wait.NewTeam o) }

  abbrev split_did : ℕ → TeamR → ℕ → ℤ → ℤ → Did
  split_did b t o colour key = found (team_of m t) m (λ found. Stops (effect.Arrives found colour key o) (waiting o b) m)

  split_same : (b o : ℕ) (u v : Answer) (r : Result Team Trap) → Continues g.code g.program w.end b rest loops
      → SameFor g here m (given (bind {B = ℤ × (ℤ × Team)} u (λ c. bind {B = ℤ × (ℤ × Team)} v (λ k. bind {B = ℤ × (ℤ × Team)} r (λ found. Ok (c, (k, found)))))) at (λ p. waits (awaited.NewTeam o) (effect.Arrives p.1.1 p.0 p.1.0 o) at))
      (found u m (λ c. found v m (λ k. found r m (λ found. Stops (effect.Arrives found c k o) (waiting o b) m))))
  split_same b o (Err trap) v r there = trap_same g here at trap
  split_same b o (Ok c) (Err trap) r there = trap_same g here at trap
  split_same b o (Ok c) (Ok k) (Err trap) there = trap_same g here at trap
  split_same b o (Ok c) (Ok k) (Ok found) there = record { effect = refl; memory = refl; tasks = (refl, related_after g w locals rest loops b callers there) }

  pub split_steps : (t : TeamR) (colour key : ExprR) (o : ℕ) → HasAt g.code.instrs a (split_code t colour key o) → Continues g.code g.program w.end (a + length (split_code t colour key o)) rest loops
      → Same (given (split t colour key 0 (seen at) m) at (λ p. waits (awaited.NewTeam o) (effect.Arrives p.1.1 p.0 p.1.0 o) at))
  split_steps t colour key o has there =
      let j = 0 + count colour in
      let C = expr_code colour 0 in
      let K = expr_code key j in
      let u = value_at colour 0 (seen_by here m) in
      let v = value_at key j (seen_by here m) in
      let last = instr.Split (team_name t) o in
      let b = a + length C + length K + 1 in
      let len : a + length (C ++ (K ++ last ∷ [])) ≡ b = omega (arith, length-append C (K ++ last ∷ []), length-append K (last ∷ [])) in
      step_by g here m _ (C ++ (K ++ last ∷ [])) (found u m (λ c. found v m (split_did b t o c))) refl has
      (leads_value g colour 0 (K ++ last ∷ []) here m (λ c. found v m (split_did b t o c)) (λ c.
      leads_value g key j (last ∷ []) (past (length C) (c ∷ []) here) m (split_did b t o c) (λ k.
      leads_last g last (past (length K) (k ∷ c ∷ []) (past (length C) (c ∷ []) here)) m (split_did b t o c k) (ap (λ r. found r m (λ found. Stops (effect.Arrives found c k o) (waiting o b) m)) (team_same m t)))))
      (found_ends u m _ (λ c. found_ends v m _ (λ k. found_ends (team_of m t) m _ (λ found. tt))))
      (split_same b o u v (team_of m t) (subst (λ k. Continues g.code g.program w.end k rest loops) len there))
