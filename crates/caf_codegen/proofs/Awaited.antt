-- A fence, a wait for an event of this image, and a notice.
use Rattle.std.proofs.Common.{◌≡◌, ℕ, zero, suc, ◌+◌, true, false, List, [], ◌∷◌, ◌++◌, length, Result, Ok, Err, ℤ, refl, subst, arith, length-append}
use Rattle.std.specs.Prelude.{Bool, slice_get, if◌then◌else◌}
use Rattle.caf_base.specs.Arithmetic.{Answer}
use Rattle.caf_base.specs.Fence.{passes}
use Rattle.caf_base.specs.ImageMemory.{ImageMemory}
use Rattle.caf_base.specs.Places.{bind, event_of, posts_at, with_posts, within}
use Rattle.caf_base.specs.declared.effect.Effect.TheVariants as effect
use Rattle.caf_base.specs.declared.effect.Need.TheVariants as need
use Rattle.caf_base.specs.declared.fence.Down.{Down}
use Rattle.caf_base.specs.declared.operation.EventAt.{EventAt}
use Rattle.caf_base.specs.declared.operation.OpSpec.TheVariants as begun
use Rattle.caf_base.specs.declared.place.EventWanted.{EventWanted}
use Rattle.caf_base.specs.declared.place.Place.{Place}
use Rattle.caf_base.specs.declared.trap.Trap.{Trap}
use Rattle.caf_program.specs.Value.{count, value_at}
use Rattle.caf_program.specs.declared.parts.EventR.{EventR}
use Rattle.caf_program.specs.declared.parts.OwnEventR.{OwnEventR}
use Rattle.caf_treestep.specs.Evaluated.{place_if}
use Rattle.caf_treestep.specs.Step.{At, awaited_event, blocks, given, notice, ran, seen, starts, waits_for_post}
use Rattle.caf_base.specs.After.{After}
use Rattle.caf_treestep.specs.declared.task.Task.{Task as TreeTask}
use Rattle.caf_treestep.specs.declared.todo.Todo.{Todo}
use Rattle.caf_code.specs.Did.{Did, Stops, Blocks, found, on_one, stops}
use Rattle.caf_code.specs.Operations.{takes_post}
use Rattle.caf_code.specs.Step.{runs}
use Rattle.caf_code.specs.Task.{Task, past}
use Rattle.caf_code.specs.declared.instr.EventUse.TheVariants as event
use Rattle.caf_code.specs.declared.instr.Instr.TheVariants as instr
use Rattle.caf_code.specs.declared.task.Loop.{Loop}
use Rattle.caf_exprgen.specs.ExprCode.{expr_code}
use Rattle.caf_exprgen.specs.Leaves.{seen_by}
use Rattle.caf_exprgen.specs.Placed.{HasAt}
use Rattle.caf_codegen.specs.Agreement.{SameStep}
use Rattle.caf_codegen.specs.StmtCode.{notify_code, place_code, place_form, wait_code}
use Rattle.caf_codegen.proofs.Assigned.{before}
use Rattle.caf_codegen.proofs.Follows.{Continues}
use Rattle.caf_codegen.proofs.Ranked.{leads_place}
use Rattle.caf_codegen.proofs.Related.{AreCallers, Around, IsEnd, Related, SameFor, Setting, begun_same, code_at, code_with, found_ends, found_same, leads_last, leads_value, ran_same, step_by, trap_same, tree_with}

module _ (g : Setting) (w : Around) (callers : AreCallers g.code g.program w.end w.below w.calls) (held : List ℤ) (locals : List ℤ) (loops : List Loop) (a : ℕ) (m : ImageMemory) (s : Todo) (rest : List Todo) where
  abbrev here : Task
  here = code_with w held locals loops a

  abbrev at : At
  at = before w held locals s rest m

  -- the code's Step is that of the tree
  abbrev Same : After TreeTask → Type 0
  Same x = SameStep g.code (Related g.code g.program) x (runs g.code g.clear here m)

  -- both stay where they are
  abbrev Stays : Type 0
  Stays = Related g.code g.program (tree_with w held locals (s ∷ rest)) here

  -- a fence, which lets the task pass or not
  abbrev fence_did : Bool → Did
  fence_did b = if b then Stops effect.Ran (code_at w locals loops (a + 1)) m else Blocks need.Cofence

  fence_ends : (b : Bool) → IsEnd (fence_did b)
  fence_ends true = tt
  fence_ends false = tt

  fence_same : (b : Bool) → Stays → Continues g.code g.program w.end (a + 1) rest loops → SameFor g here m (if b then ran m at else blocks need.Cofence at) (fence_did b)
  fence_same true stays there = ran_same g here m m w locals rest loops (a + 1) callers there
  fence_same false stays there = record { effect = refl; memory = refl; tasks = stays }

  pub fence_steps : (down : Down) → Stays → HasAt g.code.instrs a (instr.Cofence down ∷ []) → Continues g.code g.program w.end (a + 1) rest loops → Same (if passes down g.clear then ran m at else blocks need.Cofence at)
  fence_steps down stays has there =
      let b = passes down g.clear in
      step_by g here m (if b then ran m at else blocks need.Cofence at) (instr.Cofence down ∷ []) (fence_did b) refl has (leads_last g (instr.Cofence down) here m (fence_did b) refl) (fence_ends b) (fence_same b stays there)

  -- a wait for a post, so many instructions on, with the index on the stack
  abbrev post_did : ℕ → ℤ → ℕ → ℤ → ℕ → Did
  post_did n z o i posts = takes_post posts o i [] (past n (z ∷ []) here) m

  post_ends : (n : ℕ) (z : ℤ) (o : ℕ) (i : ℤ) (posts : ℕ) → IsEnd (post_did n z o i posts)
  post_ends n z o i zero = tt
  post_ends n z o i (suc posts) = tt

  post_same : (n : ℕ) (z : ℤ) (o : ℕ) (i : ℤ) (posts : ℕ) → Stays → Continues g.code g.program w.end (a + n + 1) rest loops → SameFor g here m (waits_for_post o i posts at) (post_did n z o i posts)
  post_same n z o i zero stays there = record { effect = refl; memory = refl; tasks = stays }
  post_same n z o i (suc posts) stays there = ran_same g here m (with_posts m o i posts) w locals rest loops (a + n + 1) callers there

  abbrev wait_did : ℕ → ℕ → ℤ → Did
  wait_did n o z = found (within (slice_get m.objects o) z) m (λ i. post_did n z o i (posts_at m o i))

  wait_same : (n o : ℕ) (v : Answer) → Stays → Continues g.code g.program w.end (a + n + 1) rest loops
      → SameFor g here m (given (bind v (within (slice_get m.objects o))) at (λ i. waits_for_post o i (posts_at m o i) at)) (found v m (wait_did n o))
  wait_same n o (Err trap) stays there = trap_same g here at trap
  wait_same n o (Ok z) stays there =
      found_same g here at (within (slice_get m.objects o) z) (λ i. waits_for_post o i (posts_at m o i) at) (λ i. post_did n z o i (posts_at m o i)) (λ i. post_same n z o i (posts_at m o i) stays there)

  pub wait_steps : (e : OwnEventR) → Stays → HasAt g.code.instrs a (wait_code e) → Continues g.code g.program w.end (a + length (wait_code e)) rest loops
      → Same (given (awaited_event e 0 (seen at) m) at (λ i. waits_for_post e.object i (posts_at m e.object i) at))
  wait_steps e stays has there =
      let o = e.object in
      let E = expr_code e.index 0 in
      let n = length E in
      let v = value_at e.index 0 (seen_by here m) in
      let tail = instr.Event (event.Wait o) ∷ [] in
      let len : a + length (E ++ tail) ≡ a + n + 1 = omega (arith, length-append E tail) in
      step_by g here m _ (E ++ tail) (found v m (wait_did n o)) refl has
      (leads_value g e.index 0 tail here m (wait_did n o) (λ z. leads_last g (instr.Event (event.Wait o)) (past n (z ∷ []) here) m (wait_did n o z) refl))
      (found_ends v m (wait_did n o) (λ z. found_ends (within (slice_get m.objects o) z) m _ (λ i. post_ends n z o i (posts_at m o i))))
      (wait_same n o v stays (subst (λ k. Continues g.code g.program w.end k rest loops) len there))

  -- a notice, after its subscript and its rank
  abbrev notice_did : ℕ → ℕ → ℤ → Place → Did
  notice_did b o i q = found (event_of m o i q) m (λ e. Stops (effect.Begins (begun.Notice e)) (code_at w locals loops b) m)

  notice_found : (b o : ℕ) (i : ℤ) (q : Place) (r : Result EventAt Trap) → Continues g.code g.program w.end b rest loops
      → SameFor g here m (starts (bind r (λ found. Ok (begun.Notice found))) at) (found r m (λ e. Stops (effect.Begins (begun.Notice e)) (code_at w locals loops b) m))
  notice_found b o i q (Err trap) there = trap_same g here at trap
  notice_found b o i q (Ok e) there = begun_same g here m m w locals rest loops b (begun.Notice e) callers there

  notice_same : (b o : ℕ) (v : Answer) (r : Result Place Trap) → Continues g.code g.program w.end b rest loops
      → SameFor g here m (starts (bind (bind v (λ i. bind r (λ q. Ok (let x : EventWanted = record { object = o; index = i; place = q } in x)))) (λ x. bind (event_of m x.object x.index x.place) (λ found. Ok (begun.Notice found)))) at)
      (found v m (λ i. found r m (notice_did b o i)))
  notice_same b o (Err trap) r there = trap_same g here at trap
  notice_same b o (Ok i) (Err trap) there = trap_same g here at trap
  notice_same b o (Ok i) (Ok q) there = notice_found b o i q (event_of m o i q) there

  pub notify_steps : (e : EventR) → HasAt g.code.instrs a (notify_code e) → Continues g.code g.program w.end (a + length (notify_code e)) rest loops → Same (starts (notice e 0 (seen at) m) at)
  notify_steps e has there =
      let o = e.own.object in
      let k = 0 + count e.own.index in
      let I = expr_code e.own.index 0 in
      let P = place_code e.place k in
      let v = value_at e.own.index 0 (seen_by here m) in
      let r = place_if e.place k (seen_by here m) in
      let last = instr.Event (event.Notify o (place_form e.place)) in
      let b = a + length I + length P + 1 in
      let d : ℤ → Did = λ i. found r m (notice_did b o i) in
      let len : a + length (I ++ (P ++ last ∷ [])) ≡ b = omega (arith, length-append I (P ++ last ∷ []), length-append P (last ∷ [])) in
      step_by g here m _ (I ++ (P ++ last ∷ [])) (found v m d) refl has
      (leads_value g e.own.index 0 (P ++ last ∷ []) here m d (λ i. (let t : Task = past (length I) (i ∷ []) here in
      leads_place g e.place k (last ∷ []) t m (notice_did b o i) (λ q stack pops. (let u : Task = past (length P) stack t in
      leads_last g last u m (notice_did b o i q) (pops m (λ to below. on_one below m (λ index more. found (event_of m o index to) m (λ x. stops (effect.Begins (begun.Notice x)) more u m)))))))))
      (found_ends v m d (λ i. found_ends r m _ (λ q. found_ends (event_of m o i q) m _ (λ x. tt))))
      (notice_same b o v r (subst (λ k. Continues g.code g.program w.end k rest loops) len there))
