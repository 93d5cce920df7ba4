-- Each entry leads the machine and the source machine alike.
use Rattle.std.proofs.lemmas.Bool.{false≢true}
use Rattle.std.proofs.Common.{Result as Outcome, Ok, Err, OnOk}
use Rattle.std.proofs.Common.{◌≡◌, ℕ, suc, List, [], ◌∷◌, ◌++◌, Bool, true, false, ◌&&◌, not, ◌⊎◌, inl, inr, Option, Some, None, IsTrue, ℤ, pos, is_some, ap, refl, subst, sym, ◌∙◌}
use Rattle.std.specs.Option.{option_map_or}
use Rattle.std.specs.Ordering.{int_eq}
use Rattle.std.specs.Prelude.{◌==◌}
use Rattle.caf_base.specs.After.{After}
use Rattle.caf_base.specs.ImageMemory.{ImageMemory}
use Rattle.caf_base.specs.Start.{start_memory}
use Rattle.caf_base.specs.declared.effect.Effect.{Effect}
use Rattle.caf_base.specs.declared.effect.Effect.TheVariants as effect
use Rattle.caf_base.specs.declared.effect.Need.{Need}
use Rattle.caf_base.specs.declared.memory.Memory.{Memory}
use Rattle.caf_base.specs.declared.trap.Trap.{Trap}
use Rattle.caf_code.specs.Kept.{KeepsTask}
use Rattle.caf_code.specs.Sound.{IsSound}
use Rattle.caf_code.specs.Step.{main_task, runs}
use Rattle.caf_code.specs.Task.{Task}
use Rattle.caf_code.specs.Whole.{IsSettled}
use Rattle.caf_code.specs.declared.listing.Listing.{Listing}
use Rattle.caf_code.specs.declared.task.Wait.{Wait}
use Rattle.caf_codegen.specs.Agreement.{Agree, ArePastEnd, EndAlike, GoOnAlike, SameStep}
use Rattle.caf_codegen.specs.Compiled.{Compiled}
use Rattle.caf_journal.specs.declared.entry.Entry.{Entry}
use Rattle.caf_journal.specs.declared.entry.Entry.TheVariants.{Step, Contribute, Leave, Result}
use Rattle.caf_program.specs.declared.program.Program.{Program}
use Rattle.caf_program.specs.declared.program.SubR.{SubR}
use Rattle.caf_program.specs.declared.stmt.StmtR.{StmtR}
use Rattle.caf_source.specs.Built.{are_subs_built, is_block_built, is_program_built}
use Rattle.caf_source.specs.Main.{IsMainTask, are_stacked}
use Rattle.caf_source.specs.Plain.{StaysPlain, all_clear, is_plain_effect, is_refusal}
use Rattle.caf_source.specs.Run.{state_from}
use Rattle.caf_source.specs.State.{State}
use Rattle.caf_treestep.specs.declared.task.Task.{Task as TreeTask}
use Rattle.caf_treestep.specs.declared.todo.Todo.TheVariants as item
use Rattle.caf_treestep.specs.Step.{main_task as tree_main_task, step}
use Rattle.caf_check.specs.Choices.{choice_of, state_of}
use Rattle.caf_solo.specs.Followed.{Follows, state_in}
use Rattle.caf_solo.specs.Led.{led}
use Rattle.caf_solo.specs.Waves.{has_ended, is_late, late_from, no_counts, result_from, share, share_from, stands_at_end}
use Rattle.caf_solo.specs.declared.phase.Phase.{Phase}
use Rattle.caf_solo.specs.declared.phase.Phase.TheVariants as phase
use Rattle.caf_solo.proofs.Alone.{next_leave, next_ran, next_traps, stands}
use Rattle.caf_solo.proofs.Appended.{late_more, legal_more, result_more, share_more, state_more}

pub and_first : (a b : Bool) → IsTrue (a && b) → IsTrue a
and_first true b h = refl
and_first false b h = h

pub and_second : (a b : Bool) → IsTrue (a && b) → IsTrue b
and_second true b h = h
and_second false b h = absurd (false≢true h)

-- what the source machine promises of main tasks
pub record Laws : Type 0 where
  pub stays : (subs : List SubR) (t : TreeTask) (m : ImageMemory) → IsTrue (are_subs_built subs) → IsMainTask t → IsMainTask (step subs all_clear t m).task
  pub plain : (subs : List SubR) (t : TreeTask) (m : ImageMemory) → IsTrue (are_subs_built subs) → IsMainTask t → StaysPlain (step subs all_clear t m) t m
  pub blocks : (subs : List SubR) (t : TreeTask) (m : ImageMemory) (n : Need) → IsMainTask t → (step subs all_clear t m).effect ≡ effect.Blocks n → (t.frame.todo ≡ item.Closes ∷ []) × (t.below ≡ [])

-- a main task isn't past the end
not_past : (code : Listing) (t : TreeTask) (c : Task) → IsMainTask t → ArePastEnd code t c → ⊥
not_past code t c main past = false≢true (subst IsTrue (ap (λ l. are_stacked l t.below) past.todo ∙ ap (λ b. are_stacked [] b) past.below) main.stacked)

same : (p : Program) (code : Listing) (k : ℕ) (t : TreeTask) (c : Task) (m : ImageMemory) → IsMainTask t → m.objects ≡ p.objects → Agree p code (suc k) t c
    → SameStep code (Agree p code k) (step p.subs all_clear t m) (runs code all_clear c m)
same p code k t c m main objects (inl past) = absurd (not_past code t c main past)
same p code k t c m main objects (inr alike) = alike m all_clear objects

none_alike : (Holds : TreeTask → Task → Type 0) (t : TreeTask) (c : Task) (w : Option Wait) → EndAlike Holds None w t c → Holds t c
none_alike Holds t c None alike = alike
none_alike Holds t c (Some w) alike = absurd alike

-- after a Step that runs both tasks go on alike
ran_alike : (code : Listing) (Holds : TreeTask → Task → Type 0) (e : Effect) (t : TreeTask) (c : Task) → e ≡ effect.Ran → t.wait ≡ None → GoOnAlike code Holds e t c → Holds t c
ran_alike code Holds e t c ran wait alike =
    none_alike Holds t c c.wait (subst (λ w. EndAlike Holds w c.wait t c) wait (subst (λ x. GoOnAlike code Holds x t c) ran alike))

late_after : (j : List Entry) (e : Entry) (b : Bool) → is_late j ≡ b → is_late (j ++ e ∷ []) ≡ late_from b (e ∷ [])
late_after j e b is = late_more false j e ∙ ap (λ x. late_from x (e ∷ [])) is

share_after : (j : List Entry) (e : Entry) → share j ≡ pos 0 → share (j ++ e ∷ []) ≡ share_from (pos 0) (e ∷ [])
share_after j e is = share_more (pos 0) j e ∙ ap (λ x. share_from x (e ∷ [])) is

abbrev ended_by : Option ℤ → Bool
ended_by last = option_map_or (λ sum. int_eq sum (pos 0)) last false

ended_after : (j : List Entry) (e : Entry) → has_ended (j ++ e ∷ []) ≡ ended_by (result_from (result_from None j) (e ∷ []))
ended_after j e = ap ended_by (result_more None j e)

leads_after : (p : Program) (j : List Entry) (e : Entry) (s t : State) → state_of p 1 j ≡ Some s → state_from p (Some s) (choice_of e) ≡ Some t → state_of p 1 (j ++ e ∷ []) ≡ Some t
leads_after p j e s t leads next_is = state_more p j e ∙ ap (λ x. state_from p x (choice_of e)) leads ∙ next_is

-- a Step that runs
pub follows_ran : (p : Program) (code : Listing) (j : List Entry) (m : ImageMemory) (c : Task) → Laws → IsTrue (are_subs_built p.subs) → Compiled p code → Follows p code j phase.Running m c
    → (runs code all_clear c m).effect ≡ effect.Ran → IsSound code (runs code all_clear c m).task (runs code all_clear c m).memory → IsSettled code (runs code all_clear c m).task
    → Follows p code (j ++ Step 0 0 ∷ []) phase.Running (runs code all_clear c m).memory (runs code all_clear c m).task
follows_ran p code j m c laws built compiled follows ran sound settled =
    let t = follows.tree in
    let x = step p.subs all_clear t m in
    let y = runs code all_clear c m in
    let objects : m.objects ≡ p.objects = follows.runs.sound.memory.objects ∙ compiled.objects in
    let one = same p code 0 t c m follows.main objects (follows.runs.agree 1) in
    let x_ran : x.effect ≡ effect.Ran = one.effect ∙ ran in
    let main : IsMainTask x.task = laws.stays p.subs t m built follows.main in
    let next_is = next_ran p m t x_ran ∙ ap (λ n. Some (state_in phase.Running n x.task)) one.memory in
    record {
      tree = x.task;
      main = main;
      legal = legal_more p j (state_in phase.Running m t) (Step 0 0) follows.legal follows.leads (ap is_some next_is);
      leads = leads_after p j (Step 0 0) (state_in phase.Running m t) (state_in phase.Running y.memory x.task) follows.leads next_is;
      late = late_after j (Step 0 0) false follows.late;
      ended = ended_after j (Step 0 0) ∙ follows.ended;
      share = share_after j (Step 0 0) follows.share;
      runs = record {
        agree = λ k. ran_alike code (Agree p code k) x.effect x.task y.task x_ran main.plain.wait (same p code k t c m follows.main objects (follows.runs.agree (suc k))).tasks;
        sound = sound;
        settled = settled;
      };
      stands = tt;
    }

-- a Step that traps
pub follows_traps : (p : Program) (code : Listing) (j : List Entry) (m : ImageMemory) (c d : Task) (trap : Trap) → Laws → IsTrue (are_subs_built p.subs) → Compiled p code → Follows p code j phase.Running m c
    → (runs code all_clear c m).effect ≡ effect.Traps trap
    → Follows p code (j ++ Step 0 0 ∷ []) (phase.Trapped trap) (runs code all_clear c m).memory d
follows_traps p code j m c d trap laws built compiled follows traps =
    let t = follows.tree in
    let x = step p.subs all_clear t m in
    let y = runs code all_clear c m in
    let objects : m.objects ≡ p.objects = follows.runs.sound.memory.objects ∙ compiled.objects in
    let one = same p code 0 t c m follows.main objects (follows.runs.agree 1) in
    let x_traps : x.effect ≡ effect.Traps trap = one.effect ∙ traps in
    let stays = (laws.plain p.subs t m built follows.main).same (subst (λ e. IsTrue (is_refusal e)) (sym x_traps) refl) in
    let memory : m ≡ y.memory = sym stays.1 ∙ one.memory in
    let next_is = next_traps p m t trap x_traps ∙ ap (λ n. Some (state_in (phase.Trapped trap) n t)) memory in
    record {
      tree = t;
      main = follows.main;
      legal = legal_more p j (state_in phase.Running m t) (Step 0 0) follows.legal follows.leads (ap is_some next_is);
      leads = leads_after p j (Step 0 0) (state_in phase.Running m t) (state_in (phase.Trapped trap) y.memory t) follows.leads next_is;
      late = late_after j (Step 0 0) false follows.late;
      ended = ended_after j (Step 0 0) ∙ follows.ended;
      share = share_after j (Step 0 0) follows.share;
      runs = tt;
      stands = tt;
    }

may_contribute : (s l e : Bool) → s ≡ true → l ≡ false → e ≡ false → ((((0 == 0) && s) && not l) && not e) && true ≡ true
may_contribute true false false a b c = refl
may_contribute false l e a b c = absurd (false≢true a)
may_contribute s true e a b c = absurd (false≢true (sym b))
may_contribute s l true a b c = absurd (false≢true (sym c))

-- the end of the program's finish
pub follows_blocks : (p : Program) (code : Listing) (j : List Entry) (m : ImageMemory) (c d : Task) (n : Need) → Laws → IsTrue (are_subs_built p.subs) → Compiled p code → Follows p code j phase.Running m c
    → (runs code all_clear c m).effect ≡ effect.Blocks n
    → Follows p code (j ++ Contribute 0 no_counts ∷ []) phase.Contributed (runs code all_clear c m).memory d
follows_blocks p code j m c d n laws built compiled follows blocks =
    let t = follows.tree in
    let x = step p.subs all_clear t m in
    let y = runs code all_clear c m in
    let objects : m.objects ≡ p.objects = follows.runs.sound.memory.objects ∙ compiled.objects in
    let one = same p code 0 t c m follows.main objects (follows.runs.agree 1) in
    let x_blocks : x.effect ≡ effect.Blocks n = one.effect ∙ blocks in
    let stays = (laws.plain p.subs t m built follows.main).same (subst (λ e. IsTrue (is_refusal e)) (sym x_blocks) refl) in
    let memory : m ≡ y.memory = sym stays.1 ∙ one.memory in
    let end = (laws.blocks p.subs t m n follows.main x_blocks).0 in
    let e : Entry = Contribute 0 no_counts in
    record {
      tree = t;
      main = follows.main;
      legal = legal_more p j (state_in phase.Running m t) e follows.legal follows.leads (may_contribute (stands_at_end (state_in phase.Running m t)) (is_late j) (has_ended j) (stands m t follows.main.plain.wait end) follows.late follows.ended);
      leads = leads_after p j e (state_in phase.Running m t) (state_in phase.Contributed y.memory t) follows.leads (ap (λ l. Some (state_in phase.Contributed l t)) memory);
      late = late_after j e false follows.late;
      ended = ended_after j e ∙ follows.ended;
      share = share_after j e follows.share;
      runs = tt;
      stands = end;
    }

-- where the main task's Step leads
pub follows_step : (p : Program) (code : Listing) (j : List Entry) (m : ImageMemory) (c : Task) → Laws → IsTrue (are_subs_built p.subs) → Compiled p code → Follows p code j phase.Running m c
    → KeepsTask (runs code all_clear c m).effect (IsSound code (runs code all_clear c m).task (runs code all_clear c m).memory) → IsSettled code (runs code all_clear c m).task
    → Follows p code (j ++ (led (runs code all_clear c m).effect).1 ∷ []) (led (runs code all_clear c m).effect).0 (runs code all_clear c m).memory (runs code all_clear c m).task
follows_step p code j m c laws built compiled follows sound settled = by y.effect refl sound plain
  where
    y : After Task
    y = runs code all_clear c m

    plain : IsTrue (is_plain_effect y.effect)
    plain =
        let one = same p code 0 follows.tree c m follows.main (follows.runs.sound.memory.objects ∙ compiled.objects) (follows.runs.agree 1) in
        subst (λ e. IsTrue (is_plain_effect e)) one.effect (laws.plain p.subs follows.tree m built follows.main).effect

    by : (e : Effect) → y.effect ≡ e → KeepsTask e (IsSound code y.task y.memory) → IsTrue (is_plain_effect e) → Follows p code (j ++ (led e).1 ∷ []) (led e).0 y.memory y.task
    by effect.Ran is keeps plain_is = follows_ran p code j m c laws built compiled follows is keeps settled
    by (effect.Traps trap) is keeps plain_is = follows_traps p code j m c y.task trap laws built compiled follows is
    by (effect.Blocks n) is keeps plain_is = follows_blocks p code j m c y.task n laws built compiled follows is
    by (effect.Ends event) is keeps plain_is = absurd (false≢true plain_is)
    by (effect.Begins what) is keeps plain_is = absurd (false≢true plain_is)
    by (effect.Enters team) is keeps plain_is = absurd (false≢true plain_is)
    by (effect.Arrives team colour key new) is keeps plain_is = absurd (false≢true plain_is)

may_result : (s l : Bool) (z : ℤ) → s ≡ true → l ≡ true → z ≡ pos 0 → (((0 == 0) && s) && l) && int_eq (pos 0) z ≡ true
may_result s l z a b c = ap (λ x. (((0 == 0) && x) && l) && int_eq (pos 0) z) a ∙ ap (λ x. x && int_eq (pos 0) z) b ∙ ap (λ x. int_eq (pos 0) x) c

pub follows_result : (p : Program) (code : Listing) (j : List Entry) (m : ImageMemory) (c : Task) → Follows p code j phase.Contributed m c → Follows p code (j ++ Result 0 (pos 0) ∷ []) phase.Ended m c
follows_result p code j m c follows =
    let t = follows.tree in
    let e : Entry = Result 0 (pos 0) in
    record {
      tree = t;
      main = follows.main;
      legal = legal_more p j (state_in phase.Contributed m t) e follows.legal follows.leads (may_result (stands_at_end (state_in phase.Contributed m t)) (is_late j) (share j) (stands m t follows.main.plain.wait follows.stands) follows.late follows.share);
      leads = leads_after p j e (state_in phase.Contributed m t) (state_in phase.Ended m t) follows.leads refl;
      late = late_after j e true follows.late;
      ended = ended_after j e;
      share = share_after j e follows.share;
      runs = tt;
      stands = follows.stands;
    }

may_leave : (s e : Bool) → s ≡ true → e ≡ true → (s && e) ≡ true
may_leave true e a b = b
may_leave false e a b = a

pub follows_leave : (p : Program) (code : Listing) (j : List Entry) (m : ImageMemory) (c : Task) → Follows p code j phase.Ended m c → Follows p code (j ++ Leave 0 ∷ []) phase.Left m c
follows_leave p code j m c follows =
    let t = follows.tree in
    let e : Entry = Leave 0 in
    let next_is = next_leave p m t follows.main.plain.wait follows.stands in
    record {
      tree = t;
      main = follows.main;
      legal = legal_more p j (state_in phase.Ended m t) e follows.legal follows.leads (may_leave _ (has_ended j) (ap is_some next_is) follows.ended);
      leads = leads_after p j e (state_in phase.Ended m t) (state_in phase.Left m t) follows.leads next_is;
      late = late_after j e false follows.late;
      ended = ended_after j e ∙ follows.ended;
      share = share_after j e follows.share;
      runs = tt;
      stands = tt;
    }

-- the machine as a run begins
pub follows_begins : (p : Program) (code : Listing) → ((body : List StmtR) → IsTrue (is_block_built body) → IsMainTask (tree_main_task body)) → IsTrue (is_block_built p.body) → Compiled p code
    → IsSound code (main_task code) (start_memory p.objects 1 0) → IsSettled code (main_task code) → Follows p code [] phase.Running (start_memory p.objects 1 0) (main_task code)
follows_begins p code begins built compiled sound settled = record {
  tree = tree_main_task p.body;
  main = begins p.body built;
  legal = refl;
  leads = refl;
  late = refl;
  ended = refl;
  share = refl;
  runs = record { agree = compiled.main; sound = sound; settled = settled };
  stands = tt;
}

-- the same, by what the calls of a Step promise
pub steps_on : (p : Program) (code : Listing) (j : List Entry) (f : Phase) (m : ImageMemory) (c : Task) (g : Phase) (e : Entry) (n : ImageMemory) (d : Task) → Laws → IsTrue (is_program_built p) → Compiled p code → f ≡ phase.Running → Follows p code j f m c
    → (g, e) ≡ led (runs code all_clear c m).effect → d ≡ (runs code all_clear c m).task → n ≡ (runs code all_clear c m).memory → KeepsTask (runs code all_clear c m).effect (IsSound code d n) → IsSettled code d → Follows p code (j ++ e ∷ []) g n d
steps_on p code j f m c g e n d laws built compiled running follows led_is task memory sound settled =
    let y = runs code all_clear c m in
    let here : Follows p code j phase.Running m c = subst (λ x. Follows p code j x m c) running follows in
    let keeps : KeepsTask y.effect (IsSound code y.task y.memory) = subst (λ x. KeepsTask y.effect (IsSound code x y.memory)) task (subst (λ x. KeepsTask y.effect (IsSound code d x)) memory sound) in
    subst (λ (x : Phase × Entry). Follows p code (j ++ x.1 ∷ []) x.0 n d) (sym led_is)
    (subst (λ x. Follows p code (j ++ (led y.effect).1 ∷ []) (led y.effect).0 x d) (sym memory)
    (subst (λ x. Follows p code (j ++ (led y.effect).1 ∷ []) (led y.effect).0 y.memory x) (sym task)
    (follows_step p code j m c laws (and_second (is_block_built p.body) (are_subs_built p.subs) built) compiled here keeps (subst (IsSettled code) task settled))))

-- an entry that was appended
pub appended : (r : Outcome (Unit {0}) Memory) (j k : List Entry) (e : Entry) (F : List Entry → Type 0) → OnOk r (k ≡ j ++ e ∷ []) → F (j ++ e ∷ []) → OnOk r (F k)
appended (Ok x) j k e F is holds = subst F (sym is) holds
appended (Err x) j k e F is holds = is
