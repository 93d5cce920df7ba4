-- A program and its code agree for every number of Steps.
use Rattle.std.proofs.Common.{◌≡◌, ℕ, zero, suc, ◌+◌, ◌⊎◌, inl, inr, true, List, [], ◌∷◌, ◌++◌, map, length, Option, Some, None, ℤ, pos, refl, sym, ap, ◌∙◌, subst, arith, length-append}
use Rattle.std.specs.Prelude.{replicate, slice_get}
use Rattle.caf_base.specs.After.{After}
use Rattle.caf_base.specs.ImageMemory.{ImageMemory}
use Rattle.caf_base.specs.declared.effect.Effect.{Effect}
use Rattle.caf_base.specs.declared.effect.Effect.TheVariants as effect
use Rattle.caf_base.specs.declared.effect.Need.TheVariants as need
use Rattle.caf_base.specs.declared.fence.FenceClear.{FenceClear}
use Rattle.caf_base.specs.declared.operation.EventAt.{EventAt}
use Rattle.caf_program.specs.declared.program.Program.{Program}
use Rattle.caf_program.specs.declared.program.SubR.{SubR}
use Rattle.caf_treestep.specs.Step.{does_first, shipped_task as tree_shipped_task, step}
use Rattle.caf_treestep.specs.Task.{all_of}
use Rattle.caf_treestep.specs.declared.task.Frame.{Frame as TreeFrame}
use Rattle.caf_treestep.specs.declared.task.Task.{Task as TreeTask}
use Rattle.caf_treestep.specs.declared.task.Wait.{Wait as TreeWait}
use Rattle.caf_treestep.specs.declared.task.Wait.TheVariants as awaited
use Rattle.caf_treestep.specs.declared.todo.Todo.{Todo}
use Rattle.caf_treestep.specs.declared.todo.Todo.TheVariants as item
use Rattle.caf_code.specs.Calls.{leaves}
use Rattle.caf_code.specs.Did.{Did, Stops, Blocks}
use Rattle.caf_code.specs.Sound.{is_halt}
use Rattle.caf_code.specs.Step.{go_of, runs, settled, shipped_task}
use Rattle.caf_code.specs.Task.{OpenCall, Task}
use Rattle.caf_code.specs.declared.instr.Instr.TheVariants as instr
use Rattle.caf_code.specs.declared.listing.Listing.{Listing}
use Rattle.caf_code.specs.declared.listing.SubCode.{SubCode}
use Rattle.caf_code.specs.declared.task.Loop.{Loop}
use Rattle.caf_code.specs.declared.task.Wait.{Wait}
use Rattle.caf_code.specs.declared.task.Wait.TheVariants as wait
use Rattle.caf_exprgen.specs.Placed.{HasAt}
use Rattle.caf_exprgen.specs.Words.{CodesLeaveValues}
use Rattle.caf_codegen.specs.Agreement.{Agree, ArePastEnd, EndAlike, GoOnAlike, SameStep}
use Rattle.caf_codegen.specs.Compiled.{Compiled, copied_dummies}
use Rattle.caf_codegen.specs.ProgramCode.{main_code, main_size, program_code, sub_code, sub_entries, sub_size, subs_code, subs_texts}
use Rattle.caf_codegen.proofs.Fits.{are_subs_fit, is_block_fit}
use Rattle.caf_codegen.specs.StmtCode.{StandsAt, block, codes, sizes, texts_in}
use Rattle.caf_codegen.proofs.Called.{IsThere, SubsPlaced, return_steps, some_same}
use Rattle.caf_codegen.proofs.Follows.{Continues, FrameEnd, IsMain, IsSettledAt, IsShip, OfCall, OfMain, OfShip, Settles, Stands, at_close, at_ret, at_return, at_statement, at_turn, between, block_continues, goes_back, jumps, past_end, settle, within}
use Rattle.caf_codegen.proofs.Loops.{turn_steps}
use Rattle.caf_codegen.proofs.Places.{has_all, has_behind, has_front, stands_all, stands_back, stands_front}
use Rattle.caf_codegen.proofs.Related.{AreCallers, Around, Related, Setting, code_at, code_with, leads_last, step_by, tree_at, tree_with}
use Rattle.caf_codegen.proofs.Sized.{sized_block}
use Rattle.caf_codegen.proofs.Parts.{pieces_of}
use Rattle.caf_codegen.proofs.Steps.{stmt_steps}
use Rattle.caf_codegen.proofs.Both.{first_true, second_true}

no_go : (code : Listing) (a b : ℕ) → slice_get code.instrs a ≡ Some (instr.Go b) → IsSettledAt code a → ⊥
no_go code a b at still = let e : Some b ≡ None = sym (ap go_of at) ∙ still in cc

no_below : (code : Listing) (p : Program) (end : FrameEnd) (below : List TreeFrame) (calls : List OpenCall) → IsMain end → AreCallers code p end below calls → below ≡ []
no_below code p OfMain [] [] main h = refl
no_below code p OfMain [] (c ∷ calls) main h = absurd h
no_below code p OfMain (f ∷ below) [] main h = absurd h
no_below code p OfMain (f ∷ below) (c ∷ calls) main h = absurd h
no_below code p OfShip below calls main h = absurd main
no_below code p (OfCall outs) below calls main h = absurd main

no_calls : (code : Listing) (p : Program) (end : FrameEnd) (below : List TreeFrame) (calls : List OpenCall) → IsShip end → AreCallers code p end below calls → calls ≡ []
no_calls code p OfShip [] [] ship h = refl
no_calls code p OfShip [] (c ∷ calls) ship h = absurd h
no_calls code p OfShip (f ∷ below) [] ship h = absurd h
no_calls code p OfShip (f ∷ below) (c ∷ calls) ship h = absurd h
no_calls code p OfMain below calls ship h = absurd ship
no_calls code p (OfCall outs) below calls ship h = absurd ship

module _ (laws : CodesLeaveValues) (p : Program) (code : Listing) (placed : SubsPlaced code p) where
  -- past the end, or one Step that both take alike
  abbrev Next : Around → List ℤ → List ℤ → List Todo → List Loop → ℕ → Type 0
  Next w held locals todo loops a = ArePastEnd code (tree_with w held locals todo) (code_with w held locals loops a)
      ⊎ ((m : ImageMemory) (clear : FenceClear) → m.objects ≡ p.objects → SameStep code (Related code p) (does_first todo p.subs clear (tree_with w held locals todo) m) (runs code clear (code_with w held locals loops a) m))

  related_at : (w : Around) (callers : AreCallers code p w.end w.below w.calls) (held : List ℤ) (locals : List ℤ) (todo : List Todo) (loops : List Loop) (a : ℕ) → Stands code p w.end held a todo loops → Related code p (tree_with w held locals todo) (code_with w held locals loops a)
  related_at w callers held locals todo loops a there = record { around = w; held = held; locals = locals; todo = todo; loops = loops; address = a; tree = refl; task = refl; there = there; callers = callers }

  between_at : (w : Around) (callers : AreCallers code p w.end w.below w.calls) (locals : List ℤ) (todo : List Todo) (loops : List Loop) (a : ℕ) → Settles code p w.end a todo loops → Related code p (tree_at w locals todo) (code_at w locals loops a)
  between_at w callers locals todo loops a there = related_at w callers [] locals todo loops a (between a todo loops there)

  next : (w : Around) (callers : AreCallers code p w.end w.below w.calls) (locals : List ℤ) (todo : List Todo) (loops : List Loop) (a : ℕ) → Continues code p w.end a todo loops → IsSettledAt code a → Next w [] locals todo loops a
  next w callers locals _ _ a (past_end _ main at) still = inl (record { todo = refl; below = no_below code p w.end w.below w.calls main callers; awaited = refl; there = ap is_halt at; wait = refl })
  next w callers locals _ _ a (at_close _ rest loops at more) still = inr (λ m clear known.
      let g : Setting = record { code = code; program = p; laws = laws; clear = clear } in
      let here = code_at w locals loops a in
      step_by g here m _ (instr.Close ∷ []) (Blocks need.Finish) refl (at, tt) (leads_last g instr.Close here m (Blocks need.Finish) refl) tt
      (record {
        effect = refl;
        memory = refl;
        tasks = (
          between_at w callers locals (item.Closes ∷ rest) loops a (at_close a rest loops at more, still),
          between_at w callers locals rest loops (settled code.instrs (length code.instrs) (a + 1)) (settle laws code p w.end (a + 1) rest loops more (length code.instrs) (omega arith)),
        );
      }))
  next w callers locals _ _ a (at_ret _ ship at) still = inr (λ m clear known.
      let g : Setting = record { code = code; program = p; laws = laws; clear = clear } in
      let here = code_at w locals [] a in
      let d : Did = Stops (effect.Ends w.done) here m in
      step_by g here m _ (instr.Ret ∷ []) d refl (at, tt) (leads_last g instr.Ret here m d (ap (λ calls. leaves calls here m) (no_calls code p w.end w.below w.calls ship callers))) tt
      (record { effect = refl; memory = refl; tasks = tt }))
  next w callers locals _ _ a (at_return _ outs call at) still = inr (λ m clear known.
      return_steps (record { code = code; program = p; laws = laws; clear = clear }) w.done w.below w.calls outs locals a m (subst (λ e. AreCallers code p e w.below w.calls) call callers) known at)
  next w callers locals _ _ a (at_statement _ k s rest loops simple has texts more) still = inr (λ m clear known.
      stmt_steps (record { code = code; program = p; laws = laws; clear = clear }) placed w callers [] locals loops a a k m known s rest (between_at w callers locals (item.Does s ∷ rest) loops a (at_statement a k s rest loops simple has texts more, still))
      [] (pieces_of s) refl refl (omega arith) (record { simple = simple; has = has; texts = texts; more = more }))
  next w callers locals _ _ a (at_turn _ top k v step n body rest loops simple has under texts e more) still = inr (λ m clear known.
      turn_steps (record { code = code; program = p; laws = laws; clear = clear }) w callers m rest [] locals loops a top k v step n body simple has under texts e more)
  next w callers locals todo loops a (jumps _ b _ _ at lt more) still = absurd (no_go code a b at still)
  next w callers locals todo loops a (goes_back _ b _ _ at h more) still = absurd (no_go code a b at still)

  -- the same where a statement has begun
  next_from : (w : Around) (callers : AreCallers code p w.end w.below w.calls) (held : List ℤ) (locals : List ℤ) (todo : List Todo) (loops : List Loop) (a : ℕ) → Stands code p w.end held a todo loops → Next w held locals todo loops a
  next_from w callers _ locals _ _ _ (between a todo loops there) = next w callers locals todo loops a there.0 there.1
  next_from w callers _ locals _ _ _ (within held a start k s rest loops done left are count at simple has texts more) = inr (λ m clear known.
      stmt_steps (record { code = code; program = p; laws = laws; clear = clear }) placed w callers held locals loops start a k m known s rest
      (related_at w callers held locals (item.Does s ∷ rest) loops a (within held a start k s rest loops done left are count at simple has texts more))
      done left are count at (record { simple = simple; has = has; texts = texts; more = more }))

  abbrev Holds : Type 1
  Holds = TreeTask → Task → Type 0

  end_map : (P Q : TreeTask → Task → Type 0) → ((t : TreeTask) (c : Task) → P t c → Q t c) → (x : Option TreeWait) (y : Option Wait) (t : TreeTask) (c : Task) → EndAlike P x y t c → EndAlike Q x y t c
  end_map P Q f None None t c h = f t c h
  end_map P Q f (Some awaited.Value) (Some wait.Value) t c h = λ z. f _ _ (h z)
  end_map P Q f (Some awaited.Done) (Some wait.Written) t c h = f _ _ h
  end_map P Q f (Some (awaited.NewTeam o)) (Some (wait.NewTeam q)) t c h = (h.0, f _ _ h.1)
  end_map P Q f _ _ t c h = absurd h

  go_on_map : (P Q : TreeTask → Task → Type 0) → ((t : TreeTask) (c : Task) → P t c → Q t c) → (e : Effect) (t : TreeTask) (c : Task) → GoOnAlike code P e t c → GoOnAlike code Q e t c
  go_on_map P Q f (effect.Traps trap) t c h = tt
  go_on_map P Q f (effect.Ends event) t c h = tt
  go_on_map P Q f (effect.Blocks need.Finish) t c h = (end_map P Q f t.wait c.wait t c h.0, f _ _ h.1)
  go_on_map P Q f _ t c h = end_map P Q f t.wait c.wait t c h

  same_map : (P Q : TreeTask → Task → Type 0) → ((t : TreeTask) (c : Task) → P t c → Q t c) → (x : After TreeTask) (y : After Task) → SameStep code P x y → SameStep code Q x y
  same_map P Q f x y same = record { effect = same.effect; memory = same.memory; tasks = go_on_map P Q f x.effect x.task y.task same.tasks }

  agrees : (k : ℕ) (t : TreeTask) (c : Task) → Related code p t c → Agree p code k t c
  agrees zero t c r = tt
  agrees (suc k) t c r =
      let P : TreeTask → Task → Type 0 = λ t c. Agree p code (suc k) t c in
      subst (λ t. P t c) (sym r.tree) (subst (λ c. P (tree_with r.around r.held r.locals r.todo) c) (sym r.task)
      (steps (next_from r.around r.callers r.held r.locals r.todo r.loops r.address r.there) (agrees k)))
    where
      steps : Next r.around r.held r.locals r.todo r.loops r.address → ((t : TreeTask) (c : Task) → Related code p t c → Agree p code k t c) → Agree p code (suc k) (tree_with r.around r.held r.locals r.todo) (code_with r.around r.held r.locals r.loops r.address)
      steps (inl past) more = inl past
      steps (inr same) more = inr (λ m clear objects. same_map (Related code p) (Agree p code k) more _ _ (same m clear objects))

  -- a task that begins where the code does what it has to do
  pub begins : (k : ℕ) (end : FrameEnd) (locals : List ℤ) (todo : List Todo) (event : Option EventAt) (a : ℕ) → AreCallers code p end [] [] → Continues code p end a todo []
      → Agree p code k (tree_at (record { below = []; calls = []; end = end; done = event }) locals todo) (code_at (record { below = []; calls = []; end = end; done = event }) locals [] (settled code.instrs (length code.instrs) a))
  begins k end locals todo event a callers there =
      agrees k _ _ (between_at (record { below = []; calls = []; end = end; done = event }) callers locals todo [] (settled code.instrs (length code.instrs) a) (settle laws code p end a todo [] there (length code.instrs) (omega arith)))

pub sub_sized : (f : SubR) (a k : ℕ) → length (sub_code f a k) ≡ sub_size f
sub_sized f a k = omega (arith, length-append (block (codes f.body) a k) (instr.Ret ∷ []), sized_block f.body a k)

sub_there : (code : Listing) (p : Program) (subs : List SubR) (a k at : ℕ) (f : SubR) → are_subs_fit p.subs subs ≡ true → HasAt code.instrs a (subs_code subs a k) → StandsAt code.texts k (subs_texts subs)
    → slice_get subs at ≡ Some f → (s : SubCode) × (slice_get (sub_entries subs a) at ≡ Some s) × IsThere code p f s
sub_there code p [] a k zero f simple has texts e = absurd (cc)
sub_there code p [] a k (suc at) f simple has texts e = absurd (cc)
sub_there code p (x ∷ subs) a k zero f simple has texts e =
    let same : x ≡ f = cc in
    let entry : SubCode = record { address = a; dummies = copied_dummies x; locals = length x.locals } in (
      entry,
      refl,
      subst (λ y. IsThere code p y entry) same
          (record {
            first_text = k;
            instrs = has_front code.instrs a (sub_code x a k) _ has;
            texts = stands_front code.texts k (texts_in (codes x.body)) (subs_texts subs) texts;
            locals = refl;
            dummies = refl;
            simple = first_true (is_block_fit p.subs x.body) (are_subs_fit p.subs subs) simple;
          }),
    )
sub_there code p (x ∷ subs) a k (suc at) f simple has texts e =
    sub_there code p subs (a + sub_size x) (k + length (texts_in (codes x.body))) at f (second_true (is_block_fit p.subs x.body) (are_subs_fit p.subs subs) simple)
    (has_behind code.instrs a (a + sub_size x) (sub_code x a k) _ (omega (arith, sub_sized x a k)) has) (stands_back code.texts k (texts_in (codes x.body)) (subs_texts subs) texts) e

same_dummies : (subs : List SubR) (a : ℕ) → map (λ (s : SubCode). s.dummies) (sub_entries subs a) ≡ map copied_dummies subs
same_dummies [] a = refl
same_dummies (f ∷ subs) a = ap (λ l. copied_dummies f ∷ l) (same_dummies subs (a + sub_size f))

pub compiled : CodesLeaveValues → (p : Program) → is_block_fit p.subs p.body ≡ true → are_subs_fit p.subs p.subs ≡ true → Compiled p (program_code p)
compiled laws p simple simple_subs =
    let code = program_code p in
    let body = p.body in
    let main = main_code body in
    let n = main_size body in
    let texts = texts_in (codes body) in
    let subs = subs_code p.subs n (length texts) in
    let has : HasAt code.instrs 0 (main ++ subs) = has_all (main ++ subs) [] in
    let has_main = has_front code.instrs 0 main subs has in
    let statements = block (codes body) 0 0 in
    let q = sizes (codes body) in
    let ends = has_behind code.instrs 0 q statements (instr.Close ∷ instr.Halt ∷ []) (omega (arith, sized_block body 0 0)) has_main in
    let there : Continues code p OfMain 0 (all_of body ++ (item.Closes ∷ [])) [] =
    block_continues laws code p OfMain body (item.Closes ∷ []) [] 0 q 0 simple (omega arith) (has_front code.instrs 0 statements _ has_main)
    (stands_front code.texts 0 texts (subs_texts p.subs) (stands_all (texts ++ subs_texts p.subs) [])) (at_close q [] [] ends.0 (past_end (q + 1) tt ends.1.0)) in
    let main_sized : n ≡ 0 + length main = omega (arith, length-append statements (instr.Close ∷ instr.Halt ∷ []), sized_block body 0 0) in
    let has_subs = has_behind code.instrs 0 n main subs main_sized has in
    let subs_stand = subst (λ k. StandsAt code.texts k (subs_texts p.subs)) (omega arith) (stands_back code.texts 0 texts (subs_texts p.subs) (stands_all (texts ++ subs_texts p.subs) [])) in
    let placed : SubsPlaced code p = λ at f e. sub_there code p p.subs n (length texts) at f simple_subs has_subs subs_stand e in
    record {
      objects = refl;
      subs = same_dummies p.subs n;
      main = λ k. begins laws p code placed k OfMain [] (all_of body ++ (item.Closes ∷ [])) None 0 tt there;
      shipped = λ k at f s arguments event e h len.
          let found = placed at f e in
          let same : found.0 ≡ s = some_same found.0 s (sym found.1 ∙ h) in
          let x = subst (λ s. IsThere code p f s) same found.2 in
          let statements = block (codes f.body) s.address x.first_text in
          let q = s.address + sizes (codes f.body) in
          let ret = has_behind code.instrs s.address q statements (instr.Ret ∷ []) (omega (arith, sized_block f.body s.address x.first_text)) x.instrs in
          let there : Continues code p OfShip s.address (all_of f.body ++ (item.Ends ∷ [])) [] =
          block_continues laws code p OfShip f.body (item.Ends ∷ []) [] s.address q x.first_text x.simple refl (has_front code.instrs s.address statements _ x.instrs) x.texts (at_ret q tt ret.0) in
          subst (λ n. Agree p code k (tree_shipped_task f arguments event) (record (shipped_task code s arguments event) { frame = record (shipped_task code s arguments event).frame { cells = arguments ++ replicate n (pos 0) } })) (sym x.locals)
          (begins laws p code placed k OfShip (arguments ++ replicate (length f.locals) (pos 0)) (all_of f.body ++ (item.Ends ∷ [])) event s.address tt there);
    }
