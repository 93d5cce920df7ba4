-- A call, and the end of a called subroutine.
use mathlib.Core.List.{reverse-reverse, reverse_aux, reverse_aux-eq}
use Rattle.std.proofs.Common.{◌≡◌, ℕ, suc, ◌+◌, true, false, List, [], ◌∷◌, ◌++◌, map, length, Option, Some, None, Result, Ok, Err, ℤ, pos, refl, sym, ap, ◌∙◌, subst, arith, append_assoc, append-nil, length-append}
use Rattle.std.specs.Prelude.{Bool, not, nat_le, drop, replicate, reverse, slice_get, slice_index_or, take, if◌then◌else◌}
use Rattle.std.proofs.Math.Seq.{drop-length, take-length}
use Rattle.std.proofs.lemmas.Bool.{le-leb}
use Rattle.std.proofs.lemmas.List.{length-map, length-reverse}
use Rattle.std.specs.Result.{result_unwrap_or}
use Rattle.caf_base.specs.Arithmetic.{Answer}
use Rattle.caf_base.specs.Element.{element_at, has_index}
use Rattle.caf_base.specs.ImageMemory.{ImageMemory}
use Rattle.caf_base.specs.Places.{bind, set_element, within, written, written_in}
use Rattle.caf_base.specs.declared.effect.Effect.TheVariants as effect
use Rattle.caf_base.specs.declared.object.Object.{Object}
use Rattle.caf_base.specs.declared.operation.EventAt.{EventAt}
use Rattle.caf_base.specs.declared.trap.Trap.{Trap}
use Rattle.caf_base.specs.declared.trap.Trap.TheVariants as trap
use Rattle.caf_program.specs.Seen.{Seen, element, local, scalar}
use Rattle.caf_program.specs.Ships.{is_in}
use Rattle.caf_program.specs.Value.{value_at}
use Rattle.caf_program.specs.declared.parts.ActualR.{ActualR}
use Rattle.caf_program.specs.declared.parts.ActualR.TheVariants as actual
use Rattle.caf_program.specs.declared.program.DummyR.{DummyR}
use Rattle.caf_program.specs.declared.program.Intent.{Intent}
use Rattle.caf_program.specs.declared.program.Intent.TheVariants.{In, InOut}
use Rattle.caf_program.specs.declared.program.Program.{Program}
use Rattle.caf_program.specs.declared.program.SubR.{SubR}
use Rattle.caf_treestep.specs.Evaluated.{argument_of, arguments_of, held_by_actual, out_at, outs_from}
use Rattle.caf_treestep.specs.Step.{Variables, called, copies_out as tree_copies_out, frame_of, given, goes_in, opened, put, returns_to}
use Rattle.caf_treestep.specs.Task.{all_of}
use Rattle.caf_treestep.specs.declared.argument.Argument.{Argument}
use Rattle.caf_treestep.specs.declared.task.Frame.{Frame as TreeFrame}
use Rattle.caf_treestep.specs.declared.todo.CopyOut.{CopyOut as TreeCopyOut}
use Rattle.caf_treestep.specs.declared.todo.Target.{Target}
use Rattle.caf_treestep.specs.declared.todo.Target.TheVariants as target
use Rattle.caf_treestep.specs.declared.todo.Todo.{Todo}
use Rattle.caf_treestep.specs.declared.todo.Todo.TheVariants as item
use Rattle.caf_code.specs.Calls.{copies_out, copies_to, leaves, new_frame, opens, paired, returns}
use Rattle.caf_code.specs.Did.{Did, Goes, Stops, Fails, Lacks, found, on_arguments, there}
use Rattle.caf_code.specs.Step.{does, runs}
use Rattle.caf_code.specs.Task.{Frame, OpenCall, Task}
use Rattle.caf_code.specs.declared.instr.CellUse.TheVariants as cell
use Rattle.caf_code.specs.declared.instr.Instr.{Instr}
use Rattle.caf_code.specs.declared.instr.Instr.TheVariants as instr
use Rattle.caf_code.specs.declared.instr.OutForm.TheVariants as out
use Rattle.caf_code.specs.declared.instr.Reach.TheVariants as reach
use Rattle.caf_code.specs.declared.listing.Listing.{Listing}
use Rattle.caf_code.specs.declared.listing.SubCode.{SubCode}
use Rattle.caf_code.specs.declared.task.CopyTarget.{CopyTarget}
use Rattle.caf_code.specs.declared.task.CopyTarget.TheVariants as copied
use Rattle.caf_code.specs.declared.task.Loop.{Loop}
use Rattle.caf_exprgen.specs.ExprCode.{expr_code}
use Rattle.caf_exprgen.specs.Leaves.{seen_by}
use Rattle.caf_exprgen.specs.Placed.{HasAt}
use Rattle.caf_codegen.specs.Agreement.{SameStep}
use Rattle.caf_codegen.specs.Compiled.{copied_dummies}
use Rattle.caf_codegen.specs.ProgramCode.{sub_code}
use Rattle.caf_codegen.specs.StmtCode.{StandsAt, actual_code, actuals_code, block, call_code, codes, sizes, texts_in}
use Rattle.caf_codegen.proofs.Assigned.{before}
use Rattle.caf_codegen.proofs.Both.{first_true, second_true}
use Rattle.caf_codegen.proofs.Fits.{fits_called, fits_intent, fits_intents, is_block_fit}
use Rattle.caf_codegen.proofs.Follows.{Continues, FrameEnd, OfCall, OfMain, OfShip, at_return, block_continues}
use Rattle.caf_codegen.proofs.Places.{has_behind, has_front}
use Rattle.caf_codegen.proofs.Related.{AreCallers, Around, CanPut, CanPutAll, HasIndex, IsEnd, Leads, Related, SameFor, Setting, code_at, code_with, found_ends, found_map, frame_at, frame_with, leads_answer_is, leads_last, leads_on, leads_value_is, out_of, ran_same, step_by, target_of, trap_same}
use Rattle.caf_codegen.proofs.Sized.{sized_block}

-- what a subroutine has in the code
pub record IsThere (code : Listing) (p : Program) (f : SubR) (s : SubCode) : Type 0 where
  pub first_text : ℕ
  pub instrs : HasAt code.instrs s.address (sub_code f s.address first_text)
  pub texts : StandsAt code.texts first_text (texts_in (codes f.body))
  pub locals : s.locals ≡ length f.locals
  pub dummies : s.dummies ≡ copied_dummies f
  pub simple : is_block_fit p.subs f.body ≡ true

-- each subroutine stands in the code
abbrev pub SubsPlaced : Listing → Program → Type 0
SubsPlaced code p = (at : ℕ) (f : SubR) → slice_get p.subs at ≡ Some f → (s : SubCode) × (slice_get code.subs at ≡ Some s) × IsThere code p f s

bind_ok : {A B : Type 0} (r : Result A Trap) (go : A → Result B Trap) (y : B) → bind r go ≡ Ok y → (x : A) × (r ≡ Ok x) × (go x ≡ Ok y)
bind_ok (Err t) go y e = absurd (cc)
bind_ok (Ok x) go y e = (x, refl, e)

ok_same : {A : Type 0} (x y : A) → (let r : Result A Trap = Ok x in r) ≡ Ok y → x ≡ y
ok_same x y e = cc

pub some_same : {A : Type 0} (x y : A) → Some x ≡ Some y → x ≡ y
some_same x y e = cc

-- an element that is read has its index
index_there : (o : Option Object) (row : List ℤ) (i z : ℤ) → element_at o row i ≡ Ok z → (x : Object) × (o ≡ Some x) × (has_index x i ≡ true)
index_there None row i z e = absurd (cc)
index_there (Some x) row i z e = (x, refl, tested (has_index x i) (slice_index_or row _ (pos 0)) e)
  where
    tested : (b : Bool) (v : ℤ) → (let r : Answer = if b then Ok v else Err trap.Index in r) ≡ Ok z → b ≡ true
    tested true v e = refl
    tested false v e = absurd (cc)

within_there : (o : Option Object) (i : ℤ) (x : Object) → o ≡ Some x → has_index x i ≡ true → within o i ≡ Ok i
within_there o i x e h = ap (λ o. within o i) e ∙ ap (λ (b : Bool). (let r : Answer = if b then Ok i else Err trap.Index in r)) h

-- operands and places for copy out, as arguments bring them
abbrev pub pushed : List Argument → List ℤ → List ℤ
pushed [] stack = stack
pushed (x ∷ xs) stack = pushed xs (x.value ∷ stack)

abbrev with_target : List CopyTarget → Option Target → List CopyTarget
with_target outs None = outs
with_target outs (Some t) = outs ++ target_of t ∷ []

abbrev outs_after : List CopyTarget → List Argument → List CopyTarget
outs_after outs [] = outs
outs_after outs (x ∷ xs) = outs_after (with_target outs x.out) xs

abbrev targets_if : Option Target → List CopyTarget
targets_if None = []
targets_if (Some t) = target_of t ∷ []

abbrev out_targets : List Argument → List CopyTarget
out_targets [] = []
out_targets (x ∷ xs) = targets_if x.out ++ out_targets xs

with_targets : (outs : List CopyTarget) (o : Option Target) (more : List CopyTarget) → with_target outs o ++ more ≡ outs ++ (targets_if o ++ more)
with_targets outs None more = refl
with_targets outs (Some t) more = append_assoc outs (target_of t ∷ []) more

outs_all : (outs : List CopyTarget) (xs : List Argument) → outs_after outs xs ≡ outs ++ out_targets xs
outs_all outs [] = sym (append-nil outs)
outs_all outs (x ∷ xs) = outs_all (with_target outs x.out) xs ∙ with_targets outs x.out (out_targets xs)

abbrev pub values : List Argument → List ℤ
values = map (λ (x : Argument). x.value)

abbrev turned : List ℤ → List ℤ → List ℤ
turned [] r = r
turned (x ∷ xs) r = turned xs (x ∷ r)

pushed_turned : (xs : List Argument) (stack : List ℤ) → pushed xs stack ≡ turned (values xs) stack
pushed_turned [] stack = refl
pushed_turned (x ∷ xs) stack = pushed_turned xs (x.value ∷ stack)

-- what an actual that fits brings for its dummy
abbrev OutFits : List Object → Intent → Argument → Type 0
OutFits objects In y = y.out ≡ None
OutFits objects InOut y = (t : Target) × (y.out ≡ Some t) × CanPut objects t

argument_fits : (i : Intent) (x : ActualR) (at : ℕ) (s : Seen) (y : Argument) → fits_intent i x ≡ true → argument_of x at s ≡ Ok y → OutFits s.objects i y
argument_fits In (actual.Value e) at s y h is = let b = bind_ok (value_at e at s) _ y is in ap (λ (a : Argument). a.out) (sym (ok_same _ y b.2))
argument_fits In (actual.Scalar o) at s y h is = let f : false ≡ true = h in absurd (cc)
argument_fits In (actual.Local k) at s y h is = let f : false ≡ true = h in absurd (cc)
argument_fits In (actual.Element o i) at s y h is = let f : false ≡ true = h in absurd (cc)
argument_fits InOut (actual.Value e) at s y h is = let f : false ≡ true = h in absurd (cc)
argument_fits InOut (actual.Scalar o) at s y h is =
    let b = bind_ok (scalar s o) _ y is in
    (target.Scalar o, ap (λ (a : Argument). a.out) (sym (ok_same _ y b.2)), index_there (slice_get s.objects o) (slice_index_or s.cells o []) (pos 1) b.0 b.1)
argument_fits InOut (actual.Local k) at s y h is = (target.Local k, ap (λ (a : Argument). a.out) (sym (ok_same _ y is)), tt)
argument_fits InOut (actual.Element o i) at s y h is =
    let b = bind_ok (value_at i at s) _ y is in
    let c = bind_ok (element s o b.0) _ y b.2 in
    (target.Element o b.0, ap (λ (a : Argument). a.out) (sym (ok_same _ y c.2)), index_there (slice_get s.objects o) (slice_index_or s.cells o []) b.0 c.0 c.1)

abbrev copies : List DummyR → List Bool
copies = map (λ (d : DummyR). not (is_in d.intent))

one_paired : (objects : List Object) (i : Intent) (y : Argument) (c : ℕ) (bs : List Bool) (ts : List CopyTarget) (outs : List TreeCopyOut) → OutFits objects i y → paired (suc c) bs ts ≡ map out_of outs
    → paired c (not (is_in i) ∷ bs) (targets_if y.out ++ ts) ≡ map out_of (out_at c y.out ++ outs)
one_paired objects In y c bs ts outs fit more = subst (λ o. paired c (false ∷ bs) (targets_if o ++ ts) ≡ map out_of (out_at c o ++ outs)) (sym fit) more
one_paired objects InOut y c bs ts outs fit more =
    subst (λ o. paired c (true ∷ bs) (targets_if o ++ ts) ≡ map out_of (out_at c o ++ outs)) (sym fit.1) (ap (λ l. record { cell = c; target = target_of fit.0 } ∷ l) more)

one_put : (objects : List Object) (i : Intent) (y : Argument) (c : ℕ) (outs : List TreeCopyOut) → OutFits objects i y → CanPutAll objects outs → CanPutAll objects (out_at c y.out ++ outs)
one_put objects In y c outs fit more = subst (λ o. CanPutAll objects (out_at c o ++ outs)) (sym fit) more
one_put objects InOut y c outs fit more = subst (λ o. CanPutAll objects (out_at c o ++ outs)) (sym fit.1) (fit.2, more)

-- arguments for dummies
pub record ArgumentsFit (objects : List Object) (ds : List DummyR) (xs : List Argument) : Type 0 where
  pub count : length xs ≡ length ds
  pub pairs : (c : ℕ) → paired c (copies ds) (out_targets xs) ≡ map out_of (outs_from c xs)
  pub puts : (c : ℕ) → CanPutAll objects (outs_from c xs)

fit_one : (s : Seen) (d : DummyR) (ds : List DummyR) (y : Argument) (ys : List Argument) → OutFits s.objects d.intent y → ArgumentsFit s.objects ds ys → ArgumentsFit s.objects (d ∷ ds) (y ∷ ys)
fit_one s d ds y ys own rest = record {
  count = ap suc rest.count;
  pairs = λ c. one_paired s.objects d.intent y c (copies ds) (out_targets ys) (outs_from (suc c) ys) own (rest.pairs (suc c));
  puts = λ c. one_put s.objects d.intent y c (outs_from (suc c) ys) own (rest.puts (suc c));
}

pub arguments_fit : (ds : List DummyR) (l : List ActualR) (at : ℕ) (s : Seen) (xs : List Argument) → fits_intents ds l ≡ true → arguments_of l at s ≡ Ok xs → ArgumentsFit s.objects ds xs
arguments_fit [] [] at s xs h is = subst (λ xs. ArgumentsFit s.objects [] xs) (ok_same [] xs is) (record { count = refl; pairs = λ c. refl; puts = λ c. tt })
arguments_fit [] (x ∷ l) at s xs h is = let f : false ≡ true = h in absurd (cc)
arguments_fit (d ∷ ds) [] at s xs h is = let f : false ≡ true = h in absurd (cc)
arguments_fit (d ∷ ds) (x ∷ l) at s xs h is =
    let b = bind_ok (argument_of x at s) _ xs is in
    let c = bind_ok (arguments_of l (at + held_by_actual x) s) _ xs b.2 in
    subst (λ xs. ArgumentsFit s.objects (d ∷ ds) xs) (ok_same (b.0 ∷ c.0) xs c.2)
    (fit_one s d ds b.0 c.0 (argument_fits d.intent x at s b.0 (first_true (fits_intent d.intent x) (fits_intents ds l) h) b.1)
    (arguments_fit ds l (at + held_by_actual x) s c.0 (second_true (fits_intent d.intent x) (fits_intents ds l) h) c.1))

pub found_more : (r : Result Argument Trap) (more : Result (List Argument) Trap) (m : ImageMemory) (d : List Argument → Did) → found (bind r (λ x. bind more (λ xs. Ok (x ∷ xs)))) m d ≡ found r m (λ x. found more m (λ xs. d (x ∷ xs)))
found_more (Err t) more m d = refl
found_more (Ok x) (Err t) m d = refl
found_more (Ok x) (Ok xs) m d = refl

pub found_two : {B : Type 0} (r : Answer) (go : ℤ → Answer) (f : ℤ → ℤ → B) (m : ImageMemory) (d : B → Did) → found (bind r (λ x. bind (go x) (λ z. Ok (f x z)))) m d ≡ found r m (λ x. found (go x) m (λ z. d (f x z)))
found_two (Err t) go f m d = refl
found_two (Ok x) go f m d = found_map (go x) (f x) m d

module _ (g : Setting) (w : Around) (held : List ℤ) (locals : List ℤ) (loops : List Loop) (m : ImageMemory) where
  -- before a call, with these operands and these places for copy out
  abbrev before_call : ℕ → List ℤ → List CopyTarget → Task
  before_call a stack outs = record (code_with w held locals loops a) { frame = record (frame_with held locals loops) { stack = stack; outs = outs } }

  abbrev seen_here : Seen
  seen_here = seen_by (before_call 0 [] []) m

  -- the instructions of an actual, and what follows them
  actual_leads : (x : ActualR) (at a : ℕ) (stack : List ℤ) (outs : List CopyTarget) (js : List Instr) (d : Argument → Did)
      → ((y : Argument) (b : ℕ) → argument_of x at seen_here ≡ Ok y → b ≡ a + length (actual_code x at) → Leads g js (d y) (before_call b (y.value ∷ stack) (with_target outs y.out)) m)
      → Leads g (actual_code x at ++ js) (found (argument_of x at seen_here) m d) (before_call a stack outs) m
  actual_leads (actual.Value e) at a stack outs js d more =
      let make : ℤ → Argument = λ z. record { value = z; out = None } in
      let v = value_at e at seen_here in
      subst (λ x. Leads g (expr_code e at ++ js) x (before_call a stack outs) m) (sym (found_map v make m d))
      (leads_value_is g e at js (before_call a stack outs) m (λ z. d (make z)) (λ z is. more (make z) (a + length (expr_code e at)) (ap (λ r. bind r (λ z. Ok (make z))) is) refl))
  actual_leads (actual.Scalar o) at a stack outs js d more =
      let make : ℤ → Argument = λ z. record { value = z; out = Some (target.Scalar o) } in
      let v = scalar seen_here o in
      let t = before_call a stack outs in
      subst (λ x. Leads g (instr.Load reach.Scalar o ∷ instr.Out (out.Scalar o) ∷ js) x t m) (sym (found_map v make m d))
      (leads_answer_is g (instr.Load reach.Scalar o) (instr.Out (out.Scalar o) ∷ js) t m v stack (λ z. d (make z)) refl (λ z is.
      leads_on g (instr.Out (out.Scalar o)) js (before_call (a + 1) (z ∷ stack) outs) (before_call (a + 1 + 1) (z ∷ stack) (outs ++ copied.Scalar o ∷ [])) m m (d (make z)) refl refl
      (more (make z) (a + 1 + 1) (ap (λ r. bind r (λ z. Ok (make z))) is) (omega arith))))
  actual_leads (actual.Local k) at a stack outs js d more =
      let z = local seen_here k in
      let y : Argument = record { value = z; out = Some (target.Local k) } in
      leads_on g (instr.Cell cell.Get k) (instr.Out (out.Local k) ∷ js) (before_call a stack outs) (before_call (a + 1) (z ∷ stack) outs) m m (d y) refl refl
      (leads_on g (instr.Out (out.Local k)) js (before_call (a + 1) (z ∷ stack) outs) (before_call (a + 1 + 1) (z ∷ stack) (outs ++ copied.Local k ∷ [])) m m (d y) refl refl (more y (a + 1 + 1) refl (omega arith)))
  actual_leads (actual.Element o i) at a stack outs js d more =
      let make : ℤ → ℤ → Argument = λ x z. record { value = z; out = Some (target.Element o x) } in
      let E = expr_code i at in
      let n = length E in
      let last = instr.Out (out.Element o) in
      let tail = instr.Load reach.Element o ∷ (E ++ (last ∷ js)) in
      let v = value_at i at seen_here in
      let read : ℤ → Answer = λ x. element seen_here o x in
      let t = before_call a stack outs in
      let flat : (E ++ (instr.Load reach.Element o ∷ (E ++ (last ∷ [])))) ++ js ≡ E ++ tail = simp append_assoc in
      let b = a + n + 1 + n in
      let len : b + 1 ≡ a + length (E ++ (instr.Load reach.Element o ∷ (E ++ (last ∷ [])))) = omega (arith, length-append E (instr.Load reach.Element o ∷ (E ++ (last ∷ []))), length-append E (last ∷ [])) in
      subst (λ is. Leads g is (found (argument_of (actual.Element o i) at seen_here) m d) t m) (sym flat)
      (subst (λ x. Leads g (E ++ tail) x t m) (sym (found_two v read make m d))
      (leads_value_is g i at tail t m (λ x. found (read x) m (λ z. d (make x z))) (λ x is_x.
      leads_answer_is g (instr.Load reach.Element o) (E ++ (last ∷ js)) (before_call (a + n) (x ∷ stack) outs) m (read x) stack (λ z. d (make x z)) refl (λ z is_z.
      let there = index_there (slice_get m.objects o) (slice_index_or m.cells o []) x z is_z in
      let tested : within (slice_get m.objects o) x ≡ Ok x = within_there (slice_get m.objects o) x there.0 there.1 there.2 in
      let t2 = before_call (a + n + 1) (z ∷ stack) outs in
      let again : ℤ → Did = λ y. d (make y z) in
      subst (λ r. Leads g (E ++ (last ∷ js)) (found r m again) t2 m) is_x
      (leads_value_is g i at (last ∷ js) t2 m again (λ y is_y.
      let same : y ≡ x = ok_same y x (sym is_y ∙ is_x) in
      let kept : within (slice_get m.objects o) y ≡ Ok y = subst (λ q. within (slice_get m.objects o) q ≡ Ok q) (sym same) tested in
      let made : argument_of (actual.Element o i) at seen_here ≡ Ok (make y z) = ap (λ r. bind r (λ x. bind (read x) (λ z. Ok (make x z)))) is_y ∙ ap (λ r. bind r (λ z. Ok (make y z))) (ap read same ∙ is_z) in
      leads_on g last js (before_call b (y ∷ z ∷ stack) outs) (before_call (b + 1) (z ∷ stack) (outs ++ copied.Element o y ∷ [])) m m (d (make y z))
      (ap (λ r. found r m (λ q. Goes (before_call (b + 1) (z ∷ stack) (outs ++ copied.Element o q ∷ [])) m)) kept) refl (more (make y z) (b + 1) made len)))))))

  -- those of actuals, from the left
  actuals_lead : (l : List ActualR) (at a : ℕ) (stack : List ℤ) (outs : List CopyTarget) (js : List Instr) (d : List Argument → Did)
      → ((xs : List Argument) (b : ℕ) → arguments_of l at seen_here ≡ Ok xs → b ≡ a + length (actuals_code l at) → Leads g js (d xs) (before_call b (pushed xs stack) (outs_after outs xs)) m)
      → Leads g (actuals_code l at ++ js) (found (arguments_of l at seen_here) m d) (before_call a stack outs) m
  actuals_lead [] at a stack outs js d more = more [] a refl (omega arith)
  actuals_lead (x ∷ l) at a stack outs js d more =
      let next = at + held_by_actual x in
      let rest = arguments_of l next seen_here in
      let flat : (actual_code x at ++ actuals_code l next) ++ js ≡ actual_code x at ++ (actuals_code l next ++ js) = append_assoc (actual_code x at) (actuals_code l next) js in
      subst (λ is. Leads g is (found (arguments_of (x ∷ l) at seen_here) m d) (before_call a stack outs) m) (sym flat)
      (subst (λ y. Leads g (actual_code x at ++ (actuals_code l next ++ js)) y (before_call a stack outs) m) (sym (found_more (argument_of x at seen_here) rest m d))
      (actual_leads x at a stack outs (actuals_code l next ++ js) (λ y. found rest m (λ ys. d (y ∷ ys))) (λ y b is_y e.
      actuals_lead l next b (y.value ∷ stack) (with_target outs y.out) js (λ ys. d (y ∷ ys)) (λ ys c is_ys e'.
      more (y ∷ ys) c (ap (λ r. bind r (λ x. bind rest (λ xs. Ok (x ∷ xs)))) is_y ∙ ap (λ r. bind r (λ xs. Ok (y ∷ xs))) is_ys)
      (omega (arith, e, e', length-append (actual_code x at) (actuals_code l next)))))))

same_depth : (code : Listing) (p : Program) (end : FrameEnd) (below : List TreeFrame) (calls : List OpenCall) → AreCallers code p end below calls → length below ≡ length calls
same_depth code p OfMain [] [] h = refl
same_depth code p OfShip [] [] h = refl
same_depth code p (OfCall outs) (f ∷ below) (c ∷ calls) h = ap suc (same_depth code p h.0 below calls h.6)
same_depth code p _ _ _ h = absurd h

reverse_onto : (xs r : List ℤ) → reverse_aux xs r ≡ turned xs r
reverse_onto [] r = refl
reverse_onto (x ∷ xs) r = reverse_onto xs (x ∷ r)

reverse_turned : (xs : List ℤ) → reverse xs ≡ turned xs []
reverse_turned xs = sym (append-nil (reverse xs)) ∙ sym (reverse_aux-eq xs []) ∙ reverse_onto xs []

-- as many arguments as are taken
pub taken : (xs : List Argument) (n : ℕ) (m : ImageMemory) (go : List ℤ → List ℤ → Did) → length xs ≡ n → on_arguments n (pushed xs []) m go ≡ go (values xs) []
taken xs n m go e =
    let vs = values xs in
    let is : pushed xs [] ≡ reverse vs = pushed_turned xs [] ∙ sym (reverse_turned vs) in
    let len : n ≡ length (reverse vs) = sym e ∙ sym (length-map xs (λ (x : Argument). x.value)) ∙ sym (length-reverse vs) in
    ap (λ s. on_arguments n s m go) is ∙ ap (λ k. on_arguments k (reverse vs) m go) len ∙ whole (reverse vs) (nat_le (length (reverse vs)) (length (reverse vs))) (enough (length (reverse vs)))
    ∙ ap (λ l. go (reverse l) []) (take-length (reverse vs)) ∙ ap (λ l. go l []) (reverse-reverse vs)
  where
    enough : (n : ℕ) → nat_le n n ≡ true
    enough n = le-leb n n (omega arith)

    whole : (s : List ℤ) (b : Bool) → b ≡ true → (if b then go (reverse (take (length s) s)) (drop (length s) s) else Lacks m) ≡ go (reverse (take (length s) s)) []
    whole s true h = ap (λ l. go (reverse (take (length s) s)) l) (drop-length s)
    whole s false h = let f : false ≡ true = h in absurd (cc)

module _ (g : Setting) (placed : SubsPlaced g.code g.program) (w : Around) (callers : AreCallers g.code g.program w.end w.below w.calls) (held : List ℤ) (locals : List ℤ) (loops : List Loop) (a : ℕ) (m : ImageMemory) (s : Todo) (rest : List Todo) where
  -- the frame that called and the place of the call, when these dummies will be copied out
  abbrev around_call : ℕ → List TreeCopyOut → Around
  around_call b outs = record {
    below = record { locals = locals; todo = rest } ∷ w.below;
    calls = record { caller = frame_at locals loops; from = b; outs = map out_of outs } ∷ w.calls;
    end = OfCall outs;
    done = w.done;
  }

  abbrev call_did : SubCode → ℕ → List Argument → Did
  call_did x b xs = if nat_le 200 (length w.calls) then Fails trap.Depth m else Stops effect.Ran (code_at (around_call b (outs_from 0 xs)) (values xs ++ replicate x.locals (pos 0)) [] x.address) m

  call_ends : (x : SubCode) (b : ℕ) (xs : List Argument) → IsEnd (call_did x b xs)
  call_ends x b xs = either (nat_le 200 (length w.calls)) (code_at (around_call b (outs_from 0 xs)) (values xs ++ replicate x.locals (pos 0)) [] x.address)
    where
      either : (r : Bool) (t : Task) → IsEnd (if r then Fails trap.Depth m else Stops effect.Ran t m)
      either true t = tt
      either false t = tt

  -- the call itself, where its arguments are on the stack
  call_does : (i : ℕ) (f : SubR) (x : SubCode) (b : ℕ) (xs : List Argument) (objects : List Object) → slice_get g.code.subs i ≡ Some x → IsThere g.code g.program f x → ArgumentsFit objects f.dummies xs
      → does g.code g.clear (instr.Call i) (before_call g w held locals loops m b (pushed xs []) (outs_after [] xs)) m ≡ call_did x b xs
  call_does i f x b xs objects at is fit =
      let t = before_call g w held locals loops m b (pushed xs []) (outs_after [] xs) in
      let go : SubCode → List ℤ → List ℤ → Did = λ sub arguments left. if nat_le 200 (length w.calls) then Fails trap.Depth m else Stops effect.Ran (opens sub arguments left t) m in
      let count : length xs ≡ length x.dummies = fit.count ∙ sym (length-map f.dummies (λ (d : DummyR). not (is_in d.intent))) ∙ sym (ap length is.dummies) in
      let outs : paired 0 x.dummies (outs_after [] xs) ≡ map out_of (outs_from 0 xs) = ap (λ ds. paired 0 ds (outs_after [] xs)) is.dummies ∙ ap (paired 0 (copies f.dummies)) (outs_all [] xs) ∙ fit.pairs 0 in
      ap (λ o. there o m (λ sub. on_arguments (length sub.dummies) (pushed xs []) m (go sub))) at ∙ taken xs (length x.dummies) m (go x) count
      ∙ ap (λ os. if nat_le 200 (length w.calls) then Fails trap.Depth m else Stops effect.Ran (record t { address = x.address; frame = new_frame x (values xs); calls = record { caller = frame_at locals loops; from = b; outs = os } ∷ w.calls }) m) outs

  -- the frame of the call on both sides
  opened_same : (f : SubR) (x : SubCode) (b : ℕ) (xs : List Argument) → IsThere g.code g.program f x → CanPutAll g.program.objects (outs_from 0 xs) → Continues g.code g.program w.end (b + 1) rest loops → (deep : Bool)
      → SameFor g (code_with w held locals loops a) m (given (if deep then Err trap.Depth else Ok (opened f xs)) (before w held locals s rest m) (λ frame. goes_in frame (before w held locals s rest m)))
      (if deep then Fails trap.Depth m else Stops effect.Ran (code_at (around_call b (outs_from 0 xs)) (values xs ++ replicate x.locals (pos 0)) [] x.address) m)
  opened_same f x b xs is puts more true = trap_same g (code_with w held locals loops a) (before w held locals s rest m) trap.Depth
  opened_same f x b xs is puts more false =
      let outs = outs_from 0 xs in
      let inside = around_call b outs in
      let statements = block (codes f.body) x.address is.first_text in
      let q = x.address + sizes (codes f.body) in
      let ret = has_behind g.code.instrs x.address q statements (instr.Ret ∷ []) (omega (arith, sized_block f.body x.address is.first_text)) is.instrs in
      let there : Continues g.code g.program (OfCall outs) x.address (all_of f.body ++ (item.Returns outs ∷ [])) [] =
      block_continues g.laws g.code g.program (OfCall outs) f.body (item.Returns outs ∷ []) [] x.address q is.first_text is.simple refl (has_front g.code.instrs x.address statements _ is.instrs) is.texts (at_return q outs refl ret.0) in
      subst (λ n. SameFor g (code_with w held locals loops a) m (goes_in (opened f xs) (before w held locals s rest m)) (Stops effect.Ran (code_at inside (values xs ++ replicate n (pos 0)) [] x.address) m)) (sym is.locals)
      (ran_same g (code_with w held locals loops a) m m inside (values xs ++ replicate (length f.locals) (pos 0)) (all_of f.body ++ (item.Returns outs ∷ [])) [] x.address (w.end, loops, refl, refl, puts, more, callers) there)

  called_same : (f : SubR) (x : SubCode) (b : ℕ) (r : Result (List Argument) Trap) → IsThere g.code g.program f x → ((xs : List Argument) → r ≡ Ok xs → CanPutAll g.program.objects (outs_from 0 xs)) → Continues g.code g.program w.end (b + 1) rest loops
      → SameFor g (code_with w held locals loops a) m (given (bind r (frame_of (Some f) (length w.below))) (before w held locals s rest m) (λ frame. goes_in frame (before w held locals s rest m))) (found r m (call_did x b))
  called_same f x b (Err t) is puts more = trap_same g (code_with w held locals loops a) (before w held locals s rest m) t
  called_same f x b (Ok xs) is puts more =
      subst (λ n. SameFor g (code_with w held locals loops a) m (given (if nat_le 200 n then Err trap.Depth else Ok (opened f xs)) (before w held locals s rest m) (λ frame. goes_in frame (before w held locals s rest m))) (call_did x b xs)) (sym (same_depth g.code g.program w.end w.below w.calls callers))
      (opened_same f x b xs is (puts xs refl) more (nat_le 200 (length w.calls)))

  pub call_steps : m.objects ≡ g.program.objects → (i : ℕ) (actuals : List ActualR) → fits_called (slice_get g.program.subs i) actuals ≡ true → HasAt g.code.instrs a (call_code i actuals) → Continues g.code g.program w.end (a + length (call_code i actuals)) rest loops
      → SameStep g.code (Related g.code g.program) (given (called (slice_get g.program.subs i) actuals (length w.below) (seen_by (code_with w held locals loops a) m)) (before w held locals s rest m) (λ frame. goes_in frame (before w held locals s rest m))) (runs g.code g.clear (code_with w held locals loops a) m)
  call_steps known i actuals fits has more = go (slice_get g.program.subs i) refl fits
    where
      go : (o : Option SubR) → slice_get g.program.subs i ≡ o → fits_called o actuals ≡ true
          → SameStep g.code (Related g.code g.program) (given (called o actuals (length w.below) (seen_by (code_with w held locals loops a) m)) (before w held locals s rest m) (λ frame. goes_in frame (before w held locals s rest m))) (runs g.code g.clear (code_with w held locals loops a) m)
      go None e h = let f : false ≡ true = h in absurd (cc)
      go (Some f) e h =
          let here = code_with w held locals loops a in
          let seen = seen_by here m in
          let x = placed i f e in
          let b = a + length (actuals_code actuals 0) in
          let r = arguments_of actuals 0 seen in
          let behind : a + length (call_code i actuals) ≡ b + 1 = omega (arith, length-append (actuals_code actuals 0) (instr.Call i ∷ [])) in
          let fit : (xs : List Argument) → r ≡ Ok xs → ArgumentsFit seen.objects f.dummies xs = λ xs is. arguments_fit f.dummies actuals 0 seen xs h is in
          step_by g here m _ (call_code i actuals) (found r m (call_did x.0 b)) refl has
          (actuals_lead g w held locals loops m actuals 0 a [] [] (instr.Call i ∷ []) (call_did x.0 b) (λ xs c is e'.
          subst (λ c. Leads g (instr.Call i ∷ []) (call_did x.0 b xs) (before_call g w held locals loops m c (pushed xs []) (outs_after [] xs)) m) (sym e')
          (leads_last g (instr.Call i) (before_call g w held locals loops m b (pushed xs []) (outs_after [] xs)) m (call_did x.0 b xs) (call_does i f x.0 b xs seen.objects x.1 x.2 (fit xs is)))))
          (found_ends r m (call_did x.0 b) (λ xs. call_ends x.0 b xs))
          (called_same f x.0 b r x.2 (λ xs is. subst (λ os. CanPutAll os (outs_from 0 xs)) known ((fit xs is).puts 0)) (subst (λ n. Continues g.code g.program w.end n rest loops) behind more))

-- a place that can be written
written_there : (objects : List Object) (m : ImageMemory) (o : ℕ) (i z : ℤ) → m.objects ≡ objects → HasIndex objects o i → (n : ImageMemory) × (written m o i z ≡ Ok n) × (n.objects ≡ m.objects)
written_there objects m o i z known has =
    let x = has.0 in
    let at : slice_get m.objects o ≡ Some x = ap (λ os. slice_get os o) known ∙ has.1 in
    (set_element m o x i z, ap (λ q. written_in m o q i z) at ∙ ap (λ (b : Bool). (let r : Result ImageMemory Trap = if b then Ok (set_element m o x i z) else Err trap.Index in r)) has.2, refl)

record PutSame (objects : List Object) (t : Target) (z : ℤ) (v : Variables) (loops : List Loop) : Type 0 where
  same : (go : Frame → ImageMemory → Did) → copies_to (target_of t) z (frame_at v.locals loops) v.memory go ≡ go (frame_at (put t z v).locals loops) (put t z v).memory
  known : (put t z v).memory.objects ≡ objects

put_stored : (objects : List Object) (o : ℕ) (i z : ℤ) (v : Variables) (loops : List Loop) → v.memory.objects ≡ objects → HasIndex objects o i
    → ((go : Frame → ImageMemory → Did) → found (written v.memory o i z) v.memory (go (frame_at v.locals loops)) ≡ go (frame_at (result_unwrap_or (bind (written v.memory o i z) (λ m. Ok (record v { memory = m }))) v).locals loops) (result_unwrap_or (bind (written v.memory o i z) (λ m. Ok (record v { memory = m }))) v).memory)
    × ((result_unwrap_or (bind (written v.memory o i z) (λ m. Ok (record v { memory = m }))) v).memory.objects ≡ objects)
put_stored objects o i z v loops known there =
    let x = written_there objects v.memory o i z known there in
    let w : Result ImageMemory Trap → Variables = λ r. result_unwrap_or (bind r (λ m. Ok (record v { memory = m }))) v in
    ((λ go. ap (λ r. found r v.memory (go (frame_at v.locals loops))) x.1 ∙ sym (ap (λ r. go (frame_at (w r).locals loops) (w r).memory) x.1)), ap (λ r. (w r).memory.objects) x.1 ∙ x.2 ∙ known)

put_same : (objects : List Object) (t : Target) (z : ℤ) (v : Variables) (loops : List Loop) → v.memory.objects ≡ objects → CanPut objects t → PutSame objects t z v loops
put_same objects (target.Scalar o) z v loops known there = let x = put_stored objects o (pos 1) z v loops known there in record { same = x.0; known = x.1 }
put_same objects (target.Local k) z v loops known there = record { same = λ go. refl; known = known }
put_same objects (target.Element o i) z v loops known there = let x = put_stored objects o i z v loops known there in record { same = x.0; known = x.1 }

-- the dummies are copied out alike
copies_same : (objects : List Object) (outs : List TreeCopyOut) (cells : List ℤ) (v : Variables) (loops : List Loop) (go : Frame → ImageMemory → Did) → v.memory.objects ≡ objects → CanPutAll objects outs
    → copies_out (map out_of outs) cells (frame_at v.locals loops) v.memory go ≡ go (frame_at (tree_copies_out outs cells v).locals loops) (tree_copies_out outs cells v).memory
copies_same objects [] cells v loops go known puts = refl
copies_same objects (x ∷ outs) cells v loops go known puts =
    let z = slice_index_or cells x.cell (pos 0) in
    let one = put_same objects x.target z v loops known puts.0 in
    one.same (λ f n. copies_out (map out_of outs) cells f n go) ∙ copies_same objects outs cells (put x.target z v) loops go one.known puts.1

-- the end of a called subroutine
pub return_steps : (g : Setting) (event : Option EventAt) (below : List TreeFrame) (calls : List OpenCall) (outs : List TreeCopyOut) (locals : List ℤ) (a : ℕ) (m : ImageMemory) → AreCallers g.code g.program (OfCall outs) below calls → m.objects ≡ g.program.objects
    → slice_get g.code.instrs a ≡ Some instr.Ret → (let w : Around = record { below = below; calls = calls; end = OfCall outs; done = event } in
    SameStep g.code (Related g.code g.program) (returns_to below outs (before w [] locals (item.Returns outs) [] m)) (runs g.code g.clear (code_at w locals [] a) m))
return_steps g event [] [] outs locals a m callers known at = absurd callers
return_steps g event [] (c ∷ calls) outs locals a m callers known at = absurd callers
return_steps g event (f ∷ below) [] outs locals a m callers known at = absurd callers
return_steps g event (f ∷ below) (c ∷ calls) outs locals a m callers known at =
    let w : Around = record { below = f ∷ below; calls = c ∷ calls; end = OfCall outs; done = event } in
    let here = code_at w locals [] a in
    let before_end : Variables = record { locals = f.locals; memory = m } in
    let v = tree_copies_out outs locals before_end in
    let out : Around = record { below = below; calls = calls; end = callers.0; done = event } in
    let d : Did = Stops effect.Ran (code_at out v.locals callers.1 (c.from + 1)) v.memory in
    let go : Frame → ImageMemory → Did = λ x n. Stops effect.Ran (returns c calls x here) n in
    let leaves_so : leaves (c ∷ calls) here m ≡ d =
    ap (λ os. copies_out os locals c.caller m go) callers.3 ∙ ap (λ x. copies_out (map out_of outs) locals x m go) callers.2 ∙ copies_same g.program.objects outs locals before_end callers.1 go known callers.4 in
    step_by g here m _ (instr.Ret ∷ []) d refl (at, tt) (leads_last g instr.Ret here m d leaves_so) tt
    (ran_same g here m v.memory out v.locals f.todo callers.1 (c.from + 1) callers.6 callers.5)
