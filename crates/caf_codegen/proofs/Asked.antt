-- Sections and events that are listed, and values that are shipped.
use Rattle.std.proofs.Common.{◌≡◌, ℕ, ◌+◌, List, [], ◌∷◌, ◌++◌, length, Option, Some, None, Result, Ok, ℤ, refl, sym, ap, ◌∙◌, subst, arith, append_assoc, length-append}
use Rattle.caf_base.specs.Arithmetic.{Answer}
use Rattle.caf_base.specs.ImageMemory.{ImageMemory}
use Rattle.caf_base.specs.Places.{bind}
use Rattle.caf_base.specs.declared.place.CopyEvents.{CopyEvents}
use Rattle.caf_base.specs.declared.place.EventWanted.{EventWanted}
use Rattle.caf_base.specs.declared.place.Place.{Place}
use Rattle.caf_base.specs.declared.place.Place.TheVariants as own
use Rattle.caf_base.specs.declared.place.SectionRange.{SectionRange}
use Rattle.caf_base.specs.declared.place.SectionRange.TheVariants as evaluated
use Rattle.caf_base.specs.declared.place.SectionWanted.{SectionWanted}
use Rattle.caf_base.specs.declared.place.SectionWanted.TheVariants as wanted
use Rattle.caf_base.specs.declared.trap.Trap.{Trap}
use Rattle.caf_program.specs.Expressions.{count_all, of_range}
use Rattle.caf_program.specs.Seen.{Seen, element, local, scalar}
use Rattle.caf_program.specs.Value.{count, value_at}
use Rattle.caf_program.specs.declared.parts.ActualR.{ActualR}
use Rattle.caf_program.specs.declared.parts.ActualR.TheVariants as actual
use Rattle.caf_program.specs.declared.parts.CopyEventR.{CopyEventR}
use Rattle.caf_program.specs.declared.parts.CopyEventR.TheVariants as timed
use Rattle.caf_program.specs.declared.parts.EventR.{EventR}
use Rattle.caf_program.specs.declared.parts.RangeR.{RangeR}
use Rattle.caf_program.specs.declared.parts.RangeR.TheVariants as range
use Rattle.caf_program.specs.declared.parts.RegionR.{RegionR}
use Rattle.caf_program.specs.declared.parts.SectionR.{SectionR}
use Rattle.caf_program.specs.declared.parts.SectionR.TheVariants as written
use Rattle.caf_treestep.specs.Evaluated.{argument_of, arguments_of, copy_events_from, event_if, event_wanted, held_by_actual, held_by_copy_event, own_event_of, place_if, range_of, region_of, wanted_of, with_copy_event}
use Rattle.caf_treestep.specs.declared.argument.Argument.{Argument}
use Rattle.caf_treestep.specs.declared.todo.Target.TheVariants as target
use Rattle.caf_code.specs.Did.{Did, Goes, found, on_one}
use Rattle.caf_code.specs.Operations.{copy_events, event_for, lists, on_range}
use Rattle.caf_code.specs.Task.{Task}
use Rattle.caf_code.specs.declared.instr.CellUse.TheVariants as cell
use Rattle.caf_code.specs.declared.instr.Instr.{Instr}
use Rattle.caf_code.specs.declared.instr.Instr.TheVariants as instr
use Rattle.caf_code.specs.declared.instr.PlaceForm.TheVariants as place
use Rattle.caf_code.specs.declared.instr.RangeForm.{RangeForm}
use Rattle.caf_code.specs.declared.instr.Reach.TheVariants as reach
use Rattle.caf_code.specs.declared.instr.Role.{Role}
use Rattle.caf_code.specs.declared.instr.Role.TheVariants as role
use Rattle.caf_code.specs.declared.instr.SectionForm.TheVariants as section
use Rattle.caf_code.specs.declared.task.Listed.{Listed}
use Rattle.caf_code.specs.declared.task.Listed.TheVariants as listed
use Rattle.caf_code.specs.declared.task.Loop.{Loop}
use Rattle.caf_exprgen.specs.ExprCode.{expr_code}
use Rattle.caf_exprgen.specs.Leaves.{seen_by}
use Rattle.caf_codegen.specs.StmtCode.{copy_event_code, copy_events_code, done_code, event_at_code, place_code, place_form, range_code, range_form, region_code, role_of, section_code, value_code, values_code}
use Rattle.caf_codegen.proofs.Called.{found_more, found_two, pushed}
use Rattle.caf_codegen.proofs.Ranked.{leads_place}
use Rattle.caf_codegen.proofs.Timed.{AreFresh, with_deste, with_pre, with_srce}
use Rattle.caf_codegen.proofs.Related.{Around, Leads, Setting, code_with, found_bind, found_both, found_map, frame_with, leads_answer_is, leads_on, leads_value, leads_value_is}

-- the next instruction pops this range off the one list of operands, and leaves the other
abbrev PopsRange : RangeForm → SectionRange → List ℤ → List ℤ → Type 0
PopsRange f x stack below = (m : ImageMemory) (go : SectionRange → List ℤ → Did) → on_range f stack m go ≡ go x below

-- what is listed for the event of a ship
abbrev pub listed_for : Option EventWanted → List Listed
listed_for None = []
listed_for (Some x) = listed.Event role.Done x ∷ []

module _ (g : Setting) (w : Around) (held : List ℤ) (locals : List ℤ) (loops : List Loop) (m : ImageMemory) where
  -- within a statement, with these operands and these sections and events
  abbrev pub within_at : ℕ → List ℤ → List Listed → Task
  within_at b stack xs = record (code_with w held locals loops b) { frame = record (frame_with held locals loops) { stack = stack; listed = xs } }

  abbrev pub seen_here : Seen
  seen_here = seen_by (within_at 0 [] []) m

  -- an event that is listed, and what follows it
  pub event_leads : (e : EventR) (r : Role) (at b : ℕ) (stack : List ℤ) (xs : List Listed) (js : List Instr) (d : EventWanted → Did)
      → ((x : EventWanted) (c : ℕ) → c ≡ b + length (event_at_code e r at) → Leads g js (d x) (within_at c stack (xs ++ listed.Event r x ∷ [])) m)
      → Leads g (event_at_code e r at ++ js) (found (event_wanted e at seen_here) m d) (within_at b stack xs) m
  event_leads e r at b stack xs js d more =
      let o = e.own.object in
      let k = at + count e.own.index in
      let I = expr_code e.own.index at in
      let P = place_code e.place k in
      let i = instr.EventAt o (place_form e.place) r in
      let make : ℤ → Place → EventWanted = λ z q. record { object = o; index = z; place = q } in
      let v = value_at e.own.index at seen_here in
      let q = place_if e.place k seen_here in
      let t = within_at b stack xs in
      let c = b + length I + length P + 1 in
      let flat : (I ++ (P ++ i ∷ [])) ++ js ≡ I ++ (P ++ i ∷ js) = simp append_assoc in
      let len : c ≡ b + length (I ++ (P ++ i ∷ [])) = omega (arith, length-append I (P ++ i ∷ []), length-append P (i ∷ [])) in
      subst (λ is. Leads g is (found (event_wanted e at seen_here) m d) t m) (sym flat)
      (subst (λ x. Leads g (I ++ (P ++ i ∷ js)) x t m) (sym (found_both v q make m d))
      (leads_value g e.own.index at (P ++ i ∷ js) t m (λ z. found q m (λ p. d (make z p))) (λ z.
      leads_place g e.place k (i ∷ js) (within_at (b + length I) (z ∷ stack) xs) m (λ p. d (make z p)) (λ p st pops.
      let u = within_at (b + length I + length P) st xs in
      leads_on g i js u (within_at c stack (xs ++ listed.Event r (make z p) ∷ [])) m m (d (make z p))
      (pops m (λ place below. on_one below m (λ index rest. Goes (lists (listed.Event r (make index place)) rest u) m))) refl (more (make z p) c len)))))

  pub done_leads : (e : Option EventR) (at b : ℕ) (stack : List ℤ) (js : List Instr) (d : Option EventWanted → Did)
      → ((x : Option EventWanted) (c : ℕ) → c ≡ b + length (done_code e at) → Leads g js (d x) (within_at c stack (listed_for x)) m)
      → Leads g (done_code e at ++ js) (found (event_if e at seen_here) m d) (within_at b stack []) m
  done_leads None at b stack js d more = more None b (omega arith)
  done_leads (Some e) at b stack js d more =
      let v = event_wanted e at seen_here in
      subst (λ x. Leads g (event_at_code e role.Done at ++ js) x (within_at b stack []) m) (sym (found_map v (λ x. Some x) m d)) (event_leads e role.Done at b stack [] js (λ x. d (Some x)) (λ x c len. more (Some x) c len))

  -- the numbers of a range, and what follows them
  pub range_leads : (r : RangeR) (at b : ℕ) (stack : List ℤ) (xs : List Listed) (js : List Instr) (d : SectionRange → Did)
      → ((x : SectionRange) (c : ℕ) (st : List ℤ) → c ≡ b + length (range_code r at) → PopsRange (range_form r) x st stack → Leads g js (d x) (within_at c st xs) m)
      → Leads g (range_code r at ++ js) (found (range_of r at seen_here) m d) (within_at b stack xs) m
  range_leads range.All at b stack xs js d more = more evaluated.All b stack (omega arith) (λ n go. refl)
  range_leads (range.Cell i) at b stack xs js d more =
      let v = value_at i at seen_here in
      subst (λ x. Leads g (expr_code i at ++ js) x (within_at b stack xs) m) (sym (found_map v (λ z. evaluated.Cell z) m d))
      (leads_value g i at js (within_at b stack xs) m (λ z. d (evaluated.Cell z)) (λ z. more (evaluated.Cell z) (b + length (expr_code i at)) (z ∷ stack) refl (λ n go. refl)))
  range_leads (range.Between i j) at b stack xs js d more =
      let I = expr_code i at in
      let k = at + count i in
      let J = expr_code j k in
      let v = value_at i at seen_here in
      let u = value_at j k seen_here in
      let t = within_at b stack xs in
      let c = b + length I + length J in
      let len : c ≡ b + length (I ++ J) = omega (arith, length-append I J) in
      subst (λ is. Leads g is (found (range_of (range.Between i j) at seen_here) m d) t m) (sym (append_assoc I J js))
      (subst (λ x. Leads g (I ++ (J ++ js)) x t m) (sym (found_both v u (λ x y. evaluated.Between x y) m d))
      (leads_value g i at (J ++ js) t m (λ x. found u m (λ y. d (evaluated.Between x y))) (λ x.
      leads_value g j k js (within_at (b + length I) (x ∷ stack) xs) m (λ y. d (evaluated.Between x y)) (λ y. more (evaluated.Between x y) c (y ∷ x ∷ stack) len (λ n go. refl)))))
  range_leads (range.From i) at b stack xs js d more =
      let v = value_at i at seen_here in
      subst (λ x. Leads g (expr_code i at ++ js) x (within_at b stack xs) m) (sym (found_map v (λ z. evaluated.From z) m d))
      (leads_value g i at js (within_at b stack xs) m (λ z. d (evaluated.From z)) (λ z. more (evaluated.From z) (b + length (expr_code i at)) (z ∷ stack) refl (λ n go. refl)))
  range_leads (range.UpTo j) at b stack xs js d more =
      let v = value_at j at seen_here in
      subst (λ x. Leads g (expr_code j at ++ js) x (within_at b stack xs) m) (sym (found_map v (λ z. evaluated.UpTo z) m d))
      (leads_value g j at js (within_at b stack xs) m (λ z. d (evaluated.UpTo z)) (λ z. more (evaluated.UpTo z) (b + length (expr_code j at)) (z ∷ stack) refl (λ n go. refl)))

  -- a section of a variable that is listed, and what follows it
  pub region_leads : (r : RegionR) (at b : ℕ) (stack : List ℤ) (xs : List Listed) (js : List Instr) (d : SectionWanted → Did)
      → ((x : SectionWanted) (c : ℕ) → c ≡ b + length (region_code r at) → Leads g js (d x) (within_at c stack (xs ++ listed.Section x ∷ [])) m)
      → Leads g (region_code r at ++ js) (found (region_of r at seen_here) m d) (within_at b stack xs) m
  region_leads r at b stack xs js d more =
      let o = r.object in
      let f = range_form r.range in
      let k = at + count_all (of_range r.range) in
      let R = range_code r.range at in
      let P = place_code r.place k in
      let i = instr.Section (section.Region o f (place_form r.place)) in
      let make : SectionRange → Place → SectionWanted = λ x p. wanted.Region o x p in
      let v = range_of r.range at seen_here in
      let q = place_if r.place k seen_here in
      let t = within_at b stack xs in
      let flat : (R ++ (P ++ i ∷ [])) ++ js ≡ R ++ (P ++ i ∷ js) = simp append_assoc in
      subst (λ is. Leads g is (found (region_of r at seen_here) m d) t m) (sym flat)
      (subst (λ x. Leads g (R ++ (P ++ i ∷ js)) x t m) (sym (found_both v q make m d))
      (range_leads r.range at b stack xs (P ++ i ∷ js) (λ x. found q m (λ p. d (make x p))) (λ x c st e pops_x.
      leads_place g r.place k (i ∷ js) (within_at c st xs) m (λ p. d (make x p)) (λ p st2 pops_p.
      let u = within_at (c + length P) st2 xs in
      let n = c + length P + 1 in
      let len : n ≡ b + length (R ++ (P ++ i ∷ [])) = omega (arith, e, length-append R (P ++ i ∷ []), length-append P (i ∷ [])) in
      leads_on g i js u (within_at n stack (xs ++ listed.Section (make x p) ∷ [])) m m (d (make x p))
      (pops_p m (λ place below. on_range f below m (λ y rest. Goes (lists (listed.Section (make y place)) rest u) m)) ∙ pops_x m (λ y rest. Goes (lists (listed.Section (make y p)) rest u) m)) refl (more (make x p) n len)))))

  -- any section that is listed, and what follows it
  pub section_leads : (y : SectionR) (at b : ℕ) (stack : List ℤ) (xs : List Listed) (js : List Instr) (d : SectionWanted → Did)
      → ((x : SectionWanted) (c : ℕ) → c ≡ b + length (section_code y at) → Leads g js (d x) (within_at c stack (xs ++ listed.Section x ∷ [])) m)
      → Leads g (section_code y at ++ js) (found (wanted_of y at seen_here) m d) (within_at b stack xs) m
  section_leads (written.Region r) at b stack xs js d more = region_leads r at b stack xs js d more
  section_leads (written.Pointed c r) at b stack xs js d more =
      let R = range_code r at in
      let i = instr.Section (section.Pointed c (range_form r)) in
      let make : SectionRange → SectionWanted = λ x. wanted.Pointed c x in
      let v = range_of r at seen_here in
      subst (λ is. Leads g is (found (wanted_of (written.Pointed c r) at seen_here) m d) (within_at b stack xs) m) (sym (append_assoc R (i ∷ []) js))
      (subst (λ x. Leads g (R ++ i ∷ js) x (within_at b stack xs) m) (sym (found_map v make m d))
      (range_leads r at b stack xs (i ∷ js) (λ x. d (make x)) (λ x k st e pops.
      let u = within_at k st xs in
      leads_on g i js u (within_at (k + 1) stack (xs ++ listed.Section (make x) ∷ [])) m m (d (make x)) (pops m (λ y rest. Goes (lists (listed.Section (make y)) rest u) m)) refl
      (more (make x) (k + 1) (omega (arith, e, length-append R (i ∷ [])))))))

  -- within a copy, with both sections and these events
  abbrev copy_at : ℕ → List ℤ → SectionWanted → SectionWanted → List Listed → Task
  copy_at b stack dest source zs = within_at b stack (listed.Section dest ∷ listed.Section source ∷ zs)

  -- one of its events, and what follows it
  timed_leads : (dest source : SectionWanted) (e : CopyEventR) (at b : ℕ) (zs : List Listed) (js : List Instr) (d : CopyEvents → Did) → event_for (role_of e) zs ≡ None
      → ((x : EventWanted) (c : ℕ) → c ≡ b + length (copy_event_code e at) → Leads g js (d (copy_events (zs ++ listed.Event (role_of e) x ∷ []))) (copy_at c [] dest source (zs ++ listed.Event (role_of e) x ∷ [])) m)
      → Leads g (copy_event_code e at ++ js) (found (with_copy_event e at seen_here (copy_events zs)) m d) (copy_at b [] dest source zs) m
  timed_leads dest source (timed.Pre e) at b zs js d none more =
      let I = expr_code e.index at in
      let i = instr.EventAt e.object place.Own role.Pre in
      let make : ℤ → EventWanted = λ z. record { object = e.object; index = z; place = own.Own } in
      let with_one : EventWanted → CopyEvents = λ x. record (copy_events zs) { pre = Some x } in
      let v = value_at e.index at seen_here in
      let t = copy_at b [] dest source zs in
      let n = b + length I + 1 in
      let len : n ≡ b + length (I ++ i ∷ []) = omega (arith, length-append I (i ∷ [])) in
      subst (λ is. Leads g is (found (with_copy_event (timed.Pre e) at seen_here (copy_events zs)) m d) t m) (sym (append_assoc I (i ∷ []) js))
      (subst (λ x. Leads g (I ++ i ∷ js) x t m) (sym (found_map (own_event_of e at seen_here) with_one m d ∙ found_map v make m (λ x. d (with_one x))))
      (leads_value g e.index at (i ∷ js) t m (λ z. d (with_one (make z))) (λ z.
      let here = copy_at n [] dest source (zs ++ listed.Event role.Pre (make z) ∷ []) in
      leads_on g i js (copy_at (b + length I) (z ∷ []) dest source zs) here m m (d (with_one (make z))) refl refl
      (subst (λ es. Leads g js (d es) here m) (sym (with_pre zs (make z) none)) (more (make z) n len)))))
  timed_leads dest source (timed.Srce e) at b zs js d none more =
      let with_one : EventWanted → CopyEvents = λ x. record (copy_events zs) { srce = Some x } in
      subst (λ x. Leads g (event_at_code e role.Srce at ++ js) x (copy_at b [] dest source zs) m) (sym (found_map (event_wanted e at seen_here) with_one m d))
      (event_leads e role.Srce at b [] (listed.Section dest ∷ listed.Section source ∷ zs) js (λ x. d (with_one x)) (λ x c len.
      subst (λ es. Leads g js (d es) (copy_at c [] dest source (zs ++ listed.Event role.Srce x ∷ [])) m) (sym (with_srce zs x none)) (more x c len)))
  timed_leads dest source (timed.Deste e) at b zs js d none more =
      let with_one : EventWanted → CopyEvents = λ x. record (copy_events zs) { deste = Some x } in
      subst (λ x. Leads g (event_at_code e role.Deste at ++ js) x (copy_at b [] dest source zs) m) (sym (found_map (event_wanted e at seen_here) with_one m d))
      (event_leads e role.Deste at b [] (listed.Section dest ∷ listed.Section source ∷ zs) js (λ x. d (with_one x)) (λ x c len.
      subst (λ es. Leads g js (d es) (copy_at c [] dest source (zs ++ listed.Event role.Deste x ∷ [])) m) (sym (with_deste zs x none)) (more x c len)))

  -- its events in written order
  pub events_lead : (dest source : SectionWanted) (l : List CopyEventR) (at b : ℕ) (zs : List Listed) (js : List Instr) (d : CopyEvents → Did) → AreFresh l zs
      → ((ys : List Listed) (c : ℕ) → c ≡ b + length (copy_events_code l at) → Leads g js (d (copy_events ys)) (copy_at c [] dest source ys) m)
      → Leads g (copy_events_code l at ++ js) (found (copy_events_from l at seen_here (copy_events zs)) m d) (copy_at b [] dest source zs) m
  events_lead dest source [] at b zs js d free more = more zs b (omega arith)
  events_lead dest source (e ∷ l) at b zs js d free more =
      let next = at + held_by_copy_event e in
      let go : CopyEvents → Result CopyEvents Trap = copy_events_from l next seen_here in
      subst (λ is. Leads g is (found (copy_events_from (e ∷ l) at seen_here (copy_events zs)) m d) (copy_at b [] dest source zs) m) (sym (append_assoc (copy_event_code e at) (copy_events_code l next) js))
      (subst (λ x. Leads g (copy_event_code e at ++ (copy_events_code l next ++ js)) x (copy_at b [] dest source zs) m) (sym (found_bind (with_copy_event e at seen_here (copy_events zs)) go m d))
      (timed_leads dest source e at b zs (copy_events_code l next ++ js) (λ es. found (go es) m d) free.0 (λ x c is_c.
      events_lead dest source l next c (zs ++ listed.Event (role_of e) x ∷ []) js d (free.1 x) (λ ys k is_k. more ys k (omega (arith, is_c, is_k, length-append (copy_event_code e at) (copy_events_code l next)))))))

  -- the value of an actual, and what follows it
  value_leads : (x : ActualR) (at b : ℕ) (stack : List ℤ) (xs : List Listed) (js : List Instr) (d : Argument → Did)
      → ((y : Argument) (c : ℕ) → argument_of x at seen_here ≡ Ok y → c ≡ b + length (value_code x at) → Leads g js (d y) (within_at c (y.value ∷ stack) xs) m)
      → Leads g (value_code x at ++ js) (found (argument_of x at seen_here) m d) (within_at b stack xs) m
  value_leads (actual.Value e) at b stack xs js d more =
      let make : ℤ → Argument = λ z. record { value = z; out = None } in
      let v = value_at e at seen_here in
      subst (λ x. Leads g (expr_code e at ++ js) x (within_at b stack xs) m) (sym (found_map v make m d))
      (leads_value_is g e at js (within_at b stack xs) m (λ z. d (make z)) (λ z is. more (make z) (b + length (expr_code e at)) (ap (λ r. bind r (λ z. Ok (make z))) is) refl))
  value_leads (actual.Scalar o) at b stack xs js d more =
      let make : ℤ → Argument = λ z. record { value = z; out = Some (target.Scalar o) } in
      let v = scalar seen_here o in
      let t = within_at b stack xs in
      subst (λ x. Leads g (instr.Load reach.Scalar o ∷ js) x t m) (sym (found_map v make m d))
      (leads_answer_is g (instr.Load reach.Scalar o) js t m v stack (λ z. d (make z)) refl (λ z is. more (make z) (b + 1) (ap (λ r. bind r (λ z. Ok (make z))) is) refl))
  value_leads (actual.Local k) at b stack xs js d more =
      let z = local seen_here k in
      let y : Argument = record { value = z; out = Some (target.Local k) } in
      leads_on g (instr.Cell cell.Get k) js (within_at b stack xs) (within_at (b + 1) (z ∷ stack) xs) m m (d y) refl refl (more y (b + 1) refl refl)
  value_leads (actual.Element o i) at b stack xs js d more =
      let make : ℤ → ℤ → Argument = λ x z. record { value = z; out = Some (target.Element o x) } in
      let E = expr_code i at in
      let n = length E in
      let load = instr.Load reach.Element o in
      let v = value_at i at seen_here in
      let read : ℤ → Answer = λ x. element seen_here o x in
      let t = within_at b stack xs in
      let len : b + n + 1 ≡ b + length (E ++ load ∷ []) = omega (arith, length-append E (load ∷ [])) in
      subst (λ is. Leads g is (found (argument_of (actual.Element o i) at seen_here) m d) t m) (sym (append_assoc E (load ∷ []) js))
      (subst (λ x. Leads g (E ++ load ∷ js) x t m) (sym (found_two v read make m d))
      (leads_value_is g i at (load ∷ js) t m (λ x. found (read x) m (λ z. d (make x z))) (λ x is_x.
      leads_answer_is g load js (within_at (b + n) (x ∷ stack) xs) m (read x) stack (λ z. d (make x z)) refl (λ z is_z.
      more (make x z) (b + n + 1) (ap (λ r. bind r (λ x. bind (read x) (λ z. Ok (make x z)))) is_x ∙ ap (λ r. bind r (λ z. Ok (make x z))) is_z) len))))

  -- the values of actuals, from the left
  pub values_lead : (l : List ActualR) (at b : ℕ) (stack : List ℤ) (xs : List Listed) (js : List Instr) (d : List Argument → Did)
      → ((ys : List Argument) (c : ℕ) → arguments_of l at seen_here ≡ Ok ys → c ≡ b + length (values_code l at) → Leads g js (d ys) (within_at c (pushed ys stack) xs) m)
      → Leads g (values_code l at ++ js) (found (arguments_of l at seen_here) m d) (within_at b stack xs) m
  values_lead [] at b stack xs js d more = more [] b refl (omega arith)
  values_lead (x ∷ l) at b stack xs js d more =
      let next = at + held_by_actual x in
      let rest = arguments_of l next seen_here in
      subst (λ is. Leads g is (found (arguments_of (x ∷ l) at seen_here) m d) (within_at b stack xs) m) (sym (append_assoc (value_code x at) (values_code l next) js))
      (subst (λ y. Leads g (value_code x at ++ (values_code l next ++ js)) y (within_at b stack xs) m) (sym (found_more (argument_of x at seen_here) rest m d))
      (value_leads x at b stack xs (values_code l next ++ js) (λ y. found rest m (λ ys. d (y ∷ ys))) (λ y c is_y e.
      values_lead l next c (y.value ∷ stack) xs js (λ ys. d (y ∷ ys)) (λ ys k is_ys f.
      more (y ∷ ys) k (ap (λ r. bind r (λ x. bind rest (λ xs. Ok (x ∷ xs)))) is_y ∙ ap (λ r. bind r (λ xs. Ok (y ∷ xs))) is_ys) (omega (arith, e, f, length-append (value_code x at) (values_code l next)))))))
