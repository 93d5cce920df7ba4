-- A ship, a copy, and a copointer that is aimed at a section.
use Rattle.std.proofs.Common.{◌≡◌, ℕ, ◌+◌, true, false, List, [], ◌∷◌, ◌++◌, length, Option, Some, None, Result, Ok, Err, ℤ, refl, sym, ap, ◌∙◌, subst, arith, length-append}
use Rattle.std.proofs.lemmas.List.{length-map}
use Rattle.std.specs.Prelude.{not, slice_get, sum_by}
use Rattle.caf_base.specs.After.{After}
use Rattle.caf_base.specs.ImageMemory.{ImageMemory}
use Rattle.caf_base.specs.Orders.{copy_order, ship_order, with_copointer}
use Rattle.caf_base.specs.Places.{bind, section_of}
use Rattle.caf_base.specs.declared.effect.Effect.TheVariants as effect
use Rattle.caf_base.specs.declared.operation.CopyOrder.{CopyOrder}
use Rattle.caf_base.specs.declared.operation.OpSpec.{OpSpec}
use Rattle.caf_base.specs.declared.operation.OpSpec.TheVariants as begun
use Rattle.caf_base.specs.declared.place.CopyEvents.{CopyEvents}
use Rattle.caf_base.specs.declared.operation.Section.{Section}
use Rattle.caf_base.specs.declared.place.EventWanted.{EventWanted}
use Rattle.caf_base.specs.declared.place.Place.{Place}
use Rattle.caf_base.specs.declared.place.SectionWanted.{SectionWanted}
use Rattle.caf_base.specs.declared.trap.Trap.{Trap}
use Rattle.caf_program.specs.Expressions.{count_all, of_done, of_section}
use Rattle.caf_program.specs.Rules.{once_each}
use Rattle.caf_program.specs.Ships.{is_in}
use Rattle.caf_program.specs.declared.expr.ExprR.{ExprR}
use Rattle.caf_program.specs.declared.expr.PlaceR.{PlaceR}
use Rattle.caf_program.specs.declared.parts.ActualR.{ActualR}
use Rattle.caf_program.specs.declared.parts.CopyEventR.{CopyEventR}
use Rattle.caf_program.specs.declared.parts.EventR.{EventR}
use Rattle.caf_program.specs.declared.parts.RegionR.{RegionR}
use Rattle.caf_program.specs.declared.parts.SectionR.{SectionR}
use Rattle.caf_program.specs.declared.program.DummyR.{DummyR}
use Rattle.caf_program.specs.declared.program.SubR.{SubR}
use Rattle.caf_treestep.specs.Evaluated.{arguments_of, copy_events_from, event_if, held_by_actual, no_events, place_of, region_of, wanted_of}
use Rattle.caf_treestep.specs.Step.{At, aimed, copy, given, ran, seen, ship, starts}
use Rattle.caf_treestep.specs.declared.argument.Argument.{Argument}
use Rattle.caf_treestep.specs.declared.task.Task.{Task as TreeTask}
use Rattle.caf_treestep.specs.declared.todo.Todo.{Todo}
use Rattle.caf_code.specs.Did.{Did, Stops, found, on_arguments, on_place, stops, there}
use Rattle.caf_code.specs.Operations.{copy_events, event_for}
use Rattle.caf_code.specs.Step.{does, runs}
use Rattle.caf_code.specs.Task.{Task}
use Rattle.caf_code.specs.declared.instr.Instr.TheVariants as instr
use Rattle.caf_code.specs.declared.instr.Role.TheVariants as role
use Rattle.caf_code.specs.declared.instr.SectionUse.TheVariants as purpose
use Rattle.caf_code.specs.declared.listing.SubCode.{SubCode}
use Rattle.caf_code.specs.declared.task.Listed.TheVariants as listed
use Rattle.caf_code.specs.declared.task.Loop.{Loop}
use Rattle.caf_exprgen.specs.ExprCode.{expr_code, team_place}
use Rattle.caf_exprgen.specs.Leaves.{seen_by}
use Rattle.caf_exprgen.specs.Placed.{HasAt}
use Rattle.caf_codegen.specs.Agreement.{SameStep}
use Rattle.caf_codegen.specs.StmtCode.{aim_code, copy_code, copy_events_code, done_code, region_code, section_code, spawn_code, values_code}
use Rattle.caf_codegen.proofs.Asked.{done_leads, events_lead, listed_for, region_leads, section_leads, values_lead, within_at}
use Rattle.caf_codegen.proofs.Assigned.{before}
use Rattle.caf_codegen.proofs.Called.{SubsPlaced, arguments_fit, pushed, taken, values}
use Rattle.caf_codegen.proofs.Fits.{fits_called}
use Rattle.caf_codegen.proofs.Follows.{Continues}
use Rattle.caf_codegen.proofs.Ranked.{Pops, leads_place}
use Rattle.caf_codegen.proofs.Timed.{fresh}
use Rattle.caf_codegen.proofs.Related.{AreCallers, Around, Related, SameFor, Setting, begun_same, code_at, code_with, found_ends, leads_last, ran_same, step_by, trap_same}

-- the event that is listed for a ship
event_back : (e : Option EventWanted) → event_for role.Done (listed_for e) ≡ e
event_back None = refl
event_back (Some x) = refl

module _ (g : Setting) (placed : SubsPlaced g.code g.program) (w : Around) (callers : AreCallers g.code g.program w.end w.below w.calls) (held : List ℤ) (locals : List ℤ) (loops : List Loop) (a : ℕ) (m : ImageMemory) (s : Todo) (rest : List Todo) where
  abbrev here : Task
  here = code_with w held locals loops a

  abbrev at : At
  at = before w held locals s rest m

  -- the code's Step is that of the tree
  abbrev Same : After TreeTask → Type 0
  Same x = SameStep g.code (Related g.code g.program) x (runs g.code g.clear here m)

  -- an operation begins, and the task goes on at an address
  abbrev begins_at : ℕ → OpSpec → Did
  begins_at n what = Stops (effect.Begins what) (code_at w locals loops n) m

  order_same : (n : ℕ) (r : Result OpSpec Trap) → Continues g.code g.program w.end n rest loops → SameFor g here m (starts r at) (found r m (begins_at n))
  order_same n (Err trap) more = trap_same g here at trap
  order_same n (Ok what) more = begun_same g here m m w locals rest loops n what callers more

  abbrev ship_did : ℕ → ℕ → Option EventWanted → List Argument → Place → Did
  ship_did n f e ys q = found (ship_order m f (values ys) e q) m (begins_at n)

  ship_same : (n f : ℕ) (e : Result (Option EventWanted) Trap) (ys : Result (List Argument) Trap) (q : Result Place Trap) → Continues g.code g.program w.end n rest loops
      → SameFor g here m (starts (bind e (λ e. bind (bind ys (λ ys. Ok (values ys))) (λ vs. bind q (ship_order m f vs e)))) at) (found e m (λ e. found ys m (λ ys. found q m (ship_did n f e ys))))
  ship_same n f (Err trap) ys q more = trap_same g here at trap
  ship_same n f (Ok e) (Err trap) q more = trap_same g here at trap
  ship_same n f (Ok e) (Ok ys) (Err trap) more = trap_same g here at trap
  ship_same n f (Ok e) (Ok ys) (Ok q) more = order_same n (ship_order m f (values ys) e q) more

  -- the ship itself, where its event is listed, and its values and its rank are on the stack
  ship_does : (f : ℕ) (x : SubCode) (p : PlaceR ExprR) (e : Option EventWanted) (ys : List Argument) (q : Place) (stack : List ℤ) (b n : ℕ) → slice_get g.code.subs f ≡ Some x → length ys ≡ length x.dummies → Pops (team_place p.team) q stack (pushed ys []) → b + 1 ≡ n
      → does g.code g.clear (instr.Spawn f (team_place p.team)) (within_at g w held locals loops m b stack (listed_for e)) m ≡ ship_did n f e ys q
  ship_does f x p e ys q stack b n at_x count pops len =
      let u = within_at g w held locals loops m b stack (listed_for e) in
      let go : Place → List ℤ → List ℤ → Did = λ to vs left. found (ship_order m f vs (event_for role.Done (listed_for e)) to) m (λ order. stops (effect.Begins order) left u m) in
      ap (λ o. there o m (λ sub. on_place (team_place p.team) stack m (λ to below. on_arguments (length sub.dummies) below m (go to)))) at_x
      ∙ pops m (λ to below. on_arguments (length x.dummies) below m (go to)) ∙ taken ys (length x.dummies) m (go q) count
      ∙ ap (λ ev. found (ship_order m f (values ys) ev q) m (begins_at (b + 1))) (event_back e) ∙ ap (λ k. ship_did k f e ys q) len

  pub spawn_steps : (e : Option EventR) (f : ℕ) (actuals : List ActualR) (p : PlaceR ExprR) → fits_called (slice_get g.program.subs f) actuals ≡ true → HasAt g.code.instrs a (spawn_code e f actuals p) → Continues g.code g.program w.end (a + length (spawn_code e f actuals p)) rest loops
      → Same (starts (ship e f actuals p 0 (seen at) m) at)
  spawn_steps e f actuals p fits has more = go (slice_get g.program.subs f) refl fits
    where
      go : (o : Option SubR) → slice_get g.program.subs f ≡ o → fits_called o actuals ≡ true → Same (starts (ship e f actuals p 0 (seen at) m) at)
      go None is h = let x : false ≡ true = h in absurd (cc)
      go (Some sub) is h =
          let x = placed f sub is in
          let view = seen_by here m in
          let k = 0 + count_all (of_done e) in
          let j = 0 + count_all (of_done e) + sum_by held_by_actual actuals in
          let D = done_code e 0 in
          let V = values_code actuals k in
          let R = expr_code p.rank j in
          let last = instr.Spawn f (team_place p.team) in
          let n = a + length D + length V + length R + 1 in
          let re = event_if e 0 view in
          let rys = arguments_of actuals k view in
          let rq = place_of p j view in
          let len : a + length (D ++ (V ++ (R ++ last ∷ []))) ≡ n = omega (arith, length-append D (V ++ (R ++ last ∷ [])), length-append V (R ++ last ∷ []), length-append R (last ∷ [])) in
          step_by g here m _ (D ++ (V ++ (R ++ last ∷ []))) (found re m (λ e. found rys m (λ ys. found rq m (ship_did n f e ys)))) refl has
          (done_leads g w held locals loops m e 0 a [] (V ++ (R ++ last ∷ [])) (λ e. found rys m (λ ys. found rq m (ship_did n f e ys))) (λ ev b is_b.
          values_lead g w held locals loops m actuals k b [] (listed_for ev) (R ++ last ∷ []) (λ ys. found rq m (ship_did n f ev ys)) (λ ys c is_ys is_c.
          leads_place g (Some p) j (last ∷ []) (within_at g w held locals loops m c (pushed ys []) (listed_for ev)) m (ship_did n f ev ys) (λ q stack pops.
          let count : length ys ≡ length x.0.dummies =
          (arguments_fit sub.dummies actuals k view ys h is_ys).count ∙ sym (length-map sub.dummies (λ (d : DummyR). not (is_in d.intent))) ∙ sym (ap length x.2.dummies) in
          leads_last g last (within_at g w held locals loops m (c + length R) stack (listed_for ev)) m (ship_did n f ev ys q) (ship_does f x.0 p ev ys q stack (c + length R) n x.1 count pops (omega (arith, is_b, is_c)))))))
          (found_ends re m _ (λ e. found_ends rys m _ (λ ys. found_ends rq m _ (λ q. found_ends (ship_order m f (values ys) e q) m _ (λ what. tt)))))
          (ship_same n f re rys rq (subst (λ k. Continues g.code g.program w.end k rest loops) len more))

  -- a copointer is aimed, and the task goes on at an address
  abbrev aims_at : ℕ → ℕ → SectionWanted → Did
  aims_at n c x = found (section_of false m x) m (λ y. Stops effect.Ran (code_at w locals loops n) (with_copointer m c y))

  section_same : (n c : ℕ) (r : Result Section Trap) → Continues g.code g.program w.end n rest loops
      → SameFor g here m (given r at (λ y. ran (with_copointer m c y) at)) (found r m (λ y. Stops effect.Ran (code_at w locals loops n) (with_copointer m c y)))
  section_same n c (Err trap) more = trap_same g here at trap
  section_same n c (Ok y) more = ran_same g here m (with_copointer m c y) w locals rest loops n callers more

  aim_same : (n c : ℕ) (r : Result SectionWanted Trap) → Continues g.code g.program w.end n rest loops → SameFor g here m (given (bind r (section_of false m)) at (λ y. ran (with_copointer m c y) at)) (found r m (aims_at n c))
  aim_same n c (Err trap) more = trap_same g here at trap
  aim_same n c (Ok x) more = section_same n c (section_of false m x) more

  pub aim_steps : (c : ℕ) (r : RegionR) → HasAt g.code.instrs a (aim_code c r) → Continues g.code g.program w.end (a + length (aim_code c r)) rest loops → Same (given (aimed r 0 (seen at) m) at (λ y. ran (with_copointer m c y) at))
  aim_steps c r has more =
      let R = region_code r 0 in
      let last = instr.Use (purpose.Aim c) in
      let n = a + length R + 1 in
      let v = region_of r 0 (seen_by here m) in
      let len : a + length (R ++ last ∷ []) ≡ n = omega (arith, length-append R (last ∷ [])) in
      step_by g here m _ (R ++ last ∷ []) (found v m (aims_at n c)) refl has
      (region_leads g w held locals loops m r 0 a [] [] (last ∷ []) (aims_at n c) (λ x b is_b.
      leads_last g last (within_at g w held locals loops m b [] (listed.Section x ∷ [])) m (aims_at n c x) (ap (λ k. aims_at k c x) (let e : b + 1 ≡ n = omega (arith, is_b) in e))))
      (found_ends v m _ (λ x. found_ends (section_of false m x) m _ (λ y. tt)))
      (aim_same n c v (subst (λ k. Continues g.code g.program w.end k rest loops) len more))

  -- a copy begins, and the task goes on at an address
  abbrev copies_at : ℕ → SectionWanted → SectionWanted → CopyEvents → Did
  copies_at n d y es = found (copy_order m d y es) m (λ order. Stops (effect.Begins (begun.Copy order)) (code_at w locals loops n) m)

  copied_same : (n : ℕ) (r : Result CopyOrder Trap) → Continues g.code g.program w.end n rest loops → SameFor g here m (starts (bind r (λ order. Ok (begun.Copy order))) at) (found r m (λ order. Stops (effect.Begins (begun.Copy order)) (code_at w locals loops n) m))
  copied_same n (Err trap) more = trap_same g here at trap
  copied_same n (Ok order) more = begun_same g here m m w locals rest loops n (begun.Copy order) callers more

  copy_same : (n : ℕ) (d y : Result SectionWanted Trap) (es : Result CopyEvents Trap) → Continues g.code g.program w.end n rest loops
      → SameFor g here m (starts (bind d (λ d. bind y (λ y. bind es (λ es. bind (copy_order m d y es) (λ order. Ok (begun.Copy order)))))) at) (found d m (λ d. found y m (λ y. found es m (copies_at n d y))))
  copy_same n (Err trap) y es more = trap_same g here at trap
  copy_same n (Ok d) (Err trap) es more = trap_same g here at trap
  copy_same n (Ok d) (Ok y) (Err trap) more = trap_same g here at trap
  copy_same n (Ok d) (Ok y) (Ok es) more = copied_same n (copy_order m d y es) more

  pub copy_steps : (dest source : SectionR) (events : List CopyEventR) → once_each events ≡ true → HasAt g.code.instrs a (copy_code dest source events) → Continues g.code g.program w.end (a + length (copy_code dest source events)) rest loops → Same (starts (copy dest source events 0 (seen at) m) at)
  copy_steps dest source events once has more =
      let view = seen_by here m in
      let k = 0 + count_all (of_section dest) in
      let j = 0 + count_all (of_section dest) + count_all (of_section source) in
      let D = section_code dest 0 in
      let Y = section_code source k in
      let E = copy_events_code events j in
      let last = instr.Use purpose.Copy in
      let n = a + length D + length Y + length E + 1 in
      let rd = wanted_of dest 0 view in
      let ry = wanted_of source k view in
      let res = copy_events_from events j view no_events in
      let len : a + length (D ++ (Y ++ (E ++ last ∷ []))) ≡ n = omega (arith, length-append D (Y ++ (E ++ last ∷ [])), length-append Y (E ++ last ∷ []), length-append E (last ∷ [])) in
      step_by g here m _ (D ++ (Y ++ (E ++ last ∷ []))) (found rd m (λ d. found ry m (λ y. found res m (copies_at n d y)))) refl has
      (section_leads g w held locals loops m dest 0 a [] [] (Y ++ (E ++ last ∷ [])) (λ d. found ry m (λ y. found res m (copies_at n d y))) (λ d b is_b.
      section_leads g w held locals loops m source k b [] (listed.Section d ∷ []) (E ++ last ∷ []) (λ y. found res m (copies_at n d y)) (λ y c is_c.
      events_lead g w held locals loops m d y events j c [] (last ∷ []) (copies_at n d y) (fresh events once) (λ ys q is_q.
      leads_last g last (within_at g w held locals loops m q [] (listed.Section d ∷ listed.Section y ∷ ys)) m (copies_at n d y (copy_events ys)) (ap (λ i. copies_at i d y (copy_events ys)) (let e : q + 1 ≡ n = omega (arith, is_b, is_c, is_q) in e))))))
      (found_ends rd m _ (λ d. found_ends ry m _ (λ y. found_ends res m _ (λ es. found_ends (copy_order m d y es) m _ (λ order. tt)))))
      (copy_same n rd ry res (subst (λ i. Continues g.code g.program w.end i rest loops) len more))
