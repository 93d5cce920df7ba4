-- By the rules an instruction finds all that it needs.
use Rattle.std.proofs.Common.{◌≡◌, ℕ, zero, suc, ◌≤◌, Bool, true, false, ◌&&◌, length, Option, Some, None, refl, ap, sym, ◌∙◌, subst, arith, nat_lt}
use Rattle.std.specs.Prelude.{IsSomeAnd, slice_get}
use Rattle.std.proofs.lemmas.Bool.{ltb-true}
use Rattle.caf_base.specs.ImageMemory.{ImageMemory}
use Rattle.caf_base.specs.declared.object.Kind.{Kind}
use Rattle.caf_base.specs.declared.object.Kind.TheVariants as kind
use Rattle.caf_base.specs.declared.object.Object.{Object}
use Rattle.caf_memory.specs.Bounds.{HasCells, has_cells}
use Rattle.caf_code.specs.Rules.{has_operands, is_data, is_data_kind, of_kind, is_sub}
use Rattle.caf_code.specs.Shapes.{Part, Shape, next_shape, without, with_height, operands, pops, pushes, marks, then_shape, only_if, in_loop, fewer_loops, lists_sort, with_rank, numbers, dummies_in, is_copy, is_one_section, is_ship, cells_of, IsSection, IsEvent}
use Rattle.caf_code.specs.Numbers.{Operator, One, Two, arithmetic_operator, relation_operator, logical_operator}
use Rattle.caf_code.specs.Task.{Frame}
use Rattle.caf_code.specs.declared.instr.CellUse.TheVariants as cell
use Rattle.caf_code.specs.declared.instr.ElementForm.TheVariants as element
use Rattle.caf_code.specs.declared.instr.EventUse.TheVariants as event
use Rattle.caf_code.specs.declared.instr.Instr.{Instr}
use Rattle.caf_code.specs.declared.instr.Instr.TheVariants as instr
use Rattle.caf_code.specs.declared.instr.OutForm.TheVariants as out
use Rattle.caf_code.specs.declared.instr.Printed.TheVariants as printed
use Rattle.caf_code.specs.declared.instr.Reach.TheVariants as reach
use Rattle.caf_code.specs.declared.instr.Relation.{Relation}
use Rattle.caf_code.specs.declared.instr.Relation.TheVariants as relation
use Rattle.caf_code.specs.declared.instr.SectionForm.TheVariants as section
use Rattle.caf_code.specs.declared.instr.SectionUse.TheVariants as purpose
use Rattle.caf_code.specs.declared.listing.Listing.{Listing}
use Rattle.caf_vm.specs.Ready.{IsReady, operator_operands}
use Rattle.caf_vm.specs.Shape.{Fits}

-- so many operands are there, if they can be taken
without_some : (n height : ℕ) (k : Shape) (h : Shape) (go : Shape → Option Shape) → then_shape (with_height (without n height) h) go ≡ Some k → n ≤ height
without_some zero height k h go e = omega arith
without_some (suc n) zero k h go e = cc
without_some (suc n) (suc height) k h go e = let le = without_some n height k h go e in omega (arith, le)

there : (n : ℕ) (h k : Shape) (go : Shape → Option Shape) (f : Frame) → length f.stack ≡ h.stack → then_shape (pops n h) go ≡ Some k → n ≤ length f.stack
there n h k go f s e = let le = without_some n h.stack k h go e in omega (arith, le)

just : (o : Option Shape) → then_shape o (λ q. Some q) ≡ o
just None = refl
just (Some q) = refl

there_alone : (n : ℕ) (h k : Shape) (f : Frame) → length f.stack ≡ h.stack → pops n h ≡ Some k → n ≤ length f.stack
there_alone n h k f s e = there n h k (λ q. Some q) f s (just (pops n h) ∙ e)

holds : (b : Bool) (o : Option Shape) (k : Shape) → only_if b o ≡ Some k → b ≡ true
holds true o k e = refl
holds false o k e = cc

beyond : (b : Bool) (o : Option Shape) (k : Shape) → only_if b o ≡ Some k → o ≡ Some k
beyond true o k e = e
beyond false o k e = cc

looped : (n : ℕ) (h k : Shape) (go : Shape → Option Shape) → then_shape (in_loop n h) go ≡ Some k → 1 ≤ n
looped zero h k go e = cc
looped (suc n) h k go e = omega arith

fewer : (n : ℕ) (h k : Shape) (go : Shape → Option Shape) → then_shape (fewer_loops n h) go ≡ Some k → 1 ≤ n
fewer zero h k go e = cc
fewer (suc n) h k go e = omega arith

data_cells : (k : Kind) → is_data_kind k ≡ true → has_cells k ≡ true
data_cells kind.Integer e = refl
data_cells kind.Logical e = refl
data_cells kind.Event e = cc
data_cells kind.Team e = cc
data_cells kind.CoInteger e = cc
data_cells kind.CoLogical e = cc

-- an integer or logical object has cells
cells_of_data : (code : Listing) (o : ℕ) (m : ImageMemory) → m.objects ≡ code.objects → is_data code o ≡ true → HasCells m.objects o
cells_of_data code o m same e = subst (λ objects. HasCells objects o) (sym same) (go (slice_get code.objects o) e)
  where
    go : (found : Option Object) → of_kind is_data_kind found ≡ true → IsSomeAnd found (λ (q : Object). has_cells q.kind ≡ true)
    go None h = cc
    go (Some q) h = data_cells q.kind h

both : (a b : Bool) → (a && b) ≡ true → (a ≡ true) × (b ≡ true)
both true b e = (refl, e)
both false b e = cc

relation_two : (w : Relation) → operator_operands (relation_operator w) ≡ 2
relation_two relation.Equal = refl
relation_two relation.NotEqual = refl
relation_two relation.Less = refl
relation_two relation.LessEqual = refl
relation_two relation.Greater = refl
relation_two relation.GreaterEqual = refl

operator : (w : Operator) (h k : Shape) (f : Frame) → length f.stack ≡ h.stack → then_shape (pops (operands w) h) pushes ≡ Some k → operator_operands w ≤ length f.stack
operator (One w) h k f s e = there 1 h k pushes f s e
operator (Two w) h k f s e = there 2 h k pushes f s e

-- where an instruction goes on at the next address with a shape, it finds what it needs
pub ready : (code : Listing) (p : Part) (i : Instr) (h k : Shape) (f : Frame) (m : ImageMemory) → m.objects ≡ code.objects → has_operands code i ≡ true → Fits code p h f → next_shape code p i h ≡ Some k → IsReady code i f m
ready code p (instr.Push n) h k f m same named fits e = record { operands = omega arith; finds = tt }
ready code p (instr.Load reach.Scalar o) h k f m same named fits e = record { operands = omega arith; finds = cells_of_data code o m same named }
ready code p (instr.Load reach.Element o) h k f m same named fits e = record { operands = there 1 h k pushes f fits.stack e; finds = cells_of_data code o m same named }
ready code p (instr.Store reach.Scalar o) h k f m same named fits e = record { operands = there_alone 1 h k f fits.stack e; finds = tt }
ready code p (instr.Store reach.Element o) h k f m same named fits e = record { operands = there_alone 2 h k f fits.stack e; finds = tt }
ready code p (instr.Cell cell.Get c) h k f m same named fits e = record { operands = omega arith; finds = let lt = ltb-true c (cells_of code p) (holds (nat_lt c (cells_of code p)) (pushes h) k e) in omega (arith, lt, fits.cells) }
ready code p (instr.Cell cell.Set c) h k f m same named fits e = record { operands = there_alone 1 h k f fits.stack (beyond (nat_lt c (cells_of code p)) (pops 1 h) k e); finds = let lt = ltb-true c (cells_of code p) (holds (nat_lt c (cells_of code p)) (pops 1 h) k e) in omega (arith, lt, fits.cells) }
ready code p (instr.Held c) h k f m same named fits e = record { operands = omega arith; finds = let lt = ltb-true c h.held (holds (nat_lt c h.held) (pushes h) k e) in omega (arith, lt, fits.held) }
ready code p (instr.Arithmetic w) h k f m same named fits e = record { operands = operator (arithmetic_operator w) h k f fits.stack e; finds = tt }
ready code p (instr.Relation w) h k f m same named fits e = record { operands = let le = operator (relation_operator w) h k f fits.stack e in omega (arith, le, relation_two w); finds = tt }
ready code p (instr.Logical w) h k f m same named fits e = record { operands = operator (logical_operator w) h k f fits.stack e; finds = tt }
ready code p (instr.Team q name) h k f m same named fits e = record { operands = omega arith; finds = tt }
ready code p (instr.Go a) h k f m same named fits e = record { operands = omega arith; finds = tt }
ready code p instr.Next h k f m same named fits e = record { operands = omega arith; finds = tt }
ready code p (instr.Test a) h k f m same named fits e = record { operands = there 1 h k marks f fits.stack e; finds = tt }
ready code p instr.Loop h k f m same named fits e = record { operands = there 3 h k (λ q. pushes (record q { loops = suc q.loops })) f fits.stack e; finds = tt }
ready code p (instr.Enter a) h k f m same named fits e = record { operands = omega arith; finds = let le = looped h.loops h k marks e in omega (arith, le, fits.loops) }
ready code p instr.StepBy h k f m same named fits e = record { operands = omega arith; finds = let le = looped h.loops h k pushes e in omega (arith, le, fits.loops) }
ready code p (instr.Again a) h k f m same named fits e = record { operands = omega arith; finds = let le = fewer h.loops h k marks e in omega (arith, le, fits.loops) }
ready code p (instr.Ask (element.Coindexed o q)) h k f m same named fits e = record { operands = there (with_rank q 1) h k (λ s. Some (record s { held = suc s.held })) f fits.stack e; finds = tt }
ready code p (instr.Ask (element.Pointed c)) h k f m same named fits e = record { operands = there 1 h k (λ s. Some (record s { held = suc s.held })) f fits.stack e; finds = tt }
ready code p (instr.Put (element.Coindexed o q)) h k f m same named fits e = record { operands = there (suc (with_rank q 1)) h k marks f fits.stack e; finds = tt }
ready code p (instr.Put (element.Pointed c)) h k f m same named fits e = record { operands = there 2 h k marks f fits.stack e; finds = tt }
ready code p (instr.Section (section.Region o r q)) h k f m same named fits e = record { operands = there (with_rank q (numbers r)) h k (lists_sort IsSection) f fits.stack e; finds = tt }
ready code p (instr.Section (section.Pointed c r)) h k f m same named fits e = record { operands = there (numbers r) h k (lists_sort IsSection) f fits.stack e; finds = tt }
ready code p (instr.EventAt o q r) h k f m same named fits e = record { operands = there (with_rank q 1) h k (lists_sort (IsEvent r)) f fits.stack e; finds = tt }
ready code p (instr.Use (purpose.Aim c)) h k f m same named fits e = record { operands = omega arith; finds = ap is_one_section fits.listed ∙ holds (is_one_section h.listed) (marks h) k e }
ready code p (instr.Use purpose.Copy) h k f m same named fits e = record { operands = omega arith; finds = ap is_copy fits.listed ∙ holds (is_copy h.listed) (marks h) k e }
ready code p (instr.Event (event.Notify o q)) h k f m same named fits e = record { operands = there (with_rank q 1) h k marks f fits.stack e; finds = tt }
ready code p (instr.Event (event.Wait o)) h k f m same named fits e = record { operands = there 1 h k marks f fits.stack e; finds = tt }
ready code p (instr.Cofence d) h k f m same named fits e = record { operands = omega arith; finds = tt }
ready code p (instr.Spawn s q) h k f m same named fits e =
    let rest = then_shape (pops (with_rank q (dummies_in (slice_get code.subs s))) h) marks in
    record {
      operands = there (with_rank q (dummies_in (slice_get code.subs s))) h k marks f fits.stack (beyond (is_ship h.listed) rest k e);
      finds = (ap is_ship fits.listed ∙ holds (is_ship h.listed) rest k e, ltb-true s (length code.subs) (both (is_sub code s) _ named).0);
    }
ready code p (instr.Finish name) h k f m same named fits e = record { operands = omega arith; finds = tt }
ready code p instr.Close h k f m same named fits e = record { operands = omega arith; finds = tt }
ready code p (instr.Split name o) h k f m same named fits e = record { operands = there 2 h k marks f fits.stack e; finds = tt }
ready code p (instr.Out (out.Scalar o)) h k f m same named fits e = record { operands = omega arith; finds = tt }
ready code p (instr.Out (out.Element o)) h k f m same named fits e = record { operands = there 1 h k (λ q. Some (record q { outs = suc q.outs })) f fits.stack e; finds = tt }
ready code p (instr.Out (out.Local c)) h k f m same named fits e = record { operands = omega arith; finds = tt }
ready code p (instr.Call s) h k f m same named fits e =
    let rest = then_shape (pops (dummies_in (slice_get code.subs s)) h) (λ q. marks (record q { outs = 0 })) in
    record {
      operands = there (dummies_in (slice_get code.subs s)) h k (λ q. marks (record q { outs = 0 })) f fits.stack (beyond _ rest k e);
      finds = ltb-true s (length code.subs) named;
    }
ready code p instr.Ret h k f m same named fits e = record { operands = omega arith; finds = tt }
ready code p (instr.Print printed.Number) h k f m same named fits e = record { operands = there_alone 1 h k f fits.stack e; finds = tt }
ready code p (instr.Print printed.Logical) h k f m same named fits e = record { operands = there_alone 1 h k f fits.stack e; finds = tt }
ready code p (instr.Print (printed.Text c)) h k f m same named fits e = record { operands = omega arith; finds = ltb-true c (length code.texts) named }
ready code p instr.Line h k f m same named fits e = record { operands = omega arith; finds = tt }
ready code p instr.Halt h k f m same named fits e = record { operands = omega arith; finds = tt }
