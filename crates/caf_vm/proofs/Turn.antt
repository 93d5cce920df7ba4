-- One instruction of a Step: what it finds, and how the task stands behind it.
use Rattle.std.proofs.Common.{◌≡◌, ℕ, zero, suc, ◌+◌, ◌<◌, true, false, length, Option, Some, None, Result, Ok, Err, refl, ap, sym, ◌∙◌, subst, arith}
use Rattle.std.specs.Prelude.{IfOk, IfSome, slice_get}
use Rattle.caf_base.specs.ImageMemory.{ImageMemory}
use Rattle.caf_base.specs.declared.fence.FenceClear.{FenceClear}
use Rattle.caf_code.specs.Did.{Did, Goes}
use Rattle.caf_code.specs.Rules.{Shapes, LeadOn, KeepsRules, has_operands}
use Rattle.caf_code.specs.Shapes.{Part, Shape, jump_shape, leads, next_shape, way, with_way}
use Rattle.caf_code.specs.Step.{does, does_at, exec, then_run}
use Rattle.caf_code.specs.Task.{Task}
use Rattle.caf_code.specs.declared.instr.Instr.{Instr}
use Rattle.caf_code.specs.declared.instr.Instr.TheVariants as instr
use Rattle.caf_code.specs.declared.listing.Listing.{Listing}
use Rattle.caf_vm.specs.Ready.{IsReady, ends_step}
use Rattle.caf_vm.specs.Run.{InCode, Reached, StandsOn, Turned}
use Rattle.caf_code.specs.Whole.{IsWhole}
use Rattle.caf_vm.specs.declared.stop.Stop.{Stop}
use Rattle.caf_vm.specs.declared.stop.Stop.TheVariants as stop
use Rattle.caf_vm.proofs.Ended.{ended}
use Rattle.caf_vm.specs.Shape.{Fits}
use Rattle.caf_vm.proofs.Ready.{ready}
use Rattle.caf_vm.proofs.Shaped.{Next, Shaped, shaped, to}

-- a way to the next address has a shape there
record Leads (shapes : Shapes) (p : Part) (a : ℕ) (o : Option Shape) : Type 0 where
  shape : Shape
  is : o ≡ Some shape
  stands : shapes p a ≡ Some shape

one_way : (shapes : Shapes) (p : Part) (a : ℕ) (o : Option Shape) → LeadOn shapes p (way a o) → Leads shapes p a o
one_way shapes p a None on = absurd on
one_way shapes p a (Some k) on = record { shape = k; is = refl; stands = on.0 }

second_way : (shapes : Shapes) (p : Part) (a b : ℕ) (j o : Option Shape) → LeadOn shapes p (with_way b j (way a o)) → Leads shapes p a o
second_way shapes p a b None o on = absurd on
second_way shapes p a b (Some k) None on = absurd on
second_way shapes p a b (Some k) (Some l) on = record { shape = l; is = refl; stands = on.1.0 }

-- by the rules an instruction finds what it needs
pub ready_at : (code : Listing) (shapes : Shapes) (p : Part) (a : ℕ) (i : Instr) (h : Shape) (t : Task) (m : ImageMemory) → m.objects ≡ code.objects → has_operands code i ≡ true → Fits code p h t.frame → LeadOn shapes p (leads code p a i h) → IsReady code i t.frame m
ready_at code shapes p a (instr.Push z) h t m same named fits on = let w = one_way shapes p (a + 1) (next_shape code p (instr.Push z) h) on in ready code p (instr.Push z) h w.shape t.frame m same named fits w.is
ready_at code shapes p a (instr.Load r o) h t m same named fits on = let w = one_way shapes p (a + 1) (next_shape code p (instr.Load r o) h) on in ready code p (instr.Load r o) h w.shape t.frame m same named fits w.is
ready_at code shapes p a (instr.Store r o) h t m same named fits on = let w = one_way shapes p (a + 1) (next_shape code p (instr.Store r o) h) on in ready code p (instr.Store r o) h w.shape t.frame m same named fits w.is
ready_at code shapes p a (instr.Cell v c) h t m same named fits on = let w = one_way shapes p (a + 1) (next_shape code p (instr.Cell v c) h) on in ready code p (instr.Cell v c) h w.shape t.frame m same named fits w.is
ready_at code shapes p a (instr.Held c) h t m same named fits on = let w = one_way shapes p (a + 1) (next_shape code p (instr.Held c) h) on in ready code p (instr.Held c) h w.shape t.frame m same named fits w.is
ready_at code shapes p a (instr.Arithmetic v) h t m same named fits on = let w = one_way shapes p (a + 1) (next_shape code p (instr.Arithmetic v) h) on in ready code p (instr.Arithmetic v) h w.shape t.frame m same named fits w.is
ready_at code shapes p a (instr.Relation v) h t m same named fits on = let w = one_way shapes p (a + 1) (next_shape code p (instr.Relation v) h) on in ready code p (instr.Relation v) h w.shape t.frame m same named fits w.is
ready_at code shapes p a (instr.Logical v) h t m same named fits on = let w = one_way shapes p (a + 1) (next_shape code p (instr.Logical v) h) on in ready code p (instr.Logical v) h w.shape t.frame m same named fits w.is
ready_at code shapes p a (instr.Team q name) h t m same named fits on = let w = one_way shapes p (a + 1) (next_shape code p (instr.Team q name) h) on in ready code p (instr.Team q name) h w.shape t.frame m same named fits w.is
ready_at code shapes p a (instr.Go b) h t m same named fits on = record { operands = omega arith; finds = tt }
ready_at code shapes p a instr.Next h t m same named fits on = let w = one_way shapes p (a + 1) (next_shape code p instr.Next h) on in ready code p instr.Next h w.shape t.frame m same named fits w.is
ready_at code shapes p a (instr.Test b) h t m same named fits on = let w = second_way shapes p (a + 1) b (jump_shape (instr.Test b) h) (next_shape code p (instr.Test b) h) on in ready code p (instr.Test b) h w.shape t.frame m same named fits w.is
ready_at code shapes p a instr.Loop h t m same named fits on = let w = one_way shapes p (a + 1) (next_shape code p instr.Loop h) on in ready code p instr.Loop h w.shape t.frame m same named fits w.is
ready_at code shapes p a (instr.Enter b) h t m same named fits on = let w = second_way shapes p (a + 1) b (jump_shape (instr.Enter b) h) (next_shape code p (instr.Enter b) h) on in ready code p (instr.Enter b) h w.shape t.frame m same named fits w.is
ready_at code shapes p a instr.StepBy h t m same named fits on = let w = one_way shapes p (a + 1) (next_shape code p instr.StepBy h) on in ready code p instr.StepBy h w.shape t.frame m same named fits w.is
ready_at code shapes p a (instr.Again b) h t m same named fits on = let w = second_way shapes p (a + 1) b (jump_shape (instr.Again b) h) (next_shape code p (instr.Again b) h) on in ready code p (instr.Again b) h w.shape t.frame m same named fits w.is
ready_at code shapes p a (instr.Ask x) h t m same named fits on = let w = one_way shapes p (a + 1) (next_shape code p (instr.Ask x) h) on in ready code p (instr.Ask x) h w.shape t.frame m same named fits w.is
ready_at code shapes p a (instr.Put x) h t m same named fits on = let w = one_way shapes p (a + 1) (next_shape code p (instr.Put x) h) on in ready code p (instr.Put x) h w.shape t.frame m same named fits w.is
ready_at code shapes p a (instr.Section s) h t m same named fits on = let w = one_way shapes p (a + 1) (next_shape code p (instr.Section s) h) on in ready code p (instr.Section s) h w.shape t.frame m same named fits w.is
ready_at code shapes p a (instr.EventAt o q r) h t m same named fits on = let w = one_way shapes p (a + 1) (next_shape code p (instr.EventAt o q r) h) on in ready code p (instr.EventAt o q r) h w.shape t.frame m same named fits w.is
ready_at code shapes p a (instr.Use v) h t m same named fits on = let w = one_way shapes p (a + 1) (next_shape code p (instr.Use v) h) on in ready code p (instr.Use v) h w.shape t.frame m same named fits w.is
ready_at code shapes p a (instr.Event v) h t m same named fits on = let w = one_way shapes p (a + 1) (next_shape code p (instr.Event v) h) on in ready code p (instr.Event v) h w.shape t.frame m same named fits w.is
ready_at code shapes p a (instr.Cofence d) h t m same named fits on = let w = one_way shapes p (a + 1) (next_shape code p (instr.Cofence d) h) on in ready code p (instr.Cofence d) h w.shape t.frame m same named fits w.is
ready_at code shapes p a (instr.Spawn f q) h t m same named fits on = let w = one_way shapes p (a + 1) (next_shape code p (instr.Spawn f q) h) on in ready code p (instr.Spawn f q) h w.shape t.frame m same named fits w.is
ready_at code shapes p a (instr.Finish name) h t m same named fits on = let w = one_way shapes p (a + 1) (next_shape code p (instr.Finish name) h) on in ready code p (instr.Finish name) h w.shape t.frame m same named fits w.is
ready_at code shapes p a instr.Close h t m same named fits on = let w = one_way shapes p (a + 1) (next_shape code p instr.Close h) on in ready code p instr.Close h w.shape t.frame m same named fits w.is
ready_at code shapes p a (instr.Split name o) h t m same named fits on = let w = one_way shapes p (a + 1) (next_shape code p (instr.Split name o) h) on in ready code p (instr.Split name o) h w.shape t.frame m same named fits w.is
ready_at code shapes p a (instr.Out o) h t m same named fits on = let w = one_way shapes p (a + 1) (next_shape code p (instr.Out o) h) on in ready code p (instr.Out o) h w.shape t.frame m same named fits w.is
ready_at code shapes p a (instr.Call f) h t m same named fits on = let w = one_way shapes p (a + 1) (next_shape code p (instr.Call f) h) on in ready code p (instr.Call f) h w.shape t.frame m same named fits w.is
ready_at code shapes p a instr.Ret h t m same named fits on = record { operands = omega arith; finds = tt }
ready_at code shapes p a (instr.Print q) h t m same named fits on = let w = one_way shapes p (a + 1) (next_shape code p (instr.Print q) h) on in ready code p (instr.Print q) h w.shape t.frame m same named fits w.is
ready_at code shapes p a instr.Line h t m same named fits on = let w = one_way shapes p (a + 1) (next_shape code p instr.Line h) on in ready code p instr.Line h w.shape t.frame m same named fits w.is
ready_at code shapes p a instr.Halt h t m same named fits on = record { operands = omega arith; finds = tt }

-- how the task stands behind an instruction that doesn't end the Step
pub record After (code : Listing) (shapes : Shapes) (p : Part) (t : Task) : Type 0 where
  pub shape : Shape
  pub stands : shapes p t.address ≡ Some shape
  pub fits : Fits code p shape t.frame

then_next : (code : Listing) (clear : FenceClear) (shapes : Shapes) (p : Part) (i : Instr) (h : Shape) (t u : Task) (m n : ImageMemory) → Fits code p h t.frame → ends_step i ≡ false → Leads shapes p (t.address + 1) (next_shape code p i h) → does code clear i t m ≡ Goes u n → After code shapes p u
then_next code clear shapes p i h t u m n fits ends w e =
    let P : Did → Type 0 = λ d. Shaped (to (Next code p w.shape t.address)) d in
    let next : Next code p w.shape t.address u = subst P e (shaped code clear p i h w.shape t m fits w.is ends) in
    record {
      shape = w.shape;
      stands = ap (shapes p) next.1 ∙ w.stands;
      fits = next.0;
    }

abbrev task_of : Did → Task → Task
task_of (Goes u n) t = u
task_of _ t = t

pub after : (code : Listing) (clear : FenceClear) (shapes : Shapes) (p : Part) (i : Instr) (h : Shape) (t u : Task) (m n : ImageMemory) → Fits code p h t.frame → ends_step i ≡ false → LeadOn shapes p (leads code p t.address i h) → does code clear i t m ≡ Goes u n → After code shapes p u
after code clear shapes p (instr.Push z) h t u m n fits ends on e = then_next code clear shapes p (instr.Push z) h t u m n fits ends (one_way shapes p (t.address + 1) (next_shape code p (instr.Push z) h) on) e
after code clear shapes p (instr.Load r o) h t u m n fits ends on e = then_next code clear shapes p (instr.Load r o) h t u m n fits ends (one_way shapes p (t.address + 1) (next_shape code p (instr.Load r o) h) on) e
after code clear shapes p (instr.Store r o) h t u m n fits ends on e = then_next code clear shapes p (instr.Store r o) h t u m n fits ends (one_way shapes p (t.address + 1) (next_shape code p (instr.Store r o) h) on) e
after code clear shapes p (instr.Cell v c) h t u m n fits ends on e = then_next code clear shapes p (instr.Cell v c) h t u m n fits ends (one_way shapes p (t.address + 1) (next_shape code p (instr.Cell v c) h) on) e
after code clear shapes p (instr.Held c) h t u m n fits ends on e = then_next code clear shapes p (instr.Held c) h t u m n fits ends (one_way shapes p (t.address + 1) (next_shape code p (instr.Held c) h) on) e
after code clear shapes p (instr.Arithmetic v) h t u m n fits ends on e = then_next code clear shapes p (instr.Arithmetic v) h t u m n fits ends (one_way shapes p (t.address + 1) (next_shape code p (instr.Arithmetic v) h) on) e
after code clear shapes p (instr.Relation v) h t u m n fits ends on e = then_next code clear shapes p (instr.Relation v) h t u m n fits ends (one_way shapes p (t.address + 1) (next_shape code p (instr.Relation v) h) on) e
after code clear shapes p (instr.Logical v) h t u m n fits ends on e = then_next code clear shapes p (instr.Logical v) h t u m n fits ends (one_way shapes p (t.address + 1) (next_shape code p (instr.Logical v) h) on) e
after code clear shapes p (instr.Team q name) h t u m n fits ends on e = then_next code clear shapes p (instr.Team q name) h t u m n fits ends (one_way shapes p (t.address + 1) (next_shape code p (instr.Team q name) h) on) e
after code clear shapes p (instr.Go b) h t u m n fits ends on e =
    let to : record t { address = b } ≡ u = ap (λ d. task_of d t) e in
    subst (After code shapes p) to (record { shape = h; stands = on.0; fits = fits })
after code clear shapes p instr.Next h t u m n fits ends on e = cc
after code clear shapes p (instr.Test b) h t u m n fits ends on e = cc
after code clear shapes p instr.Loop h t u m n fits ends on e = then_next code clear shapes p instr.Loop h t u m n fits ends (one_way shapes p (t.address + 1) (next_shape code p instr.Loop h) on) e
after code clear shapes p (instr.Enter b) h t u m n fits ends on e = cc
after code clear shapes p instr.StepBy h t u m n fits ends on e = then_next code clear shapes p instr.StepBy h t u m n fits ends (one_way shapes p (t.address + 1) (next_shape code p instr.StepBy h) on) e
after code clear shapes p (instr.Again b) h t u m n fits ends on e = cc
after code clear shapes p (instr.Ask x) h t u m n fits ends on e = cc
after code clear shapes p (instr.Put x) h t u m n fits ends on e = cc
after code clear shapes p (instr.Section s) h t u m n fits ends on e = then_next code clear shapes p (instr.Section s) h t u m n fits ends (one_way shapes p (t.address + 1) (next_shape code p (instr.Section s) h) on) e
after code clear shapes p (instr.EventAt o q r) h t u m n fits ends on e = then_next code clear shapes p (instr.EventAt o q r) h t u m n fits ends (one_way shapes p (t.address + 1) (next_shape code p (instr.EventAt o q r) h) on) e
after code clear shapes p (instr.Use v) h t u m n fits ends on e = cc
after code clear shapes p (instr.Event v) h t u m n fits ends on e = cc
after code clear shapes p (instr.Cofence d) h t u m n fits ends on e = cc
after code clear shapes p (instr.Spawn f q) h t u m n fits ends on e = cc
after code clear shapes p (instr.Finish name) h t u m n fits ends on e = cc
after code clear shapes p instr.Close h t u m n fits ends on e = cc
after code clear shapes p (instr.Split name o) h t u m n fits ends on e = cc
after code clear shapes p (instr.Out o) h t u m n fits ends on e = then_next code clear shapes p (instr.Out o) h t u m n fits ends (one_way shapes p (t.address + 1) (next_shape code p (instr.Out o) h) on) e
after code clear shapes p (instr.Call f) h t u m n fits ends on e = cc
after code clear shapes p instr.Ret h t u m n fits ends on e = cc
after code clear shapes p (instr.Print q) h t u m n fits ends on e = then_next code clear shapes p (instr.Print q) h t u m n fits ends (one_way shapes p (t.address + 1) (next_shape code p (instr.Print q) h) on) e
after code clear shapes p instr.Line h t u m n fits ends on e = cc
after code clear shapes p instr.Halt h t u m n fits ends on e = cc

pub ready_in : (code : Listing) (i : Instr) (t : Task) (m : ImageMemory) → KeepsRules code → m.objects ≡ code.objects → InCode code t → slice_get code.instrs t.address ≡ Some i → IsReady code i t.frame m
ready_in code i t m rules same here at =
    ready_at code here.shapes here.part t.address i here.shape t m same (rules.instrs t.address i at).operands here.fits (here.shaped.leading here.part t.address here.shape i here.stands at)

pub stands_after : (code : Listing) (clear : FenceClear) (i : Instr) (t u : Task) (m n : ImageMemory) → InCode code t → slice_get code.instrs t.address ≡ Some i → ends_step i ≡ false → does code clear i t m ≡ Goes u n → InCode code u
stands_after code clear i t u m n here at ends e =
    let next = after code clear here.shapes here.part i here.shape t u m n here.fits ends (here.shaped.leading here.part t.address here.shape i here.stands at) e in
    record {
      shapes = here.shapes;
      shaped = here.shaped;
      part = here.part;
      shape = next.shape;
      stands = next.stands;
      fits = next.fits;
    }

pub inside : (code : Listing) (t : Task) → InCode code t → t.address < length code.instrs
inside code t here = here.shaped.inside here.part t.address here.shape here.stands

pub exec_turn : (code : Listing) (clear : FenceClear) (n k : ℕ) (t : Task) (m : ImageMemory) → n ≡ k + 1 → exec code clear n t m ≡ then_run (does_at code clear (slice_get code.instrs t.address) t m) (exec code clear k)
exec_turn code clear n k t m e = let e' : n ≡ suc k = omega arith in ap (λ i. exec code clear i t m) e'

-- an instruction in front of what is left of a Step
pub goes_turn : (code : Listing) (clear : FenceClear) (n k : ℕ) (t u : Task) (m v : ImageMemory) → n ≡ k + 1 → does_at code clear (slice_get code.instrs t.address) t m ≡ Goes u v → exec code clear k u v ≡ exec code clear n t m
goes_turn code clear n k t u m v e d = sym (exec_turn code clear n k t m e ∙ ap (λ did. then_run did (exec code clear k)) d)

pub fails_turn : (code : Listing) (clear : FenceClear) (n k : ℕ) (s : Stop) (t u : Task) (m v : ImageMemory) → n ≡ k + 1 → Turned code clear (Err s) (does_at code clear (slice_get code.instrs t.address) t m) u v → Reached code clear (Err s) (exec code clear n t m) u v
fails_turn code clear n k (stop.Trap x) t u m v e d = exec_turn code clear n k t m e ∙ ap (λ did. then_run did (exec code clear k)) d
fails_turn code clear n k stop.Memory t u m v e d = tt

pub ends_turn : (code : Listing) (clear : FenceClear) (n k : ℕ) (i : Instr) (t u : Task) (m v : ImageMemory) → n ≡ k + 1 → ends_step i ≡ true → does_at code clear (slice_get code.instrs t.address) t m ≡ does code clear i u v → exec code clear n t m ≡ does code clear i u v
ends_turn code clear n k i t u m v e ends d =
    exec_turn code clear n k t m e ∙ ap (λ did. then_run did (exec code clear k)) d ∙ ended code clear i u v (exec code clear k) ends

-- the same of the whole Step
pub carried : (code : Listing) (clear : FenceClear) (r : Result Instr Stop) (d d' : Did) (t : Task) (m : ImageMemory) → d ≡ d' → Reached code clear r d t m → Reached code clear r d' t m
carried code clear r d d' t m e h = subst (λ did. Reached code clear r did t m) e h

-- what a turn answered
pub turned : (code : Listing) (clear : FenceClear) (r q : Result (Option Instr) Stop) (d : Did) (u : Task) (v : ImageMemory) → r ≡ q → Turned code clear r d u v → Turned code clear q d u v
turned code clear r q d u v e h = subst (λ s. Turned code clear s d u v) e h

pub stands_on : (r : Result (Option Instr) Stop) (X : Type 0) → r ≡ Ok None → StandsOn r X → X
stands_on r X e h = subst (λ s. StandsOn s X) e h

pub ends_on : (r : Result (Option Instr) Stop) (P : Instr → Type 0) (i : Instr) → r ≡ Ok (Some i) → IfOk r (λ found. IfSome found P) → P i
ends_on r P i e h = subst (λ s. IfOk s (λ found. IfSome found P)) e h

-- a Step that is whole isn't still to be carried on
pub not_whole : (code : Listing) (clear : FenceClear) (k : ℕ) (t : Task) (m : ImageMemory) (d : Did) → k ≡ 0 → exec code clear k t m ≡ d → IsWhole d → ⊥
not_whole code clear zero t m d z e h = subst IsWhole (sym e) h
not_whole code clear (suc k) t m d z e h = absurd (omega arith)
