-- An instruction that ends its Step goes on to no other.
use Rattle.std.proofs.Common.{◌≡◌, ℕ, zero, suc, pred, ◌+◌, Bool, true, false, cond, if◌then◌else◌, List, [], ◌∷◌, length, reverse, take, drop, Option, Some, None, Result, refl, ℤ, pos, nat_le}
use Rattle.std.specs.Prelude.{slice_get, slice_index_or, slice_set}
use Rattle.caf_base.specs.Arithmetic.{is_zero}
use Rattle.caf_base.specs.Fence.{passes}
use Rattle.caf_base.specs.ImageMemory.{ImageMemory}
use Rattle.caf_base.specs.Line.{has_room, line_of, with_line}
use Rattle.caf_base.specs.Orders.{copy_order, ship_order, with_copointer}
use Rattle.caf_base.specs.Places.{element_section, event_of, pointed_section, posts_at, section_of, within, written}
use Rattle.caf_base.specs.declared.effect.Effect.{Effect}
use Rattle.caf_base.specs.declared.effect.Effect.TheVariants as effect
use Rattle.caf_base.specs.declared.effect.Need.TheVariants as need
use Rattle.caf_base.specs.declared.fence.FenceClear.{FenceClear}
use Rattle.caf_base.specs.declared.operation.OpSpec.TheVariants as begun
use Rattle.caf_base.specs.declared.operation.Section.{Section}
use Rattle.caf_base.specs.declared.place.SectionWanted.{SectionWanted}
use Rattle.caf_base.specs.declared.trap.Trap.{Trap}
use Rattle.caf_base.specs.declared.trap.Trap.TheVariants as trap
use Rattle.caf_code.specs.Calls.{copies_out, copies_to, leaves, opens, returns}
use Rattle.caf_code.specs.Did.{Did, Goes, Stops, Blocks, Fails, Lacks, found, there, on_arguments, on_one, on_place, stops}
use Rattle.caf_code.specs.Flow.{enters, turns}
use Rattle.caf_code.specs.Operations.{awaits, copy_events, event_for, on_element, on_section, on_sections, takes_post}
use Rattle.caf_code.specs.Step.{does, need_in, then_run}
use Rattle.caf_code.specs.Task.{Frame, OpenCall, Task, ends_at, past}
use Rattle.caf_code.specs.Teams.{team_named}
use Rattle.caf_code.specs.declared.instr.ElementForm.{ElementForm}
use Rattle.caf_code.specs.declared.instr.ElementForm.TheVariants as element
use Rattle.caf_code.specs.declared.instr.EventUse.TheVariants as event
use Rattle.caf_code.specs.declared.instr.Instr.{Instr}
use Rattle.caf_code.specs.declared.instr.Instr.TheVariants as instr
use Rattle.caf_code.specs.declared.instr.Role.TheVariants as role
use Rattle.caf_code.specs.declared.instr.SectionUse.TheVariants as purpose
use Rattle.caf_code.specs.declared.listing.Listing.{Listing}
use Rattle.caf_code.specs.declared.task.CopyOut.{CopyOut}
use Rattle.caf_code.specs.declared.task.CopyTarget.{CopyTarget}
use Rattle.caf_code.specs.declared.task.CopyTarget.TheVariants as target
use Rattle.caf_code.specs.declared.task.Listed.{Listed}
use Rattle.caf_code.specs.declared.task.Listed.TheVariants as listed
use Rattle.caf_code.specs.declared.task.Loop.{Loop}
use Rattle.caf_code.specs.declared.task.Wait.TheVariants as wait
use Rattle.caf_vm.specs.Blocked.{may_block, need_of_did}
use Rattle.caf_vm.specs.Ready.{ends_step}
use Rattle.caf_vm.proofs.Shaped.{Shaped, Wish, shaped_found, shaped_loop, shaped_one, shaped_place, shaped_two}

-- an effect of a Step that is over names no need
abbrev Quiet : Wish → Type 0
Quiet P = (e : Effect) → need_in e ≡ None → P.stops e

on_there : {A : Type 0} (P : Wish) (o : Option A) (m : ImageMemory) (go : A → Did) → ((a : A) → Shaped P (go a)) → Shaped P (there o m go)
on_there P None m go h = tt
on_there P (Some a) m go h = h a

with_arguments : (P : Wish) → (n : ℕ) (s : List ℤ) (m : ImageMemory) (go : List ℤ → List ℤ → Did) → ((xs rest : List ℤ) → Shaped P (go xs rest)) → Shaped P (on_arguments n s m go)
with_arguments P n s m go h = pick (nat_le n (length s))
  where
    pick : (b : Bool) → Shaped P (cond b (go (reverse (take n s)) (drop n s)) (Lacks m))
    pick true = h (reverse (take n s)) (drop n s)
    pick false = tt

of_element : (P : Wish) → (e : ElementForm) (s : List ℤ) (m : ImageMemory) (go : Result Section Trap → List ℤ → Did) → ((r : Result Section Trap) (rest : List ℤ) → Shaped P (go r rest)) → Shaped P (on_element e s m go)
of_element P (element.Coindexed o p) s m go h =
    shaped_place P p s m (λ place below. on_one below m (λ index rest. go (element_section m o index place) rest)) (λ place below e. shaped_one P below m (λ index rest. go (element_section m o index place) rest) (λ index rest e'. h (element_section m o index place) rest))
of_element P (element.Pointed c) s m go h = shaped_one P s m (λ index rest. go (pointed_section m c index) rest) (λ index rest e. h (pointed_section m c index) rest)

at_enter : (P : Wish) → Quiet P → (n : ℕ) (rest : List Loop) (a : ℕ) (t : Task) (m : ImageMemory) → Shaped P (enters n rest a t m)
at_enter P stop zero rest a t m = stop _ refl
at_enter P stop (suc n) rest a t m = stop _ refl

at_again : (P : Wish) → Quiet P → (n : ℕ) (step : ℤ) (rest : List Loop) (a : ℕ) (t : Task) (m : ImageMemory) → Shaped P (turns n step rest a t m)
at_again P stop zero step rest a t m = stop _ refl
at_again P stop (suc n) step rest a t m = stop _ refl

at_wait : (P : Wish) → Quiet P → P.blocks → (n o : ℕ) (i : ℤ) (rest : List ℤ) (t : Task) (m : ImageMemory) → Shaped P (takes_post n o i rest t m)
at_wait P stop blocks zero o i rest t m = blocks
at_wait P stop blocks (suc n) o i rest t m = stop _ refl

at_aim : (P : Wish) → (xs : List Listed) (m : ImageMemory) (go : SectionWanted → Did) → ((w : SectionWanted) → Shaped P (go w)) → Shaped P (on_section xs m go)
at_aim P [] m go h = tt
at_aim P (listed.Section w ∷ []) m go h = h w
at_aim P (listed.Section w ∷ x ∷ xs) m go h = tt
at_aim P (listed.Event r e ∷ xs) m go h = tt

at_copy : (P : Wish) → (xs : List Listed) (m : ImageMemory) (go : SectionWanted → SectionWanted → List Listed → Did) → ((d s : SectionWanted) (events : List Listed) → Shaped P (go d s events)) → Shaped P (on_sections xs m go)
at_copy P [] m go h = tt
at_copy P (listed.Event r e ∷ xs) m go h = tt
at_copy P (listed.Section d ∷ []) m go h = tt
at_copy P (listed.Section d ∷ listed.Event r e ∷ xs) m go h = tt
at_copy P (listed.Section d ∷ listed.Section s ∷ events) m go h = h d s events

at_target : (P : Wish) → (x : CopyTarget) (z : ℤ) (f : Frame) (m : ImageMemory) (go : Frame → ImageMemory → Did) → ((g : Frame) (n : ImageMemory) → Shaped P (go g n)) → Shaped P (copies_to x z f m go)
at_target P (target.Scalar o) z f m go h = shaped_found P (written m o (pos 1) z) m (go f) (h f)
at_target P (target.Element o i) z f m go h = shaped_found P (written m o i z) m (go f) (h f)
at_target P (target.Local k) z f m go h = h (record f { cells = slice_set f.cells k z }) m

at_outs : (P : Wish) → (outs : List CopyOut) (cells : List ℤ) (f : Frame) (m : ImageMemory) (go : Frame → ImageMemory → Did) → ((g : Frame) (n : ImageMemory) → Shaped P (go g n)) → Shaped P (copies_out outs cells f m go)
at_outs P [] cells f m go h = h f m
at_outs P (o ∷ rest) cells f m go h =
    at_target P o.target (slice_index_or cells o.cell (pos 0)) f m (λ g n. copies_out rest cells g n go) (λ g n. at_outs P rest cells g n go h)

at_ret : (P : Wish) → Quiet P → (calls : List OpenCall) (t : Task) (m : ImageMemory) → Shaped P (leaves calls t m)
at_ret P stop [] t m = stop _ refl
at_ret P stop (c ∷ below) t m = at_outs P c.outs t.frame.cells c.caller m (λ f n. Stops effect.Ran (returns c below f t) n) (λ f n. stop _ refl)

pick : (P : Wish) (b : Bool) (d e : Did) → Shaped P d → Shaped P e → Shaped P (cond b d e)
pick P true d e x y = x
pick P false d e x y = y

-- an instruction that ends its Step doesn't go on
stopped : (P : Wish) (code : Listing) (clear : FenceClear) (i : Instr) (t : Task) (m : ImageMemory) → ends_step i ≡ true → (may_block i ≡ true → P.blocks) → Quiet P → Shaped P (does code clear i t m)
stopped P code clear instr.Next t m e may stop = stop _ refl
stopped P code clear (instr.Test a) t m e may stop = shaped_one P t.frame.stack m (λ value rest. Stops effect.Ran (ends_at (if is_zero value then a else t.address + 1) rest t) m) (λ value rest s. stop _ refl)
stopped P code clear (instr.Enter a) t m e may stop = shaped_loop P t.frame.loops m (λ l rest. enters l.iterations rest a t m) (λ l rest s. at_enter P stop l.iterations rest a t m)
stopped P code clear (instr.Again a) t m e may stop = shaped_loop P t.frame.loops m (λ l rest. turns (pred l.iterations) l.step rest a t m) (λ l rest s. at_again P stop (pred l.iterations) l.step rest a t m)
stopped P code clear (instr.Ask x) t m e may stop =
    of_element P x t.frame.stack m (λ tested rest. found tested m (λ s. Stops (effect.Begins (begun.Read s)) (awaits wait.Value (past 1 rest t)) m)) (λ r rest. shaped_found P r m (λ s. Stops (effect.Begins (begun.Read s)) (awaits wait.Value (past 1 rest t)) m) (λ s. stop _ refl))
stopped P code clear (instr.Put x) t m e may stop =
    shaped_one P t.frame.stack m (λ value below. on_element x below m (λ tested rest. found tested m (λ s. stops (effect.Begins (begun.Write s value)) rest (awaits wait.Written t) m))) (λ value below s. of_element P x below m (λ tested rest. found tested m (λ q. stops (effect.Begins (begun.Write q value)) rest (awaits wait.Written t) m)) (λ r rest. shaped_found P r m (λ q. stops (effect.Begins (begun.Write q value)) rest (awaits wait.Written t) m) (λ q. stop _ refl)))
stopped P code clear (instr.Use (purpose.Aim c)) t m e may stop =
    at_aim P t.frame.listed m (λ w. found (section_of false m w) m (λ s. stops effect.Ran t.frame.stack t (with_copointer m c s))) (λ w. shaped_found P (section_of false m w) m (λ s. stops effect.Ran t.frame.stack t (with_copointer m c s)) (λ s. stop _ refl))
stopped P code clear (instr.Use purpose.Copy) t m e may stop =
    at_copy P t.frame.listed m (λ dest source events. found (copy_order m dest source (copy_events events)) m (λ order. stops (effect.Begins (begun.Copy order)) t.frame.stack t m)) (λ dest source events. shaped_found P (copy_order m dest source (copy_events events)) m (λ order. stops (effect.Begins (begun.Copy order)) t.frame.stack t m) (λ order. stop _ refl))
stopped P code clear (instr.Event (event.Notify o p)) t m e may stop =
    shaped_place P p t.frame.stack m (λ place below. on_one below m (λ index rest. found (event_of m o index place) m (λ x. stops (effect.Begins (begun.Notice x)) rest t m))) (λ place below s. shaped_one P below m (λ index rest. found (event_of m o index place) m (λ x. stops (effect.Begins (begun.Notice x)) rest t m)) (λ index rest s'. shaped_found P (event_of m o index place) m (λ x. stops (effect.Begins (begun.Notice x)) rest t m) (λ x. stop _ refl)))
stopped P code clear (instr.Event (event.Wait o)) t m e may stop =
    shaped_one P t.frame.stack m (λ index rest. found (within (slice_get m.objects o) index) m (λ i. takes_post (posts_at m o i) o i rest t m)) (λ index rest s. shaped_found P (within (slice_get m.objects o) index) m (λ i. takes_post (posts_at m o i) o i rest t m) (λ i. at_wait P stop (may refl) (posts_at m o i) o i rest t m))
stopped P code clear (instr.Cofence d) t m e may stop = pick P (passes d clear) (stops effect.Ran t.frame.stack t m) (Blocks need.Cofence) (stop _ refl) (may refl)
stopped P code clear (instr.Spawn f p) t m e may stop =
    on_there P (slice_get code.subs f) m (λ sub. on_place p t.frame.stack m (λ place below. on_arguments (length sub.dummies) below m (λ arguments rest. found (ship_order m f arguments (event_for role.Done t.frame.listed) place) m (λ order. stops (effect.Begins order) rest t m)))) (λ sub. shaped_place P p t.frame.stack m (λ place below. on_arguments (length sub.dummies) below m (λ arguments rest. found (ship_order m f arguments (event_for role.Done t.frame.listed) place) m (λ order. stops (effect.Begins order) rest t m))) (λ place below s. with_arguments P (length sub.dummies) below m (λ arguments rest. found (ship_order m f arguments (event_for role.Done t.frame.listed) place) m (λ order. stops (effect.Begins order) rest t m)) (λ arguments rest. shaped_found P (ship_order m f arguments (event_for role.Done t.frame.listed) place) m (λ order. stops (effect.Begins order) rest t m) (λ order. stop _ refl))))
stopped P code clear (instr.Finish name) t m e may stop = shaped_found P (team_named m name) m (λ x. stops (effect.Enters x) t.frame.stack t m) (λ x. stop _ refl)
stopped P code clear instr.Close t m e may stop = may refl
stopped P code clear (instr.Split name o) t m e may stop =
    shaped_two P t.frame.stack m (λ colour key rest. found (team_named m name) m (λ x. stops (effect.Arrives x colour key o) rest (awaits (wait.NewTeam o) t) m)) (λ colour key rest s. shaped_found P (team_named m name) m (λ x. stops (effect.Arrives x colour key o) rest (awaits (wait.NewTeam o) t) m) (λ x. stop _ refl))
stopped P code clear (instr.Call f) t m e may stop =
    on_there P (slice_get code.subs f) m (λ sub. on_arguments (length sub.dummies) t.frame.stack m (λ arguments rest. if nat_le 200 (length t.calls) then Fails trap.Depth m else Stops effect.Ran (opens sub arguments rest t) m)) (λ sub. with_arguments P (length sub.dummies) t.frame.stack m (λ arguments rest. if nat_le 200 (length t.calls) then Fails trap.Depth m else Stops effect.Ran (opens sub arguments rest t) m) (λ arguments rest. pick P (nat_le 200 (length t.calls)) (Fails trap.Depth m) (Stops effect.Ran (opens sub arguments rest t) m) tt (stop _ refl)))
stopped P code clear instr.Ret t m e may stop = at_ret P stop t.calls t m
stopped P code clear instr.Line t m e may stop = pick P (has_room m (line_of t.parts)) (stops effect.Ran t.frame.stack (record t { parts = [] }) (with_line m (line_of t.parts))) (Fails trap.Output m) (stop _ refl) tt
stopped P code clear instr.Halt t m e may stop = may refl
stopped P code clear (instr.Push z) t m e may stop = cc
stopped P code clear (instr.Load r o) t m e may stop = cc
stopped P code clear (instr.Store r o) t m e may stop = cc
stopped P code clear (instr.Cell v c) t m e may stop = cc
stopped P code clear (instr.Held c) t m e may stop = cc
stopped P code clear (instr.Arithmetic v) t m e may stop = cc
stopped P code clear (instr.Relation v) t m e may stop = cc
stopped P code clear (instr.Logical v) t m e may stop = cc
stopped P code clear (instr.Team q name) t m e may stop = cc
stopped P code clear (instr.Go b) t m e may stop = cc
stopped P code clear instr.Loop t m e may stop = cc
stopped P code clear instr.StepBy t m e may stop = cc
stopped P code clear (instr.Section s) t m e may stop = cc
stopped P code clear (instr.EventAt o q r) t m e may stop = cc
stopped P code clear (instr.Out o) t m e may stop = cc
stopped P code clear (instr.Print q) t m e may stop = cc

-- the Step doesn't go on
abbrev No : Wish
No = record { goes = λ t. ⊥; stops = λ e. Unit {0}; blocks = Unit {0} }

no_more : (d : Did) (go : Task → ImageMemory → Did) → Shaped No d → then_run d go ≡ d
no_more (Goes t m) go h = absurd h
no_more (Stops x t m) go h = refl
no_more (Blocks n) go h = refl
no_more (Fails x m) go h = refl
no_more (Lacks m) go h = refl

pub ended : (code : Listing) (clear : FenceClear) (i : Instr) (t : Task) (m : ImageMemory) (go : Task → ImageMemory → Did) → ends_step i ≡ true → then_run (does code clear i t m) go ≡ does code clear i t m
ended code clear i t m go e = no_more (does code clear i t m) go (stopped No code clear i t m e (λ b. tt) (λ x h. tt))

-- the task isn't blocked
abbrev Awake : Wish
Awake = record { goes = λ t. Unit {0}; stops = λ e. need_in e ≡ None; blocks = ⊥ }

no_need : (d : Did) → Shaped Awake d → need_of_did d ≡ None
no_need (Goes t m) h = refl
no_need (Stops x t m) h = h
no_need (Blocks n) h = absurd h
no_need (Fails x m) h = refl
no_need (Lacks m) h = refl

-- only a `wait`, a `cofence`, and the end of a finish can block
pub awake : (code : Listing) (clear : FenceClear) (i : Instr) (t : Task) (m : ImageMemory) → ends_step i ≡ true → may_block i ≡ false → need_of_did (does code clear i t m) ≡ None
awake code clear i t m e b = no_need (does code clear i t m) (stopped Awake code clear i t m e (λ h. cc) (λ x h. h))
