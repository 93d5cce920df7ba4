-- What a sound task and a sound memory have, where a Step ends.
use Rattle.std.proofs.Common.{◌≡◌, ◌⊎◌, ◌≤◌, inl, inr, ℕ, zero, suc, ◌+◌, Bool, true, false, ◌&&◌, ◌||◌, List, [], ◌∷◌, length, Option, Some, None, refl, subst, ap, sym, ◌∙◌, arith, pos, ◌+ℤ◌, nat_eq, nat_lt}
use Rattle.std.specs.Prelude.{IsSomeAnd, int_le, is_none, slice_get}
use Rattle.std.specs.List.{list_all}
use Rattle.std.proofs.lemmas.Bool.{eqb-true, lt-ltb}
use Rattle.std.proofs.lemmas.Int.{ints}
use Rattle.std.proofs.lemmas.List.Folds.{list_all-map}
use Rattle.caf_base.specs.ImageMemory.{ImageMemory}
use Rattle.caf_base.specs.declared.effect.Effect.{Effect}
use Rattle.caf_base.specs.declared.effect.Effect.TheVariants as effect
use Rattle.caf_base.specs.declared.fence.FenceClear.{FenceClear}
use Rattle.caf_base.specs.declared.object.Object.{Object}
use Rattle.caf_base.specs.declared.operation.Section.{Section}
use Rattle.caf_base.specs.declared.team.Team.{Team}
use Rattle.caf_base.specs.declared.trap.Trap.TheVariants as trap
use Rattle.caf_memory.specs.Placed.{EndsWithin}
use Rattle.caf_code.specs.Did.{Did, Goes, Stops, Blocks, Fails, Lacks}
use Rattle.caf_code.specs.Kept.{KeepsSound, KeepsTask}
use Rattle.caf_code.specs.Rules.{KeepsRules, Shapes, has_last_index, is_data}
use Rattle.caf_code.specs.Shapes.{Part, cells_in, cells_of}
use Rattle.caf_code.specs.Sound.{AreOpenCalls, IsOpenCall, IsSound, IsSoundMemory, IsSoundTask, copied_cells, lies_in}
use Rattle.caf_code.specs.Step.{ended, go_of, parted_memory, runs, settles}
use Rattle.caf_code.specs.Task.{Frame, OpenCall, Task}
use Rattle.caf_code.specs.Whole.{IsSettled}
use Rattle.caf_code.specs.declared.listing.Listing.{Listing}
use Rattle.caf_code.specs.declared.task.CopyOut.{CopyOut}
use Rattle.caf_code.specs.declared.task.Wait.{Wait}
use Rattle.caf_code.specs.declared.task.Wait.TheVariants as wait
use Rattle.caf_base.specs.After.{After}
use Rattle.caf_vm.specs.Calls.{HasCopied}
use Rattle.caf_vm.specs.Left.{after_of, left_by}
use Rattle.caf_vm.specs.Ready.{AllAimed}
use Rattle.caf_vm.proofs.Settled.{settled_same}

both : (a b : Bool) → (a && b) ≡ true → (a ≡ true) × (b ≡ true)
both true b e = (refl, e)
both false b e = cc

either : (a b : Bool) → (a || b) ≡ true → (a ≡ true) ⊎ (b ≡ true)
either true b e = inl refl
either false b e = inr e

-- a test of all is one of each
passes : (p : Object → Bool) (xs : List Object) (k : ℕ) (x : Object) → list_all p xs ≡ true → slice_get xs k ≡ Some x → p x ≡ true
passes p [] k x all at = cc
passes p (y ∷ ys) zero x all at = let same : y ≡ x = cc in ap p (sym same) ∙ (both (p y) (list_all p ys) all).0
passes p (y ∷ ys) (suc k) x all at = passes p ys k x (both (p y) (list_all p ys) all).1 at

-- a section that lies in an object whose last index fits, or is empty
fits_in : (o : Object) (s : Section) → has_last_index o ≡ true → lies_in (Some o) s ≡ true → (s.extent ≡ 0) ⊎ EndsWithin s.from s.extent
fits_in o s last lies =
    elim (either (nat_eq s.extent 0) (int_le o.lower s.from && int_le (s.from +ℤ pos s.extent) (o.lower +ℤ pos o.extent)) lies) [
      | inl h ↦ inl (eqb-true s.extent 0 h)
      | inr h ↦ let ends = (both (int_le o.lower s.from) (int_le (s.from +ℤ pos s.extent) (o.lower +ℤ pos o.extent)) h).1 in inr (grind (arith, ints, ends, last))
    ]

pub all_aimed : (code : Listing) (m : ImageMemory) → KeepsRules code → IsSoundMemory code m → AllAimed m
all_aimed code m keeps sound copointer s aims =
    go (slice_get code.objects s.object) refl (both (nat_lt s.image m.images && is_data code s.object) (lies_in (slice_get code.objects s.object) s) (sound.copointers copointer s aims)).1
  where
    go : (f : Option Object) → slice_get code.objects s.object ≡ f → lies_in f s ≡ true → (s.extent ≡ 0) ⊎ EndsWithin s.from s.extent
    go None at lies = let e : false ≡ true = lies in absurd (cc)
    go (Some o) at lies = fits_in o s (passes has_last_index code.objects s.object o keeps.objects at) lies

-- the cells of dummies are below their end
below_end : (n cell : ℕ) (dummies : List Bool) → cell + length dummies ≤ n → list_all (λ c. nat_lt c n) (copied_cells cell dummies) ≡ true
below_end n cell [] h = refl
below_end n cell (false ∷ dummies) h = below_end n (suc cell) dummies (omega arith)
below_end n cell (true ∷ dummies) h = ap (λ b. b && list_all (λ c. nat_lt c n) (copied_cells (suc cell) dummies)) (lt-ltb cell n (omega arith)) ∙ below_end n (suc cell) dummies (omega arith)

copied_in_call : (code : Listing) (shapes : Shapes) (f : ℕ) (caller : Part) (c : OpenCall) (g : Frame) → IsOpenCall code shapes f caller c → length g.cells ≡ cells_in (slice_get code.subs f) → list_all (λ (o : CopyOut). nat_lt o.cell (length g.cells)) c.outs ≡ true
copied_in_call code shapes f caller c g call cells =
    let long : length g.cells ≡ length call.sub.dummies + call.sub.locals = cells ∙ ap cells_in call.named in
    sym (list_all-map (λ k. nat_lt k (length g.cells)) (λ (o : CopyOut). o.cell) c.outs) ∙ ap (list_all (λ k. nat_lt k (length g.cells))) call.outs ∙ below_end (length g.cells) 0 call.sub.dummies (omega (arith, long))

-- the innermost call of a sound task finds the cells that it copies out
copied_in : (code : Listing) (shapes : Shapes) (p : Part) (calls : List OpenCall) (g : Frame) → AreOpenCalls code shapes p calls → length g.cells ≡ cells_of code p → HasCopied calls g
copied_in code shapes p [] g opened cells = tt
copied_in code shapes p (c ∷ below) g opened cells = copied_in_call code shapes opened.0 opened.1 c g opened.3 (cells ∙ ap (cells_of code) opened.2)

pub has_copied : (code : Listing) (images : ℕ) (t : Task) → IsSoundTask code images t → HasCopied t.calls t.frame
has_copied code images t sound = copied_in code sound.shapes sound.stands.part t.calls t.frame sound.stands.calls sound.stands.frame.cells

-- the end of a Step, and then every `go`
abbrev pub at_rest : Listing → After Task → After Task
at_rest code a = after_of a.effect (settles code a.task) a.memory

none_there : (o : Option ℕ) → is_none o ≡ true → o ≡ None
none_there None e = refl
none_there (Some a) e = cc

-- a task that stands at no `go` stays where it is
pub rests : (code : Listing) (t : Task) → IsSettled code t → settles code t ≡ t
rests code t settled = ap (λ a. record t { address = a }) (settled_same code.instrs (length code.instrs) t.address (none_there (go_of (slice_get code.instrs t.address)) settled))

pub ended_is : (code : Listing) (t : Task) (m : ImageMemory) (d : Did) → IsSettled code t → at_rest code (left_by d t m) ≡ ended code t m d
ended_is code t m (Stops e u v) settled = refl
ended_is code t m (Blocks n) settled = ap (λ u. after_of (effect.Blocks n) u m) (rests code t settled)
ended_is code t m (Fails x v) settled = ap (λ u. after_of (effect.Traps x) u v) (rests code t settled)
ended_is code t m (Goes u v) settled = ap (λ w. after_of (effect.Traps trap.Index) w v) (rests code t settled)
ended_is code t m (Lacks v) settled = ap (λ u. after_of (effect.Traps trap.Index) u v) (rests code t settled)

-- the task and the memory stay such that the code can run them
keeps_both : (e : Effect) (X Y : Type 0) → (X → Y) → KeepsTask e X → KeepsTask e Y
keeps_both (effect.Ends event) X Y f kept = tt
keeps_both (effect.Traps trap) X Y f kept = tt
keeps_both _ X Y f kept = f kept

pub stays_sound : (code : Listing) → KeepsRules code → (clear : FenceClear) (t : Task) (m : ImageMemory) → KeepsSound code → IsSound code t m → KeepsTask (runs code clear t m).effect (IsSound code (runs code clear t m).task (runs code clear t m).memory)
stays_sound code keeps clear t m law sound =
    let a : After Task = runs code clear t m in
    keeps_both a.effect (IsSoundTask code m.images a.task) (IsSound code a.task a.memory)
    (λ task. record { memory = law.memory clear t m sound; task = subst (λ n. IsSoundTask code n a.task) (sym (law.images clear t m sound)) task }) (law.ran clear m.images t m sound.task)

-- a new team leaves as many images
pub parted_images : (w : Option Wait) (new : Team) (m : ImageMemory) → (parted_memory w new m).images ≡ m.images
parted_images None new m = refl
parted_images (Some wait.Value) new m = refl
parted_images (Some wait.Written) new m = refl
parted_images (Some (wait.NewTeam o)) new m = refl

pub some_and : {A : Type 0} (o : Option A) (P : A → Type 0) → IsSomeAnd o P → (x : A) × (o ≡ Some x) × P x
some_and None P h = absurd h
some_and (Some x) P h = (x, refl, h)
