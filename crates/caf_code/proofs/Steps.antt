-- Each Step of a task that a code can run comes to its end, and lacks nothing on the way.
use Rattle.std.proofs.Common.{ap, List, ◌≡◌, ℕ, zero, suc, ◌<◌, ◌⊎◌, inl, inr, Bool, true, false, length, Option, Some, None, refl, sym, subst, arith}
use Rattle.std.specs.Prelude.{is_none, slice_get}
use Rattle.std.proofs.lemmas.Option.{slice_get_cases}
use Rattle.caf_base.specs.ImageMemory.{ImageMemory}
use Rattle.caf_base.specs.declared.fence.FenceClear.{FenceClear}
use Rattle.caf_code.specs.Did.{Did, Goes, Stops, Blocks, Fails, Lacks}
use Rattle.caf_code.specs.Rules.{AreShapes, KeepsRules, Shapes, goes_on, is_marked, is_steady, meets_at, meets_mark, way_on}
use Rattle.caf_code.specs.Shapes.{Part}
use Rattle.caf_code.specs.Sound.{IsFrame, StandsIn, shape_of}
use Rattle.caf_code.specs.Step.{does, does_at, exec, followed, go_of, settled, then_run}
use Rattle.caf_code.specs.Task.{Task}
use Rattle.caf_code.specs.Whole.{ComesToRest, IsWhole, LacksNothing}
use Rattle.caf_code.specs.declared.instr.Instr.{Instr}
use Rattle.caf_code.specs.declared.instr.Instr.TheVariants as instr
use Rattle.caf_code.specs.declared.listing.Listing.{Listing}
use Rattle.caf_code.proofs.Rows.{Mid, Onward, Over, row}
use Rattle.caf_code.proofs.Whole.{Fine}

-- what comes after an instruction, where the way from there meets a mark
then_whole : (code : Listing) (shapes : Shapes) (images : ℕ) (p : Part) (marked : Bool) (next : Option ℕ) (test : ℕ → Bool) (d : Did) (go : Task → ImageMemory → Did)
    → Fine (Onward code shapes images p next) (Over code shapes images) d → way_on marked next test ≡ true → ((t : Task) (m : ImageMemory) → Mid code shapes images p t → test t.address ≡ true → IsWhole (go t m)) → IsWhole (then_run d go)
then_whole code shapes images p marked next test (Goes t m) go fine steady whole = whole t m fine.0 (subst (λ x. way_on marked x test ≡ true) fine.1 steady)
then_whole code shapes images p marked next test (Stops e t m) go fine steady whole = tt
then_whole code shapes images p marked next test (Blocks n) go fine steady whole = tt
then_whole code shapes images p marked next test (Fails trap m) go fine steady whole = tt
then_whole code shapes images p marked next test (Lacks m) go fine steady whole = absurd fine

-- an instruction at an address of the code
pub row_at : (code : Listing) (keeps : KeepsRules code) (shapes : Shapes) (shaped : AreShapes code shapes) (clear : FenceClear) (images : ℕ) (p : Part) (t : Task) (m : ImageMemory) (mid : Mid code shapes images p t) (i : Instr)
    → slice_get code.instrs t.address ≡ Some i → Fine (Onward code shapes images p (goes_on t.address i)) (Over code shapes images) (does code clear i t m)
row_at code keeps shapes shaped clear images p t m mid i at =
    row code clear shapes shaped images p i t m mid (keeps.instrs t.address i at).operands at (shaped.leading p t.address (shape_of None mid.frame.finishes t.frame) i mid.frame.stands at)

-- the instruction at hand, and those after it
at_whole : (code : Listing) (keeps : KeepsRules code) (shapes : Shapes) (shaped : AreShapes code shapes) (clear : FenceClear) (images : ℕ) (p : Part) (n : ℕ)
    (after : (t : Task) (m : ImageMemory) → Mid code shapes images p t → meets_mark code.instrs n t.address ≡ true → IsWhole (exec code clear n t m))
    (t : Task) (m : ImageMemory) (o : Option Instr) → slice_get code.instrs t.address ≡ o → Mid code shapes images p t → meets_at t.address o (meets_mark code.instrs n) ≡ true → IsWhole (then_run (does_at code clear o t m) (exec code clear n))
at_whole code keeps shapes shaped clear images p n after t m None at mid steady = let e : false ≡ true = steady in absurd (cc)
at_whole code keeps shapes shaped clear images p n after t m (Some i) at mid steady =
    then_whole code shapes images p (is_marked i) (goes_on t.address i) (meets_mark code.instrs n) (does code clear i t m) (exec code clear n)
    (row_at code keeps shapes shaped clear images p t m mid i at) steady after

exec_whole : (code : Listing) (keeps : KeepsRules code) (shapes : Shapes) (shaped : AreShapes code shapes) (clear : FenceClear) (images : ℕ) (p : Part) (n : ℕ) (t : Task) (m : ImageMemory)
    → Mid code shapes images p t → meets_mark code.instrs n t.address ≡ true → IsWhole (exec code clear n t m)
exec_whole code keeps shapes shaped clear images p zero t m mid steady = let e : false ≡ true = steady in absurd (cc)
exec_whole code keeps shapes shaped clear images p (suc n) t m mid steady =
    at_whole code keeps shapes shaped clear images p n (exec_whole code keeps shapes shaped clear images p n) t m (slice_get code.instrs t.address) refl mid steady

-- where a task stands between Steps: the way meets a mark, or the end of a finish or of the program is there
starts : (code : Listing) (clear : FenceClear) (a : ℕ) (i : Instr) → is_none (go_of (Some i)) ≡ true → is_steady code a i ≡ true
    → (meets_mark code.instrs (length code.instrs) a ≡ true) ⊎ ((n : ℕ) (t : Task) (m : ImageMemory) → IsWhole (then_run (does code clear i t m) (exec code clear n)))
starts code clear a (instr.Go b) settled steady = let e : false ≡ true = settled in absurd (cc)
starts code clear a instr.Close settled steady = inr (λ n t m. tt)
starts code clear a instr.Halt settled steady = inr (λ n t m. tt)
starts code clear a _ settled steady = inl steady

first_whole : (code : Listing) (clear : FenceClear) (n : ℕ) (t : Task) (m : ImageMemory) (i : Instr) → t.address < n → slice_get code.instrs t.address ≡ Some i
    → ((n : ℕ) (t : Task) (m : ImageMemory) → IsWhole (then_run (does code clear i t m) (exec code clear n))) → IsWhole (exec code clear n t m)
first_whole code clear zero t m i below at whole = absurd (omega (arith, below))
first_whole code clear (suc n) t m i below at whole = subst (λ o. IsWhole (then_run (does_at code clear o t m) (exec code clear n))) (sym at) (whole n t m)

chosen : {A B X : Type 0} → A ⊎ B → (A → X) → (B → X) → X
chosen (inl a) f g = f a
chosen (inr b) f g = g b

-- a task between Steps that waits for nothing
pub free_mid : (code : Listing) (shapes : Shapes) (images : ℕ) (t : Task) (stands : StandsIn code shapes images t) → t.wait ≡ None → Mid code shapes images stands.part t
free_mid code shapes images t stands free = record {
  frame = subst (λ w. IsFrame code shapes stands.part t.address w t.frame) free stands.frame;
  calls = stands.calls;
  wait = free;
  done = stands.done;
}

pub lacks_nothing : (code : Listing) → KeepsRules code → LacksNothing code
lacks_nothing code keeps clear images t m sound free settled =
    let p = sound.stands.part in
    let mid : Mid code sound.shapes images p t = free_mid code sound.shapes images t sound.stands free in
    let below : t.address < length code.instrs = sound.shaped.inside p t.address (shape_of None mid.frame.finishes t.frame) mid.frame.stands in
    chosen ((slice_get_cases code.instrs t.address).1)
    (λ there. let i = there.0 in
    chosen (starts code clear t.address i (subst (λ o. is_none (go_of o) ≡ true) there.2 settled) (keeps.instrs t.address i there.2).steady)
    (λ steady. exec_whole code keeps sound.shapes sound.shaped clear images p (length code.instrs) t m mid steady)
    (λ whole. first_whole code clear (length code.instrs) t m i below there.2 whole))
    (λ past. absurd (omega (arith, below, past.0)))

-- no instruction, no `go`
stays_none : (instrs : List Instr) (n a : ℕ) → slice_get instrs a ≡ None → settled instrs n a ≡ a
stays_none instrs zero a none = refl
stays_none instrs (suc n) a none = ap (λ o. followed (go_of o) a (settled instrs n)) none

rests_at : (code : Listing) → KeepsRules code → (a : ℕ) (o : Option Instr) → slice_get code.instrs a ≡ o → is_none (go_of (slice_get code.instrs (settled code.instrs (length code.instrs) a))) ≡ true
rests_at code keeps a (Some i) at = (keeps.instrs a i at).rests
rests_at code keeps a None at =
    subst (λ b. is_none (go_of (slice_get code.instrs b)) ≡ true) (sym (stays_none code.instrs (length code.instrs) a at)) (subst (λ o. is_none (go_of o) ≡ true) (sym at) refl)

pub comes_to_rest_after : (code : Listing) → KeepsRules code → ComesToRest code
comes_to_rest_after code keeps t = rests_at code keeps t.address (slice_get code.instrs t.address) refl
