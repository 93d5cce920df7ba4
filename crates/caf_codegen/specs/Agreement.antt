-- When a task of a code does what a task over trees does.
use Rattle.std.specs.Prelude.{◌≡◌, ℕ, zero, suc, ◌⊎◌, [], Option, Some, None, ℤ, IsTrue}
use Rattle.caf_base.specs.After.{After}
use Rattle.caf_base.specs.ImageMemory.{ImageMemory}
use Rattle.caf_base.specs.declared.effect.Effect.{Effect}
use Rattle.caf_base.specs.declared.effect.Effect.TheVariants as effect
use Rattle.caf_base.specs.declared.effect.Need.TheVariants as need
use Rattle.caf_base.specs.declared.fence.FenceClear.{FenceClear}
use Rattle.caf_program.specs.declared.program.Program.{Program}
use Rattle.caf_treestep.specs.declared.task.Task.{Task as TreeTask}
use Rattle.caf_treestep.specs.declared.task.Wait.{Wait as TreeWait}
use Rattle.caf_treestep.specs.declared.task.Wait.TheVariants as awaited
use Rattle.caf_treestep.specs.Step.{step, past_finish, parted_task, answered as tree_answered}
use Rattle.caf_code.specs.Sound.{is_past_end}
use Rattle.caf_code.specs.Step.{answered, left, parted, runs}
use Rattle.caf_code.specs.Task.{Task}
use Rattle.caf_code.specs.declared.listing.Listing.{Listing}
use Rattle.caf_code.specs.declared.task.Wait.{Wait}
use Rattle.caf_code.specs.declared.task.Wait.TheVariants as wait

-- both tasks have passed the end of the program's own finish
pub record ArePastEnd (code : Listing) (t : TreeTask) (c : Task) : Type 0 where
  pub todo : t.frame.todo ≡ []
  pub below : t.below ≡ []
  pub awaited : t.wait ≡ None
  pub there : IsTrue (is_past_end code c)
  pub wait : c.wait ≡ None

-- Both tasks wait for the same, or for nothing, and this holds of them once the wait has ended alike: a blocking read
-- by any value, and a blocking write or a split for both.
abbrev pub EndAlike : (TreeTask → Task → Type 0) → Option TreeWait → Option Wait → TreeTask → Task → Type 0
EndAlike Holds None None t c = Holds t c
EndAlike Holds (Some awaited.Value) (Some wait.Value) t c = (z : ℤ) → Holds (tree_answered (Some z) t) (answered (Some z) c)
EndAlike Holds (Some awaited.Done) (Some wait.Written) t c = Holds (tree_answered None t) (answered None c)
EndAlike Holds (Some (awaited.NewTeam o)) (Some (wait.NewTeam q)) t c = (o ≡ q) × Holds (parted_task t) (parted c)
EndAlike Holds _ _ t c = ⊥

-- What holds of the tasks after two Steps with the same effect: nothing after a trap or the last Step of a shipped task.
-- At the end of a finish it holds of them as they stand, and once both have gone past it.
abbrev pub GoOnAlike : Listing → (TreeTask → Task → Type 0) → Effect → TreeTask → Task → Type 0
GoOnAlike code Holds (effect.Traps trap) t c = Unit {0}
GoOnAlike code Holds (effect.Ends event) t c = Unit {0}
GoOnAlike code Holds (effect.Blocks need.Finish) t c = EndAlike Holds t.wait c.wait t c × Holds (past_finish t) (left code c)
GoOnAlike code Holds e t c = EndAlike Holds t.wait c.wait t c

-- two Steps have equal effects and leave equal memories, and this holds of the tasks after them
pub record SameStep (code : Listing) (Holds : TreeTask → Task → Type 0) (x : After TreeTask) (y : After Task) : Type 0 where
  pub effect : x.effect ≡ y.effect
  pub memory : x.memory ≡ y.memory
  pub tasks : GoOnAlike code Holds x.effect x.task y.task

-- A task over the trees of a program and a task of a code do the same for so many Steps, over every memory of the
-- program's objects and whatever copies are open: always for none, and for every number past the end of the program.
abbrev pub Agree : Program → Listing → ℕ → TreeTask → Task → Type 0
Agree p code zero t c = Unit {0}
Agree p code (suc k) t c = ArePastEnd code t c ⊎ ((m : ImageMemory) (clear : FenceClear) → m.objects ≡ p.objects → SameStep code (Agree p code k) (step p.subs clear t m) (runs code clear c m))
