-- What keeps a task one that the code can run.
use Rattle.std.specs.Prelude.{◌≡◌, ◌<◌, ℕ, Bool, true, false, List, length, Option, Some, ℤ, IsTrue, is_some, slice_get}
use Rattle.caf_base.specs.ImageMemory.{ImageMemory}
use Rattle.caf_base.specs.Start.{start_memory}
use Rattle.caf_base.specs.declared.effect.Effect.{Effect}
use Rattle.caf_base.specs.declared.effect.Effect.TheVariants as effect
use Rattle.caf_base.specs.declared.fence.FenceClear.{FenceClear}
use Rattle.caf_base.specs.declared.operation.EventAt.{EventAt}
use Rattle.caf_base.specs.declared.team.Team.{Team}
use Rattle.caf_code.specs.Sound.{IsSound, IsSoundMemory, IsSoundTask, IsSoundTeam, awaits_operation, awaits_team, awaits_value, is_carried, stands_at_end}
use Rattle.caf_code.specs.Step.{answered, left, main_task, parted, parted_memory, runs, shipped_task}
use Rattle.caf_code.specs.Task.{Task}
use Rattle.caf_code.specs.declared.listing.Listing.{Listing}
use Rattle.caf_code.specs.declared.listing.SubCode.{SubCode}

-- this, unless the task has ended or its image has trapped
abbrev pub KeepsTask : Effect → Type 0 → Type 0
KeepsTask (effect.Ends event) X = Unit {0}
KeepsTask (effect.Traps trap) X = Unit {0}
KeepsTask _ X = X

-- an effect behind which a task is over
abbrev pub ends_run : Effect → Bool
ends_run (effect.Ends event) = true
ends_run (effect.Traps trap) = true
ends_run _ = false

-- the tasks of a code begin as ones that it can run, and stay so, and so does the memory
pub record KeepsSound (code : Listing) : Type 0 where
  pub main : (images : ℕ) → IsSoundTask code images (main_task code)
  -- with an argument for each dummy, and an event of the code at an image of the run, if there is one
  pub shipped : (images f : ℕ) (sub : SubCode) (arguments : List ℤ) (event : Option EventAt) → slice_get code.subs f ≡ Some sub → length arguments ≡ length sub.dummies → IsTrue (is_carried code images event)
      → IsSoundTask code images (shipped_task code sub arguments event)
  -- a Step
  pub ran : (clear : FenceClear) (images : ℕ) (t : Task) (m : ImageMemory) → IsSoundTask code images t → KeepsTask (runs code clear t m).effect (IsSoundTask code images (runs code clear t m).task)
  -- the end of a blocking operation, with a value exactly where it is a read
  pub answers : (images : ℕ) (t : Task) (value : Option ℤ) → IsSoundTask code images t → IsTrue (awaits_operation t.wait) → is_some value ≡ awaits_value t.wait → IsSoundTask code images (answered value t)
  -- going past the end of a finish
  pub leaves : (images : ℕ) (t : Task) → IsSoundTask code images t → IsTrue (stands_at_end code t) → IsSoundTask code images (left code t)
  -- the new team of a split
  pub parts : (images : ℕ) (t : Task) → IsSoundTask code images t → IsTrue (awaits_team t.wait) → IsSoundTask code images (parted t)
  -- the memory with which an image begins, that after a Step, and that with the new team of a split
  pub begins : (images image : ℕ) → image < images → IsSoundMemory code (start_memory code.objects images image)
  pub memory : (clear : FenceClear) (t : Task) (m : ImageMemory) → IsSound code t m → IsSoundMemory code (runs code clear t m).memory
  -- a Step leaves the memory the same image's, among as many
  pub image : (clear : FenceClear) (t : Task) (m : ImageMemory) → IsSound code t m → (runs code clear t m).memory.image ≡ m.image
  pub images : (clear : FenceClear) (t : Task) (m : ImageMemory) → IsSound code t m → (runs code clear t m).memory.images ≡ m.images
  pub team : (t : Task) (m : ImageMemory) (new : Team) → IsSound code t m → IsSoundTeam m.image m.images new → IsSoundMemory code (parted_memory t.wait new m)
