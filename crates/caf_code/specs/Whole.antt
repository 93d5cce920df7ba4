-- What the rules are for: a Step comes to its end, and no instruction of it lacks an operand.
use Rattle.std.specs.Prelude.{◌≡◌, ℕ, length, None, IsTrue, is_none, slice_get}
use Rattle.caf_base.specs.ImageMemory.{ImageMemory}
use Rattle.caf_base.specs.declared.fence.FenceClear.{FenceClear}
use Rattle.caf_code.specs.Did.{Did, Goes, Stops, Blocks, Fails, Lacks}
use Rattle.caf_code.specs.Sound.{IsSoundTask}
use Rattle.caf_code.specs.Step.{exec, go_of, settles}
use Rattle.caf_code.specs.Task.{Task}
use Rattle.caf_code.specs.declared.listing.Listing.{Listing}

-- the Step is over, and lacked nothing
abbrev pub IsWhole : Did → Type 0
IsWhole (Goes t m) = ⊥
IsWhole (Stops e t m) = Unit {0}
IsWhole (Blocks n) = Unit {0}
IsWhole (Fails trap m) = Unit {0}
IsWhole (Lacks m) = ⊥

-- no `go` stands at the task's address, as it is between Steps
abbrev pub IsSettled : Listing → Task → Type 0
IsSettled code t = IsTrue (is_none (go_of (slice_get code.instrs t.address)))

-- each Step of each task that the code can run is whole
abbrev pub LacksNothing : Listing → Type 0
LacksNothing code = (clear : FenceClear) (images : ℕ) (t : Task) (m : ImageMemory) → IsSoundTask code images t → t.wait ≡ None → IsSettled code t → IsWhole (exec code clear (length code.instrs) t m)

-- a task that has followed every `go` stands at none
abbrev pub ComesToRest : Listing → Type 0
ComesToRest code = (t : Task) → IsSettled code (settles code t)
