-- What a task waits for.
use Rattle.std.specs.Prelude.{ℕ, zero, suc, ℤ, Bool, true, false, Option, Some, None, Result, Ok, Err}
use Rattle.caf_base.specs.ImageMemory.{ImageMemory}
use Rattle.caf_base.specs.declared.effect.Need.TheVariants as need
use Rattle.caf_base.specs.declared.trap.Trap.{Trap}
use Rattle.caf_memory.specs.Bounds.{posts_of}
use Rattle.caf_base.specs.declared.effect.Need.{Need}
use Rattle.caf_code.specs.Did.{Did, Blocks, Stops}
use Rattle.caf_code.specs.Step.{need_in}
use Rattle.caf_code.specs.declared.instr.EventUse.TheVariants as event
use Rattle.caf_code.specs.declared.instr.Instr.{Instr}
use Rattle.caf_code.specs.declared.instr.Instr.TheVariants as instr

-- whether a task may stay at an instruction
abbrev pub may_block : Instr → Bool
may_block (instr.Event (event.Wait o)) = true
may_block (instr.Cofence d) = true
may_block instr.Close = true
may_block instr.Halt = true
may_block _ = false

-- what the task waits for, if it can't go on
abbrev pub need_of_did : Did → Option Need
need_of_did (Stops e t m) = need_in e
need_of_did (Blocks n) = Some n
need_of_did _ = None

-- what a `wait` of an event needs: a post, if the event is there and has none
abbrev pub need_of_posts : ℕ → ℕ → ℤ → Option Need
need_of_posts zero object index = Some (need.Event object index)
need_of_posts (suc n) object index = None

abbrev pub posts_needed : Result ℕ Trap → ℕ → ℤ → Option Need
posts_needed (Ok n) object index = need_of_posts n object index
posts_needed (Err trap) object index = None

abbrev pub need_of_wait : ImageMemory → ℕ → ℤ → Option Need
need_of_wait m object index = posts_needed (posts_of m object index) object index
