-- What parts of a Step leave, for the contracts of their calls.
use Rattle.std.specs.Prelude.{◌≡◌, ℕ, ℤ, zero, suc, ◌∷◌, Bool, true, false, List, Result, IfOk}
use Rattle.caf_base.specs.After.{After}
use Rattle.caf_base.specs.declared.effect.Effect.{Effect}
use Rattle.caf_base.specs.declared.effect.Effect.TheVariants as effect
use Rattle.caf_base.specs.declared.fence.FenceClear.{FenceClear}
use Rattle.caf_base.specs.declared.memory.Memory.{Memory}
use Rattle.caf_base.specs.declared.trap.Trap.{Trap}
use Rattle.caf_base.specs.ImageMemory.{ImageMemory}
use Rattle.caf_base.specs.Places.{with_posts}
use Rattle.caf_program.specs.declared.program.SubR.{SubR}
use Rattle.caf_program.specs.declared.stmt.StmtR.{StmtR}
use Rattle.caf_program.specs.declared.stmt.StmtR.TheOpen.{StmtR-F}
use Rattle.caf_program.specs.declared.stmt.StmtR.TheViews.{roll-StmtR}
use Rattle.caf_treestep.specs.declared.task.Task.{Task}
use Rattle.caf_treestep.specs.declared.todo.Todo.{Todo}
use Rattle.caf_treestep.specs.declared.todo.Todo.TheVariants as item
use Rattle.caf_treestep.specs.Step.{does_last, standing}

-- the Step leaves this effect, task and memory
abbrev pub Leaves : Effect → After Task → Task → ImageMemory → Type 0
Leaves e a t m = a ≡ record { effect = e; task = t; memory = m }

-- the last Step of a statement that was taken off the list, unless memory is wanting: what the task and the memory
-- were, the answer, and what they are then
abbrev pub IsLastStep : StmtR-F StmtR → Task → ImageMemory → Result Effect Memory → Task → ImageMemory → Type 0
IsLastStep s t m r u n = (subs : List SubR) (clear : FenceClear) → IfOk r (λ e. Leaves e (does_last subs clear s (standing (item.Does (roll-StmtR s)) t m)) u n)

-- a trap, with what traps to do again
pub record PutBack (e : Effect) (trap : Trap) (next : Todo) (before : Task) (after : Task) : Type 0 where
  pub effect : e ≡ effect.Traps trap
  pub task : after ≡ record before { frame = record before.frame { todo = next ∷ before.frame.todo } }

-- whether a post of an event of the image was taken, where it had so many: else nothing changes
abbrev pub IsPostTaken : Bool → ℕ → ℕ → ℤ → ImageMemory → ImageMemory → Type 0
IsPostTaken taken zero object index before after = (taken ≡ false) × (after ≡ before)
IsPostTaken taken (suc posts) object index before after = (taken ≡ true) × (after ≡ with_posts before object index posts)
