-- What a Step of a task leaves.
use Rattle.caf_base.specs.declared.effect.Effect.{Effect}
use Rattle.caf_base.specs.ImageMemory.{ImageMemory}

-- the effect of a Step, and the task and the image's memory after it
pub record After (T : Type 0) : Type 0 where
  pub effect : Effect
  pub task : T
  pub memory : ImageMemory
