-- The variables of a task, by its cells and its image's memory.
use Rattle.std.specs.Prelude.{List, ℤ}
use Rattle.caf_base.specs.ImageMemory.{ImageMemory}
use Rattle.caf_treestep.specs.Step.{Variables}

abbrev pub both : List ℤ → ImageMemory → Variables
both locals m = record { locals = locals; memory = m }
