-- How a Step leaves its task and memory, before every `go` is followed.
use Rattle.caf_base.specs.After.{After}
use Rattle.caf_base.specs.ImageMemory.{ImageMemory}
use Rattle.caf_base.specs.declared.effect.Effect.{Effect}
use Rattle.caf_base.specs.declared.effect.Effect.TheVariants as effect
use Rattle.caf_base.specs.declared.trap.Trap.TheVariants as trap
use Rattle.caf_code.specs.Did.{Did, Goes, Stops, Blocks, Fails, Lacks}
use Rattle.caf_code.specs.Task.{Task}

abbrev pub after_of : Effect → Task → ImageMemory → After Task
after_of e t m = record { effect = e; task = t; memory = m }

-- a Step that began with this task and this memory; a trap leaves the task as it was
abbrev pub left_by : Did → Task → ImageMemory → After Task
left_by (Stops e u v) t m = after_of e u v
left_by (Blocks n) t m = after_of (effect.Blocks n) t m
left_by (Fails x v) t m = after_of (effect.Traps x) t v
left_by (Goes u v) t m = after_of (effect.Traps trap.Index) t v
left_by (Lacks v) t m = after_of (effect.Traps trap.Index) t v
