-- Splits at which main tasks stand.
use Rattle.std.specs.Prelude.{ℕ, Option, Some, None}
use Rattle.caf_treestep.specs.declared.task.Wait.{Wait}
use Rattle.caf_treestep.specs.declared.task.Wait.TheVariants as awaited

-- the object that gets the new team, where a task waits for one
abbrev pub awaited_object : Option Wait → Option ℕ
awaited_object (Some (awaited.NewTeam object)) = Some object
awaited_object _ = None
