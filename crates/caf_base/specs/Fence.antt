-- What a `cofence` waits for.
use Rattle.std.specs.Prelude.{Bool, true, ◌&&◌}
use Rattle.caf_base.specs.declared.fence.Down.{Down}
use Rattle.caf_base.specs.declared.fence.Down.TheVariants as down
use Rattle.caf_base.specs.declared.fence.FenceClear.{FenceClear}

-- whether a fence lets the task pass: its class lets reads, writes or both stay open
abbrev pub passes : Down → FenceClear → Bool
passes down.Nothing c = c.reads && c.writes
passes down.Read c = c.writes
passes down.Write c = c.reads
passes down.Any c = true
