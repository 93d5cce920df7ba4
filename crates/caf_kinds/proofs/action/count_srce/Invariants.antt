use Rattle.std.proofs.Common.{◌≡◌, ◌≤◌, take}
use Rattle.std.specs.Prelude.{count_by}
use Rattle.caf_program.specs.Rules.{is_srce}
use Rattle.caf_kinds.proofs.action.count_srce.Given as goal

-- those so far
abbrev pub invariant-loop-event : goal.invariant-loop-event
invariant-loop-event l = (l.count ≡ count_by is_srce (take l.event-index l.events)) × (l.count ≤ l.event-index)
