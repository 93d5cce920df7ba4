use Rattle.std.proofs.Common.{◌≡◌, ◌≤◌, take}
use Rattle.std.specs.Prelude.{count_by}
use Rattle.caf_program.specs.Rules.{is_pre}
use Rattle.caf_kinds.proofs.action.count_pre.Given as goal

-- those so far
abbrev pub invariant-loop-event : goal.invariant-loop-event
invariant-loop-event l = (l.count ≡ count_by is_pre (take l.event-index l.events)) × (l.count ≤ l.event-index)
