use Rattle.std.proofs.Common.{◌≡◌, ◌+◌, drop, sum_by}
use Rattle.caf_program.specs.View.{seen}
use Rattle.caf_treestep.specs.Evaluated.{copy_events_from, held_by_copy_event, no_events}
use Rattle.caf_treestep.proofs.wanted.copy_events.Given as goal

-- what is found, and then what is left
abbrev pub invariant-loop-event : goal.invariant-loop-event
invariant-loop-event l = record {
  held : l.at + sum_by held_by_copy_event (drop l.event-index l.named) ≡ l.fn.at + sum_by held_by_copy_event l.named;
  found : copy_events_from (drop l.event-index l.named) l.at (seen l.view) l.events ≡ copy_events_from l.named l.fn.at (seen l.view) no_events;
}
