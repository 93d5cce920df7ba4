use Rattle.std.proofs.Common.{◌≡◌, ◌++◌, map, take}
use Rattle.std.specs.List.{flat_map}
use Rattle.caf_program.specs.Expressions.{of_copy_event}
use Rattle.caf_treestep.proofs.expressions.add_copy_events.Given as goal

-- the expressions of the events so far
abbrev pub invariant-loop-event : goal.invariant-loop-event
invariant-loop-event l = map (λ x. x.now) l.all.items ≡ map (λ x. x.now) l.fn.all.items ++ flat_map of_copy_event (take l.event-index l.events)
