use Rattle.std.proofs.Common.{◌≡◌, ◌++◌, drop}
use Rattle.std.specs.List.{flat_map}
use Rattle.caf_program.specs.Expressions.{of_copy_event}
use Rattle.caf_codegen.specs.StmtCode.{asked}
use Rattle.caf_codegen.proofs.ask.ask_copy_events.Given as goal

-- what is there, with the reads of what is left, are all reads
abbrev pub invariant-loop-event : goal.invariant-loop-event
invariant-loop-event l = record {
  code : l.code.items ++ asked (flat_map of_copy_event (drop l.event-index l.events)) l.next ≡ l.fn.code.items ++ asked (flat_map of_copy_event l.fn.events) l.fn.held;
}
