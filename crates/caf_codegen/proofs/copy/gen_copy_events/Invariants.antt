use Rattle.std.proofs.Common.{◌≡◌, ◌++◌, drop}
use Rattle.caf_codegen.specs.StmtCode.{copy_events_code}
use Rattle.caf_codegen.proofs.copy.gen_copy_events.Given as goal

-- what is there, and then what is left, is the whole
abbrev pub invariant-loop-event : goal.invariant-loop-event
invariant-loop-event l = l.code.items ++ copy_events_code (drop l.event-index l.events) l.next ≡ l.fn.code.items ++ copy_events_code l.fn.events l.fn.held
