use Rattle.std.proofs.Common.{◌≡◌, take}
use Rattle.caf_journal.specs.Trace.{trace_text}
use Rattle.caf_journal.proofs.print.print_trace.Given as goal

abbrev pub invariant-loop-entry : goal.invariant-loop-entry
invariant-loop-entry l = l.text.items ≡ trace_text (take l.entry-index l.journal)
