use Rattle.std.proofs.Common.{◌≡◌, ◌++◌, length}
use Rattle.caf_journal.specs.Trace.{trace_text, HasTrace}
use Rattle.caf_journal.proofs.read.read_lines.Given as goal

abbrev pub invariant-loop-rest : goal.invariant-loop-rest
invariant-loop-rest l = record { lines : HasTrace l.journal.items; text : l.bytes ≡ trace_text l.journal.items ++ l.rest }

abbrev pub decreases-loop-rest : goal.decreases-loop-rest
decreases-loop-rest l = length l.rest
