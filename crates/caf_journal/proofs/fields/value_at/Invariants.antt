use Rattle.std.proofs.Common.{◌≡◌, map, length}
use Rattle.caf_journal.specs.Reading.{value_at}
use Rattle.caf_journal.proofs.fields.value_at.Given as goal

abbrev pub invariant-loop-table : goal.invariant-loop-table
invariant-loop-table g l = value_at (map (λ line. (line.0.now, line.1)) l.table) l.word ≡ value_at (map (λ line. (line.0.now, line.1)) l.initial.table) l.word

abbrev pub decreases-loop-table : goal.decreases-loop-table
decreases-loop-table g l = length l.table
