use Rattle.std.proofs.Common.{◌≡◌, ◌+◌, ◌≤◌, length, drop}
use Rattle.caf_program.specs.Value.{chain_reads, count, counts, operands, reads_at}
use Rattle.caf_program.specs.View.{seen}
use Rattle.caf_treestep.specs.Reading.{next_read}
use Rattle.caf_treestep.proofs.reading.+read_from.Given as goal

abbrev pub decreases-read_from : goal.decreases-read_from
decreases-read_from l = goal.size-read_from l

-- what is read next of the operands that are left is what the expression reads next
abbrev pub invariant-loop-operand : goal.invariant-loop-operand
invariant-loop-operand l = record {
  count : l.at + counts (operands (drop l.operand-index l.operand-items)) ≡ l.fn.at + count l.fn.e;
  held : l.at ≤ length l.view.held.now;
  read : next_read (chain_reads (operands (drop l.operand-index l.operand-items)) l.at) l.at (seen l.view) l.memory ≡ next_read (reads_at l.fn.e l.fn.at) l.fn.at (seen l.fn.view) l.fn.memory;
}
