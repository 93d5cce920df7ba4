use Rattle.std.proofs.Common.{◌≡◌, ◌+◌, ◌++◌, drop}
use Rattle.caf_exprgen.specs.ExprCode.{coded, chain_reads, coded_counts, coded_operands, joined, reads_code}
use Rattle.caf_exprgen.specs.Placed.{Begins}
use Rattle.caf_exprgen.proofs.ask.+reads_from.Given as goal

abbrev pub decreases-reads_from : goal.decreases-reads_from
decreases-reads_from l = goal.size-reads_from l

-- what is there, with the reads of what is left, are all reads
abbrev pub invariant-loop-operand : goal.invariant-loop-operand
invariant-loop-operand l = record {
  count : l.at + coded_counts (coded_operands (drop l.operand-index l.operand-items)) ≡ l.fn.at + (coded l.fn.e).count;
  code : l.out.items ++ joined (chain_reads (coded_operands (drop l.operand-index l.operand-items)) l.at) ≡ l.fn.out.items ++ joined (reads_code l.fn.e l.fn.at);
  begins : Begins l.fn.out.items l.out.items;
}
