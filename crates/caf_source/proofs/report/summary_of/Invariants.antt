use Rattle.std.proofs.Common.{◌≡◌, ◌++◌, drop}
use Rattle.caf_source.proofs.report.summary_of.Given as goal

-- the lines so far, and then those left
abbrev pub invariant-loop-line : goal.invariant-loop-line
invariant-loop-line l = l.lines ++ drop l.line-index l.line-items ≡ l.line-items
