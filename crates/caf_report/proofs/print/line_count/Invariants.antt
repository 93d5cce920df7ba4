use Rattle.std.proofs.Common.{◌≡◌, length, sum_by, take}
use Rattle.caf_report.proofs.print.line_count.Given as goal

abbrev pub invariant-loop-one : goal.invariant-loop-one
invariant-loop-one l = l.count ≡ sum_by (λ one. length one.lines) (take l.one-index l.images)
