use Rattle.std.proofs.Common.{◌≡◌, ◌++◌, drop}
use Rattle.caf_report.specs.Report.{lines_from}
use Rattle.caf_report.proofs.print.push_lines.Given as goal

abbrev pub invariant-loop-image : goal.invariant-loop-image
invariant-loop-image l = l.text.items ++ lines_from l.image (drop l.image l.images) ≡ l.initial.text.items ++ lines_from 0 l.images
