use Rattle.std.proofs.Common.{◌≡◌, ◌++◌, flat_map, take}
use Rattle.caf_report.specs.Report.{line_text}
use Rattle.caf_report.proofs.print.push_lines_of.Given as goal

abbrev pub invariant-loop-line : goal.invariant-loop-line
invariant-loop-line l = l.text.items ≡ l.initial.text.items ++ flat_map (line_text l.image) (take l.line-index l.lines)
