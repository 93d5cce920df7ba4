use Rattle.std.proofs.Common.{◌≡◌, ◌++◌, map, take}
use Rattle.caf_tree.specs.Text.{doubled}
use Rattle.caf_printer.proofs.piece.push_doubled.Given as goal

abbrev pub invariant-loop-b : goal.invariant-loop-b
invariant-loop-b l = l.text.items ≡ l.fn.text.items ++ doubled l.quote (take l.b-index l.content)
