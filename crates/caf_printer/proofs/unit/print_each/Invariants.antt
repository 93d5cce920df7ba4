use Rattle.std.proofs.Common.{◌≡◌, ◌++◌, map, take}
use Rattle.std.specs.List.{flat_map}
use Rattle.caf_printer.specs.Pieces.{sub_text}
use Rattle.caf_printer.proofs.unit.print_each.Given as goal

-- what was there, and the subroutines so far
abbrev pub invariant-loop-sub : goal.invariant-loop-sub
invariant-loop-sub l = l.text.items ≡ l.fn.text.items ++ flat_map sub_text (take l.sub-index l.subs)
