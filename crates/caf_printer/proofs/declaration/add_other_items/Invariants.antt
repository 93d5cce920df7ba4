use Rattle.std.proofs.Common.{◌≡◌, ◌++◌, map, take}
use Rattle.caf_lexer.specs.declared.token.Sign.TheVariants as sign
use Rattle.caf_tree.specs.Said.{each_after, item_said}
use Rattle.caf_printer.proofs.declaration.add_other_items.Given as goal

-- what was there, and those so far
abbrev pub invariant-loop-item : goal.invariant-loop-item
invariant-loop-item l = l.line ≡ l.fn.line ++ each_after sign.Comma item_said (take l.item-index l.items)
