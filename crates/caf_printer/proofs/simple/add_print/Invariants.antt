use Rattle.std.proofs.Common.{◌≡◌, ◌++◌, map, take}
use Rattle.caf_lexer.specs.declared.token.Sign.TheVariants as sign
use Rattle.caf_tree.specs.Said.{each_after, printed_said}
use Rattle.std.specs.Prelude.{◌∷◌}
use Rattle.caf_lexer.specs.declared.token.What.TheVariants as what
use Rattle.caf_lexer.specs.declared.token.Word.TheVariants as word
use Rattle.caf_printer.proofs.simple.add_print.Given as goal

-- what was there, and those so far
abbrev pub invariant-loop-item : goal.invariant-loop-item
invariant-loop-item l = l.line ≡ l.fn.line ++ what.Word word.Print ∷ what.Sign sign.Asterisk ∷ each_after sign.Comma printed_said (take l.item-index l.items)
