use Rattle.std.proofs.Common.{◌≡◌, ◌++◌, map, take}
use Rattle.caf_lexer.specs.declared.token.Sign.TheVariants as sign
use Rattle.caf_tree.specs.Said.{each_after, of_name}
use Rattle.caf_printer.proofs.declaration.add_other_names.Given as goal

-- what was there, and those so far
abbrev pub invariant-loop-name : goal.invariant-loop-name
invariant-loop-name l = l.line ≡ l.fn.line ++ each_after sign.Comma of_name (take l.name-index l.names)
