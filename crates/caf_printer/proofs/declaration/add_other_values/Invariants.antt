use Rattle.std.proofs.Common.{◌≡◌, ◌++◌, map, take}
use Rattle.caf_lexer.specs.declared.token.Sign.TheVariants as sign
use Rattle.caf_tree.specs.Said.{each_after, value_said}
use Rattle.caf_printer.proofs.declaration.add_other_values.Given as goal

-- what was there, and those so far
abbrev pub invariant-loop-name : goal.invariant-loop-name
invariant-loop-name l = l.line ≡ l.fn.line ++ each_after sign.Comma value_said (take l.name-index l.values)
