use Rattle.std.proofs.Common.{◌≡◌, ◌++◌, map, take}
use Rattle.caf_lexer.specs.declared.token.Sign.TheVariants as sign
use Rattle.caf_tree.specs.Said.{each_after, pointer_said}
use Rattle.caf_printer.proofs.declaration.add_other_pointers.Given as goal

-- what was there, and those so far
abbrev pub invariant-loop-name : goal.invariant-loop-name
invariant-loop-name l = l.line ≡ l.fn.line ++ each_after sign.Comma pointer_said (take l.name-index l.names)
