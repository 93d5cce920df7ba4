use Rattle.std.proofs.Common.{◌≡◌, ◌++◌, map, take}
use Rattle.caf_lexer.specs.declared.token.Sign.TheVariants as sign
use Rattle.caf_tree.specs.Said.{each_after, expression_said}
use Rattle.caf_printer.proofs.simple.add_others.Given as goal

-- what was there, and those so far
abbrev pub invariant-loop-other : goal.invariant-loop-other
invariant-loop-other l = l.line ≡ l.fn.line ++ each_after sign.Comma expression_said (take l.other-index l.others)
