use Rattle.std.proofs.Common.{◌≡◌, ◌++◌, map, take}
use Rattle.caf_lexer.specs.declared.token.Sign.TheVariants as sign
use Rattle.caf_tree.specs.Said.{each_after, key_said}
use Rattle.caf_printer.proofs.simple.add_keys.Given as goal

-- what was there, and those so far
abbrev pub invariant-loop-key : goal.invariant-loop-key
invariant-loop-key l = l.line ≡ l.fn.line ++ each_after sign.Comma key_said (take l.key-index l.keys)
