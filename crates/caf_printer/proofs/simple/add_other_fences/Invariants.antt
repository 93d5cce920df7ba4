use Rattle.std.proofs.Common.{◌≡◌, ◌++◌, map, take}
use Rattle.caf_lexer.specs.declared.token.Sign.TheVariants as sign
use Rattle.caf_tree.specs.Said.{each_after, fence_said}
use Rattle.caf_printer.proofs.simple.add_other_fences.Given as goal

-- what was there, and those so far
abbrev pub invariant-loop-fence : goal.invariant-loop-fence
invariant-loop-fence l = l.line ≡ l.fn.line ++ each_after sign.Comma fence_said (take l.fence-index l.fences)
