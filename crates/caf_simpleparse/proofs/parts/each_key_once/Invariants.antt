use Rattle.std.proofs.Common.{◌≡◌, length}
use Rattle.caf_tree.specs.Statements.{no_two, same_key}
use Rattle.caf_simpleparse.proofs.parts.each_key_once.Given as goal

abbrev pub invariant-loop-key : goal.invariant-loop-key
invariant-loop-key l = no_two same_key l.fn.keys ≡ no_two same_key l.left

abbrev pub decreases-loop-key : goal.decreases-loop-key
decreases-loop-key l = length l.left
