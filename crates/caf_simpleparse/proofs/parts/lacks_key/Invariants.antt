use Rattle.std.proofs.Common.{◌≡◌, length}
use Rattle.caf_tree.specs.Statements.{none_of, same_key}
use Rattle.caf_simpleparse.proofs.parts.lacks_key.Given as goal

abbrev pub invariant-loop-other : goal.invariant-loop-other
invariant-loop-other l = none_of (same_key l.key) l.fn.others ≡ none_of (same_key l.key) l.left

abbrev pub decreases-loop-other : goal.decreases-loop-other
decreases-loop-other l = length l.left
