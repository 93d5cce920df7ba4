use Rattle.std.proofs.Common.{◌≡◌, length}
use Rattle.caf_tree.specs.Statements.{no_two, same_way}
use Rattle.caf_simpleparse.proofs.parts.each_way_once.Given as goal

abbrev pub invariant-loop-fence : goal.invariant-loop-fence
invariant-loop-fence l = no_two same_way l.fn.fences ≡ no_two same_way l.left

abbrev pub decreases-loop-fence : goal.decreases-loop-fence
decreases-loop-fence l = length l.left
