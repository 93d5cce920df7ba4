use Rattle.std.proofs.Common.{◌≡◌}
use Rattle.caf_base.specs.Places.{below}
use Rattle.caf_treestep.proofs.waits.numbers.Given as goal

abbrev pub invariant-loop-image : goal.invariant-loop-image
invariant-loop-image l = l.members ≡ below l.image
