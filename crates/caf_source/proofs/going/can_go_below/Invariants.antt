use Rattle.std.proofs.Common.{◌≡◌, false}
use Rattle.std.specs.List.{list_any}
use Rattle.caf_base.specs.Places.{below}
use Rattle.caf_source.specs.Ending.{can_go_at}
use Rattle.caf_source.specs.Stepping.{of_images}
use Rattle.caf_source.proofs.going.can_go_below.Given as goal

-- no choice of the images so far
abbrev pub invariant-loop-image : goal.invariant-loop-image
invariant-loop-image l = list_any (can_go_at (of_images l.images l.pending)) (below l.image) ≡ false
