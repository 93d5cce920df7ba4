use Rattle.std.proofs.Common.{◌≡◌, ◌++◌, drop, map}
use Rattle.caf_source.specs.Run.{summary_of}
use Rattle.caf_source.proofs.machine.State.summary.Given as goal

-- what is told of the images so far, and then of those left
abbrev pub invariant-loop-image : goal.invariant-loop-image
invariant-loop-image l = l.images ++ map summary_of (drop l.image-index l.image-items) ≡ map summary_of l.image-items
