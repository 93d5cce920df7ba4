use Rattle.std.proofs.Common.{◌≡◌, map}
use Rattle.caf_base.specs.Places.{below}
use Rattle.caf_base.specs.Start.{start_memory}
use Rattle.caf_source.specs.State.{start_image}
use Rattle.caf_source.proofs.machine.State.new.Given as goal

-- the images so far
abbrev pub invariant-loop-image : goal.invariant-loop-image
invariant-loop-image l = l.all.items ≡ map (λ image. start_image l.a (start_memory l.a.objects l.images image)) (below l.image)
