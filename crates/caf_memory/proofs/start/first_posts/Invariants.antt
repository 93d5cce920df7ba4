use Rattle.std.proofs.Common.{◌≡◌, map, take}
use Rattle.caf_base.specs.Start.{start_posts}
use Rattle.caf_base.specs.declared.object.Object.{Object}
use Rattle.caf_memory.proofs.start.first_posts.Given as goal

abbrev pub invariant-loop-object : goal.invariant-loop-object
invariant-loop-object l = l.posts.items ≡ map (λ (o : Object). start_posts o.kind o.extent) (take l.object-index l.objects)
