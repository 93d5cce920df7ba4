use Rattle.std.proofs.Common.{◌≡◌, map, take, None}
use Rattle.caf_base.specs.declared.object.Object.{Object}
use Rattle.caf_memory.proofs.start.first_copointers.Given as goal

abbrev pub invariant-loop-object : goal.invariant-loop-object
invariant-loop-object l = l.copointers.items ≡ map (λ (o : Object). None) (take l._object-index l.objects)
