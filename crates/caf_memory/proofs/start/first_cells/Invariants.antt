use Rattle.std.proofs.Common.{◌≡◌, map, take}
use Rattle.caf_base.specs.Start.{start_cells}
use Rattle.caf_base.specs.declared.object.Object.{Object}
use Rattle.caf_memory.proofs.start.first_cells.Given as goal

abbrev pub invariant-loop-object : goal.invariant-loop-object
invariant-loop-object l = l.cells.items ≡ map (λ (o : Object). start_cells o.kind o.extent) (take l.object-index l.objects)
