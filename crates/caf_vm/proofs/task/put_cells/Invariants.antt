use Rattle.std.proofs.Common.{◌≡◌, reverse, take}
use Rattle.caf_vm.specs.Draft.{cells_after}
use Rattle.caf_vm.proofs.task.put_cells.Given as goal

abbrev pub invariant-loop-write : goal.invariant-loop-write
invariant-loop-write l = l.cells.items ≡ cells_after (reverse (take l.write-index l.writes)) l.fn.cells.items
