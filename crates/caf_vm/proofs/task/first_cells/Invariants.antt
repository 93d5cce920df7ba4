use Rattle.std.proofs.Common.{◌≡◌, ◌++◌, replicate, pos}
use Rattle.caf_vm.proofs.task.first_cells.Given as goal

abbrev pub invariant-loop-local : goal.invariant-loop-local
invariant-loop-local l = l.cells.items ≡ l.args ++ replicate l._local (pos 0)
