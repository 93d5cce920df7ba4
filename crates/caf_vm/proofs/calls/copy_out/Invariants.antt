use Rattle.std.proofs.Common.{◌≡◌, drop, reverse}
use Rattle.caf_base.specs.ImageMemory.{ImageMemory}
use Rattle.caf_code.specs.Calls.{copies_out}
use Rattle.caf_code.specs.Did.{Did}
use Rattle.caf_code.specs.Task.{Frame}
use Rattle.caf_vm.specs.Calls.{with_cells}
use Rattle.caf_vm.specs.Draft.{memory_in, task_in}
use Rattle.caf_vm.proofs.calls.copy_out.Given as goal

-- what is left to copy out, behind what is written so far
abbrev pub invariant-loop-out : goal.invariant-loop-out
invariant-loop-out l = record {
  left : (f : Frame) (go : Frame → ImageMemory → Did) → copies_out (drop l.out-index l.outs) (task_in l.fn.draft l.task).frame.cells (with_cells (reverse l.writes.items) f) (memory_in l.draft l.memory) go ≡ copies_out l.outs (task_in l.fn.draft l.task).frame.cells f (memory_in l.fn.draft l.memory) go;
  task : task_in l.draft l.task ≡ task_in l.fn.draft l.task;
}
