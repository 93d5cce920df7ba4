use Rattle.std.proofs.Common.{◌≡◌, ◌-◌, length}
use Rattle.caf_base.specs.declared.fence.FenceClear.{FenceClear}
use Rattle.caf_code.specs.Step.{exec}
use Rattle.caf_vm.specs.Draft.{memory_in, task_in}
use Rattle.caf_vm.specs.Run.{InCode}
use Rattle.caf_vm.proofs.advance.advance.Given as goal

-- what is left of the Step is the whole of it
abbrev pub invariant-loop-step : goal.invariant-loop-step
invariant-loop-step l = record {
  same : (clear : FenceClear) → exec l.code clear (length l.code.instrs - l.step) (task_in l.draft l.task) (memory_in l.draft l.memory) ≡ exec l.code clear (length l.code.instrs) (task_in l.fn.draft l.fn.task) (memory_in l.fn.draft l.fn.memory);
  stands : InCode l.code (task_in l.draft l.task);
}
