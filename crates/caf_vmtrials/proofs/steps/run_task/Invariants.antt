use Rattle.caf_code.specs.Sound.{IsSound}
use Rattle.caf_code.specs.Whole.{IsSettled}
use Rattle.caf_vmtrials.proofs.steps.run_task.Given as goal

-- the task goes on as one that the code can run
abbrev pub invariant-loop-step : goal.invariant-loop-step
invariant-loop-step o l = record {
  sound : IsSound l.code l.task l.memory;
  settled : IsSettled l.code l.task;
}
