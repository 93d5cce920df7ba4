use Rattle.std.proofs.Common.{IfOk, ap, subst, sym, ◌∙◌}
use Rattle.caf_treestep.specs.Step.{unless_waiting}
use Rattle.caf_treestep.specs.Stood.{Leaves}
use Rattle.caf_treestep.proofs.Ending.{step_reads, step_unread}
use Rattle.caf_treestep.proofs.Stays.{placed, unread_fits}
use Rattle.caf_treestep.proofs.task_step.step_task.Goals as goal

pub returns-in-Some-2-clause-step : goal.returns-in-Some-2-clause-step
returns-in-Some-2-clause-step c =
    subst (λ a. Leaves c.step_read.result a c.step_read.new.task c.args.memory.now)
    (sym (ap (λ w. unless_waiting w c.args.subs.now c.args.clear c.args.task.now c.args.memory.now) c.in_default.is
    ∙ step_reads c.args.subs.now c.args.clear c.args.task.now.frame.todo c.args.task.now c.args.memory.now c.in-Some-2.read (sym c.in_ok-read.ensures.read ∙ c.in-Some-2.is)))
    (c.step_read.ensures c.args.memory.now)

pub returns-in-None-clause-memory : goal.returns-in-None-clause-memory
returns-in-None-clause-memory c =
    placed c.step_unread.result _ _ _ c.step_unread.ensures (unread_fits c.args.task.now.frame.todo c.args.subs.now c.args.clear c.args.task.now c.args.memory.now c.requires.memory)
