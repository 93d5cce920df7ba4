use Rattle.std.proofs.Common.{IfOk, ◌∷◌, length, subst, sym}
use Rattle.caf_treestep.specs.Reading.{unread_first}
use Rattle.caf_treestep.specs.Stood.{Leaves}
use Rattle.caf_treestep.proofs.Ending.{unread_is}
use Rattle.caf_treestep.proofs.task_step.step_unread.Goals as goal

pub returns : goal.returns
returns c =
    subst (λ a. IfOk c.step_next.result (λ e. Leaves e a c.step_next.new.task c.step_next.new.memory))
    (sym (unread_is c.args.subs.now c.args.clear c.args.task.now c.args.memory.now c.in-Some.next c.pop.new.self c.in-Some.ensures)) c.step_next.ensures
