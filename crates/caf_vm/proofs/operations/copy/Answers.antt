use Rattle.std.proofs.Common.{◌∙◌, ap, sym, Result}
use Rattle.caf_base.specs.ImageMemory.{ImageMemory}
use Rattle.caf_base.specs.Orders.{copy_order}
use Rattle.caf_base.specs.declared.effect.Effect.TheVariants as effect
use Rattle.caf_base.specs.declared.operation.CopyOrder.{CopyOrder}
use Rattle.caf_base.specs.declared.operation.OpSpec.TheVariants as begun
use Rattle.caf_base.specs.declared.trap.Trap.{Trap}
use Rattle.caf_code.specs.Did.{Did, found, stops}
use Rattle.caf_code.specs.Operations.{does_use}
use Rattle.caf_code.specs.Task.{Task}
use Rattle.caf_code.specs.declared.instr.SectionUse.TheVariants as purpose
use Rattle.caf_vm.specs.Draft.{memory_in, task_in}
use Rattle.caf_vm.proofs.Outcome.{carried, trapped}
use Rattle.caf_vm.proofs.operations.copy.Goals as goal

-- the copy begins, or traps
abbrev begins : Task → ImageMemory → Result CopyOrder Trap → Did
begins t m tested = found tested m (λ order. stops (effect.Begins (begun.Copy order)) t.frame.stack t m)

pub returns-in-Ok : goal.returns-in-Ok
returns-in-Ok c =
    let t : Task = task_in c.args.draft c.args.task.now in
    let m : ImageMemory = memory_in c.args.draft c.args.memory.now in
    let wanted = c.listed_copy-dest.ensures m (λ dest source events. begins t m (copy_order m dest source events)) in
    carried c.finish.result c.args.task.now c.finish.new.task c.args.memory.now c.finish.new.memory (does_use purpose.Copy t m) _ (wanted ∙ ap (begins t m) (sym c.copy_order.ensures ∙ c.in-Ok.is)) c.finish.ensures

pub returns-in-Err : goal.returns-in-Err
returns-in-Err c =
    let t : Task = task_in c.args.draft c.args.task.now in
    let m : ImageMemory = memory_in c.args.draft c.args.memory.now in
    let wanted = c.listed_copy-dest.ensures m (λ dest source events. begins t m (copy_order m dest source events)) in
    trapped c.trap.result c.in-Err.cause c.args.task.now c.args.memory.now m c.trap.new.memory (does_use purpose.Copy t m) (wanted ∙ ap (begins t m) (sym c.copy_order.ensures ∙ c.in-Err.is)) c.trap.ensures.effect c.trap.ensures.memory
