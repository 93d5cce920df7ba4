use Rattle.std.proofs.Common.{◌∙◌, ap, sym, List, Result, ℤ}
use Rattle.caf_base.specs.ImageMemory.{ImageMemory}
use Rattle.caf_base.specs.declared.effect.Effect.TheVariants as effect
use Rattle.caf_base.specs.declared.operation.EventAt.{EventAt}
use Rattle.caf_base.specs.declared.operation.OpSpec.TheVariants as begun
use Rattle.caf_base.specs.declared.trap.Trap.{Trap}
use Rattle.caf_code.specs.Did.{Did, found, stops}
use Rattle.caf_code.specs.Operations.{does_event}
use Rattle.caf_code.specs.Task.{Task}
use Rattle.caf_code.specs.declared.instr.EventUse.TheVariants as event
use Rattle.caf_vm.specs.Draft.{memory_in, task_in}
use Rattle.caf_vm.proofs.Outcome.{carried, same_memory, stops_on, trapped}
use Rattle.caf_vm.proofs.operations.notify.Goals as goal

-- the notice begins, or traps
abbrev begins : Task → ImageMemory → Result EventAt Trap → List ℤ → Did
begins t m tested rest = found tested m (λ e. stops (effect.Begins (begun.Notice e)) rest t m)

pub returns-in-Ok : goal.returns-in-Ok
returns-in-Ok c =
    let t : Task = task_in c.args.draft c.args.task.now in
    let u : Task = task_in c.event_at.new.draft c.args.task.now in
    let m : ImageMemory = memory_in c.args.draft c.args.memory.now in
    let v : ImageMemory = memory_in c.event_at.new.draft c.args.memory.now in
    let rest = u.frame.stack in
    let begun = effect.Begins (begun.Notice c.in-Ok.event) in
    let stop = stops_on begun t.frame.stack rest t u m v c.event_at.ensures.task (same_memory c.args.draft c.event_at.new.draft c.args.memory.now (sym c.event_at.ensures.writes)) in
    carried c.finish.result c.args.task.now c.finish.new.task c.args.memory.now c.finish.new.memory (does_event (event.Notify c.args.object c.args.place) t m) (stops begun rest u v) (c.event_at.ensures.pops (begins t m) ∙ ap (λ r. begins t m r rest) c.in-Ok.is ∙ stop) c.finish.ensures

pub returns-in-Err : goal.returns-in-Err
returns-in-Err c =
    let t : Task = task_in c.args.draft c.args.task.now in
    let u : Task = task_in c.event_at.new.draft c.args.task.now in
    let m : ImageMemory = memory_in c.args.draft c.args.memory.now in
    let left = c.trap.ensures.memory ∙ sym (same_memory c.args.draft c.event_at.new.draft c.args.memory.now (sym c.event_at.ensures.writes)) in
    trapped c.trap.result c.in-Err.cause c.args.task.now c.args.memory.now m c.trap.new.memory (does_event (event.Notify c.args.object c.args.place) t m) (c.event_at.ensures.pops (begins t m) ∙ ap (λ r. begins t m r u.frame.stack) c.in-Err.is) c.trap.ensures.effect left
