use Rattle.std.proofs.Common.{true, sym, ◌∙◌}
use Rattle.caf_base.specs.ImageMemory.{ImageMemory}
use Rattle.caf_base.specs.declared.fence.FenceClear.{FenceClear}
use Rattle.caf_code.specs.Task.{Task}
use Rattle.caf_vm.specs.Draft.{memory_in, task_in}
use Rattle.caf_vm.proofs.Turn.{ready_in, stands_after}
use Rattle.caf_vm.proofs.advance.turn.Goals as goal

pub returns-then-ends_step-clause-ready : goal.returns-then-ends_step-clause-ready
returns-then-ends_step-clause-ready c =
    ready_in c.args.code.now c.instr_at-instr.result (task_in c.args.draft.now c.args.task.now) c.args.memory.now c.requires.rules c.requires.objects c.requires.stands c.instr_at-instr.ensures.there

pub act-requires-clause-ready : goal.act-requires-clause-ready
act-requires-clause-ready c =
    ready_in c.args.code.now c.instr_at-instr.result (task_in c.args.draft.now c.args.task.now) c.args.memory.now c.requires.rules c.requires.objects c.requires.stands c.instr_at-instr.ensures.there

pub returns-clause-stands : goal.returns-clause-stands
returns-clause-stands c =
    let t : Task = c.args.task.now in
    let m : ImageMemory = c.args.memory.now in
    let clear : FenceClear = record { reads = true; writes = true } in
    stands_after c.args.code.now clear c.instr_at-instr.result (task_in c.args.draft.now t) (task_in c.act.new.draft t) (memory_in c.args.draft.now m) (memory_in c.act.new.draft m) c.requires.stands c.instr_at-instr.ensures.there (sym c.ends_step.ensures ∙ c.if-ends_step.false) (c.in_ok-act.ensures clear)
