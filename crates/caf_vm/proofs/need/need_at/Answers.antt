use Rattle.std.proofs.Common.{sym, ◌∙◌}
use Rattle.caf_vm.specs.Draft.{memory_in, task_in}
use Rattle.caf_vm.proofs.Ended.{awake}
use Rattle.caf_vm.proofs.need.need_at.Goals as goal

pub returns-then-not-may_block : goal.returns-then-not-may_block
returns-then-not-may_block c =
    sym (awake c.args.code.now c.args.clear c.args.instr (task_in c.args.draft.now c.args.task.now) (memory_in c.args.draft.now c.args.memory.now) c.requires.ends (sym c.may_block.ensures ∙ c.if-not-may_block.true))
