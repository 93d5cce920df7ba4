use Rattle.std.proofs.Common.{sym, subst, SFits, w64, rules}
use Rattle.std.proofs.lemmas.Int.{to_z-of_z}
use Rattle.caf_base.specs.ImageMemory.{ImageMemory}
use Rattle.caf_code.specs.Step.{does}
use Rattle.caf_code.specs.Task.{Task}
use Rattle.caf_code.specs.declared.instr.Instr.{Instr}
use Rattle.caf_vm.specs.Draft.{memory_in, task_in}
use Rattle.caf_vm.specs.Went.{Went}
use Rattle.caf_vm.proofs.act.act.Goals as goal

pub returns-in-Push : goal.returns-in-Push
returns-in-Push c = λ clear.
    let t : Task = c.args.task.now in
    let m : ImageMemory = c.args.memory.now in
    let fits : SFits w64 c.in-Push.value = search rules in
    let pushed = simp to_z-of_z at (c.push.ensures t m) in
    subst (λ (i : Instr). Went c.push.result (does c.args.code.now clear i (task_in c.args.draft.now t) (memory_in c.args.draft.now m)) (task_in c.push.new.draft t) (memory_in c.push.new.draft m)) (sym c.in-Push.is) pushed
