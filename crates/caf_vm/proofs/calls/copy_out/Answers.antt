use Rattle.std.proofs.Common.{◌∙◌, ap, sym, reverse, SFits, w64, rules}
use Rattle.std.proofs.lemmas.Int.{to_z-of_z}
use Rattle.caf_base.specs.ImageMemory.{ImageMemory}
use Rattle.caf_code.specs.Calls.{copies_out}
use Rattle.caf_code.specs.Task.{Task}
use Rattle.caf_vm.specs.Calls.{with_cells}
use Rattle.caf_vm.specs.Draft.{memory_in, task_in}
use Rattle.caf_vm.proofs.Copied.{behind, fails, one_more}
use Rattle.caf_vm.proofs.calls.copy_out.Goals as goal

pub returns-in-Err-clause-copied : goal.returns-in-Err-clause-copied
returns-in-Err-clause-copied c = λ f go.
    let outs = c.args.outs.now in
    let k = c.loop-out.out-index in
    let cells = (task_in c.args.draft.now c.args.task.now).frame.cells in
    let m : ImageMemory = memory_in c.loop-out.draft c.args.memory.now in
    let g = with_cells (reverse c.loop-out.writes.items) f in
    let fits : SFits w64 c.cell-value.result = search rules in
    let here = (task_in c.loop-out.draft c.args.task.now).frame.cells in
    let same = ap (λ (t : Task). t.frame.cells) c.loop-out.invariant.task in
    fails c.in-Err.stop (copies_out outs cells f (memory_in c.args.draft.now c.args.memory.now) go) _ f c.copy_one.new.writes.items go (behind outs k cells go) (memory_in c.copy_one.new.draft c.args.memory.now)
    (sym (c.loop-out.invariant.left f go) ∙ one_more outs k _ cells here c.cell-value.result g m go c.loop-out-test.true c.cell-value.ensures same) (simp to_z-of_z at (c.in-Err.ensures.copied f (behind outs k cells go)))

pub loop-out-preserved : goal.loop-out-preserved
loop-out-preserved c =
    let outs = c.args.outs.now in
    let k = c.loop-out.out-index in
    let cells = (task_in c.args.draft.now c.args.task.now).frame.cells in
    let m : ImageMemory = memory_in c.loop-out.draft c.args.memory.now in
    let fits : SFits w64 c.cell-value.result = search rules in
    let here = (task_in c.loop-out.draft c.args.task.now).frame.cells in
    let same = ap (λ (t : Task). t.frame.cells) c.loop-out.invariant.task in
    record {
      left = λ f go.
          let g = with_cells (reverse c.loop-out.writes.items) f in
          sym (one_more outs k _ cells here c.cell-value.result g m go c.loop-out-test.true c.cell-value.ensures same ∙ simp to_z-of_z at (c.in_default.ensures.copied f (behind outs k cells go))) ∙ c.loop-out.invariant.left f go;
      task = c.in_default.ensures.task c.args.task.now ∙ c.loop-out.invariant.task;
    }
