use Rattle.std.proofs.Common.{◌≡◌, ◌+◌, ◌-◌, ◌∙◌, true, Some, None, Ok, Err, ap, sym, arith, length}
use Rattle.std.specs.Prelude.{slice_get}
use Rattle.caf_base.specs.ImageMemory.{ImageMemory}
use Rattle.caf_base.specs.declared.fence.FenceClear.{FenceClear}
use Rattle.caf_code.specs.Step.{does_at, exec}
use Rattle.caf_code.specs.Task.{Task}
use Rattle.caf_code.specs.declared.instr.Instr.{Instr}
use Rattle.caf_vm.specs.Draft.{memory_in, task_in}
use Rattle.caf_vm.specs.Ready.{ends_step}
use Rattle.caf_vm.specs.Run.{InCode}
use Rattle.caf_vm.specs.declared.stop.Stop.{Stop}
use Rattle.caf_vm.proofs.Turn.{carried, ends_on, ends_turn, fails_turn, goes_turn, not_whole, stands_on, turned}
use Rattle.caf_vm.proofs.advance.advance.Goals as goal

pub loop-step-preserved : goal.loop-step-preserved
loop-step-preserved c =
    let code = c.args.code.now in
    let n = length code.instrs in
    let i = c.loop-step.step in
    let t : Task = task_in c.loop-step.draft c.args.task.now in
    let m : ImageMemory = memory_in c.loop-step.draft c.args.memory.now in
    let u : Task = task_in c.turn.new.draft c.args.task.now in
    let v : ImageMemory = memory_in c.turn.new.draft c.args.memory.now in
    let none : c.turn.result ≡ Ok None = c.in-Ok-None.is ∙ ap Ok c.in-Ok-None.field-0-is in
    record {
      same = λ clear. goes_turn code clear (n - i) (n - (i + 1)) t u m v (omega arith) (turned code clear c.turn.result (Ok None) (does_at code clear (slice_get code.instrs t.address) t m) u v none (c.turn.ensures.turned clear)) ∙ c.loop-step.invariant.same clear;
      stands = stands_on c.turn.result (InCode code u) none c.turn.ensures.stands;
    }

pub unreachable-requires : goal.unreachable-requires
unreachable-requires c =
    let code = c.args.code.now in
    let n = length code.instrs in
    let i = c.loop-step.step in
    let clear : FenceClear = record { reads = true; writes = true } in
    not_whole code clear (n - i) (task_in c.loop-step.draft c.args.task.now) (memory_in c.loop-step.draft c.args.memory.now) _ (omega arith) (c.loop-step.invariant.same clear) (c.requires.whole clear)

pub returns-in-Ok-Some-clause-reached : goal.returns-in-Ok-Some-clause-reached
returns-in-Ok-Some-clause-reached c = λ clear.
    let code = c.args.code.now in
    let n = length code.instrs in
    let i = c.loop-step.step in
    let found = c.in-Ok-Some.instr in
    let t : Task = task_in c.loop-step.draft c.args.task.now in
    let m : ImageMemory = memory_in c.loop-step.draft c.args.memory.now in
    let u : Task = task_in c.turn.new.draft c.args.task.now in
    let v : ImageMemory = memory_in c.turn.new.draft c.args.memory.now in
    let some : c.turn.result ≡ Ok (Some found) = c.in-Ok-Some.is ∙ ap Ok c.in-Ok-Some.field-0-is in
    let ends = ends_on c.turn.result (λ (x : Instr). ends_step x ≡ true) found some c.turn.ensures.ends in
    sym (c.loop-step.invariant.same clear) ∙ ends_turn code clear (n - i) (n - (i + 1)) found t u m v (omega arith) ends (turned code clear c.turn.result (Ok (Some found)) (does_at code clear (slice_get code.instrs t.address) t m) u v some (c.turn.ensures.turned clear))

pub returns-in-Err-clause-reached : goal.returns-in-Err-clause-reached
returns-in-Err-clause-reached c = λ clear.
    let code = c.args.code.now in
    let n = length code.instrs in
    let i = c.loop-step.step in
    let t : Task = task_in c.loop-step.draft c.args.task.now in
    let m : ImageMemory = memory_in c.loop-step.draft c.args.memory.now in
    let u : Task = task_in c.turn.new.draft c.args.task.now in
    let v : ImageMemory = memory_in c.turn.new.draft c.args.memory.now in
    let stop : Stop = c.in-Err.stop in
    let fails = fails_turn code clear (n - i) (n - (i + 1)) stop t u m v (omega arith) (turned code clear c.turn.result (Err stop) (does_at code clear (slice_get code.instrs t.address) t m) u v c.in-Err.is (c.turn.ensures.turned clear)) in
    carried code clear (Err stop) (exec code clear (n - i) t m) _ u v (c.loop-step.invariant.same clear) fails
