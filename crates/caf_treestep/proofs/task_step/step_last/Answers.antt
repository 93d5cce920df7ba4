use Rattle.std.proofs.Common.{ap, sym, ◌∙◌}
use Rattle.caf_program.specs.declared.stmt.StmtR.TheOpen.{StmtR-F}
use Rattle.caf_program.specs.declared.stmt.StmtR.TheVariants as V
use Rattle.caf_program.specs.declared.stmt.StmtR.TheViews.{out-StmtR}
use Rattle.caf_treestep.proofs.Ending.{last_of}
use Rattle.caf_treestep.proofs.task_step.step_last.Goals as goal

pub returns-in-Assign : goal.returns-in-Assign
returns-in-Assign c =
    last_of c.args.subs.now c.args.clear c.args.statement (StmtR-F.Assign c.in-Assign.line c.in-Assign.target c.in-Assign.value) c.args.task.now c.args.memory.now c.step_assignment.result _ _ (c.in-Assign.is ∙ sym (V.rolls-Assign c.in-Assign.line c.in-Assign.target c.in-Assign.value)) (ap out-StmtR c.in-Assign.is ∙ V.outs-Assign c.in-Assign.line c.in-Assign.target c.in-Assign.value) (c.step_assignment.ensures c.args.subs.now c.args.clear)

pub returns-in-Aim : goal.returns-in-Aim
returns-in-Aim c =
    last_of c.args.subs.now c.args.clear c.args.statement (StmtR-F.Aim c.in-Aim.line c.in-Aim.copointer c.in-Aim.region) c.args.task.now c.args.memory.now c.step_aim.result _ _ (c.in-Aim.is ∙ sym (V.rolls-Aim c.in-Aim.line c.in-Aim.copointer c.in-Aim.region)) (ap out-StmtR c.in-Aim.is ∙ V.outs-Aim c.in-Aim.line c.in-Aim.copointer c.in-Aim.region) (c.step_aim.ensures c.args.subs.now c.args.clear)

pub returns-in-Print : goal.returns-in-Print
returns-in-Print c =
    last_of c.args.subs.now c.args.clear c.args.statement (StmtR-F.Print c.in-Print.line c.in-Print.parts) c.args.task.now c.args.memory.now c.step_print.result _ _ (c.in-Print.is ∙ sym (V.rolls-Print c.in-Print.line c.in-Print.parts)) (ap out-StmtR c.in-Print.is ∙ V.outs-Print c.in-Print.line c.in-Print.parts) (c.step_print.ensures c.args.subs.now c.args.clear)

pub returns-in-If : goal.returns-in-If
returns-in-If c =
    last_of c.args.subs.now c.args.clear c.args.statement (StmtR-F.If c.in-If.line c.in-If.condition c.in-If.block c.in-If.otherwise) c.args.task.now c.args.memory.now c.step_if.result _ _ (c.in-If.is ∙ sym (V.rolls-If c.in-If.line c.in-If.condition c.in-If.block c.in-If.otherwise)) (ap out-StmtR c.in-If.is ∙ V.outs-If c.in-If.line c.in-If.condition c.in-If.block c.in-If.otherwise) (c.step_if.ensures c.args.subs.now c.args.clear)

pub returns-in-Do : goal.returns-in-Do
returns-in-Do c =
    last_of c.args.subs.now c.args.clear c.args.statement (StmtR-F.Do c.in-Do.line c.in-Do.variable c.in-Do.first c.in-Do.last c.in-Do.step c.in-Do.body) c.args.task.now c.args.memory.now c.step_do.result _ _ (c.in-Do.is ∙ sym (V.rolls-Do c.in-Do.line c.in-Do.variable c.in-Do.first c.in-Do.last c.in-Do.step c.in-Do.body)) (ap out-StmtR c.in-Do.is ∙ V.outs-Do c.in-Do.line c.in-Do.variable c.in-Do.first c.in-Do.last c.in-Do.step c.in-Do.body) (c.step_do.ensures c.args.subs.now c.args.clear)

pub returns-in-While : goal.returns-in-While
returns-in-While c =
    last_of c.args.subs.now c.args.clear c.args.statement (StmtR-F.While c.in-While.line c.in-While.condition c.in-While.body) c.args.task.now c.args.memory.now c.step_while.result _ _ (c.in-While.is ∙ sym (V.rolls-While c.in-While.line c.in-While.condition c.in-While.body)) (ap out-StmtR c.in-While.is ∙ V.outs-While c.in-While.line c.in-While.condition c.in-While.body) (c.step_while.ensures c.args.subs.now c.args.clear)

pub returns-in-Call : goal.returns-in-Call
returns-in-Call c =
    last_of c.args.subs.now c.args.clear c.args.statement (StmtR-F.Call c.in-Call.line c.in-Call.sub c.in-Call.actuals) c.args.task.now c.args.memory.now c.step_call.result _ _ (c.in-Call.is ∙ sym (V.rolls-Call c.in-Call.line c.in-Call.sub c.in-Call.actuals)) (ap out-StmtR c.in-Call.is ∙ V.outs-Call c.in-Call.line c.in-Call.sub c.in-Call.actuals) (c.step_call.ensures c.args.clear)

pub returns-in-Spawn : goal.returns-in-Spawn
returns-in-Spawn c =
    last_of c.args.subs.now c.args.clear c.args.statement (StmtR-F.Spawn c.in-Spawn.line c.in-Spawn.done c.in-Spawn.sub c.in-Spawn.actuals c.in-Spawn.place) c.args.task.now c.args.memory.now c.step_spawn.result _ _ (c.in-Spawn.is ∙ sym (V.rolls-Spawn c.in-Spawn.line c.in-Spawn.done c.in-Spawn.sub c.in-Spawn.actuals c.in-Spawn.place)) (ap out-StmtR c.in-Spawn.is ∙ V.outs-Spawn c.in-Spawn.line c.in-Spawn.done c.in-Spawn.sub c.in-Spawn.actuals c.in-Spawn.place) (c.step_spawn.ensures c.args.subs.now c.args.clear)

pub returns-in-Notify : goal.returns-in-Notify
returns-in-Notify c =
    last_of c.args.subs.now c.args.clear c.args.statement (StmtR-F.Notify c.in-Notify.line c.in-Notify.event) c.args.task.now c.args.memory.now c.step_notify.result _ _ (c.in-Notify.is ∙ sym (V.rolls-Notify c.in-Notify.line c.in-Notify.event)) (ap out-StmtR c.in-Notify.is ∙ V.outs-Notify c.in-Notify.line c.in-Notify.event) (c.step_notify.ensures c.args.subs.now c.args.clear)

pub returns-in-Wait : goal.returns-in-Wait
returns-in-Wait c =
    last_of c.args.subs.now c.args.clear c.args.statement (StmtR-F.Wait c.in-Wait.line c.in-Wait.event) c.args.task.now c.args.memory.now c.step_wait.result _ _ (c.in-Wait.is ∙ sym (V.rolls-Wait c.in-Wait.line c.in-Wait.event)) (ap out-StmtR c.in-Wait.is ∙ V.outs-Wait c.in-Wait.line c.in-Wait.event) (c.step_wait.ensures c.args.subs.now c.args.clear)

pub returns-in-Copy : goal.returns-in-Copy
returns-in-Copy c =
    last_of c.args.subs.now c.args.clear c.args.statement (StmtR-F.Copy c.in-Copy.line c.in-Copy.dest c.in-Copy.source c.in-Copy.events) c.args.task.now c.args.memory.now c.step_copy.result _ _ (c.in-Copy.is ∙ sym (V.rolls-Copy c.in-Copy.line c.in-Copy.dest c.in-Copy.source c.in-Copy.events)) (ap out-StmtR c.in-Copy.is ∙ V.outs-Copy c.in-Copy.line c.in-Copy.dest c.in-Copy.source c.in-Copy.events) (c.step_copy.ensures c.args.subs.now c.args.clear)

pub returns-in-Split : goal.returns-in-Split
returns-in-Split c =
    last_of c.args.subs.now c.args.clear c.args.statement (StmtR-F.Split c.in-Split.line c.in-Split.team c.in-Split.colour c.in-Split.key c.in-Split.new) c.args.task.now c.args.memory.now c.step_split.result _ _ (c.in-Split.is ∙ sym (V.rolls-Split c.in-Split.line c.in-Split.team c.in-Split.colour c.in-Split.key c.in-Split.new)) (ap out-StmtR c.in-Split.is ∙ V.outs-Split c.in-Split.line c.in-Split.team c.in-Split.colour c.in-Split.key c.in-Split.new) (c.step_split.ensures c.args.subs.now c.args.clear)

pub returns-in-Finish : goal.returns-in-Finish
returns-in-Finish c =
    last_of c.args.subs.now c.args.clear c.args.statement (StmtR-F.Finish c.in-Finish.line c.in-Finish.team c.in-Finish.body) c.args.task.now c.args.memory.now c.step_finish.result _ _ (c.in-Finish.is ∙ sym (V.rolls-Finish c.in-Finish.line c.in-Finish.team c.in-Finish.body)) (ap out-StmtR c.in-Finish.is ∙ V.outs-Finish c.in-Finish.line c.in-Finish.team c.in-Finish.body) (c.step_finish.ensures c.args.subs.now c.args.clear)
