use Rattle.std.proofs.Common.{List}
use Rattle.caf_journal.specs.declared.entry.Entry.{Entry}
use Rattle.caf_solo.specs.Followed.{Follows}
use Rattle.caf_solo.proofs.Following.{appended, steps_on}
use Rattle.caf_solo.proofs.run.go_on.Goals as goal

pub returns-clause-follows : goal.returns-clause-follows
returns-clause-follows c =
    appended c.push.result c.args.solo.now.journal c.push.new.self c.in_ok-phase.entry (λ (l : List Entry). Follows c.args._a.now c.args.code.now l c.in_ok-phase.phase c.step.new.memory c.step.new.task) c.push.ensures.ok
    (steps_on c.args._a.now c.args.code.now c.args.solo.now.journal c.args.solo.now.phase c.args.solo.now.memory c.args.solo.now.task c.in_ok-phase.phase c.in_ok-phase.entry c.step.new.memory c.step.new.task
    (record { stays = c.main_tasks_come_to_their_end.ensures.stays; plain = c.main_tasks_come_to_their_end.ensures.plain; blocks = c.main_tasks_come_to_their_end.ensures.blocks })
    c.requires.built c.requires.compiled c.requires.running c.requires.follows c.in_ok-phase.ensures.led c.in_ok-phase.ensures.task c.in_ok-phase.ensures.memory c.in_ok-phase.ensures.sound c.in_ok-phase.ensures.settled)
