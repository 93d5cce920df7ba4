use Rattle.std.proofs.Common.{List, pos, subst}
use Rattle.caf_journal.specs.declared.entry.Entry.{Entry}
use Rattle.caf_journal.specs.declared.entry.Entry.TheVariants.{Leave}
use Rattle.caf_solo.specs.Followed.{Follows}
use Rattle.caf_solo.specs.declared.phase.Phase.TheVariants as phase
use Rattle.caf_solo.proofs.Following.{appended, follows_leave}
use Rattle.caf_solo.proofs.run.leave.Goals as goal

pub returns-clause-follows : goal.returns-clause-follows
returns-clause-follows c =
    appended c.push.result c.args.solo.now.journal c.push.new.self (Leave 0) (λ (l : List Entry). Follows c.args._a.now c.args.code.now l phase.Left c.args.solo.now.memory c.args.solo.now.task) c.push.ensures.ok
    (follows_leave c.args._a.now c.args.code.now c.args.solo.now.journal c.args.solo.now.memory c.args.solo.now.task (subst (λ f. Follows c.args._a.now c.args.code.now c.args.solo.now.journal f c.args.solo.now.memory c.args.solo.now.task) c.requires.ended c.requires.follows))
