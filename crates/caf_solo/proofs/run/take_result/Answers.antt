use Rattle.std.proofs.Common.{List, pos, subst}
use Rattle.caf_journal.specs.declared.entry.Entry.{Entry}
use Rattle.caf_journal.specs.declared.entry.Entry.TheVariants.{Result}
use Rattle.caf_solo.specs.Followed.{Follows}
use Rattle.caf_solo.specs.declared.phase.Phase.TheVariants as phase
use Rattle.caf_solo.proofs.Following.{appended, follows_result}
use Rattle.caf_solo.proofs.run.take_result.Goals as goal

pub returns-clause-follows : goal.returns-clause-follows
returns-clause-follows c =
    appended c.push.result c.args.solo.now.journal c.push.new.self (Result 0 (pos 0)) (λ (l : List Entry). Follows c.args._a.now c.args.code.now l phase.Ended c.args.solo.now.memory c.args.solo.now.task) c.push.ensures.ok
    (follows_result c.args._a.now c.args.code.now c.args.solo.now.journal c.args.solo.now.memory c.args.solo.now.task (subst (λ f. Follows c.args._a.now c.args.code.now c.args.solo.now.journal f c.args.solo.now.memory c.args.solo.now.task) c.requires.contributed c.requires.follows))
