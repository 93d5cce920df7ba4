use Rattle.caf_source.specs.Built.{are_subs_built, is_block_built}
use Rattle.caf_solo.proofs.Following.{and_second}
use Rattle.caf_solo.proofs.Standing.{comes_to}
use Rattle.caf_solo.proofs.run.run_alone.Goals as goal

pub returns : goal.returns
returns c =
    comes_to c.args.a.now c.args.code.now c.args.most c.in_ok-solo.solo.journal c.in_ok-solo.solo.phase c.in_ok-solo.solo.memory c.in_ok-solo.solo.task c.in_ok-summary.summary
    (record { stays = c.main_tasks_come_to_their_end.ensures.stays; plain = c.main_tasks_come_to_their_end.ensures.plain; blocks = c.main_tasks_come_to_their_end.ensures.blocks })
    (and_second (is_block_built c.args.a.now.body) (are_subs_built c.args.a.now.subs) c.requires.built) c.in_ok-solo.ensures.follows c.in_ok-solo.ensures.within c.in_ok-solo.ensures.spent c.in_ok-summary.ensures
