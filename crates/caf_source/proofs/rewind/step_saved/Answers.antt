use Rattle.caf_source.proofs.Orderly.{left_orderly}
use Rattle.caf_source.proofs.rewind.step_saved.Goals as goal

pub returns-clause-orderly : goal.returns-clause-orderly
returns-clause-orderly c = left_orderly c.args.subs.now c.args.clear c.args.task.now c.args.memory.now _ _ _ _ c.in_ok-saved.ensures c.in_ok-effect.ensures.step
