use Rattle.caf_base.proofs.Same.{same_finish-Decides}
use Rattle.caf_base.proofs.team.FinishRef.is_same.Goals as goal

pub returns-clause-same : goal.returns-clause-same
returns-clause-same c = same_finish-Decides c.args.self.now c.args.other.now c.eq.result c.eq.ensures
