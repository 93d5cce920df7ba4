use Rattle.caf_top.proofs.Stages.{spelled_here}
use Rattle.caf_top.proofs.read.spelled.Goals as goal

pub returns-in-Ok : goal.returns-in-Ok
returns-in-Ok c = spelled_here c.args.tokens.now c.in-Ok.unit c.in-Ok.ensures.spelled _ c.meant.ensures
