use Rattle.std.proofs.Common.{subst, sym}
use Rattle.caf_treestep.specs.Placeable.{IsPlaceable}
use Rattle.caf_trials.proofs.Driven.{teamed}
use Rattle.caf_trials.proofs.agreement.by_tree.set_team.Goals as goal

pub returns : goal.returns
returns c = subst IsPlaceable (sym c.set_team.ensures) (teamed c.args.memory.now c.args.object c.args.team c.requires)
