use Rattle.caf_tree.proofs.UnitLevels.{within_is, is_within}
use Rattle.caf_tree.proofs.law.a_unit_needs_as_many_levels_as_it_is_deep.Goals as goal

pub returns : goal.returns
returns c = λ levels tokens unit. (within_is levels tokens unit, is_within levels tokens unit)
