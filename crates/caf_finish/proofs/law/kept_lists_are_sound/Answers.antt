use Rattle.caf_finish.proofs.Depth.{few_waves}
use Rattle.caf_finish.proofs.Sound.{zero_means_none}
use Rattle.caf_finish.proofs.law.kept_lists_are_sound.Goals as goal

pub returns-clause-zero : goal.returns-clause-zero
returns-clause-zero c = zero_means_none

pub returns-clause-waves : goal.returns-clause-waves
returns-clause-waves c = few_waves
