use Rattle.caf_code.proofs.Kept.{keeps_sound}
use Rattle.caf_code.proofs.law.tasks_stay_sound.Goals as goal

pub returns : goal.returns
returns c = keeps_sound
