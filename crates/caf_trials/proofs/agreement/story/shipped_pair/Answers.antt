use Rattle.std.proofs.Common.{refl}
use Rattle.caf_trials.proofs.agreement.story.shipped_pair.Goals as goal

pub returns-clause-sound : goal.returns-clause-sound
returns-clause-sound c = record { memory = c.in_ok-memory.ensures; task = c.in_ok-task.ensures.sound c.in_ok-memory.memory.images refl }
