use Rattle.caf_sourcelaws.proofs.Apart.{names_stay_apart, next_is_new}
use Rattle.caf_sourcelaws.proofs.names.pending_names_are_apart.Goals as goal

pub returns-clause-apart : goal.returns-clause-apart
returns-clause-apart c p images choices s led = (names_stay_apart p images choices s led).apart

pub returns-clause-given : goal.returns-clause-given
returns-clause-given c p images choices s led = (names_stay_apart p images choices s led).given

pub returns-clause-next : goal.returns-clause-next
returns-clause-next c p images choices s led = next_is_new s (names_stay_apart p images choices s led)
