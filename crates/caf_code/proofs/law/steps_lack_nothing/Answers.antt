use Rattle.caf_code.proofs.Steps.{comes_to_rest_after, lacks_nothing}
use Rattle.caf_code.proofs.law.steps_lack_nothing.Goals as goal

pub returns-clause-whole : goal.returns-clause-whole
returns-clause-whole c = lacks_nothing

pub returns-clause-rests : goal.returns-clause-rests
returns-clause-rests c = comes_to_rest_after
