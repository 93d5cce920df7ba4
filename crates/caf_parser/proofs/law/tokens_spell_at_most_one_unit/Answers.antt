use Rattle.caf_parser.proofs.AtMostOne.{one_unit}
use Rattle.caf_parser.proofs.law.tokens_spell_at_most_one_unit.Goals as goal

pub returns : goal.returns
returns c = λ tokens one other. one_unit tokens one other
