use Rattle.caf_top.proofs.Laws.{one_program}
use Rattle.caf_top.proofs.law.a_text_means_one_program.Goals as goal

pub returns : goal.returns
returns c = one_program c.tokens_spell_at_most_one_unit.ensures c.a_unit_means_one_program.ensures
