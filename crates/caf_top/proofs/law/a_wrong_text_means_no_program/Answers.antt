use Rattle.caf_top.proofs.Laws.{no_program}
use Rattle.caf_top.proofs.law.a_wrong_text_means_no_program.Goals as goal

pub returns : goal.returns
returns c = no_program c.tokens_spell_at_most_one_unit.ensures c.a_unit_means_one_program.ensures c.a_fault_breaks_a_rule.ensures
