use Rattle.caf_source.specs.Plain.{all_clear}
use Rattle.caf_source.proofs.Plain.{step_plain}
use Rattle.caf_source.proofs.Stacked.{begins_main, blocks_at_end, stays_main}
use Rattle.caf_source.proofs.law.main_tasks_come_to_their_end.Goals as goal

pub returns-clause-begins : goal.returns-clause-begins
returns-clause-begins c = begins_main

pub returns-clause-stays : goal.returns-clause-stays
returns-clause-stays c subs t m built main = stays_main subs t m c.each_held_value_has_its_read.ensures.past built main

pub returns-clause-plain : goal.returns-clause-plain
returns-clause-plain c subs t m built main = step_plain subs all_clear t m c.each_held_value_has_its_read.ensures.past built main.plain

pub returns-clause-blocks : goal.returns-clause-blocks
returns-clause-blocks c subs t m n main blocks = blocks_at_end subs t m n c.each_held_value_has_its_read.ensures.past main blocks
