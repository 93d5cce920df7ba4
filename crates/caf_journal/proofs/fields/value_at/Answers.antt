use Rattle.std.proofs.Common.{◌∙◌}
use Rattle.caf_journal.proofs.Tables.{value_at_next}
use Rattle.caf_journal.proofs.fields.value_at.Goals as goal

pub loop-table-preserved : goal.loop-table-preserved
loop-table-preserved g c = value_at_next c.loop-table.table.now c.line-item.result c.args.word.now c.in-len1-up.len_at_least c.line-item.is c.if-eq.ensures ∙ c.loop-table.invariant
