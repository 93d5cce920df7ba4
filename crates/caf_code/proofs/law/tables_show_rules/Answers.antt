use Rattle.caf_code.proofs.Checked.{by_tables}
use Rattle.caf_code.proofs.law.tables_show_rules.Goals as goal

pub returns : goal.returns
returns c = by_tables
