use Rattle.caf_printer.proofs.Printed.{all_layer}
use Rattle.caf_printer.proofs.statement.print_all.Goals as goal

pub returns : goal.returns
returns c = all_layer _ _ _ _ c.in_ok-print_statements.ensures
