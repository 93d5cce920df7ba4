use Rattle.caf_printer.proofs.Printed.{part_layer}
use Rattle.caf_printer.proofs.unit.print_part.Goals as goal

pub returns : goal.returns
returns c = part_layer _ _ _ _ _ _ c.in_ok-print_declarations.ensures c.in_ok-print_all.ensures
