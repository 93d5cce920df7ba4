use Rattle.caf_printer.proofs.Printed.{whole_layer}
use Rattle.caf_printer.proofs.unit.print_lines.Goals as goal

pub returns : goal.returns
returns c = whole_layer c.args.unit.now _ _ _ _ _ _ _ _ _ _ c.deeper.ensures.value c.as_str.ensures c.as_slice.ensures c.as_slice-2.ensures c.as_slice-3.ensures
    c.in_ok-print_name.ensures c.in_ok-print_part.ensures c.in_ok-print_subs.ensures c.in_ok-print_end.ensures
