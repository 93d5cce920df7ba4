use Rattle.caf_printer.specs.Pieces.{sub_text}
use Rattle.caf_printer.proofs.Printed.{sub_layer}
use Rattle.caf_printer.proofs.unit.print_sub.Goals as goal

pub returns : goal.returns
unfolding sub_text
returns c = sub_layer c.args.sub.now _ _ _ _ _ _ _ _ _ _ c.deeper-indent.ensures.value c.deeper-inner.ensures.value c.as_str.ensures c.as_slice.ensures c.as_slice-2.ensures c.as_slice-3.ensures
    c.in_ok-print_heading.ensures c.in_ok-print_part.ensures c.in_ok-print_end.ensures
