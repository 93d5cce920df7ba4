use Rattle.std.proofs.Common.{arith}
use Rattle.caf_printer.specs.Pieces.{sub_text}
use Rattle.caf_printer.proofs.Printed.{subs_layer}
use Rattle.caf_printer.proofs.unit.print_subs.Goals as goal

pub returns-in_ok-print_each-in-len1-up : goal.returns-in_ok-print_each-in-len1-up
unfolding sub_text
returns-in_ok-print_each-in-len1-up c = subs_layer c.args.subs.now (omega (arith, c.in-len1-up.len_at_least)) _ _ _ c.in_ok-print_word-in-len1-up.ensures c.in_ok-print_each-in-len1-up.ensures
