use Rattle.caf_printer.proofs.Printed.{body_text, do_layer, while_layer, finish_layer, if_layer, else_if_layer, else_more_layer, nested_layer}
use Rattle.caf_printer.proofs.statement.+statement.Goals as goal

pub print_body-returns : goal.print_body-returns
print_body-returns t c = body_text _ _ _ _ _ _ _ c.deeper.ensures.value c.in_ok-print_statements.ensures c.in_ok-print_end.ensures

pub print_nested-returns : goal.print_nested-returns
print_nested-returns t c = nested_layer _ c.requires.plain _ _ _ _ _ _ c.deeper.ensures.value c.in_ok-print_word.ensures c.in_ok-print_statement.ensures c.in_ok-print_end.ensures

pub print_else_one-returns-in_ok-print_else-in-If : goal.print_else_one-returns-in_ok-print_else-in-If
print_else_one-returns-in_ok-print_else-in-If t c =
    else_if_layer _ _ _ _ _ _ _ _ _ _ _ _ _ c.in-If.is c.deeper.ensures.value c.as_slice.ensures c.as_slice-in-If.ensures c.in_ok-print_else_if-in-If.ensures c.in_ok-print_statements-in-If.ensures c.in_ok-print_else-in-If.ensures

pub print_statement-returns-in_ok-print_else-in-If : goal.print_statement-returns-in_ok-print_else-in-If
print_statement-returns-in_ok-print_else-in-If t c =
    if_layer _ _ _ _ _ _ _ _ _ _ _ _ _ c.in-If.is c.deeper.ensures.value c.as_slice.ensures c.as_slice-in-If.ensures c.in_ok-print_then-in-If.ensures c.in_ok-print_statements-in-If.ensures c.in_ok-print_else-in-If.ensures

pub print_statement-returns-in_ok-print_body-in-Do : goal.print_statement-returns-in_ok-print_body-in-Do
print_statement-returns-in_ok-print_body-in-Do t c = do_layer _ _ _ _ _ _ _ _ _ _ _ _ _ c.in-Do.is c.as_str.ensures c.as_slice-in-Do.ensures c.in_ok-print_counted-in-Do.ensures c.in_ok-print_body-in-Do.ensures

pub print_statement-returns-in_ok-print_body-in-While : goal.print_statement-returns-in_ok-print_body-in-While
print_statement-returns-in_ok-print_body-in-While t c = while_layer _ _ _ _ _ _ _ _ _ c.in-While.is c.as_slice-in-While.ensures c.in_ok-print_while-in-While.ensures c.in_ok-print_body-in-While.ensures

pub print_statement-returns-in_ok-print_body-in-Finish : goal.print_statement-returns-in_ok-print_body-in-Finish
print_statement-returns-in_ok-print_body-in-Finish t c = finish_layer _ _ _ _ _ _ _ _ _ c.in-Finish.is c.as_slice-in-Finish.ensures c.in_ok-print_finish-in-Finish.ensures c.in_ok-print_body-in-Finish.ensures
