-- What holds of the instructions of every expression.
use Rattle.caf_exprgen.specs.Words.{CodesLeaveValues}
use Rattle.caf_exprgen.proofs.Asking.{expr_asks, expr_counted, expr_keeps}
use Rattle.caf_exprgen.proofs.Gives.{expr_leaves}
use Rattle.caf_exprgen.proofs.Puts.{puts_one}
use Rattle.caf_exprgen.proofs.Within.{within}

pub codes_leave : CodesLeaveValues
codes_leave = record { leaves = expr_leaves; within = within; puts = puts_one; asks = expr_asks; counted = expr_counted; keep = expr_keeps }
