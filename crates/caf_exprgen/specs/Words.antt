-- What holds of the instructions of every expression, for those who make code of statements.
use Rattle.std.specs.Prelude.{◌≡◌, ℕ, length, IsTrue}
use Rattle.caf_program.specs.declared.expr.ExprR.{ExprR}
use Rattle.caf_program.specs.Value.{count, reads_at}
use Rattle.caf_exprgen.specs.Asks.{AllAsk, ReadsKeep}
use Rattle.caf_exprgen.specs.ExprCode.{expr_code, reads_code}
use Rattle.caf_exprgen.specs.Leaves.{Leaves}
use Rattle.caf_exprgen.specs.Straight.{PutsOne, is_within_step}

pub record CodesLeaveValues : Type 0 where
  -- they leave its value, or meet its trap
  pub leaves : (e : ExprR) (held : ℕ) → Leaves e held (expr_code e held)
  -- there is one at least, and none ends a Step or leads elsewhere
  pub within : (e : ExprR) (held : ℕ) → IsTrue (is_within_step (expr_code e held))
  -- they keep the rules on operands and heights
  pub puts : (e : ExprR) (held : ℕ) → PutsOne e held (expr_code e held)
  -- each of its reads has its instructions
  pub asks : (e : ExprR) (held : ℕ) → AllAsk (reads_at e held) (reads_code e held)
  -- there are as many reads as values that it holds
  pub counted : (e : ExprR) (held : ℕ) → length (reads_code e held) ≡ count e
  -- the instructions of reads keep these rules too
  pub keep : (e : ExprR) (held : ℕ) → ReadsKeep e held (reads_code e held)
