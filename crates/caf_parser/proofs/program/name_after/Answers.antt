use Rattle.std.proofs.Common.{◌∙◌}
use Rattle.caf_exprparse.proofs.Fallback.{nothing_made}
use Rattle.caf_parser.proofs.program.name_after.Goals as goal

pub returns-in-Err-Syntax : goal.returns-in-Err-Syntax
returns-in-Err-Syntax c = nothing_made (λ _. tt) _ _ _ (rw c.in-Err-Syntax.field-0-is at c.in-Err-Syntax.ensures) (c.back.ensures ∙ c.mark-before.ensures)
