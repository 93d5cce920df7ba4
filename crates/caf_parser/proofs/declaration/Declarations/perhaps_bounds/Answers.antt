use Rattle.std.proofs.Common.{◌∙◌}
use Rattle.caf_exprparse.proofs.Fallback.{nothing_here}
use Rattle.caf_parser.proofs.declaration.Declarations.perhaps_bounds.Goals as goal

pub returns-in-Err-Syntax : goal.returns-in-Err-Syntax
returns-in-Err-Syntax c = nothing_here _ _ _ (rw c.in-Err-Syntax.field-0-is at c.in-Err-Syntax.ensures) (c.back.ensures ∙ c.mark-before.ensures)
