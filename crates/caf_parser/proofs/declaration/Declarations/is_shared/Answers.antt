use Rattle.std.proofs.Common.{◌∙◌}
use Rattle.caf_tree.specs.Units.{is_there}
use Rattle.caf_exprparse.proofs.Fallback.{nothing_made}
use Rattle.caf_parser.proofs.declaration.Declarations.is_shared.Goals as goal

pub returns-in-Err-Syntax : goal.returns-in-Err-Syntax
returns-in-Err-Syntax c = nothing_made is_there _ _ _ (rw c.in-Err-Syntax.field-0-is at c.in-Err-Syntax.ensures) (c.back.ensures ∙ c.mark-before.ensures)
