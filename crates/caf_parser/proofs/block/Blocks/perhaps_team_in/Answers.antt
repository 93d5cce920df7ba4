use Rattle.std.proofs.Common.{◌∙◌}
use Rattle.caf_tree.specs.Expressions.{or_world}
use Rattle.caf_exprparse.proofs.Fallback.{nothing_made}
use Rattle.caf_parser.proofs.block.Blocks.perhaps_team_in.Goals as goal

pub returns-in-Err-Syntax : goal.returns-in-Err-Syntax
returns-in-Err-Syntax g c = nothing_made or_world _ _ _ (rw c.in-Err-Syntax.field-0-is at c.in-Err-Syntax.ensures) (c.back.ensures ∙ c.mark-before.ensures)
