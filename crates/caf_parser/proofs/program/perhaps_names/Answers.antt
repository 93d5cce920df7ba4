use Rattle.std.proofs.Common.{Ok, ap, sym, ◌∙◌}
use Rattle.caf_tree.specs.Forms.{or_none}
use Rattle.caf_exprparse.proofs.Fallback.{nothing_made}
use Rattle.caf_parser.proofs.program.perhaps_names.Goals as goal

pub returns-in-Err-Syntax : goal.returns-in-Err-Syntax
returns-in-Err-Syntax c = nothing_made or_none _ _ _ (rw c.in-Err-Syntax.field-0-is at c.in-Err-Syntax.ensures) (c.back.ensures ∙ c.mark-before.ensures) ∙ ap (λ l. Ok (l, c.back.new.self)) (sym c.new.ensures)
