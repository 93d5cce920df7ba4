use Rattle.std.proofs.Common.{◌≡◌, Ok, None, subst, ◌∙◌}
use Rattle.caf_exprparse.specs.Reader.{expression}
use Rattle.caf_exprparse.specs.Reading.{or_nothing}
use Rattle.caf_exprparse.proofs.Fallback.{nothing_here}
use Rattle.caf_simpleparse.specs.Choices.{next_behind}
use Rattle.caf_parser.proofs.block.Blocks.perhaps_step.Goals as goal

pub returns-in-Err-Syntax : goal.returns-in-Err-Syntax
returns-in-Err-Syntax g c =
    subst (λ n. or_nothing c.args.c.now (next_behind (expression n) c.args.c.now) ≡ Ok (None, c.back.new.self)) c.parts.ensures
    (nothing_here _ _ _ (rw c.in-Err-Syntax.field-0-is at c.in-Err-Syntax.ensures) (c.back.ensures ∙ c.mark-before.ensures))
