use Rattle.std.proofs.Common.{◌∙◌}
use Rattle.caf_tree.specs.declared.expr.Level.TheVariants as level
use Rattle.caf_exprparse.specs.Reader.{inner, operand, prim}
use Rattle.caf_exprparse.proofs.Fallback.{ends_here, goes_on}
use Rattle.caf_exprparse.proofs.grammar.Rules.factors.Goals as goal

pub returns-in-Err-Syntax : goal.returns-in-Err-Syntax
returns-in-Err-Syntax g c =
    ends_here (operand (inner c.args.self.now.depth) c.args.self.now.depth level.Products (prim (inner c.args.self.now.depth) c.args.self.now.depth)) _ _ _ _ _ _ c.loop-turn-test.true c.loop-turn.invariant (rw c.in-Err-Syntax.field-0-is at c.in-Err-Syntax.ensures) (c.back.ensures ∙ c.mark-before.ensures)

pub loop-turn-preserved : goal.loop-turn-preserved
loop-turn-preserved g c =
    goes_on (operand (inner c.args.self.now.depth) c.args.self.now.depth level.Products (prim (inner c.args.self.now.depth) c.args.self.now.depth)) _ _ _ _ _ _ _ _ c.loop-turn-test.true c.loop-turn.invariant c.in-Ok.ensures c.in_ok-push-in-Ok.ensures.ok
