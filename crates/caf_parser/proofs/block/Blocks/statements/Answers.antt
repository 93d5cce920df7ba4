use Rattle.std.proofs.Common.{rules, ◌∙◌}
use Rattle.caf_exprparse.specs.Reader as e
use Rattle.caf_exprparse.specs.Reading as reading
use Rattle.caf_exprparse.specs.Told as token
use Rattle.caf_simpleparse.specs.Choices as choices
use Rattle.caf_parser.specs.Reader as r
use Rattle.caf_exprparse.proofs.Fallback.{ends_here, goes_on}
use Rattle.caf_parser.proofs.Turns.{halts}
use Rattle.caf_parser.proofs.block.Blocks.statements.Goals as goal

pub returns-in-Err-Syntax : goal.returns-in-Err-Syntax
returns-in-Err-Syntax g c =
    ends_here ((r.statement c.args.self.now.depth (r.inner_block c.args.self.now.depth) (r.inner_branches c.args.self.now.depth))) _ _ _ _ _ _ c.loop-turn-test.true c.loop-turn.invariant (rw c.in-Err-Syntax.field-0-is at c.in-Err-Syntax.ensures) (c.back.ensures ∙ c.mark-before.ensures)

pub loop-turn-preserved : goal.loop-turn-preserved
loop-turn-preserved g c =
    goes_on ((r.statement c.args.self.now.depth (r.inner_block c.args.self.now.depth) (r.inner_branches c.args.self.now.depth))) _ _ _ _ _ _ _ _ c.loop-turn-test.true c.loop-turn.invariant c.in-Ok.ensures c.in_ok-push-in-Ok.ensures.ok

pub returns-in-Err : goal.returns-in-Err
returns-in-Err g c =
    halts ((r.statement c.args.self.now.depth (r.inner_block c.args.self.now.depth) (r.inner_branches c.args.self.now.depth))) _ _ _ _ _ c.loop-turn-test.true c.loop-turn.invariant c.in-Err.fault (λ s. search rules) c.in-Err.ensures
