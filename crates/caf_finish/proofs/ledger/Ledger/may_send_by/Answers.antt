use Rattle.std.proofs.Common.{sym, ◌∙◌}
use Rattle.caf_finish.proofs.Allowed.{state-found, send-by, and-first, and-not}
use Rattle.caf_finish.proofs.ledger.Ledger.may_send_by.Goals as goal

pub returns-then-is_open : goal.returns-then-is_open
returns-then-is_open g c =
    let n = state-found g.h c.args.self.now c.requires c.in-Some.cause c.in-Some-message.state (sym c.message.ensures ∙ c.in-Some-message.is) in
    rw c.in-Some.is (send-by g.h c.args.origin c.in-Some.cause c.in-Some-message.state _ n (and-first _ _ (sym c.is_open.ensures ∙ c.if-is_open.true)))

pub returns-else-is_open : goal.returns-else-is_open
returns-else-is_open g c =
    let n = state-found g.h c.args.self.now c.requires c.in-Some.cause c.in-Some-message.state (sym c.message.ensures ∙ c.in-Some-message.is) in
    rw c.in-Some.is (send-by g.h c.args.origin c.in-Some.cause c.in-Some-message.state _ n (c.is_open.ensures ∙ and-not _ _ (sym c.is_open.ensures ∙ c.if-is_open.false)))
