use Rattle.std.proofs.Common.{sym, ◌∙◌}
use Rattle.caf_finish.proofs.Allowed.{state-found, state-missing, ack, none-taken, and-first, and-not}
use Rattle.caf_finish.proofs.ledger.Ledger.may_ack.Goals as goal

pub returns-in-None : goal.returns-in-None
returns-in-None g c = (
  (λ t. absurd cc),
  λ may. absurd (none-taken c.args.self.now.size g.h c.args.message c.requires.kept (state-missing g.h c.args.self.now c.requires c.args.message (sym c.message.ensures ∙ c.in-None.is)) may.taken),
)

pub returns-then-state : goal.returns-then-state
returns-then-state g c =
    ack g.h c.args.message c.in-Some.state _ (state-found g.h c.args.self.now c.requires c.args.message c.in-Some.state (sym c.message.ensures ∙ c.in-Some.is)) (and-first _ _ c.if-state.true)

pub returns-else-state : goal.returns-else-state
returns-else-state g c =
    ack g.h c.args.message c.in-Some.state _ (state-found g.h c.args.self.now c.requires c.args.message c.in-Some.state (sym c.message.ensures ∙ c.in-Some.is)) (and-not _ _ c.if-state.false)
