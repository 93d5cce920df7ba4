use Rattle.std.proofs.Common.{sym, ◌∙◌}
use Rattle.caf_finish.proofs.Allowed.{state-found, state-missing, complete, none-taken}
use Rattle.caf_finish.proofs.ledger.Ledger.may_complete.Goals as goal

pub returns-in-None : goal.returns-in-None
returns-in-None g c = (
  (λ t. absurd cc),
  λ may. absurd (none-taken c.args.self.now.size g.h c.args.message c.requires.kept (state-missing g.h c.args.self.now c.requires c.args.message (sym c.message.ensures ∙ c.in-None.is)) may.taken),
)

pub returns-in-Some : goal.returns-in-Some
returns-in-Some g c =
    complete g.h c.args.message c.in-Some.state _ (state-found g.h c.args.self.now c.requires c.args.message c.in-Some.state (sym c.message.ensures ∙ c.in-Some.is)) c.is_open.ensures
