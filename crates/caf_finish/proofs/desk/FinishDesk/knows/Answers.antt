use Rattle.std.proofs.Common.{ap, is_some, ◌∙◌}
use Rattle.caf_finish.specs.Desk.{Desk, account_in, account_at}
use Rattle.caf_finish.proofs.Finds.{position-known}
use Rattle.caf_finish.proofs.desk.FinishDesk.knows.Goals as goal

pub returns : goal.returns
returns c =
    let f = c.args.f.now in
    c.is_some.ensures ∙ ap is_some c.place.ensures ∙ position-known c.as_slice.result.now f ∙ ap (λ known. is_some (account_in known f)) c.as_slice.ensures.value ∙ ap (λ (d : Desk). is_some (account_at d f)) c.self.view_is
