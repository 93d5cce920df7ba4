use Rattle.std.proofs.Common.{Some, ap, sym, ◌∙◌, unwrap_or, length, subst}
use Rattle.caf_finish.specs.Account.{first_account}
use Rattle.caf_finish.specs.declared.known.Known.{Known}
use Rattle.caf_finish.specs.Desk.{Desk, Puts, account_at, new_account}
use Rattle.caf_finish.proofs.Finds.{puts_new}
use Rattle.caf_finish.proofs.desk.FinishDesk.know.Goals as goal

pub returns-clause-known : goal.returns-clause-known
returns-clause-known c =
    let f = c.args.f.now in
    let image = c.self.inside.image in
    let entry : Known = record { finish = c.in_ok-finish.finish; progress = c.in_ok-progress.progress } in
    let rank = ap (λ o. unwrap_or o 0) (sym c.rank_of.ensures.rank ∙ c.unwrap-rank.ensures) in
    let progress = c.in_ok-progress.ensures ∙ ap (λ size. first_account size c.unwrap-rank.result) c.len.ensures ∙ ap (first_account (length f.team.members)) (sym rank) in
    let unknown = sym c.knows.ensures ∙ c.if-knows.false in
    subst (λ known. let new : Desk = record { image = image; known = known } in Puts c.args.self.now new f (Some (unwrap_or (account_at c.args.self.now f) (new_account c.args.self.now.image f)))) (sym c.in_ok-push.ensures.items) (puts_new c.args.self.now image c.self.inside.known.items f entry c.self.view_is c.in_ok-finish.ensures progress unknown)
