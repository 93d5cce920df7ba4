use Rattle.std.proofs.Common.{◌≡◌, ap, ◌∙◌, Some, None}
use Rattle.std.specs.Prelude.{find}
use Rattle.std.specs.Option.{option_copied}
use Rattle.caf_history.specs.Index.{first_at}
use Rattle.caf_history.specs.Splits.{is_split}
use Rattle.caf_history.proofs.Answered.{found_at}
use Rattle.caf_history.proofs.arrivals.Arrivals.find.Goals as goal

pub returns-in_err-at : goal.returns-in_err-at
returns-in_err-at c =
    ap option_copied c.from_residual.ensures
    ∙ found_at c.self.inside.all.items c.self.inside.index c.args.team.now c.args.number None c.self.invariant (c.in_err-at.ensures ∙ ap (λ p. first_at c.self.inside.index p c.args.number) c.as_slice.ensures)
    ∙ ap (find (is_split c.args.team.now c.args.number)) c.self.view_is

pub returns : goal.returns
returns c =
    c.at_place.ensures
    ∙ found_at c.self.inside.all.items c.self.inside.index c.args.team.now c.args.number (Some c.in_ok-at.at) c.self.invariant (c.in_ok-at.ensures ∙ ap (λ p. first_at c.self.inside.index p c.args.number) c.as_slice.ensures)
    ∙ ap (find (is_split c.args.team.now c.args.number)) c.self.view_is
