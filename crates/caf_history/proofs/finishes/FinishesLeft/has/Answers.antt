use Rattle.std.proofs.Common.{◌≡◌, ap, ◌∙◌, sym}
use Rattle.caf_base.specs.FinishRef.{encloses}
use Rattle.caf_history.specs.Index.{first_at}
use Rattle.caf_history.proofs.Answered.{has_named}
use Rattle.caf_history.proofs.finishes.FinishesLeft.has.Goals as goal

pub returns : goal.returns
returns c =
    c.is_some.ensures
    ∙ has_named c.self.inside.all.items c.self.inside.index c.args.finish.now c.first.result c.self.invariant (c.first.ensures ∙ ap (λ p. first_at c.self.inside.index p c.args.finish.now.number) c.as_slice.ensures)
    ∙ ap (encloses c.args.finish.now) c.self.view_is
