use Rattle.std.proofs.Common.{◌≡◌, ap, ◌∙◌, sym}
use Rattle.std.specs.List.{list_any}
use Rattle.caf_history.specs.Finishes.{is_program_finish}
use Rattle.caf_history.proofs.Answered.{has_body}
use Rattle.caf_history.proofs.finishes.FinishesLeft.has_program.Goals as goal

pub returns : goal.returns
returns c =
    c.is_some.ensures
    ∙ has_body c.self.inside.all.items c.self.inside.index c.first.result c.self.invariant c.first.ensures
    ∙ ap (list_any is_program_finish) c.self.view_is
