use Rattle.std.proofs.Common.{subst, sym}
use Rattle.caf_source.specs.Kept.{Kept}
use Rattle.caf_source.specs.Placed.{ArePlaceable}
use Rattle.caf_source.specs.Stepping.{of_images}
use Rattle.caf_source.proofs.Begin.{ready_when}
use Rattle.caf_source.proofs.machine.step.Goals as goal

pub returns-in-Ok-Done-clause-ready : goal.returns-in-Ok-Done-clause-ready
returns-in-Ok-Done-clause-ready c =
    ready_when c.s-2.inside.failed (of_images c.s-2.inside.images.items c.s-2.inside.pending) (subst (λ (k : Kept). ArePlaceable k.state.images) (sym c.s-2.view_is) c.in-Ok-Done.ensures.memory)
