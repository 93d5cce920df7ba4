use Rattle.std.proofs.Common.{◌∙◌, ap, List}
use Rattle.caf_pending.specs.Pending.{clear_of}
use Rattle.caf_pending.specs.declared.operation.Operation.{Operation}
use Rattle.caf_pending.proofs.Fences.{clear_by}
use Rattle.std.specs.Map.{values_of}
use Rattle.caf_pending.proofs.pending.Pending.clear_of.Goals as goal

pub returns : goal.returns
returns c = c.clear.ensures
    ∙ clear_by c.self.inside.counts (values_of c.self.inside.operations.entries) c.args.image c.args.task c.self.invariant.reads c.self.invariant.writes
    ∙ ap (λ (ops : List Operation). clear_of ops c.args.image c.args.task) c.self.view_is
