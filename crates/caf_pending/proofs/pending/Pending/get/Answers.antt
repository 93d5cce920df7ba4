use Rattle.std.proofs.Common.{◌∙◌}
use Rattle.caf_pending.proofs.Named.{found_in, named_by}
use Rattle.caf_pending.proofs.pending.Pending.get.Goals as goal

pub returns : goal.returns
returns c = c.get.ensures.value ∙ found_in c.args.name c.self.inside.operations.entries c.args.self.now (named_by c.self.inside.operations.entries c.args.self.now c.self.invariant.named c.self.view_is)
