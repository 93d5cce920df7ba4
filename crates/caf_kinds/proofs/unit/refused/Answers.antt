use Rattle.std.proofs.Common.{Err, sym, subst}
use Rattle.caf_kinds.specs.Units.{meaning}
use Rattle.caf_kinds.specs.Faults.{Answers}
use Rattle.caf_kinds.proofs.Told.{broke}
use Rattle.caf_kinds.proofs.unit.refused.Goals as goal

pub returns : goal.returns
returns c = subst (λ k. Answers (meaning c.args._unit.now) (Err k)) (sym c.fault_of.ensures) (broke (meaning c.args._unit.now) c.args.fault c.requires)
