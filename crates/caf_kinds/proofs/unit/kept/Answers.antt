use Rattle.std.proofs.Common.{refl}
use Rattle.caf_kinds.proofs.Whole.{meaning_kept}
use Rattle.caf_kinds.proofs.unit.kept.Goals as goal

pub returns : goal.returns
returns c = record { same = refl; kept = meaning_kept c.args._unit.now c.args.program c.requires }
