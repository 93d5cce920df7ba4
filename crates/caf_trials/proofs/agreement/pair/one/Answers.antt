use Rattle.std.proofs.Common.{subst, sym}
use Rattle.caf_code.specs.Sound.{IsSoundTeam}
use Rattle.caf_trials.proofs.Driven.{alone}
use Rattle.caf_trials.proofs.agreement.pair.one.Goals as goal

pub returns : goal.returns
returns c path = subst (λ xs. IsSoundTeam c.args.image c.args.images (record { path = path; members = xs })) (sym c.in_ok-members.ensures) (alone c.args.image c.args.images path c.requires)
