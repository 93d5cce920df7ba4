use Rattle.std.proofs.Common.{subst}
use Rattle.caf_code.specs.Rules.{KeepsRules}
use Rattle.caf_trials.proofs.agreement.by_code.part_code.Goals as goal

pub returns-in-Some-NewTeam-clause-sound : goal.returns-in-Some-NewTeam-clause-sound
returns-in-Some-NewTeam-clause-sound c =
    let keeps = subst KeepsRules c.listing-listing.ensures.same c.listing-listing.ensures.keeps in
    c.part.ensures.sound c.args.code.now keeps c.requires.sound c.requires.team
