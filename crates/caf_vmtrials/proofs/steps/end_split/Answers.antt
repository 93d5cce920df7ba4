use Rattle.std.proofs.Common.{◌≡◌, ◌∷◌, [], List, ap, ◌∙◌, subst, sym, ℕ, ℤ}
use Rattle.caf_base.specs.ImageMemory.{ImageMemory}
use Rattle.caf_base.specs.declared.team.Team.{Team}
use Rattle.caf_code.specs.Rules.{KeepsRules}
use Rattle.caf_code.specs.Sound.{IsSoundTeam}
use Rattle.caf_vmtrials.proofs.Driven.{alone}
use Rattle.caf_vmtrials.proofs.steps.end_split.Goals as goal

pub returns-in-Some-NewTeam-clause-sound : goal.returns-in-Some-NewTeam-clause-sound
returns-in-Some-NewTeam-clause-sound c =
    let m : ImageMemory = c.args.memory.now in
    let keeps = subst KeepsRules c.listing-listing.ensures.same c.listing-listing.ensures.keeps in
    let members : c.in_ok-members.members ≡ m.image ∷ [] = c.in_ok-members.ensures ∙ ap (λ i. i ∷ []) c.image.ensures in
    let good = subst (λ xs. IsSoundTeam m.image m.images (record { path = c.new.result; members = xs })) (sym members) (alone m.image m.images c.new.result c.requires.sound.memory.image) in
    c.part.ensures.sound c.args.code.now keeps c.requires.sound good
