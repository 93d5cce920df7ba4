use Rattle.std.proofs.Common.{◌≡◌, ◌∙◌, List, ap, subst, sym}
use Rattle.caf_base.specs.Start.{start_memory}
use Rattle.caf_base.specs.declared.object.Object.{Object}
use Rattle.caf_code.specs.Rules.{KeepsRules}
use Rattle.caf_code.specs.Sound.{IsSoundMemory}
use Rattle.caf_code.specs.declared.listing.Listing.{Listing}
use Rattle.caf_trials.proofs.agreement.story.code_memory.Goals as goal

pub returns : goal.returns
returns c =
    let code : Listing = c.args.code.now in
    let same = c.listing-listing.ensures.same in
    let keeps = subst KeepsRules same c.listing-listing.ensures.keeps in
    let begins : c.in_ok-memory.memory ≡ start_memory code.objects c.args.images c.args.image = c.in_ok-memory.ensures ∙ ap (λ (xs : List Object). start_memory xs c.args.images c.args.image) (c.as_slice.ensures ∙ ap (λ (x : Listing). x.objects) same) in
    subst (IsSoundMemory code) (sym begins) ((c.tasks_stay_sound.ensures code keeps).begins c.args.images c.args.image c.requires)
