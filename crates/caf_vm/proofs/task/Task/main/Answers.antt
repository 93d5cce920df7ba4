use Rattle.std.proofs.Common.{◌∙◌, None, ap, subst, sym}
use Rattle.caf_code.specs.Rules.{KeepsRules}
use Rattle.caf_code.specs.Sound.{IsSoundTask}
use Rattle.caf_code.specs.Step.{settled_in}
use Rattle.caf_code.specs.declared.listing.Listing.{Listing}
use Rattle.caf_vm.specs.Begun.{begun}
use Rattle.caf_vm.proofs.task.Task.main.Goals as goal

pub returns-clause-sound : goal.returns-clause-sound
returns-clause-sound c = λ images.
    let code : Listing = c.args.code.now in
    let keeps = subst KeepsRules c.listing-listing.ensures.same c.listing-listing.ensures.keeps in
    let begins = c.with_cells.ensures ∙ ap (λ a. begun a c.new.result.items None) c.settle_in-address.ensures.settled ∙ ap (λ xs. begun (settled_in code 0) xs None) c.new.ensures.items in
    subst (IsSoundTask code images) (sym begins) ((c.tasks_stay_sound.ensures code keeps).main images)
