use Rattle.std.proofs.Common.{◌+◌, ◌∙◌, ap, subst, sym}
use Rattle.caf_code.specs.Rules.{KeepsRules}
use Rattle.caf_code.specs.Sound.{IsSoundTask}
use Rattle.caf_code.specs.Step.{settled_in}
use Rattle.caf_code.specs.Task.{Task}
use Rattle.caf_code.specs.declared.listing.Listing.{Listing}
use Rattle.caf_vm.proofs.past.leave.Goals as goal

pub returns-clause-sound : goal.returns-clause-sound
returns-clause-sound c = λ images sound.
    let code : Listing = c.args.code.now in
    let t : Task = c.args.task.now in
    let keeps = subst KeepsRules c.listing.ensures.same c.listing.ensures.keeps in
    let left = c.go_on.ensures ∙ ap (λ a. record t { address = a }) (c.settle_in-address.ensures.settled ∙ ap (λ a. settled_in code (a + 1)) c.address-2.ensures) in
    subst (IsSoundTask code images) (sym left) ((c.tasks_stay_sound.ensures code keeps).leaves images t sound c.requires)
