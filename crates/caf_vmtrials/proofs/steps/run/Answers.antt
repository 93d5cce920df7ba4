use Rattle.std.proofs.Common.{◌≡◌, ◌∙◌, List, ap, subst, sym}
use Rattle.caf_base.specs.ImageMemory.{ImageMemory}
use Rattle.caf_base.specs.Start.{start_memory}
use Rattle.caf_base.specs.declared.object.Object.{Object}
use Rattle.caf_code.specs.Rules.{KeepsRules}
use Rattle.caf_code.specs.Sound.{IsSoundMemory}
use Rattle.caf_code.specs.declared.listing.Listing.{Listing}
use Rattle.caf_vmtrials.proofs.steps.run.Goals as goal

pub run_task-requires-clause-sound : goal.run_task-requires-clause-sound
run_task-requires-clause-sound o c =
    let code : Listing = c.args.code.now in
    let m : ImageMemory = c.in_ok-memory.memory in
    let same = c.listing-listing.ensures.same in
    let keeps = subst KeepsRules same c.listing-listing.ensures.keeps in
    let begins : m ≡ start_memory code.objects 16 c.args.image = c.in_ok-memory.ensures ∙ ap (λ (xs : List Object). start_memory xs 16 c.args.image) (c.as_slice.ensures ∙ ap (λ (x : Listing). x.objects) same) in
    record {
      memory = subst (IsSoundMemory code) (sym begins) ((c.tasks_stay_sound.ensures code keeps).begins 16 c.args.image c.requires);
      task = c.in_ok-task.ensures.sound m.images;
    }
