use Rattle.std.proofs.Common.{◌≡◌, ◌∙◌, List, Some, ap, arith, pos, refl, subst, sym}
use Rattle.std.specs.Prelude.{IsTrue}
use Rattle.caf_base.specs.ImageMemory.{ImageMemory}
use Rattle.caf_base.specs.Start.{start_memory}
use Rattle.caf_base.specs.declared.object.Object.{Object}
use Rattle.caf_base.specs.declared.operation.EventAt.{EventAt}
use Rattle.caf_code.specs.Rules.{KeepsRules}
use Rattle.caf_code.specs.Sound.{IsSoundMemory, is_carried}
use Rattle.caf_code.specs.declared.listing.Listing.{Listing}
use Rattle.caf_vmtrials.specs.Examples.{messages_code}
use Rattle.caf_vmtrials.proofs.steps.run_shipped.Goals as goal

pub run_task-requires-clause-sound : goal.run_task-requires-clause-sound
run_task-requires-clause-sound o c =
    let code : Listing = c.args.code.now in
    let m : ImageMemory = c.in_ok-memory.memory in
    let same = c.listing-listing.ensures.same in
    let keeps = subst KeepsRules same c.listing-listing.ensures.keeps in
    let begins : m ≡ start_memory code.objects 16 1 = c.in_ok-memory.ensures ∙ ap (λ (xs : List Object). start_memory xs 16 1) (c.as_slice.ensures ∙ ap (λ (x : Listing). x.objects) same) in
    let carried : IsTrue (is_carried messages_code 16 (Some (record { image = 1; object = 2; index = pos 2 }))) = refl in
    let here = subst (λ (x : Listing). IsTrue (is_carried x 16 (Some c.event.result))) (sym c.requires) (subst (λ (e : EventAt). IsTrue (is_carried messages_code 16 (Some e))) (sym c.event.ensures) carried) in
    record {
      memory = subst (IsSoundMemory code) (sym begins) ((c.tasks_stay_sound.ensures code keeps).begins 16 1 (omega arith));
      task = c.in_ok-task.ensures.sound m.images (subst (λ n. IsTrue (is_carried code n (Some c.event.result))) (sym (ap (λ (x : ImageMemory). x.images) begins)) here);
    }
