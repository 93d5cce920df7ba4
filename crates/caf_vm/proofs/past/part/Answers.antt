use Rattle.std.proofs.Common.{◌≡◌, ◌∙◌, ap, subst, sym}
use Rattle.caf_base.specs.ImageMemory.{ImageMemory}
use Rattle.caf_code.specs.Sound.{IsSoundMemory, IsSoundTask}
use Rattle.caf_code.specs.Step.{parted, parted_memory}
use Rattle.caf_code.specs.Task.{Task}
use Rattle.caf_vm.proofs.Within.{parted_images}
use Rattle.caf_vm.proofs.past.part.Goals as goal

pub returns-clause-sound : goal.returns-clause-sound
returns-clause-sound c = λ code keeps sound good.
    let t : Task = c.args.task.now in
    let m : ImageMemory = c.args.memory.now in
    let new = c.args.new in
    let law = c.tasks_stay_sound.ensures code keeps in
    let after : c.set_new_team.new.memory ≡ parted_memory t.wait new m = c.set_new_team.ensures ∙ ap (λ w. parted_memory w new m) c.wait.ensures in
    record {
      memory = subst (IsSoundMemory code) (sym after) (law.team t m new sound good);
      task = subst (λ n. IsSoundTask code n c.end_wait.new.self) (sym (ap (λ (x : ImageMemory). x.images) after ∙ parted_images t.wait new m)) (subst (IsSoundTask code m.images) (sym c.end_wait.ensures) (law.parts m.images t sound.task c.requires));
    }
