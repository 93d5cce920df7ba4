use Rattle.std.proofs.Common.{◌∙◌, subst, sym}
use Rattle.caf_base.specs.ImageMemory.{ImageMemory}
use Rattle.caf_code.specs.Sound.{IsSoundTask}
use Rattle.caf_code.specs.Task.{Task}
use Rattle.caf_code.specs.Whole.{IsSettled}
use Rattle.caf_code.specs.declared.listing.Listing.{Listing}
use Rattle.caf_vm.proofs.need.blocked.Goals as goal

pub need_in_step-requires-clause-whole : goal.need_in_step-requires-clause-whole
need_in_step-requires-clause-whole c = λ clear.
    let t : Task = c.args.task.now in
    let m : ImageMemory = c.args.memory.now in
    let same = sym c.listing.ensures.same in
    let sound = subst (λ (code : Listing). IsSoundTask code m.images t) same c.requires.sound.task in
    let settled = subst (λ (code : Listing). IsSettled code t) same c.requires.settled in
    c.steps_lack_nothing.ensures.whole c.listing.result.now c.listing.ensures.keeps clear m.images t m sound (sym c.wait.ensures ∙ c.in-None.is) settled
