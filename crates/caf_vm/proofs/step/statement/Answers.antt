use Rattle.std.proofs.Common.{◌≡◌, ◌∙◌, List, ap, length, subst, sym}
use Rattle.caf_base.specs.After.{After}
use Rattle.caf_base.specs.ImageMemory.{ImageMemory}
use Rattle.caf_code.specs.Kept.{KeepsTask}
use Rattle.caf_code.specs.Rules.{KeepsRules}
use Rattle.caf_code.specs.Sound.{IsSound, IsSoundMemory, IsSoundTask}
use Rattle.caf_code.specs.Step.{exec, runs, settled_in, unless_waiting}
use Rattle.caf_code.specs.Task.{Task}
use Rattle.caf_code.specs.Whole.{IsSettled}
use Rattle.caf_code.specs.declared.listing.Listing.{Listing}
use Rattle.caf_vm.specs.Left.{after_of}
use Rattle.caf_vm.proofs.Within.{all_aimed, at_rest, ended_is, has_copied, stays_sound}
use Rattle.caf_vm.proofs.step.statement.Goals as goal

pub step-requires-clause-aimed : goal.step-requires-clause-aimed
step-requires-clause-aimed c =
    let m : ImageMemory = c.args.memory.now in
    let same = sym c.listing-listing.ensures.same in
    all_aimed c.listing-listing.result.now m c.listing-listing.ensures.keeps (subst (λ (code : Listing). IsSoundMemory code m) same c.requires.sound.memory)

pub step-requires-clause-copied : goal.step-requires-clause-copied
step-requires-clause-copied c =
    let m : ImageMemory = c.args.memory.now in
    has_copied c.args.code.now m.images c.args.task.now c.requires.sound.task

pub step-requires-clause-whole : goal.step-requires-clause-whole
step-requires-clause-whole c = λ clear.
    let t : Task = c.args.task.now in
    let m : ImageMemory = c.args.memory.now in
    let same = sym c.listing-listing.ensures.same in
    let sound = subst (λ (code : Listing). IsSoundTask code m.images t) same c.requires.sound.task in
    let settled = subst (λ (code : Listing). IsSettled code t) same c.requires.settled in
    c.steps_lack_nothing.ensures.whole c.listing-listing.result.now c.listing-listing.ensures.keeps clear m.images t m sound (sym c.wait.ensures ∙ c.in_default.is) settled

-- what the Step leaves is what the definitions say
ran : (c : goal.After-go_on) → after_of c.in_ok-effect.effect c.go_on.new.self c.step.new.memory ≡ runs c.args.code.now c.args.clear c.args.task.now c.args.memory.now
ran c =
    let t : Task = c.args.task.now in
    let m : ImageMemory = c.args.memory.now in
    let u : Task = c.step.new.task in
    let code : Listing = c.listing-listing.result.now in
    let clear = c.args.clear in
    let same = c.listing-listing.ensures.same in
    let here = subst (λ (x : Listing). IsSettled x t) (sym same) c.requires.settled in
    let address : c.settle_in-address.result ≡ settled_in code u.address =
    c.settle_in-address.ensures.settled ∙ ap (settled_in c.args.code.now) c.address-2.ensures ∙ ap (λ (x : Listing). settled_in x u.address) (sym same) in
    ap (λ (x : Task). after_of c.in_ok-effect.effect x c.step.new.memory) (c.go_on.ensures ∙ ap (λ a. record u { address = a }) address)
    ∙ ap (at_rest code) c.in_ok-effect.ensures
    ∙ ended_is code t m (exec code clear (length code.instrs) t m) here
    ∙ ap (λ w. unless_waiting w code clear t m) (sym (sym c.wait.ensures ∙ c.in_default.is))
    ∙ ap (λ x. runs x clear t m) same

pub returns-clause-runs : goal.returns-clause-runs
returns-clause-runs c = ran c

pub returns-clause-sound : goal.returns-clause-sound
returns-clause-sound c =
    let t : Task = c.args.task.now in
    let m : ImageMemory = c.args.memory.now in
    let code : Listing = c.args.code.now in
    let keeps = subst KeepsRules c.listing-listing.ensures.same c.listing-listing.ensures.keeps in
    subst (λ (a : After Task). KeepsTask a.effect (IsSound code a.task a.memory)) (sym (ran c)) (stays_sound code keeps c.args.clear t m (c.tasks_stay_sound.ensures code keeps) c.requires.sound)
