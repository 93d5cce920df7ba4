use Rattle.std.proofs.Common.{◌≡◌, ◌++◌, ◌∙◌, List, Some, ap, length, replicate, pos, subst, sym}
use Rattle.std.specs.Prelude.{slice_get}
use Rattle.std.proofs.lemmas.Option.{get_or_from_slice_get}
use Rattle.caf_code.specs.Rules.{KeepsRules}
use Rattle.caf_code.specs.Sound.{IsSoundTask}
use Rattle.caf_code.specs.Step.{settled_in, shipped_task}
use Rattle.caf_code.specs.declared.listing.Listing.{Listing}
use Rattle.caf_code.specs.declared.listing.SubCode.{SubCode}
use Rattle.caf_vm.specs.Begun.{begun}
use Rattle.caf_vm.proofs.Within.{some_and}
use Rattle.caf_vm.proofs.task.Task.shipped.Goals as goal

pub returns-clause-sound : goal.returns-clause-sound
returns-clause-sound c = λ images carried.
    let code : Listing = c.args.code.now in
    let f = c.args.sub in
    let arguments = c.args.args.now in
    let done = c.args.done in
    let keeps = subst KeepsRules c.listing.ensures.same c.listing.ensures.keeps in
    let there = some_and (slice_get code.subs f) (λ (x : SubCode). length arguments ≡ length x.dummies) c.requires in
    let sub : SubCode = there.0 in
    let subs : c.as_slice.result.now ≡ code.subs = c.as_slice.ensures ∙ ap (λ (x : Listing). x.subs) c.listing.ensures.same in
    let found : c.index-as_slice-sub.result ≡ sub = c.index-as_slice-sub.is ∙ get_or_from_slice_get c.as_slice.result.now f sub c.index-as_slice-sub.result (subst (λ (xs : List SubCode). slice_get xs f ≡ Some sub) (sym subs) there.1) in
    let begins : c.with_cells.result ≡ shipped_task code sub arguments done =
    c.with_cells.ensures ∙ ap (λ a. begun a c.in_ok-cells.cells.items done) c.settle_in-address.ensures.settled ∙ ap (λ xs. begun (settled_in code c.index-as_slice-sub.result.address) xs done) c.in_ok-cells.ensures
    ∙ ap (λ (x : SubCode). begun (settled_in code x.address) (arguments ++ replicate x.locals (pos 0)) done) found in
    subst (IsSoundTask code images) (sym begins) ((c.tasks_stay_sound.ensures code keeps).shipped images f sub arguments done there.1 there.2 carried)
