use Rattle.std.proofs.Common.{◌≡◌, ◌<◌, ◌∙◌, ap, sym, subst, length, List, Some, Bool, false, ℤ, arith, nat_le, if◌then◌else◌}
use Rattle.std.specs.Prelude.{slice_get}
use Rattle.std.proofs.lemmas.Bool.{lt-leb}
use Rattle.caf_base.specs.ImageMemory.{ImageMemory}
use Rattle.caf_base.specs.declared.effect.Effect.TheVariants as effect
use Rattle.caf_base.specs.declared.trap.Trap.TheVariants as trap
use Rattle.caf_code.specs.Calls.{does_call, opens}
use Rattle.caf_code.specs.Did.{Did, Fails, Stops, on_arguments, there}
use Rattle.caf_code.specs.Task.{Task}
use Rattle.caf_code.specs.declared.listing.SubCode.{SubCode}
use Rattle.caf_vm.specs.Draft.{memory_in, task_in}
use Rattle.caf_vm.specs.Left.{after_of, left_by}
use Rattle.caf_vm.proofs.Outcome.{at_place, same_memory}
use Rattle.caf_vm.proofs.calls.call.Goals as goal

pub returns : goal.returns
returns c =
    let subs = c.args.code.now.subs in
    let f = c.args.sub in
    let sub : SubCode = c.index-as_slice-sub.result in
    let draft = c.args.draft in
    let last = c.pop_many.new.self in
    let t : Task = task_in draft c.args.task.now in
    let u : Task = task_in last c.args.task.now in
    let m : ImageMemory = memory_in draft c.args.memory.now in
    let v : ImageMemory = memory_in last c.args.memory.now in
    let rest = u.frame.stack in
    let arguments = c.in_ok-arguments.arguments.items in
    let calls : Bool → List ℤ → List ℤ → Did = λ deep xs left. if deep then Fails trap.Depth m else Stops effect.Ran (opens sub xs left t) m in
    let named : slice_get subs f ≡ Some sub = subst (λ (xs : List SubCode). slice_get xs f ≡ Some sub) c.as_slice.ensures (at_place c.as_slice.result.now f sub (subst (λ (xs : List SubCode). f < length xs) (sym c.as_slice.ensures) c.requires.there) c.index-as_slice-sub.is) in
    let shallow : nat_le 200 (length t.calls) ≡ false = lt-leb 200 (length t.calls) (omega (arith, c.open_calls.ensures, c.if-open_calls-ge-DEPTH_LIMIT.false)) in
    let did : does_call subs f t m ≡ Stops effect.Ran (opens sub arguments rest t) m =
    ap (λ o. there o m (λ x. on_arguments (length x.dummies) t.frame.stack m (λ xs left. if nat_le 200 (length t.calls) then Fails trap.Depth m else Stops effect.Ran (opens x xs left t) m))) named
    ∙ ap (λ n. on_arguments n t.frame.stack m (calls (nat_le 200 (length t.calls)))) (sym c.len.ensures)
    ∙ c.in_ok-arguments.ensures.pops m (calls (nat_le 200 (length t.calls)))
    ∙ ap (λ b. calls b arguments rest) shallow in
    let same = same_memory draft last c.args.memory.now (sym c.in_ok-arguments.ensures.writes) in
    let opened : c.open_call.new.self ≡ opens sub arguments rest t =
    c.in_ok-open_call.ensures ∙ ap (λ xs. opens sub xs c.commit.new.task.frame.stack c.commit.new.task) c.as_slice-2.ensures.value
    ∙ ap (λ (x : Task). opens sub arguments x.frame.stack x) c.in_ok-commit.ensures.task ∙ sym (ap (λ (x : Task). opens sub arguments rest x) c.in_ok-arguments.ensures.task) in
    ap (λ (x : Task). after_of effect.Ran x c.commit.new.memory) opened
    ∙ ap (after_of effect.Ran (opens sub arguments rest t)) (c.in_ok-commit.ensures.memory ∙ sym same)
    ∙ sym (ap (λ d. left_by d c.args.task.now c.args.memory.now) did)
