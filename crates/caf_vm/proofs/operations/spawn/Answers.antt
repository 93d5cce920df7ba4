use Rattle.std.proofs.Common.{◌≡◌, ◌<◌, ◌∙◌, ap, sym, subst, length, List, Option, Some, Result, ℤ}
use Rattle.std.specs.Prelude.{slice_get}
use Rattle.caf_base.specs.ImageMemory.{ImageMemory}
use Rattle.caf_base.specs.Orders.{ship_order}
use Rattle.caf_base.specs.declared.effect.Effect.TheVariants as effect
use Rattle.caf_base.specs.declared.operation.OpSpec.{OpSpec}
use Rattle.caf_base.specs.declared.place.EventWanted.{EventWanted}
use Rattle.caf_base.specs.declared.place.Place.{Place}
use Rattle.caf_base.specs.declared.trap.Trap.{Trap}
use Rattle.caf_code.specs.Did.{Did, found, on_arguments, on_place, stops, there}
use Rattle.caf_code.specs.Operations.{does_spawn, event_for}
use Rattle.caf_code.specs.Task.{Task, with_stack}
use Rattle.caf_code.specs.declared.instr.Role.TheVariants as role
use Rattle.caf_code.specs.declared.listing.SubCode.{SubCode}
use Rattle.caf_vm.specs.Draft.{memory_in, task_in}
use Rattle.caf_vm.proofs.Outcome.{at_place, carried, same_memory, stops_on, trapped}
use Rattle.caf_vm.proofs.operations.spawn.Goals as goal

-- the ship begins, or traps
abbrev begins : Task → ImageMemory → Result OpSpec Trap → List ℤ → Did
begins t m tested rest = found tested m (λ order. stops (effect.Begins order) rest t m)

pub returns-in-Ok : goal.returns-in-Ok
returns-in-Ok c =
    let subs = c.args.code.now.subs in
    let f = c.args.sub in
    let sub : SubCode = c.index-as_slice-sub.result in
    let draft = c.args.draft in
    let last = c.pop_many.new.self in
    let t : Task = task_in draft c.args.task.now in
    let s : Task = task_in c.pop_place-place.new.self c.args.task.now in
    let u : Task = task_in last c.args.task.now in
    let m : ImageMemory = memory_in draft c.args.memory.now in
    let v : ImageMemory = memory_in last c.args.memory.now in
    let rest = u.frame.stack in
    let begun = effect.Begins c.in-Ok.order in
    let place : Place = c.pop_place-place.result in
    let arguments = c.in_ok-arguments.arguments.items in
    let event : Option EventWanted = event_for role.Done t.frame.listed in
    let ships : Place → List ℤ → List ℤ → Did = λ p xs left. begins t m (ship_order m f xs event p) left in
    let named : slice_get subs f ≡ Some sub = subst (λ (xs : List SubCode). slice_get xs f ≡ Some sub) c.as_slice.ensures (at_place c.as_slice.result.now f sub (subst (λ (xs : List SubCode). f < length xs) (sym c.as_slice.ensures) c.requires.there) c.index-as_slice-sub.is) in
    let popped : t ≡ with_stack t.frame.stack u = c.pop_place-place.ensures.task ∙ ap (with_stack t.frame.stack) c.in_ok-arguments.ensures.task in
    let same = same_memory draft last c.args.memory.now (sym (c.in_ok-arguments.ensures.writes ∙ c.pop_place-place.ensures.writes)) in
    carried c.finish.result c.args.task.now c.finish.new.task c.args.memory.now c.finish.new.memory (does_spawn subs f c.args.place t m) (stops begun rest u v)
    (ap (λ o. there o m (λ x. on_place c.args.place t.frame.stack m (λ p below. on_arguments (length x.dummies) below m (ships p)))) named
    ∙ c.pop_place-place.ensures.pops m (λ p below. on_arguments (length sub.dummies) below m (ships p))
    ∙ ap (λ n. on_arguments n s.frame.stack m (ships place)) (ap (λ (x : SubCode). length x.dummies) c.index-as_slice-sub.is ∙ sym c.len-dummies.ensures)
    ∙ c.in_ok-arguments.ensures.pops m (ships place)
    ∙ ap (λ e. begins t m (ship_order m f arguments e place) rest) (sym c.event_for-done.ensures)
    ∙ ap (λ r. begins t m r rest) (sym c.ship.ensures ∙ c.in-Ok.is)
    ∙ stops_on begun t.frame.stack rest t u m v popped same)
    c.finish.ensures

pub returns-in-Err : goal.returns-in-Err
returns-in-Err c =
    let subs = c.args.code.now.subs in
    let f = c.args.sub in
    let sub : SubCode = c.index-as_slice-sub.result in
    let draft = c.args.draft in
    let last = c.pop_many.new.self in
    let t : Task = task_in draft c.args.task.now in
    let s : Task = task_in c.pop_place-place.new.self c.args.task.now in
    let u : Task = task_in last c.args.task.now in
    let m : ImageMemory = memory_in draft c.args.memory.now in
    let rest = u.frame.stack in
    let place : Place = c.pop_place-place.result in
    let arguments = c.in_ok-arguments.arguments.items in
    let event : Option EventWanted = event_for role.Done t.frame.listed in
    let ships : Place → List ℤ → List ℤ → Did = λ p xs left. begins t m (ship_order m f xs event p) left in
    let named : slice_get subs f ≡ Some sub = subst (λ (xs : List SubCode). slice_get xs f ≡ Some sub) c.as_slice.ensures (at_place c.as_slice.result.now f sub (subst (λ (xs : List SubCode). f < length xs) (sym c.as_slice.ensures) c.requires.there) c.index-as_slice-sub.is) in
    let same = same_memory draft last c.args.memory.now (sym (c.in_ok-arguments.ensures.writes ∙ c.pop_place-place.ensures.writes)) in
    trapped c.trap.result c.in-Err.cause c.args.task.now c.args.memory.now m c.trap.new.memory (does_spawn subs f c.args.place t m)
    (ap (λ o. there o m (λ x. on_place c.args.place t.frame.stack m (λ p below. on_arguments (length x.dummies) below m (ships p)))) named
    ∙ c.pop_place-place.ensures.pops m (λ p below. on_arguments (length sub.dummies) below m (ships p))
    ∙ ap (λ n. on_arguments n s.frame.stack m (ships place)) (ap (λ (x : SubCode). length x.dummies) c.index-as_slice-sub.is ∙ sym c.len-dummies.ensures)
    ∙ c.in_ok-arguments.ensures.pops m (ships place)
    ∙ ap (λ e. begins t m (ship_order m f arguments e place) rest) (sym c.event_for-done.ensures)
    ∙ ap (λ r. begins t m r rest) (sym c.ship.ensures ∙ c.in-Err.is))
    c.trap.ensures.effect (c.trap.ensures.memory ∙ sym same)
