use Rattle.std.proofs.Common.{◌≡◌, ◌∷◌, ◌∙◌, ap, sym, List, ℤ, Result, SFits, w64, rules}
use Rattle.std.proofs.lemmas.Int.{to_z-of_z}
use Rattle.caf_base.specs.ImageMemory.{ImageMemory}
use Rattle.caf_base.specs.Places.{event_of}
use Rattle.caf_base.specs.declared.operation.EventAt.{EventAt}
use Rattle.caf_base.specs.declared.place.Place.{Place}
use Rattle.caf_base.specs.declared.trap.Trap.{Trap}
use Rattle.caf_code.specs.Did.{Did, on_one}
use Rattle.caf_code.specs.Task.{Task}
use Rattle.caf_vm.specs.Draft.{memory_in, task_in}
use Rattle.caf_vm.proofs.operations.event_at.Goals as goal

pub returns-clause-pops : goal.returns-clause-pops
returns-clause-pops c = λ go.
    let t : Task = c.args.task.now in
    let m : ImageMemory = memory_in c.args.draft.now c.args.memory.now in
    let o = c.args.object in
    let place : Place = c.pop_place-place.result in
    let index = c.pop-index.result in
    let fits : SFits w64 index = search rules in
    let second = (task_in c.pop_place-place.new.self t).frame.stack in
    let rest = (task_in c.pop-index.new.self t).frame.stack in
    let tail : Place → List ℤ → Did = λ p below. on_one below m (λ i left. go (event_of m o i p) left) in
    let popped : second ≡ index ∷ rest = ap (λ (u : Task). u.frame.stack) c.pop-index.ensures.task in
    c.pop_place-place.ensures.pops m tail ∙ ap (tail place) popped ∙ ap (λ (r : Result EventAt Trap). go r rest) (sym (simp to_z-of_z at c.event.ensures))
