use Rattle.std.proofs.Common.{◌≡◌, ◌∷◌, ◌∙◌, ap, sym, List, ℤ, Result, SFits, w64, rules}
use Rattle.std.proofs.lemmas.Int.{to_z-of_z}
use Rattle.caf_base.specs.ImageMemory.{ImageMemory}
use Rattle.caf_base.specs.Places.{element_section}
use Rattle.caf_base.specs.declared.operation.Section.{Section}
use Rattle.caf_base.specs.declared.place.Place.{Place}
use Rattle.caf_base.specs.declared.trap.Trap.{Trap}
use Rattle.caf_code.specs.Did.{Did, on_one}
use Rattle.caf_code.specs.Operations.{on_element}
use Rattle.caf_code.specs.Task.{Task}
use Rattle.caf_code.specs.declared.instr.ElementForm.{ElementForm}
use Rattle.caf_vm.specs.Draft.{memory_in, task_in}
use Rattle.caf_vm.proofs.operations.element.Goals as goal

pub returns-in-Coindexed-clause-pops : goal.returns-in-Coindexed-clause-pops
returns-in-Coindexed-clause-pops c = λ go.
    let t : Task = c.args.task.now in
    let m : ImageMemory = memory_in c.args.draft.now c.args.memory.now in
    let o = c.in-Coindexed.object in
    let place : Place = c.pop_place-place.result in
    let index = c.pop-index.result in
    let fits : SFits w64 index = search rules in
    let first = (task_in c.args.draft.now t).frame.stack in
    let second = (task_in c.pop_place-place.new.self t).frame.stack in
    let rest = (task_in c.pop-index.new.self t).frame.stack in
    let tail : Place → List ℤ → Did = λ p below. on_one below m (λ i left. go (element_section m o i p) left) in
    let popped : second ≡ index ∷ rest = ap (λ (u : Task). u.frame.stack) c.pop-index.ensures.task in
    let found = simp to_z-of_z at c.element_section.ensures in
    ap (λ (f : ElementForm). on_element f first m go) c.in-Coindexed.is ∙ c.pop_place-place.ensures.pops m tail ∙ ap (tail place) popped ∙ ap (λ (r : Result Section Trap). go r rest) (sym found)
