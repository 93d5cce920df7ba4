use Rattle.std.proofs.Common.{◌∙◌, sym, ap, SFits, w64, reverse}
use Rattle.std.proofs.lemmas.Int.{to_z-of_z}
use Rattle.caf_base.specs.ImageMemory.{ImageMemory}
use Rattle.caf_vm.specs.Draft.{latest_element, or_latest}
use Rattle.caf_vm.proofs.Overlay.{read_after}
use Rattle.caf_vm.proofs.draft.Draft.read.Goals as goal

pub returns : goal.returns
returns c =
    let m : ImageMemory = c.args.memory.now in
    let object = c.args.object in
    let index = c.args.index in
    let ws = reverse c.args.self.now.writes.items in
    let fits : SFits w64 index = c.ranges.index in
    let read = simp to_z-of_z at c.read.ensures in
    let latest = simp to_z-of_z at c.latest_in_element-latest.ensures in
    let slice = c.as_slice.ensures.value in
    c.latest_or.ensures ∙ ap (λ l. or_latest l c.read.result) (latest ∙ ap (λ writes. latest_element object index (reverse writes)) slice) ∙ ap (or_latest (latest_element object index ws)) read ∙ sym (read_after m.objects ws object index m.cells c.has_row.ensures)
