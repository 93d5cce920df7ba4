use Rattle.std.proofs.Common.{SFits, w64, rules}
use Rattle.std.proofs.lemmas.Int.{to_z-of_z}
use Rattle.caf_base.specs.ImageMemory.{ImageMemory}
use Rattle.caf_vm.proofs.Saved.{put_any}
use Rattle.caf_vm.proofs.ends.put_one.Goals as goal

pub returns : goal.returns
returns c =
    let m : ImageMemory = c.args.memory.now in
    let w = c.args.write in
    let index : SFits w64 w.index = search rules in
    let value : SFits w64 w.value = search rules in
    let written = simp to_z-of_z at c.write-written.ensures.written in
    put_any m c.write-written.new.self w c.write-written.result written c.write-written.ensures.err
