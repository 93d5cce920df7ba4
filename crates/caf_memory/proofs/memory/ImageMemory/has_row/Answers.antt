use Rattle.caf_memory.proofs.Sized.{has_row}
use Rattle.caf_memory.proofs.memory.ImageMemory.has_row.Goals as goal

pub returns : goal.returns
returns c = has_row c.args.self.now c.args.object c.is_sized.ensures c.requires
