use Rattle.caf_top.proofs.Stages.{meant_here, names_told}
use Rattle.caf_top.proofs.read.meant.Goals as goal

pub returns-in-Ok : goal.returns-in-Ok
returns-in-Ok c = meant_here _ c.in-Ok.program c.in-Ok.ensures.means _ c.accepted.ensures

pub returns-in-Err : goal.returns-in-Err
returns-in-Err c = names_told _ c.in-Err.fault c.in-Err.ensures.means _ c.of_kinds.ensures
