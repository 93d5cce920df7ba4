use Rattle.caf_top.proofs.Carried.{carried, stopped}
use Rattle.caf_top.proofs.answer.given.Goals as goal

pub returns-in-Ok : goal.returns-in-Ok
returns-in-Ok c = carried c.args.work c.args.bytes.now c.in-Ok.accepted c.in-Ok.ensures _ c.carried_out.ensures

pub returns-in-Err : goal.returns-in-Err
returns-in-Err c = stopped c.args.work c.args.bytes.now c.in-Err.stop c.in-Err.ensures _ c.stopped.ensures
