use Rattle.caf_top.proofs.Stages.{held_here, tokens_told}
use Rattle.caf_top.proofs.read.read_program.Goals as goal

pub returns-in-Ok : goal.returns-in-Ok
returns-in-Ok c = held_here c.args.bytes.now c.in-Ok.tokens _ c.in-Ok.ensures c.as_slice.ensures _ c.spelled.ensures

pub returns-in-Err : goal.returns-in-Err
returns-in-Err c = tokens_told _ c.in-Err.fault c.in-Err.ensures _ c.of_tokens.ensures
