use Rattle.std.proofs.Common.{refl}
use Rattle.caf_top.proofs.Checking.{file_wrong}
use Rattle.caf_top.proofs.check.read_and_followed.Goals as goal

pub returns-in-Err-clause-due : goal.returns-in-Err-clause-due
returns-in-Err-clause-due g c = λ file stood held. file_wrong file _ c.args.images c.args.bytes.now stood held c.requires.within refl c.in-Err.stop c.in-Err.ensures _ c.stopped.ensures
