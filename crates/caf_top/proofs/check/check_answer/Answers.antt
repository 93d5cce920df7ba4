use Rattle.caf_top.proofs.Checking.{between_loads, held_as, no_file_told}
use Rattle.caf_top.specs.Promise.{seen_of}
use Rattle.caf_top.proofs.check.check_answer.Goals as goal

pub returns-in-Ok-clause-due : goal.returns-in-Ok-clause-due
returns-in-Ok-clause-due g c =
    let file = seen_of (g.H.Host.texts c.args.host.now) (g.H.Host.load_faults c.args.host.now) (g.H.Host.load_faults c.load.new.self) c.args.file.now in
    between_loads (g.H.Host.texts c.args.host.now) (g.H.Host.load_faults c.args.host.now) (g.H.Host.load_faults c.load.new.self) (g.H.Host.load_faults c.read_and_followed.new.host) c.args.file.now c.args.trace.now c.args.images c.in-Ok.ensures.cause.others c.read_and_followed.ensures.others _
    (rw c.in-Ok.ensures.kept at c.read_and_followed.ensures.due file c.in-Ok.ensures.cause.loaded (held_as (g.H.Host.texts c.args.host.now) c.args.file.now c.in-Ok.bytes.items c.deref.result.now c.deref.ensures.value c.in-Ok.ensures.bytes))

pub returns-in-Err-clause-due : goal.returns-in-Err-clause-due
returns-in-Err-clause-due g c = no_file_told _ _ _ c.args.file.now c.args.trace.now c.args.images c.in-Err.fault c.in-Err.ensures.cause c.in-Err.ensures.too_long _ c.unloaded.ensures
