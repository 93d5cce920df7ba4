use Rattle.caf_top.proofs.Checking.{held_as, no_trace_told, trace_led, within_as}
use Rattle.caf_top.specs.Promise.{trace_limit}
use Rattle.caf_top.proofs.check.followed.Goals as goal

pub returns-in-Ok-clause-due : goal.returns-in-Ok-clause-due
returns-in-Ok-clause-due g c = λ file accepted.
    trace_led file c.args.a.now accepted _ c.args.images c.deref.result.now c.in-Ok.ensures.cause.loaded
    (held_as (g.H.Host.texts c.args.host.now) c.args.trace.now c.in-Ok.bytes.items c.deref.result.now c.deref.ensures.value c.in-Ok.ensures.bytes)
    (within_as trace_limit c.in-Ok.bytes.items c.deref.result.now c.deref.ensures.value c.in-Ok.ensures.within) _ c.traced.ensures

pub returns-in-Err-clause-due : goal.returns-in-Err-clause-due
returns-in-Err-clause-due g c = λ file accepted. no_trace_told file c.args.a.now accepted _ _ _ c.args.trace.now c.args.images c.in-Err.fault c.in-Err.ensures.cause c.in-Err.ensures.too_long _ c.unloaded.ensures
