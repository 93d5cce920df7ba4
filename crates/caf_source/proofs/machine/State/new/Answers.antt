use Rattle.caf_source.proofs.Begin.{first_more, first_ready}
use Rattle.caf_source.proofs.machine.State.new.Goals as goal

pub loop-image-preserved : goal.loop-image-preserved
loop-image-preserved c =
    first_more c.args.a.now c.program-program.result.now c.args.images c.loop-image.image c.loop-image.all.items c.push.new.self.items c.in_ok-first_image.field-0 c.program-program.ensures.same c.loop-image.invariant c.in_ok-first_image.ensures c.in_ok-push.ensures.items

pub returns-clause-ready : goal.returns-clause-ready
returns-clause-ready c =
    first_ready c.args.a.now c.program-program.result.now c.args.images c.loop-image.image c.loop-image.all.items c.program-program.ensures.same c.loop-image.invariant c.memories_begin_placeable.ensures c.program-program.ensures.accepted
