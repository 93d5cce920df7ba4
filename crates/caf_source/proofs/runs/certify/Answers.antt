use Rattle.std.proofs.Common.{◌<◌, arith, length}
use Rattle.caf_source.proofs.Led.{led_more}
use Rattle.caf_source.proofs.runs.certify.Goals as goal

pub loop-at-preserved : goal.loop-at-preserved
loop-at-preserved c =
    let within : c.loop-at.at < length c.args.choices.now = omega arith in
    led_more c.args.a.now c.args.images c.loop-at.at c.args.choices.now _ c.loop-at.state c.step.new.s c.in_ok-step.field-0 c.in-Done.is within c.loop-at.invariant c.in_ok-step.ensures.made c.step.ensures.ready
