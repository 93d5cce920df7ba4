use Rattle.std.proofs.Common.{◌<◌, arith, length}
use Rattle.caf_check.proofs.More.{leads_as, refused_as}
use Rattle.caf_check.proofs.led.led_by.Goals as goal

pub returns-then-not-branch : goal.returns-then-not-branch
returns-then-not-branch c =
    let within : c.loop-at.at < length c.args.journal.now = omega arith in
    refused_as _ c.if-not-branch.true c.args.a.now c.args.images c.loop-at.at c.args.journal.now _ c.loop-at.state c.follow.new.state within c.loop-at.invariant c.in_ok-follow.ensures.follows

pub loop-at-preserved : goal.loop-at-preserved
loop-at-preserved c =
    let within : c.loop-at.at < length c.args.journal.now = omega arith in
    leads_as _ c.if-not-branch.false c.args.a.now c.args.images c.loop-at.at c.args.journal.now _ c.loop-at.state c.follow.new.state within c.loop-at.invariant c.in_ok-follow.ensures.follows c.in_ok-follow.ensures.few c.follow.ensures.ready
