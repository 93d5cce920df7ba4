use Rattle.std.proofs.Common.{length, drop, ◌-◌, ◌∙◌, arith, length-take, length-drop}
use Rattle.caf_top.proofs.Taken.{appends_more}
use Rattle.caf_top.proofs.output.write_all.Goals as goal

pub loop-done-preserved : goal.loop-done-preserved
loop-done-preserved g c =
    let before = c.loop-done.invariant in
    let here = c.in_ok-done.ensures in
    record {
      within = omega (arith, here.within, length-take (length c.args.bytes.now - c.loop-done.done) (drop c.loop-done.done c.args.bytes.now), length-drop c.loop-done.done c.args.bytes.now);
      taken = appends_more _ (g.O.Sink.taken c.loop-done.out) _ c.args.bytes.now c.loop-done.done c.in_ok-done.field-0 before.within before.taken here.bytes;
      faults = here.cause.stood ∙ before.faults;
    }
