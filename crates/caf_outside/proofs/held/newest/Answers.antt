use Rattle.std.proofs.Common.{arith}
use Rattle.std.proofs.lemmas.Grind.{common_steps}
use Rattle.caf_outside.proofs.Named.{text_of_more}
use Rattle.caf_outside.proofs.held.newest.Goals as goal
use Rattle.caf_outside.proofs.held.newest.Goals.{then-eq, else-eq}

pub loop-entry-preserved : goal.loop-entry-preserved
loop-entry-preserved c =
    let more = text_of_more c.args.held.now c.loop-entry.entry-index c.entry-item.result c.args.name.now c.loop-entry-test.true in
    elim c.if-eq.branch [ then-eq w ↦ grind (arith, common_steps, more) | else-eq w ↦ grind (arith, common_steps, more) ]
