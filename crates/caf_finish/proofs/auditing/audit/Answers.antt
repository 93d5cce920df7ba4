use Rattle.caf_finish.proofs.Ended.{kept-with}
use Rattle.caf_finish.proofs.auditing.audit.Goals as goal

pub returns-clause-answer : goal.returns-clause-answer
returns-clause-answer c =
    let so_far = c.loop-place.invariant in
    kept-with c.args.size c.args.events.now c.loop-place.place c.loop-place.ledger so_far.size so_far.told c.loop-place-test.false
