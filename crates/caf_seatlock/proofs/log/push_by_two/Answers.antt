use Rattle.std.proofs.Common.{rules}
use Rattle.caf_seatlock.proofs.Fronts.{begins_through, stands_on}
use Rattle.caf_seatlock.proofs.log.push_by_two.Goals as goal

pub returns-clause-first : goal.returns-clause-first
returns-clause-first g c = stands_on _ _ _ _ (begins_through _ _ _ c.join.ensures.seen.0 c.close.ensures.seen) (search rules)

pub returns-clause-second : goal.returns-clause-second
returns-clause-second g c = stands_on _ _ _ _ (begins_through _ _ _ c.join.ensures.seen.1 c.close.ensures.seen) (search rules)
