use Rattle.std.proofs.Common.{rules}
use Rattle.caf_seatlock.proofs.Looking.{has_slot}
use Rattle.caf_seatlock.proofs.lock.SeatLock.take.Goals as goal

pub exchange-requires : goal.exchange-requires
exchange-requires g c = (search rules, has_slot g.W.Keeps.entries g.W.Keeps.fixed _ _ _ c.await_turn.ensures.gets.1)
