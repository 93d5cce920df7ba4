use Rattle.std.proofs.Common.{rules}
use Rattle.caf_seatlock.proofs.Looking.{looks_again}
use Rattle.caf_seatlock.proofs.lock.SeatLock.await_turn.Goals as goal

pub load-served-requires : goal.load-served-requires
load-served-requires g c = (search rules, search rules, looks_again g.W.Keeps.entries g.W.Keeps.fixed _ _ _ _ _ _ c.requires.drawn.0 c.loop.invariant.1 c.requires.drawn.2)
