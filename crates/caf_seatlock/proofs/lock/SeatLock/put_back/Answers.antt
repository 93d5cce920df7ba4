use Rattle.std.proofs.Common.{rules}
use Rattle.caf_seatlock.proofs.Passing.{passes_back}
use Rattle.caf_seatlock.proofs.lock.SeatLock.put_back.Goals as goal

pub fetch_add-requires : goal.fetch_add-requires
fetch_add-requires g c = (
  search rules,
  search rules,
  passes_back g.W.Keeps.entries g.W.Keeps.fixed _ _ _ _ _ _ _ _ c.exchange.ensures.3 c.requires.turn.1 c.requires.hand c.requires.longer c.requires.fixed,
)
