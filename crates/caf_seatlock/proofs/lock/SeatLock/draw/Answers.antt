use Rattle.std.proofs.Common.{rules}
use Rattle.caf_seatlock.proofs.Drawing.{draws}
use Rattle.caf_seatlock.proofs.lock.SeatLock.draw.Goals as goal

pub fetch_add-requires : goal.fetch_add-requires
fetch_add-requires g c = (search rules, search rules, draws g.W.Keeps.entries g.W.Keeps.fixed _ _ _ _ _ c.requires.away c.requires.some_seat)
