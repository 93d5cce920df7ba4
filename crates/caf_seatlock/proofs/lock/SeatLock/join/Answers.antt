use Rattle.std.proofs.Common.{rules}
use Rattle.caf_seatlock.proofs.Standings.{is_away, has_nothing}
use Rattle.caf_seatlock.proofs.Uniting.{joins}
use Rattle.caf_seatlock.proofs.Settling.{settles_after}
use Rattle.caf_seatlock.proofs.lock.SeatLock.join.Goals as goal

pub join_seat-requires : goal.join_seat-requires
join_seat-requires g c = let pass = c.args.pass.now in let other = c.args.other in (
  search rules,
  search rules,
  has_nothing other.seats other.seat.me other.in_order c.requires.free.1,
  search rules,
  joins g.W.Keeps.entries g.W.Keeps.fixed _ _ _ _ _ _ (is_away pass.seats pass.seat.me pass.in_order c.requires.free.0) (is_away other.seats other.seat.me other.in_order c.requires.free.1),
)

pub load-requires : goal.load-requires
load-requires g c = let pass = c.args.pass.now in (
  search rules,
  search rules,
  settles_after g.W.Keeps.entries g.W.Keeps.fixed _ _ _ _ pass.seat.me _ c.args.other.seat.me.0 c.join_seat.ensures.2 (is_away pass.seats pass.seat.me pass.in_order c.requires.free.0),
)
