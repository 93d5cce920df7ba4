use Rattle.std.proofs.Common.{rules, arith}
use Rattle.caf_seatlock.proofs.Standings.{is_away}
use Rattle.caf_seatlock.proofs.Cutting.{splits}
use Rattle.caf_seatlock.proofs.lock.SeatLock.split.Goals as goal

pub split_seat-seat-requires : goal.split_seat-seat-requires
split_seat-seat-requires g c = let pass = c.args.pass.now in let order = pass.in_order in (
  search rules,
  search rules,
  splits g.W.Keeps.entries g.W.Keeps.fixed _ _ _ _ (is_away pass.seats pass.seat.me order c.requires.free) (let two = c.if-pass-lt2.false in let seats = order.0 in omega arith),
)
