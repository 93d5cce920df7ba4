use Rattle.std.proofs.Common.{◌≡◌, false}
use Rattle.caf_seatlock.specs.Passes.{has_turn, seats_of, IsOf}
use Rattle.caf_seatlock.proofs.tests.work.Given as goal

abbrev pub invariant-loop-turn : goal.invariant-loop-turn
invariant-loop-turn g l = IsOf l.lock l.worker.pass × (has_turn l.worker.pass ≡ false) × (seats_of l.worker.pass ≡ seats_of l.initial.worker.pass)
