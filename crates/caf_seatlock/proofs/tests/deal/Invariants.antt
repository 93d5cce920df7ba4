use Rattle.std.proofs.Common.{◌≡◌, ◌+◌, false, All, vec_len}
use Rattle.caf_seatlock.specs.Passes.{has_turn, seats_of, IsOf}
use Rattle.caf_seatlock.specs.Workers.{IsReady}
use Rattle.caf_seatlock.proofs.tests.deal.Given as goal

abbrev pub invariant-loop-number : goal.invariant-loop-number
invariant-loop-number l = IsOf l.lock l.pass × (has_turn l.pass ≡ false) × All (λ worker. IsReady l.lock worker.pass) l.workers.items × (seats_of l.pass + vec_len l.workers ≡ seats_of l.initial.pass)
