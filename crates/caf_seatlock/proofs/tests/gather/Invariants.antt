use Rattle.std.proofs.Common.{◌≡◌, ◌+◌, false, All, vec_len}
use Rattle.caf_seatlock.specs.Passes.{has_turn, seats_of, IsOf}
use Rattle.caf_seatlock.specs.Workers.{IsReady}
use Rattle.caf_seatlock.proofs.tests.gather.Given as goal

abbrev pub invariant-loop-worker : goal.invariant-loop-worker
invariant-loop-worker l = IsOf l.lock l.pass × (has_turn l.pass ≡ false) × All (λ worker. IsReady l.lock worker.pass) l.workers.items
    × (seats_of l.pass + vec_len l.workers ≡ seats_of l.initial.pass + vec_len l.initial.workers)

abbrev pub decreases-loop-worker : goal.decreases-loop-worker
decreases-loop-worker l = goal.left-loop-worker l
