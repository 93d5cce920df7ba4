-- What is true of a pass that a worker may have.
use Rattle.std.specs.Prelude.{◌≡◌, false}
use Rattle.caf_seatlock.specs.declared.lock.Pass.{Pass}
use Rattle.caf_seatlock.specs.declared.lock.SeatLock.{SeatLock}
use Rattle.caf_seatlock.specs.Passes.{has_turn, seats_of, IsOf}

-- it is a pass of the lock with one seat, and hasn't the turn
abbrev pub IsReady : {W : Type 0} → SeatLock W → Pass W → Type 0
IsReady lock pass = IsOf lock pass × (has_turn pass ≡ false) × (seats_of pass ≡ 1)
