-- What contracts say of a lock and of its passes.
use Rattle.std.specs.Prelude.{◌≡◌, ℕ, Bool, List, Some}
use Rattle.caf_journal.specs.declared.entry.Entry.{Entry}
use Rattle.caf_seatlock.specs.declared.lock.Pass.{Pass}
use Rattle.caf_seatlock.specs.declared.lock.SeatLock.{SeatLock}
use Rattle.caf_seatlock.specs.Hands.{is_served}

module _ {W : Type 0} where
  -- the value with which the lock began
  abbrev pub first_of : SeatLock W → W
  first_of lock = lock.table.shared.key.value.value

  -- the number of seats with which it began
  abbrev pub seats_in : SeatLock W → ℕ
  seats_in lock = lock.table.shared.key.seats

  -- the pass is one of this lock
  abbrev pub IsOf : SeatLock W → Pass W → Type 0
  IsOf lock pass = (pass.seat.table_id ≡ lock.table.shared.table_id) × (pass.seat.me.0.first ≡ Some (first_of lock))

  -- whether the pass has its turn
  abbrev pub has_turn : Pass W → Bool
  has_turn pass = is_served pass.seat.me.0.standing

  -- the list that the pass has seen
  abbrev pub seen : Pass W → List Entry
  seen pass = pass.seat.me.0.seen

  -- how many passes it can become
  abbrev pub seats_of : Pass W → ℕ
  seats_of pass = pass.seats
