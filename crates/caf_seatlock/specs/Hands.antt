-- What is true of each pass between the calls: it isn't in the line, or it has its turn and the empty slot in hand.
use Rattle.std.specs.Prelude.{◌≡◌, ℕ, ◌<◌, Bool, true, false, List, [], ◌∷◌, Option, None}
use Rattle.caf_seatlock.specs.declared.view.Standing.{Standing}
use Rattle.caf_seatlock.specs.declared.view.Standing.TheVariants.{Away, Waiting, Served}
use Rattle.caf_seatlock.specs.Told.{Own}

-- who stands so waits for its turn
abbrev pub is_waiting : Standing → Bool
is_waiting Away = false
is_waiting (Waiting ticket) = true
is_waiting (Served ticket) = false

-- who stands so has its turn
abbrev pub is_served : Standing → Bool
is_served Away = false
is_served (Waiting ticket) = false
is_served (Served ticket) = true

module _ {W : Type 0} where
  -- the slots in the hand of one who stands so
  abbrev pub hand_of : Standing → List (ℕ × Option W)
  hand_of Away = []
  hand_of (Waiting ticket) = []
  hand_of (Served ticket) = (0, None) ∷ []

  -- a pass with so many seats knows and has this
  abbrev pub InOrder : ℕ → Own W → Type 0
  InOrder seats own = (own.0.seats ≡ seats) × (0 < seats) × (own.0.joined ≡ []) × (is_waiting own.0.standing ≡ false) × (own.1 ≡ hand_of own.0.standing)
