-- Marks on subroutines, by their places, which spread along calls.
use Rattle.std.specs.Prelude.{◌≡◌, ℕ, ◌<◌, Bool, false, true, List, Contains, slice_index_or, length}
use Rattle.caf_program.specs.Ships.{HasCall, Reaches}

abbrev pub Marked : List Bool → ℕ → Type 0
Marked marks b = slice_index_or marks b false ≡ true

-- the marks hold the starts, and with each one what it calls, as far as there are subroutines
pub record AreClosed (calls : List (List ℕ)) (starts : List ℕ) (marks : List Bool) : Type 0 where
  pub each : length marks ≡ length calls
  pub first : (a : ℕ) → Contains starts a → a < length calls → Marked marks a
  pub more : (a b : ℕ) → Marked marks a → HasCall calls a b → b < length calls → Marked marks b

-- the marks are on exactly those subroutines that are among the starts or reached from one by calls
pub record AreReached (calls : List (List ℕ)) (starts : List ℕ) (marks : List Bool) : Type 0 where
  pub each : length marks ≡ length calls
  pub sound : (b : ℕ) → Marked marks b → Reaches calls starts b
  pub whole : (b : ℕ) → Reaches calls starts b → b < length calls → Marked marks b
