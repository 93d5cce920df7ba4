-- The place of the first in a list that passes a test.
use Rattle.std.specs.Prelude.{ℕ, zero, suc, Bool, List, [], ◌∷◌, Option, Some, None, slice_get, if◌then◌else◌}
use Rattle.std.specs.Option.{option_map}

abbrev pub place_of : {A : Type 0} → (A → Bool) → List A → Option ℕ
place_of test [] = None
place_of test (x ∷ xs) = if test x then Some 0 else option_map suc (place_of test xs)

-- what stands at a place, if one is given
abbrev pub at_place : {A : Type 0} → List A → Option ℕ → Option A
at_place all None = None
at_place all (Some at) = slice_get all at

-- a place, if a test is passed
abbrev pub place_if : Bool → ℕ → Option ℕ
place_if test at = if test then Some at else None
