-- The sum of the parts that a rank gathers, which stand in a list by rank.
use Rattle.std.specs.Prelude.{ℕ, ◌≡◌, Bool, true, false, ◌==◌, if◌then◌else◌, List, [], ◌∷◌, map, count_by, slice_get, Option, Some, None, ℤ, pos, ◌+ℤ◌}
use Rattle.caf_reduce.specs.declared.part.Part.{Part}
use Rattle.caf_reduce.specs.declared.part.Part.TheVariants.{Outside, Missing, Present}
use Rattle.caf_reduce.specs.declared.part.Given.{Given}
use Rattle.caf_reduce.specs.declared.part.Given.TheVariants.{Waiting, Whole}

abbrev pub is_missing : Part → Bool
is_missing Outside = false
is_missing Missing = true
is_missing (Present sum) = false

-- whether the rank gives anything
abbrev pub is_inside : Part → Bool
is_inside Outside = false
is_inside Missing = true
is_inside (Present sum) = true

-- the number that is there, 0 where none is
abbrev pub number_of : Part → ℤ
number_of Outside = pos 0
number_of Missing = pos 0
number_of (Present sum) = sum

-- the sum of the parts that are there
abbrev pub sum_of : List Part → ℤ
sum_of [] = pos 0
sum_of (part ∷ parts) = number_of part +ℤ sum_of parts

-- how many parts are missing
abbrev pub missing_in : List Part → ℕ
missing_in parts = count_by is_missing parts

-- the sum of all parts, once none is missing
abbrev pub total_of : List Part → Option ℤ
total_of parts = if missing_in parts == 0 then Some (sum_of parts) else None

-- the sum as the answer to a part that was given
abbrev pub given_by : Option ℤ → Given
given_by None = Waiting
given_by (Some sum) = Whole sum

abbrev pub given_of : List Part → Given
given_of parts = given_by (total_of parts)

-- the part of this rank is missing
abbrev pub IsMissing : List Part → ℕ → Type 0
IsMissing parts from = slice_get parts from ≡ Some Missing

-- a part, before it was given
abbrev pub emptied_part : Part → Part
emptied_part Outside = Outside
emptied_part Missing = Missing
emptied_part (Present sum) = Missing

-- the parts, before any was given
abbrev pub emptied : List Part → List Part
emptied = map emptied_part
