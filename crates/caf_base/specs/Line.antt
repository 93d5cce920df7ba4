-- Printed lines: values separated by one blank.
use Rattle.std.specs.Prelude.{ℕ, ◌+◌, Bool, List, [], ◌∷◌, ◌++◌, length, nat_le, sum_by, ℤ, if◌then◌else◌}
use Rattle.std.specs.Fmt.{signed_decimal}
use Rattle.caf_base.specs.Arithmetic.{is_zero}
use Rattle.caf_base.specs.ImageMemory.{ImageMemory}

abbrev pub number_text : ℤ → List ℕ
number_text z = signed_decimal z

-- `T` or `F`
abbrev pub logical_text : ℤ → List ℕ
logical_text z = if is_zero z then 70 ∷ [] else 84 ∷ []

abbrev pub with_blanks : List (List ℕ) → List ℕ
with_blanks [] = []
with_blanks (part ∷ rest) = 32 ∷ part ++ with_blanks rest

abbrev pub line_of : List (List ℕ) → List ℕ
line_of [] = []
line_of (part ∷ rest) = part ++ with_blanks rest

-- whether the line fits into the image's output, of at most 65,536 bytes with the line ends
abbrev pub has_room : ImageMemory → List ℕ → Bool
has_room m line = nat_le (sum_by (λ (l : List ℕ). length l + 1) m.lines + length line + 1) 65536

abbrev pub with_line : ImageMemory → List ℕ → ImageMemory
with_line m line = record m { lines = m.lines ++ line ∷ [] }
