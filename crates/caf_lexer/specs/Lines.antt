-- The lines of a text.
use Rattle.std.specs.Prelude.{ℕ, ◌-◌, ◌&&◌, if◌then◌else◌, ◌==◌, List, [], ◌∷◌, length, take, slice_index}
use Rattle.caf_lexer.specs.Spelling.{Bytes}

-- with this byte before the first of these lines
abbrev pub onto_first : ℕ → List Bytes → List Bytes
onto_first b [] = (b ∷ []) ∷ []
onto_first b (line ∷ others) = (b ∷ line) ∷ others

-- A line ends at byte 10, to which a byte 13 just before it belongs, or at the end of the text.
abbrev pub lines : Bytes → List Bytes
lines [] = []
lines (b ∷ z) =
    if b == 10 then [] ∷ lines z
    else (if slice_index z 0 == 10 && b == 13 then lines z else onto_first b (lines z))

-- the bytes before a byte 10 without the byte 13 that belongs to the line end
abbrev pub without_return : Bytes → Bytes
without_return z = if slice_index z (length z - 1) == 13 then take (length z - 1) z else z
