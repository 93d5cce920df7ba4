-- The spellings of a line, told apart from how they are found: what a run of bytes spells, and the longest at a place.
use Rattle.std.specs.Prelude.{◌≡◌, ℕ, ◌≤◌, Bool, true, false, if◌then◌else◌, ◌==◌, nat_le, List, [], ◌∷◌, length, take, drop, slice_index, Option, Some, None}
use Rattle.std.specs.Option.{option_map}
use Rattle.std.specs.List.{list_all}
use Rattle.std.specs.Char.{is_ascii_digit, is_ascii_alphabetic}
use Rattle.std.specs.Str.{str_eq_ignore_ascii_case}
use Rattle.caf_lexer.specs.declared.token.Sign.{Sign}
use Rattle.caf_lexer.specs.declared.token.What.TheVariants as what
use Rattle.caf_lexer.specs.declared.piece.Piece.{Piece}
use Rattle.caf_lexer.specs.declared.piece.Piece.TheVariants as piece
use Rattle.caf_lexer.specs.Spelling.{Bytes, is_blank, is_quote, is_name_byte, name_of, number_of, can_stand, signs}

abbrev pub is_empty : Bytes → Bool
is_empty [] = true
is_empty (b ∷ z) = false

abbrev pub put : ℕ → Option Bytes → Option Bytes
put b (Some content) = Some (b ∷ content)
put b None = None

-- What a text says, of which these are the bytes behind the opening quote. The last is the closing quote, and every
-- other quote is one of two, the second where the flag is set.
abbrev pub text_in : ℕ → Bool → Bytes → Option Bytes
text_in quote is_second [] = None
text_in quote true (b ∷ z) = if b == quote then text_in quote false z else None
text_in quote false (b ∷ z) =
    if b == quote then (if is_empty z then Some [] else put b (text_in quote true z))
    else (if can_stand b then put b (text_in quote false z) else None)

-- the sign with this spelling, in capitals or not
abbrev pub sign_of : List (Bytes × Sign) → Bytes → Option Sign
sign_of [] z = None
sign_of (entry ∷ others) z = if str_eq_ignore_ascii_case z entry.0 then Some entry.1 else sign_of others z

-- what these bytes spell, all of them together; a name that is too long and a number that is too large are mistakes
abbrev pub spelled_from : ℕ → Bytes → Option Piece
spelled_from b z =
    if is_ascii_alphabetic b then (if list_all is_name_byte z then Some (name_of (b ∷ z)) else None)
    else (if is_ascii_digit b then (if list_all is_ascii_digit z then Some (number_of (b ∷ z)) else None)
    else (if is_quote b then (if nat_le (length z) 121 then option_map (λ content. piece.Token (what.Text content)) (text_in b false z) else None)
    else (if b == 38 then (if is_empty z then Some piece.Ampersand else None)
    else (if b == 59 then (if is_empty z then Some (piece.Token what.End) else None)
    else option_map (λ s. piece.Token (what.Sign s)) (sign_of signs (b ∷ z))))))

abbrev pub spelled : Bytes → Option Piece
spelled [] = None
spelled (b ∷ z) = spelled_from b z

-- Of the spellings that begin here the longest takes so many bytes, and is this piece. A text isn't closed by a quote that
-- the same quote follows at once.
pub record IsLongest (z : Bytes) (size : ℕ) (found : Piece) : Type 0 where
  pub within : size ≤ length z
  pub spells : spelled (take size z) ≡ Some found
  pub longest : (n : ℕ) (other : Piece) → n ≤ length z → spelled (take n z) ≡ Some other → n ≤ size
  pub closed : is_quote (slice_index z 0) ≡ true → (slice_index (drop size z) 0 == slice_index z 0) ≡ false

-- behind some blanks stands the longest spelling, of this piece, and then the rest
pub record Leads (z : Bytes) (found : Piece) (rest : Bytes) : Type 0 where
  pub gap : ℕ
  pub size : ℕ
  pub blank : list_all is_blank (take gap z) ≡ true
  pub longest : IsLongest (drop gap z) size found
  pub behind : rest ≡ drop size (drop gap z)

-- blanks, and then the end or a comment
abbrev pub is_over : Bytes → Bool
is_over [] = true
is_over (b ∷ z) = if is_blank b then is_over z else b == 33

-- from left to right the line is blanks and longest spellings of these pieces, up to its end or a comment
abbrev pub IsCut : Bytes → List Piece → Type 0
IsCut z [] = is_over z ≡ true
IsCut z (found ∷ others) = (rest : Bytes) × Leads z found rest × IsCut rest others

abbrev pub is_sound : Piece → Bool
is_sound (piece.Token w) = true
is_sound piece.Ampersand = true
is_sound (piece.Mistake m) = false
