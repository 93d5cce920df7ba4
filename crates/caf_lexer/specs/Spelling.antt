-- What stands at a place of a line, outside blanks and comments.
use Rattle.std.specs.Prelude.{◌≡◌, ℕ, zero, suc, ◌+◌, ◌-◌, ◌*◌, ◌^◌, Bool, true, false, not, ◌&&◌, ◌||◌, if◌then◌else◌, ◌==◌, nat_lt, nat_le, min, List, [], ◌∷◌, ◌++◌, length, take, drop, map, fold, slice_index, Option, Some, None, Result, Ok, Err, pos, codes}
use Rattle.std.specs.Char.{is_ascii_digit, is_ascii_alphabetic, is_ascii_alphanumeric, to_ascii_lowercase}
use Rattle.std.specs.List.{prefix_len}
use Rattle.std.specs.Str.{str_eq_ignore_ascii_case}
use Rattle.caf_lexer.specs.declared.token.Word.{Word}
use Rattle.caf_lexer.specs.declared.token.Word.TheVariants as word
use Rattle.caf_lexer.specs.declared.token.Sign.{Sign}
use Rattle.caf_lexer.specs.declared.token.Sign.TheVariants as sign
use Rattle.caf_lexer.specs.declared.token.What.TheVariants as what
use Rattle.caf_lexer.specs.declared.fault.Mistake.{Mistake}
use Rattle.caf_lexer.specs.declared.fault.Mistake.TheVariants.{NotAscii, BadToken, BadNumber}
use Rattle.caf_lexer.specs.declared.piece.Piece.{Piece}
use Rattle.caf_lexer.specs.declared.piece.Piece.TheVariants as piece

abbrev pub Bytes : Type 0
Bytes = List ℕ

-- a piece, and how many bytes it takes
abbrev pub Cut : Type 0
Cut = Piece × ℕ

abbrev pub wrong : Mistake → Cut
wrong mistake = (piece.Mistake mistake, 1)

-- what a byte is that can't stand where it stands
abbrev pub misplaced : ℕ → Mistake
misplaced b = if nat_lt 127 b then NotAscii else BadToken

-- blank and tab
abbrev pub is_blank : ℕ → Bool
is_blank b = b == 32 || b == 9

-- letters, digits and `_`
abbrev pub is_name_byte : ℕ → Bool
is_name_byte b = is_ascii_alphanumeric b || b == 95

-- `'` and `"`
abbrev pub is_quote : ℕ → Bool
is_quote b = b == 39 || b == 34

-- ---- names and words: a letter, and then all letters, digits and `_` that follow

-- the reserved words
unfoldable pub words : List (Bytes × Word)
words =
    (codes "program", word.Program) ∷
    (codes "end", word.End) ∷
    (codes "contains", word.Contains) ∷
    (codes "subroutine", word.Subroutine) ∷
    (codes "implicit", word.Implicit) ∷
    (codes "none", word.None) ∷
    (codes "integer", word.Integer) ∷
    (codes "logical", word.Logical) ∷
    (codes "event", word.Event) ∷
    (codes "team", word.Team) ∷
    (codes "parameter", word.Parameter) ∷
    (codes "copointer", word.Copointer) ∷
    (codes "intent", word.Intent) ∷
    (codes "in", word.In) ∷
    (codes "out", word.Out) ∷
    (codes "inout", word.InOut) ∷
    (codes "if", word.If) ∷
    (codes "then", word.Then) ∷
    (codes "else", word.Else) ∷
    (codes "elseif", word.ElseIf) ∷
    (codes "endif", word.EndIf) ∷
    (codes "do", word.Do) ∷
    (codes "while", word.While) ∷
    (codes "enddo", word.EndDo) ∷
    (codes "finish", word.Finish) ∷
    (codes "endfinish", word.EndFinish) ∷
    (codes "endprogram", word.EndProgram) ∷
    (codes "endsubroutine", word.EndSubroutine) ∷
    (codes "print", word.Print) ∷
    (codes "call", word.Call) ∷
    (codes "spawn", word.Spawn) ∷
    (codes "event_notify", word.EventNotify) ∷
    (codes "event_wait", word.EventWait) ∷
    (codes "copy_async", word.CopyAsync) ∷
    (codes "pre", word.Pre) ∷
    (codes "srce", word.Srce) ∷
    (codes "deste", word.Deste) ∷
    (codes "cofence", word.Cofence) ∷
    (codes "team_split", word.TeamSplit) ∷
    (codes "team_world", word.TeamWorld) ∷
    (codes "team_rank", word.TeamRank) ∷
    (codes "team_size", word.TeamSize) ∷
    (codes "mod", word.Mod) ∷
    (codes "abs", word.Abs) ∷
    (codes "min", word.Min) ∷
    (codes "max", word.Max) ∷ []

-- the word with this spelling, in capitals or not
abbrev pub word_in : List (Bytes × Word) → Bytes → Option Word
word_in [] name = None
word_in (entry ∷ others) name = if str_eq_ignore_ascii_case name entry.0 then Some entry.1 else word_in others name

abbrev pub word_or_name : Option Word → Bytes → Piece
word_or_name (Some w) name = piece.Token (what.Word w)
word_or_name None name = piece.Token (what.Name (map to_ascii_lowercase name))

-- at most 63 bytes
unfoldable pub name_of : Bytes → Piece
name_of name = if nat_lt 63 (length name) then piece.Mistake BadToken else word_or_name (word_in words name) name

-- ---- numbers: all digits that follow

abbrev pub value : Bytes → ℕ
value digits = fold (λ n digit. 10 * n + (digit - 48)) 0 digits

-- the value, or 2 ^ 63 where it is larger
abbrev pub capped : Bytes → ℕ
capped digits = min (value digits) (2 ^ 63)

unfoldable pub number_of : Bytes → Piece
number_of digits = if nat_lt (value digits) (2 ^ 63) then piece.Token (what.Number (pos (value digits))) else piece.Mistake BadNumber

-- ---- texts

-- the bytes of a text, and how many bytes it takes up to its closing quote, or its first mistake
abbrev pub Quoted : Type 0
Quoted = Result (Bytes × ℕ) Mistake

-- these bytes of a text, which take so many, and what follows
abbrev pub before : Bytes → ℕ → Quoted → Quoted
before content n (Ok q) = Ok (content ++ q.0, n + q.1)
before content n (Err mistake) = Err mistake

-- tab, and what ASCII prints
abbrev pub can_stand : ℕ → Bool
can_stand b = b == 9 || (nat_le 32 b && nat_le b 126)

-- What comes after an opening quote, of which `room` bytes may stand before the closing one. A quote that the same quote
-- follows at once doesn't close: the two stand for one, and the flag is set at the second.
abbrev pub quoted : ℕ → Bool → ℕ → Bytes → Quoted
quoted quote is_second room [] = Err BadToken
quoted quote true room (b ∷ z) = before [] 1 (quoted quote false room z)
quoted quote false room (b ∷ z) =
    if b == quote then
    (if slice_index z 0 == quote then (if nat_lt room 2 then Err BadToken else before (b ∷ []) 1 (quoted quote true (room - 2) z))
    else Ok ([], 1))
    else (if room == 0 || not (can_stand b) then Err (misplaced b) else before (b ∷ []) 1 (quoted quote false (room - 1) z))

abbrev pub text_of : Quoted → Cut
text_of (Ok q) = (piece.Token (what.Text q.0), 1 + q.1)
text_of (Err mistake) = wrong mistake

-- after the opening quote, at most 120 bytes before the closing one
unfoldable pub text_at : ℕ → Bytes → Cut
text_at quote z = text_of (quoted quote false 120 z)

-- ---- signs

-- their spellings, the longer before the shorter
unfoldable pub signs : List (Bytes × Sign)
signs =
    (codes ".false.", sign.False) ∷
    (codes ".neqv.", sign.NotEquivalent) ∷
    (codes ".true.", sign.True) ∷
    (codes ".eqv.", sign.Equivalent) ∷
    (codes ".not.", sign.Not) ∷
    (codes ".and.", sign.And) ∷
    (codes ".or.", sign.Or) ∷
    (codes ".eq.", sign.Equal) ∷
    (codes ".ne.", sign.NotEqual) ∷
    (codes ".lt.", sign.Less) ∷
    (codes ".le.", sign.LessEqual) ∷
    (codes ".gt.", sign.Greater) ∷
    (codes ".ge.", sign.GreaterEqual) ∷
    (codes "==", sign.Equal) ∷
    (codes "/=", sign.NotEqual) ∷
    (codes "<=", sign.LessEqual) ∷
    (codes ">=", sign.GreaterEqual) ∷
    (codes "=>", sign.Arrow) ∷
    (codes "::", sign.DoubleColon) ∷
    (codes "<", sign.Less) ∷
    (codes ">", sign.Greater) ∷
    (codes "+", sign.Plus) ∷
    (codes "-", sign.Minus) ∷
    (codes "*", sign.Asterisk) ∷
    (codes "/", sign.Slash) ∷
    (codes "=", sign.Assign) ∷
    (codes "(", sign.LeftParenthesis) ∷
    (codes ")", sign.RightParenthesis) ∷
    (codes "[", sign.LeftBracket) ∷
    (codes "]", sign.RightBracket) ∷
    (codes ",", sign.Comma) ∷
    (codes ":", sign.Colon) ∷
    (codes "@", sign.At) ∷ []

-- whether these bytes begin with a spelling, in capitals or not
abbrev pub begins : Bytes → Bytes → Bool
begins z spelling = str_eq_ignore_ascii_case (take (length spelling) z) spelling

-- the first sign with which these bytes begin, and its length
abbrev pub sign_in : List (Bytes × Sign) → Bytes → Option (Sign × ℕ)
sign_in [] z = None
sign_in (entry ∷ others) z = if begins z entry.0 then Some (entry.1, length entry.0) else sign_in others z

abbrev pub sign_or : Mistake → Option (Sign × ℕ) → Cut
sign_or mistake (Some found) = (piece.Token (what.Sign found.0), found.1)
sign_or mistake None = wrong mistake

unfoldable pub sign_at : ℕ → Bytes → Cut
sign_at b z = sign_or (misplaced b) (sign_in signs z)

-- ---- the piece that begins at this byte, the longest that does

unfoldable pub front : ℕ → Bytes → Cut
front b z =
    if is_ascii_alphabetic b then (let n = prefix_len is_name_byte z in (name_of (take n z), n))
    else (if is_ascii_digit b then (let n = prefix_len is_ascii_digit z in (number_of (take n z), n))
    else (if is_quote b then text_at b (drop 1 z)
    else (if b == 38 then (piece.Ampersand, 1)
    else (if b == 59 then (piece.Token what.End, 1)
    else sign_at b z))))

-- The pieces of a line from left to right, up to a comment. The number is of the bytes that belong to the piece before.
abbrev pub pieces_after : ℕ → Bytes → List Piece
pieces_after n [] = []
pieces_after (suc n) (b ∷ z) = pieces_after n z
pieces_after zero (b ∷ z) =
    if is_blank b then pieces_after zero z
    else (if b == 33 then [] else (front b (b ∷ z)).0 ∷ pieces_after ((front b (b ∷ z)).1 - 1) z)

abbrev pub pieces : Bytes → List Piece
pieces line = pieces_after 0 line

-- a byte at which a piece begins
abbrev pub Begins : ℕ → Type 0
Begins b = (is_blank b ≡ false) × ((b == 33) ≡ false)
