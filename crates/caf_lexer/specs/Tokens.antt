-- The tokens of a text, or its first fault.
use Rattle.std.specs.Prelude.{◌≡◌, ℕ, ◌+◌, ◌-◌, Bool, true, false, ◌&&◌, if◌then◌else◌, nat_lt, List, [], ◌∷◌, ◌++◌, length, fold, slice_get, Option, Some, None, Result, Ok, Err}
use Rattle.caf_lexer.specs.declared.token.What.{What}
use Rattle.caf_lexer.specs.declared.token.What.TheVariants as what
use Rattle.caf_lexer.specs.declared.token.Token.{Token}
use Rattle.caf_lexer.specs.declared.fault.Mistake.{Mistake}
use Rattle.caf_lexer.specs.declared.fault.Mistake.TheVariants as mistake
use Rattle.caf_lexer.specs.declared.fault.LexFault.{LexFault}
use Rattle.caf_lexer.specs.declared.fault.LexFault.TheVariants.{NotAscii, LongLine, BadToken, BadNumber, OpenContinuation, Memory}
use Rattle.caf_lexer.specs.declared.piece.Piece.{Piece}
use Rattle.caf_lexer.specs.declared.piece.Piece.TheVariants as piece
use Rattle.caf_lexer.specs.Spelling.{Bytes, pieces}
use Rattle.caf_lexer.specs.Lines.{lines}

abbrev pub fault_at : ℕ → Mistake → LexFault
fault_at line mistake.NotAscii = NotAscii line
fault_at line mistake.BadToken = BadToken line
fault_at line mistake.BadNumber = BadNumber line

abbrev pub token_at : ℕ → What → Token
token_at n w = record { what = w; line = n }

-- ---- one line

-- what a line gives: its tokens, and whether the statement goes on behind it, or its first fault
abbrev pub Given : Type 0
Given = Result (List Token × Bool) LexFault

abbrev pub after_token : Token → Given → Given
after_token token (Ok given) = Ok (token ∷ given.0, given.1)
after_token token (Err fault) = Err fault

-- A `&` stands last, and then the statement goes on; elsewhere it is a mistake. A line that no `&` ends gives `End`.
abbrev pub rest_of : ℕ → List Piece → Given
rest_of n [] = Ok (token_at n what.End ∷ [], false)
rest_of n (piece.Token w ∷ others) = after_token (token_at n w) (rest_of n others)
rest_of n (piece.Mistake m ∷ others) = Err (fault_at n m)
rest_of n (piece.Ampersand ∷ []) = Ok ([], true)
rest_of n (piece.Ampersand ∷ second ∷ others) = Err (BadToken n)

-- Where a statement goes on, a line without pieces is passed over, and a `&` that stands first is skipped. Elsewhere
-- none stands first. A `&` never stands alone.
abbrev pub joined : Bool → ℕ → List Piece → Given
joined goes_on n [] = if goes_on then Ok ([], true) else rest_of n []
joined goes_on n (piece.Token w ∷ others) = rest_of n (piece.Token w ∷ others)
joined goes_on n (piece.Mistake m ∷ others) = Err (fault_at n m)
joined goes_on n (piece.Ampersand ∷ []) = Err (BadToken n)
joined goes_on n (piece.Ampersand ∷ second ∷ others) = if goes_on then rest_of n (second ∷ others) else Err (BadToken n)

-- A line has at most 132 bytes.
unfoldable pub line_of : Bool → ℕ → Bytes → Given
line_of goes_on n line = if nat_lt 132 (length line) then Err (LongLine n) else joined goes_on n (pieces line)

-- ---- the whole text

-- the tokens of a text, or its first fault
abbrev pub Answer : Type 0
Answer = Result (List Token) LexFault

abbrev pub in_front : List Token → Answer → Answer
in_front tokens (Ok others) = Ok (tokens ++ others)
in_front tokens (Err fault) = Err fault

-- what a line gives, and then what the others give, from whether the statement goes on there
abbrev pub followed_by : Given → (Bool → Answer) → Answer
followed_by (Ok given) others = in_front given.0 (others given.1)
followed_by (Err fault) others = Err fault

-- What these lines give, one after another. The first has this number, and the statement before it may go on there.
abbrev pub lines_of : Bool → ℕ → List Bytes → Answer
lines_of goes_on n [] = if goes_on then Err (OpenContinuation (n - 1)) else Ok []
lines_of goes_on n (line ∷ others) = followed_by (line_of goes_on n line) (λ on. lines_of on (n + 1) others)

abbrev pub is_end : What → Bool
is_end what.End = true
is_end _ = false

abbrev pub is_end_if_any : Option Token → Bool
is_end_if_any None = true
is_end_if_any (Some token) = is_end token.what

-- no token, or an `End` at the end
abbrev pub is_ended : List Token → Bool
is_ended tokens = is_end_if_any (slice_get tokens (length tokens - 1))

-- one token more, but for an `End` that would stand first or after an `End`
abbrev pub with_token : List Token → Token → List Token
with_token tokens token = if is_end token.what && is_ended tokens then tokens else tokens ++ token ∷ []

-- these tokens and then those, without an `End` that would stand first or after an `End`
abbrev pub with_tokens : List Token → List Token → List Token
with_tokens tokens others = fold with_token tokens others

abbrev pub with_answer : List Token → Answer → Answer
with_answer tokens (Ok others) = Ok (with_tokens tokens others)
with_answer tokens (Err fault) = Err fault

unfoldable pub tokens_of : Bytes → Answer
tokens_of text = with_answer [] (lines_of false 1 (lines text))

-- ---- what calls answer

-- what a call answers beside the tokens that it leaves is this, but for want of memory
abbrev pub Leaves : {A : Type 0} → Result A LexFault → List Token → Result (List Token × A) LexFault → Type 0
Leaves (Ok a) tokens due = due ≡ Ok (tokens, a)
Leaves (Err Memory) tokens due = Unit {0}
Leaves (Err fault) tokens due = due ≡ Err fault

-- what a line gives, behind these tokens
abbrev pub given_after : List Token → Given → Given
given_after tokens (Ok given) = Ok (with_tokens tokens given.0, given.1)
given_after tokens (Err fault) = Err fault

-- what a call answers is this, but for want of memory
abbrev pub Answers : Answer → Answer → Type 0
Answers (Ok tokens) due = due ≡ Ok tokens
Answers (Err Memory) due = Unit {0}
Answers (Err fault) due = due ≡ Err fault
