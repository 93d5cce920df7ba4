-- What is printed of a token is read as that token, where a blank or the end of the line follows.
use Rattle.std.proofs.Common.{◌≡◌, ℕ, zero, suc, ◌+◌, ◌-◌, ◌*◌, ◌<◌, ◌≤◌, ◌^◌, ◌/◌, ◌%◌, Bool, true, false, not, ◌&&◌, ◌||◌, ◌==◌, nat_lt, cond, List, [], ◌∷◌, ◌++◌, length, take, drop, map, fold, Option, Some, None, Ok, Err, refl, ap, sym, ◌∙◌, subst, append_assoc, arith}
use Rattle.std.specs.Prelude.{slice_index, pos, nat_le, count_by, replicate}
use Rattle.std.specs.List.{prefix_len, list_all, flat_map}
use Rattle.std.specs.Char.{is_ascii_digit, is_ascii_alphabetic}
use Rattle.std.specs.Fmt.{decimal, signed_decimal}
use Rattle.std.proofs.lemmas.Fmt.{decimal_by_steps, length-decimal-le}
use Rattle.std.proofs.lemmas.Bool.Decides.{nat_tests}
use Rattle.caf_lexer.specs.declared.token.What.{What}
use Rattle.caf_lexer.specs.declared.token.What.TheVariants as what
use Rattle.caf_lexer.specs.declared.token.Sign.{Sign}
use Rattle.caf_lexer.specs.declared.token.Sign.TheVariants as sign
use Rattle.caf_lexer.specs.declared.token.Word.{Word}
use Rattle.caf_lexer.specs.declared.token.Word.TheVariants as word
use Rattle.caf_lexer.specs.declared.piece.Piece.{Piece}
use Rattle.caf_lexer.specs.declared.piece.Piece.TheVariants as piece
use Rattle.caf_lexer.specs.Spelling.{Bytes, Cut, Quoted, is_blank, is_quote, is_name_byte, words, name_of, value, number_of, can_stand, before, quoted, text_of, text_at, signs, sign_at, front, pieces_after, pieces}
use Rattle.caf_tree.specs.Text.{word_text, sign_text, quote_for, doubled, token_text}
use Rattle.caf_tree.specs.Text as text
use Rattle.caf_printer.proofs.Printable.{Said, Printable, IsName, IsNumber, IsText, begins_letter}

-- the end of the line, or a blank
abbrev pub Ends : Bytes → Type 0
Ends [] = Unit {0}
Ends (b ∷ z) = b ≡ 32

-- neither end of a line
abbrev pub is_inner : ℕ → Bool
is_inner b = not (b == 10) && not (b == 13)

-- what is read at the front of these bytes
abbrev pub front_of : Bytes → Cut
front_of [] = (piece.Ampersand, 0)
front_of (b ∷ z) = front b (b ∷ z)

abbrev pub begins : Bytes → Type 0
begins [] = ⊥
begins (b ∷ z) = (is_blank b ≡ false) × ((b == 33) ≡ false)

-- A spelling of a token: it begins no comment and is no blank, it is read back with a blank or the line's end behind it, it holds
-- no end of a line, and it is short.
pub record Spelled (w : What) (most : ℕ) (z : Bytes) : Type 0 where
  pub starts : begins z
  pub read : (r : Bytes) → Ends r → front_of (z ++ r) ≡ (piece.Token w, length z)
  pub inner : list_all is_inner z ≡ true
  pub short : length z ≤ most

by_end : (P : Bytes → Type 0) → P [] → ((r : Bytes) → P (32 ∷ r)) → (r : Bytes) → Ends r → P r
by_end P last more [] e = last
by_end P last more (b ∷ r) e = subst (λ c. P (c ∷ r)) (sym e) (more r)

-- ---- words and signs

word_last : (w : Word) → front_of (word_text w ++ []) ≡ (piece.Token (what.Word w), length (word_text w))
unfolding front name_of words
word_last word.Program = refl
word_last word.End = refl
word_last word.Contains = refl
word_last word.Subroutine = refl
word_last word.Implicit = refl
word_last word.None = refl
word_last word.Integer = refl
word_last word.Logical = refl
word_last word.Event = refl
word_last word.Team = refl
word_last word.Parameter = refl
word_last word.Copointer = refl
word_last word.Intent = refl
word_last word.In = refl
word_last word.Out = refl
word_last word.InOut = refl
word_last word.If = refl
word_last word.Then = refl
word_last word.Else = refl
word_last word.ElseIf = refl
word_last word.EndIf = refl
word_last word.Do = refl
word_last word.While = refl
word_last word.EndDo = refl
word_last word.Finish = refl
word_last word.EndFinish = refl
word_last word.EndProgram = refl
word_last word.EndSubroutine = refl
word_last word.Print = refl
word_last word.Call = refl
word_last word.Spawn = refl
word_last word.EventNotify = refl
word_last word.EventWait = refl
word_last word.CopyAsync = refl
word_last word.Pre = refl
word_last word.Srce = refl
word_last word.Deste = refl
word_last word.Cofence = refl
word_last word.TeamSplit = refl
word_last word.TeamWorld = refl
word_last word.TeamRank = refl
word_last word.TeamSize = refl
word_last word.Mod = refl
word_last word.Abs = refl
word_last word.Min = refl
word_last word.Max = refl

word_more : (w : Word) (r : Bytes) → front_of (word_text w ++ 32 ∷ r) ≡ (piece.Token (what.Word w), length (word_text w))
unfolding front name_of words
word_more word.Program r = refl
word_more word.End r = refl
word_more word.Contains r = refl
word_more word.Subroutine r = refl
word_more word.Implicit r = refl
word_more word.None r = refl
word_more word.Integer r = refl
word_more word.Logical r = refl
word_more word.Event r = refl
word_more word.Team r = refl
word_more word.Parameter r = refl
word_more word.Copointer r = refl
word_more word.Intent r = refl
word_more word.In r = refl
word_more word.Out r = refl
word_more word.InOut r = refl
word_more word.If r = refl
word_more word.Then r = refl
word_more word.Else r = refl
word_more word.ElseIf r = refl
word_more word.EndIf r = refl
word_more word.Do r = refl
word_more word.While r = refl
word_more word.EndDo r = refl
word_more word.Finish r = refl
word_more word.EndFinish r = refl
word_more word.EndProgram r = refl
word_more word.EndSubroutine r = refl
word_more word.Print r = refl
word_more word.Call r = refl
word_more word.Spawn r = refl
word_more word.EventNotify r = refl
word_more word.EventWait r = refl
word_more word.CopyAsync r = refl
word_more word.Pre r = refl
word_more word.Srce r = refl
word_more word.Deste r = refl
word_more word.Cofence r = refl
word_more word.TeamSplit r = refl
word_more word.TeamWorld r = refl
word_more word.TeamRank r = refl
word_more word.TeamSize r = refl
word_more word.Mod r = refl
word_more word.Abs r = refl
word_more word.Min r = refl
word_more word.Max r = refl

word_starts : (w : Word) → begins (word_text w)
word_starts word.Program = (refl, refl)
word_starts word.End = (refl, refl)
word_starts word.Contains = (refl, refl)
word_starts word.Subroutine = (refl, refl)
word_starts word.Implicit = (refl, refl)
word_starts word.None = (refl, refl)
word_starts word.Integer = (refl, refl)
word_starts word.Logical = (refl, refl)
word_starts word.Event = (refl, refl)
word_starts word.Team = (refl, refl)
word_starts word.Parameter = (refl, refl)
word_starts word.Copointer = (refl, refl)
word_starts word.Intent = (refl, refl)
word_starts word.In = (refl, refl)
word_starts word.Out = (refl, refl)
word_starts word.InOut = (refl, refl)
word_starts word.If = (refl, refl)
word_starts word.Then = (refl, refl)
word_starts word.Else = (refl, refl)
word_starts word.ElseIf = (refl, refl)
word_starts word.EndIf = (refl, refl)
word_starts word.Do = (refl, refl)
word_starts word.While = (refl, refl)
word_starts word.EndDo = (refl, refl)
word_starts word.Finish = (refl, refl)
word_starts word.EndFinish = (refl, refl)
word_starts word.EndProgram = (refl, refl)
word_starts word.EndSubroutine = (refl, refl)
word_starts word.Print = (refl, refl)
word_starts word.Call = (refl, refl)
word_starts word.Spawn = (refl, refl)
word_starts word.EventNotify = (refl, refl)
word_starts word.EventWait = (refl, refl)
word_starts word.CopyAsync = (refl, refl)
word_starts word.Pre = (refl, refl)
word_starts word.Srce = (refl, refl)
word_starts word.Deste = (refl, refl)
word_starts word.Cofence = (refl, refl)
word_starts word.TeamSplit = (refl, refl)
word_starts word.TeamWorld = (refl, refl)
word_starts word.TeamRank = (refl, refl)
word_starts word.TeamSize = (refl, refl)
word_starts word.Mod = (refl, refl)
word_starts word.Abs = (refl, refl)
word_starts word.Min = (refl, refl)
word_starts word.Max = (refl, refl)

word_inner : (w : Word) → list_all is_inner (word_text w) ≡ true
word_inner word.Program = refl
word_inner word.End = refl
word_inner word.Contains = refl
word_inner word.Subroutine = refl
word_inner word.Implicit = refl
word_inner word.None = refl
word_inner word.Integer = refl
word_inner word.Logical = refl
word_inner word.Event = refl
word_inner word.Team = refl
word_inner word.Parameter = refl
word_inner word.Copointer = refl
word_inner word.Intent = refl
word_inner word.In = refl
word_inner word.Out = refl
word_inner word.InOut = refl
word_inner word.If = refl
word_inner word.Then = refl
word_inner word.Else = refl
word_inner word.ElseIf = refl
word_inner word.EndIf = refl
word_inner word.Do = refl
word_inner word.While = refl
word_inner word.EndDo = refl
word_inner word.Finish = refl
word_inner word.EndFinish = refl
word_inner word.EndProgram = refl
word_inner word.EndSubroutine = refl
word_inner word.Print = refl
word_inner word.Call = refl
word_inner word.Spawn = refl
word_inner word.EventNotify = refl
word_inner word.EventWait = refl
word_inner word.CopyAsync = refl
word_inner word.Pre = refl
word_inner word.Srce = refl
word_inner word.Deste = refl
word_inner word.Cofence = refl
word_inner word.TeamSplit = refl
word_inner word.TeamWorld = refl
word_inner word.TeamRank = refl
word_inner word.TeamSize = refl
word_inner word.Mod = refl
word_inner word.Abs = refl
word_inner word.Min = refl
word_inner word.Max = refl

word_short : (w : Word) → nat_le (length (word_text w)) 63 ≡ true
word_short word.Program = refl
word_short word.End = refl
word_short word.Contains = refl
word_short word.Subroutine = refl
word_short word.Implicit = refl
word_short word.None = refl
word_short word.Integer = refl
word_short word.Logical = refl
word_short word.Event = refl
word_short word.Team = refl
word_short word.Parameter = refl
word_short word.Copointer = refl
word_short word.Intent = refl
word_short word.In = refl
word_short word.Out = refl
word_short word.InOut = refl
word_short word.If = refl
word_short word.Then = refl
word_short word.Else = refl
word_short word.ElseIf = refl
word_short word.EndIf = refl
word_short word.Do = refl
word_short word.While = refl
word_short word.EndDo = refl
word_short word.Finish = refl
word_short word.EndFinish = refl
word_short word.EndProgram = refl
word_short word.EndSubroutine = refl
word_short word.Print = refl
word_short word.Call = refl
word_short word.Spawn = refl
word_short word.EventNotify = refl
word_short word.EventWait = refl
word_short word.CopyAsync = refl
word_short word.Pre = refl
word_short word.Srce = refl
word_short word.Deste = refl
word_short word.Cofence = refl
word_short word.TeamSplit = refl
word_short word.TeamWorld = refl
word_short word.TeamRank = refl
word_short word.TeamSize = refl
word_short word.Mod = refl
word_short word.Abs = refl
word_short word.Min = refl
word_short word.Max = refl

sign_last : (s : Sign) → front_of (sign_text s ++ []) ≡ (piece.Token (what.Sign s), length (sign_text s))
unfolding front sign_at signs
sign_last sign.True = refl
sign_last sign.False = refl
sign_last sign.Not = refl
sign_last sign.And = refl
sign_last sign.Or = refl
sign_last sign.Equivalent = refl
sign_last sign.NotEquivalent = refl
sign_last sign.Equal = refl
sign_last sign.NotEqual = refl
sign_last sign.Less = refl
sign_last sign.LessEqual = refl
sign_last sign.Greater = refl
sign_last sign.GreaterEqual = refl
sign_last sign.Plus = refl
sign_last sign.Minus = refl
sign_last sign.Asterisk = refl
sign_last sign.Slash = refl
sign_last sign.Assign = refl
sign_last sign.Arrow = refl
sign_last sign.LeftParenthesis = refl
sign_last sign.RightParenthesis = refl
sign_last sign.LeftBracket = refl
sign_last sign.RightBracket = refl
sign_last sign.Comma = refl
sign_last sign.Colon = refl
sign_last sign.DoubleColon = refl
sign_last sign.At = refl

sign_more : (s : Sign) (r : Bytes) → front_of (sign_text s ++ 32 ∷ r) ≡ (piece.Token (what.Sign s), length (sign_text s))
unfolding front sign_at signs
sign_more sign.True r = refl
sign_more sign.False r = refl
sign_more sign.Not r = refl
sign_more sign.And r = refl
sign_more sign.Or r = refl
sign_more sign.Equivalent r = refl
sign_more sign.NotEquivalent r = refl
sign_more sign.Equal r = refl
sign_more sign.NotEqual r = refl
sign_more sign.Less r = refl
sign_more sign.LessEqual r = refl
sign_more sign.Greater r = refl
sign_more sign.GreaterEqual r = refl
sign_more sign.Plus r = refl
sign_more sign.Minus r = refl
sign_more sign.Asterisk r = refl
sign_more sign.Slash r = refl
sign_more sign.Assign r = refl
sign_more sign.Arrow r = refl
sign_more sign.LeftParenthesis r = refl
sign_more sign.RightParenthesis r = refl
sign_more sign.LeftBracket r = refl
sign_more sign.RightBracket r = refl
sign_more sign.Comma r = refl
sign_more sign.Colon r = refl
sign_more sign.DoubleColon r = refl
sign_more sign.At r = refl

sign_starts : (s : Sign) → begins (sign_text s)
sign_starts sign.True = (refl, refl)
sign_starts sign.False = (refl, refl)
sign_starts sign.Not = (refl, refl)
sign_starts sign.And = (refl, refl)
sign_starts sign.Or = (refl, refl)
sign_starts sign.Equivalent = (refl, refl)
sign_starts sign.NotEquivalent = (refl, refl)
sign_starts sign.Equal = (refl, refl)
sign_starts sign.NotEqual = (refl, refl)
sign_starts sign.Less = (refl, refl)
sign_starts sign.LessEqual = (refl, refl)
sign_starts sign.Greater = (refl, refl)
sign_starts sign.GreaterEqual = (refl, refl)
sign_starts sign.Plus = (refl, refl)
sign_starts sign.Minus = (refl, refl)
sign_starts sign.Asterisk = (refl, refl)
sign_starts sign.Slash = (refl, refl)
sign_starts sign.Assign = (refl, refl)
sign_starts sign.Arrow = (refl, refl)
sign_starts sign.LeftParenthesis = (refl, refl)
sign_starts sign.RightParenthesis = (refl, refl)
sign_starts sign.LeftBracket = (refl, refl)
sign_starts sign.RightBracket = (refl, refl)
sign_starts sign.Comma = (refl, refl)
sign_starts sign.Colon = (refl, refl)
sign_starts sign.DoubleColon = (refl, refl)
sign_starts sign.At = (refl, refl)

sign_inner : (s : Sign) → list_all is_inner (sign_text s) ≡ true
sign_inner sign.True = refl
sign_inner sign.False = refl
sign_inner sign.Not = refl
sign_inner sign.And = refl
sign_inner sign.Or = refl
sign_inner sign.Equivalent = refl
sign_inner sign.NotEquivalent = refl
sign_inner sign.Equal = refl
sign_inner sign.NotEqual = refl
sign_inner sign.Less = refl
sign_inner sign.LessEqual = refl
sign_inner sign.Greater = refl
sign_inner sign.GreaterEqual = refl
sign_inner sign.Plus = refl
sign_inner sign.Minus = refl
sign_inner sign.Asterisk = refl
sign_inner sign.Slash = refl
sign_inner sign.Assign = refl
sign_inner sign.Arrow = refl
sign_inner sign.LeftParenthesis = refl
sign_inner sign.RightParenthesis = refl
sign_inner sign.LeftBracket = refl
sign_inner sign.RightBracket = refl
sign_inner sign.Comma = refl
sign_inner sign.Colon = refl
sign_inner sign.DoubleColon = refl
sign_inner sign.At = refl

sign_short : (s : Sign) → nat_le (length (sign_text s)) 63 ≡ true
sign_short sign.True = refl
sign_short sign.False = refl
sign_short sign.Not = refl
sign_short sign.And = refl
sign_short sign.Or = refl
sign_short sign.Equivalent = refl
sign_short sign.NotEquivalent = refl
sign_short sign.Equal = refl
sign_short sign.NotEqual = refl
sign_short sign.Less = refl
sign_short sign.LessEqual = refl
sign_short sign.Greater = refl
sign_short sign.GreaterEqual = refl
sign_short sign.Plus = refl
sign_short sign.Minus = refl
sign_short sign.Asterisk = refl
sign_short sign.Slash = refl
sign_short sign.Assign = refl
sign_short sign.Arrow = refl
sign_short sign.LeftParenthesis = refl
sign_short sign.RightParenthesis = refl
sign_short sign.LeftBracket = refl
sign_short sign.RightBracket = refl
sign_short sign.Comma = refl
sign_short sign.Colon = refl
sign_short sign.DoubleColon = refl
sign_short sign.At = refl

within : (a b : ℕ) → nat_le a b ≡ true → a ≤ b
within a b e = grind (arith, nat_tests)

pub spelled_word : (w : Word) → Spelled (what.Word w) 63 (word_text w)
spelled_word w = record {
  starts = word_starts w;
  read = by_end (λ r. front_of (word_text w ++ r) ≡ (piece.Token (what.Word w), length (word_text w))) (word_last w) (word_more w);
  inner = word_inner w;
  short = within _ _ (word_short w);
}

pub spelled_sign : (s : Sign) → Spelled (what.Sign s) 63 (sign_text s)
spelled_sign s = record {
  starts = sign_starts s;
  read = by_end (λ r. front_of (sign_text s ++ r) ≡ (piece.Token (what.Sign s), length (sign_text s))) (sign_last s) (sign_more s);
  inner = sign_inner s;
  short = within _ _ (sign_short s);
}

-- ---- runs of bytes

pub and_left : (a b : Bool) → (a && b) ≡ true → a ≡ true
and_left true b e = refl
and_left false b e = e

pub and_right : (a b : Bool) → (a && b) ≡ true → b ≡ true
and_right true b e = e
and_right false b e = cc

one_add : (n : ℕ) → 1 + n ≡ suc n
one_add n = omega arith

run_size : (p : ℕ → Bool) → p 32 ≡ false → (z r : Bytes) → list_all p z ≡ true → Ends r → prefix_len p (z ++ r) ≡ length z
run_size p none [] [] all e = refl
run_size p none [] (b ∷ r) all e = let k : p b ≡ false = ap p e ∙ none in rw k refl
run_size p none (b ∷ z) r all e =
    let k : p b ≡ true = and_left (p b) _ all in
    let ih : prefix_len p (z ++ r) ≡ length z = run_size p none z r (and_right (p b) _ all) e in
    rw (k, ih) (one_add (length z))

run_take : (z r : Bytes) → take (length z) (z ++ r) ≡ z
run_take [] [] = refl
run_take [] (b ∷ r) = refl
run_take (b ∷ z) r = ap (λ us. b ∷ us) (run_take z r)

run_inner : (p : ℕ → Bool) → ((b : ℕ) → p b ≡ true → is_inner b ≡ true) → (z : Bytes) → list_all p z ≡ true → list_all is_inner z ≡ true
run_inner p each [] all = refl
run_inner p each (b ∷ z) all = let k : is_inner b ≡ true = each b (and_left (p b) _ all) in rw k (run_inner p each z (and_right (p b) _ all))

-- ---- names

name_inner : (b : ℕ) → is_name_byte b ≡ true → is_inner b ≡ true
name_inner b e = grind (arith, nat_tests)

letter_starts : (b : ℕ) → is_ascii_alphabetic b ≡ true → (is_blank b ≡ false) × ((b == 33) ≡ false)
letter_starts b e = (letter_blank b e, letter_mark b e)
  where
    letter_blank : (b : ℕ) → is_ascii_alphabetic b ≡ true → is_blank b ≡ false
    letter_blank b e = grind (arith, nat_tests)

    letter_mark : (b : ℕ) → is_ascii_alphabetic b ≡ true → (b == 33) ≡ false
    letter_mark b e = grind (arith, nat_tests)

pub spelled_name : (x : Bytes) → IsName x → Spelled (what.Name x) 63 x
unfolding front
spelled_name [] h = absurd h.begins
spelled_name (b ∷ z) h = record {
  starts = letter_starts b h.begins;
  read = λ r e.
      let size : prefix_len is_name_byte (b ∷ z ++ r) ≡ length (b ∷ z) = run_size is_name_byte refl (b ∷ z) r h.all e in
      let letter : is_ascii_alphabetic b ≡ true = h.begins in
      rw (letter, size, run_take (b ∷ z) r, h.named) refl;
  inner = run_inner is_name_byte name_inner (b ∷ z) h.all;
  short = h.short;
}

-- ---- numbers

digit_inner : (b : ℕ) → is_ascii_digit b ≡ true → is_inner b ≡ true
digit_inner b e = grind (arith, nat_tests)

digit_letter : (b : ℕ) → is_ascii_digit b ≡ true → is_ascii_alphabetic b ≡ false
digit_letter b e = grind (arith, nat_tests)

digit_blank : (b : ℕ) → is_ascii_digit b ≡ true → is_blank b ≡ false
digit_blank b e = grind (arith, nat_tests)

digit_mark : (b : ℕ) → is_ascii_digit b ≡ true → (b == 33) ≡ false
digit_mark b e = grind (arith, nat_tests)

is_digit : (n : ℕ) → n < 10 → is_ascii_digit (48 + n) ≡ true
is_digit n e = grind (arith, nat_tests)

pub all_append : (p : ℕ → Bool) (xs ys : Bytes) → list_all p xs ≡ true → list_all p ys ≡ true → list_all p (xs ++ ys) ≡ true
all_append p [] ys a b = b
all_append p (x ∷ xs) ys a b = let k : p x ≡ true = and_left (p x) _ a in rw k (all_append p xs ys (and_right (p x) _ a) b)

value_step : (xs : Bytes) (acc d : ℕ) → fold (λ n digit. 10 * n + (digit - 48)) acc (xs ++ d ∷ []) ≡ 10 * fold (λ n digit. 10 * n + (digit - 48)) acc xs + (d - 48)
value_step [] acc d = refl
value_step (x ∷ xs) acc d = value_step xs (10 * acc + (x - 48)) d

pub record IsDecimal (n : ℕ) (ds : Bytes) : Type 0 where
  pub some : 0 < length ds
  pub all : list_all is_ascii_digit ds ≡ true
  pub is : value ds ≡ n

one_digit : (n : ℕ) → n < 10 → IsDecimal n ((48 + n) ∷ [])
one_digit n h = record { some = omega arith; all = rw (is_digit n h) refl; is = omega arith }

more_digits : (n : ℕ) (ds : Bytes) → 10 ≤ n → IsDecimal (n / 10) ds → IsDecimal n (ds ++ (48 + n % 10) ∷ [])
more_digits n ds h k = record {
  some = more_some ds;
  all = all_append is_ascii_digit ds _ k.all (rw (is_digit (n % 10) (omega arith)) refl);
  is = value_step ds 0 (48 + n % 10) ∙ (let e : value ds ≡ n / 10 = k.is in let goal : 10 * value ds + (48 + n % 10 - 48) ≡ n = rw e (omega arith) in goal);
}
  where
    more_some : (ds : Bytes) → 0 < length (ds ++ (48 + n % 10) ∷ [])
    more_some [] = omega arith
    more_some (d ∷ ds) = omega arith

is_decimal : (n : ℕ) → n < 2 ^ 64 → IsDecimal n (decimal n)
is_decimal n h = decimal_by_steps IsDecimal one_digit more_digits n h

number_read : (n : ℕ) (ds : Bytes) → n < 2 ^ 63 → IsDecimal n ds → number_of ds ≡ piece.Token (what.Number (pos n))
unfolding number_of
number_read n ds h k =
    let e : value ds ≡ n = k.is in
    let less : nat_lt n (2 ^ 63) ≡ true = grind (arith, nat_tests) in
    rw (e, less) refl

digits_spelled : (n : ℕ) (ds : Bytes) → n < 2 ^ 63 → length ds ≤ 63 → IsDecimal n ds → Spelled (what.Number (pos n)) 63 ds
unfolding front
digits_spelled n [] h short k = absurd (let some : 0 < 0 = k.some in omega arith)
digits_spelled n (b ∷ z) h short k =
    let digit : is_ascii_digit b ≡ true = and_left (is_ascii_digit b) _ k.all in
    let letter : is_ascii_alphabetic b ≡ false = digit_letter b digit in
    record {
      starts = (digit_blank b digit, digit_mark b digit);
      read = λ r e.
          let size : prefix_len is_ascii_digit (z ++ r) ≡ length z = run_size is_ascii_digit refl z r (and_right (is_ascii_digit b) _ k.all) e in
          rw (letter, digit, size, one_add (length z), run_take z r, number_read n (b ∷ z) h k) refl;
      inner = run_inner is_ascii_digit digit_inner (b ∷ z) k.all;
      short = short;
    }

pub spelled_number : (n : ℕ) → n < 2 ^ 63 → Spelled (what.Number (pos n)) 63 (signed_decimal (pos n))
spelled_number n h = digits_spelled n (decimal n) h (let short : length (decimal n) ≤ 20 = length-decimal-le 20 n (omega arith) (omega arith) (omega arith) in omega arith) (is_decimal n (omega arith))

-- ---- texts

not_equal : (a b : ℕ) → (a == b) ≡ true → a ≡ b
not_equal a b e = grind (arith, nat_tests)

not_less : (a b : ℕ) → b ≤ a → nat_lt a b ≡ false
not_less a b e = grind (arith, nat_tests)

not_zero : (a : ℕ) → 0 < a → (a == 0) ≡ false
not_zero a e = grind (arith, nat_tests)

same_byte : (q : ℕ) → (q == q) ≡ true
same_byte q = grind (arith, nat_tests)

after_before : (content : Bytes) (n : ℕ) (q : Quoted) (c : Bytes) (k : ℕ) → q ≡ Ok (c, k) → before content n q ≡ Ok (content ++ c, n + k)
after_before content n q c k e = rw e refl

text_read : (q : ℕ) (c : Bytes) (room : ℕ) (r : Bytes) → list_all can_stand c ≡ true → length (doubled q c) ≤ room → (slice_index r 0 == q) ≡ false
    → quoted q false room (doubled q c ++ q ∷ r) ≡ Ok (c, length (doubled q c) + 1)
text_read q [] room r all short last = let k : (q == q) ≡ true = same_byte q in rw (k, last) refl
text_read q (b ∷ c) room r all short last = by_first (b == q) refl (λ k h. text_read q c k r (and_right (can_stand b) _ all) h last)
  where
    by_first : (is : Bool) → (b == q) ≡ is → ((k : ℕ) → length (doubled q c) ≤ k → quoted q false k (doubled q c ++ q ∷ r) ≡ Ok (c, length (doubled q c) + 1)) → quoted q false room (doubled q (b ∷ c) ++ q ∷ r) ≡ Ok (b ∷ c, length (doubled q (b ∷ c)) + 1)
    by_first true e go =
        let least : suc (suc (length (doubled q c))) ≤ room = rw e at short in
        let two : nat_lt room 2 ≡ false = not_less room 2 (omega arith) in
        let ih : quoted q false (room - 2) (doubled q c ++ q ∷ r) ≡ Ok (c, length (doubled q c) + 1) = go (room - 2) (omega arith) in
        let inner : before [] 1 (quoted q false (room - 2) (doubled q c ++ q ∷ r)) ≡ Ok (c, 1 + (length (doubled q c) + 1)) = after_before [] 1 _ _ _ ih in
        let outer : before (b ∷ []) 1 (before [] 1 (quoted q false (room - 2) (doubled q c ++ q ∷ r))) ≡ Ok (b ∷ c, 1 + (1 + (length (doubled q c) + 1))) = after_before (b ∷ []) 1 _ _ _ inner in
        let size : 1 + (1 + (length (doubled q c) + 1)) ≡ suc (suc (length (doubled q c))) + 1 = omega arith in
        rw (e, e, two) (outer ∙ ap (λ n. Ok (b ∷ c, n)) size)
    by_first false e go =
        let least : suc (length (doubled q c)) ≤ room = rw e at short in
        let some : (room == 0) ≡ false = not_zero room (omega arith) in
        let stands : can_stand b ≡ true = and_left (can_stand b) _ all in
        let ih : quoted q false (room - 1) (doubled q c ++ q ∷ r) ≡ Ok (c, length (doubled q c) + 1) = go (room - 1) (omega arith) in
        let outer : before (b ∷ []) 1 (quoted q false (room - 1) (doubled q c ++ q ∷ r)) ≡ Ok (b ∷ c, 1 + (length (doubled q c) + 1)) = after_before (b ∷ []) 1 _ _ _ ih in
        let size : 1 + (length (doubled q c) + 1) ≡ suc (length (doubled q c)) + 1 = omega arith in
        rw (e, e, some, stands) (outer ∙ ap (λ n. Ok (b ∷ c, n)) size)

stands_inner : (b : ℕ) → can_stand b ≡ true → is_inner b ≡ true
stands_inner b e = grind (arith, nat_tests)

doubled_inner : (q : ℕ) (c : Bytes) → list_all is_inner c ≡ true → list_all is_inner (doubled q c) ≡ true
doubled_inner q [] all = refl
doubled_inner q (b ∷ c) all = by_first (b == q) refl (doubled_inner q c (and_right (is_inner b) _ all))
  where
    inner : is_inner b ≡ true
    inner = and_left (is_inner b) _ all

    by_first : (is : Bool) → (b == q) ≡ is → list_all is_inner (doubled q c) ≡ true → list_all is_inner (doubled q (b ∷ c)) ≡ true
    by_first true e ih = rw (e, inner) ih
    by_first false e ih = rw (e, inner) ih

pub length_append : (xs ys : Bytes) → length (xs ++ ys) ≡ length xs + length ys
length_append [] ys = omega arith
length_append (x ∷ xs) ys = let e : length (xs ++ ys) ≡ length xs + length ys = length_append xs ys in omega arith

cut_size : (p : Piece) (m n : ℕ) → m ≡ n → ◌≡◌ {A = Cut} (p, m) (p, n)
cut_size p m n e = rw e refl

-- what the quotes are, and what they aren't
record IsQuote (q : ℕ) : Type 0 where
  letter : is_ascii_alphabetic q ≡ false
  digit : is_ascii_digit q ≡ false
  quote : is_quote q ≡ true
  blank : is_blank q ≡ false
  mark : (q == 33) ≡ false
  inner : is_inner q ≡ true
  apart : (32 == q) ≡ false
  some : (0 == q) ≡ false

ends_free : (q : ℕ) → IsQuote q → (r : Bytes) → Ends r → (slice_index r 0 == q) ≡ false
ends_free q k [] e = k.some
ends_free q k (b ∷ r) e = ap (λ c. c == q) e ∙ k.apart

text_spelled : (q : ℕ) → IsQuote q → (c : Bytes) → list_all can_stand c ≡ true → length (doubled q c) ≤ 120 → Spelled (what.Text c) 122 (text.quoted q c)
unfolding front text_at
text_spelled q k c all short = record {
  starts = (k.blank, k.mark);
  read = λ r e.
      let letter = k.letter in
      let digit = k.digit in
      let quote = k.quote in
      let body : quoted q false 120 (doubled q c ++ q ∷ r) ≡ Ok (c, length (doubled q c) + 1) = text_read q c 120 r all short (ends_free q k r e) in
      let glue : (doubled q c ++ q ∷ []) ++ r ≡ doubled q c ++ q ∷ r = append_assoc (doubled q c) (q ∷ []) r in
      let l : length (doubled q c ++ q ∷ []) ≡ length (doubled q c) + 1 = length_append (doubled q c) (q ∷ []) in
      let size : 1 + (length (doubled q c) + 1) ≡ suc (length (doubled q c ++ q ∷ [])) = omega arith in
      rw (letter, digit, quote, glue, body) (cut_size (piece.Token (what.Text c)) _ _ size);
  inner = let i : is_inner q ≡ true = k.inner in rw i (all_append is_inner (doubled q c) (q ∷ []) (doubled_inner q c (run_inner can_stand stands_inner c all)) (rw i refl));
  short = let l : length (doubled q c ++ q ∷ []) ≡ length (doubled q c) + 1 = length_append (doubled q c) (q ∷ []) in omega arith;
}

quote_quotes : (c : Bytes) → IsQuote (quote_for c)
quote_quotes c = by_test (nat_lt (count_by (λ b. b == 34) c) (count_by (λ b. b == 39) c))
  where
    by_test : (t : Bool) → IsQuote (cond t 34 39)
    by_test true = record { letter = refl; digit = refl; quote = refl; blank = refl; mark = refl; inner = refl; apart = refl; some = refl }
    by_test false = record { letter = refl; digit = refl; quote = refl; blank = refl; mark = refl; inner = refl; apart = refl; some = refl }

pub spelled_text : (c : Bytes) → IsText c → Spelled (what.Text c) 122 (text.quoted (quote_for c) c)
spelled_text c h = text_spelled (quote_for c) (quote_quotes c) c h.all h.short

-- ---- all tokens

more : {w : What} {z : Bytes} → Spelled w 63 z → Spelled w 122 z
more s = record { starts = s.starts; read = s.read; inner = s.inner; short = let k = s.short in omega arith }

pub spelled : (w : What) → Printable w → Spelled w 122 (token_text w)
spelled (what.Name x) h = more (spelled_name x h)
spelled (what.Word w) h = more (spelled_word w)
spelled (what.Number n) h = subst (λ k. Spelled (what.Number k) 122 (signed_decimal k)) (sym h.is) (more (spelled_number h.count h.fits))
spelled (what.Text c) h = spelled_text c h
spelled (what.Sign s) h = more (spelled_sign s)
spelled what.End h = absurd h

-- a token in front of a line
skipped : (z r : Bytes) → pieces_after (length z) (z ++ r) ≡ pieces r
skipped [] r = refl
skipped (b ∷ z) r = skipped z r

pub token_pieces : (w : What) (most : ℕ) (z r : Bytes) → Spelled w most z → Ends r → pieces (z ++ r) ≡ piece.Token w ∷ pieces r
token_pieces w most [] r s e = absurd s.starts
token_pieces w most (b ∷ z) r s e =
    let read : front b (b ∷ z ++ r) ≡ (piece.Token w, suc (length z)) = s.read r e in
    let less : suc (length z) - 1 ≡ length z = omega arith in
    rw (s.starts.0, s.starts.1, read, less, skipped z r) refl

pub blank_pieces : (n : ℕ) (r : Bytes) → pieces (replicate n 32 ++ r) ≡ pieces r
blank_pieces zero r = refl
blank_pieces (suc n) r = blank_pieces n r
