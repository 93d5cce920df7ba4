-- The tokens of every text can be printed so that they are read again.
use Rattle.std.proofs.Common.{◌≡◌, ℕ, zero, suc, ◌+◌, ◌-◌, ◌*◌, ◌<◌, ◌≤◌, ◌^◌, Bool, true, false, not, ◌&&◌, ◌||◌, ◌==◌, nat_lt, cond, List, [], ◌∷◌, ◌++◌, length, take, drop, map, fold, Option, Some, None, Ok, Err, refl, ap, sym, ◌∙◌, subst, arith, length-take}
use Rattle.std.specs.Prelude.{slice_index, slice_get, pos, nat_le, count_by}
use Rattle.std.specs.List.{prefix_len, list_all}
use Rattle.std.specs.Char.{is_ascii_digit, is_ascii_alphabetic, to_ascii_lowercase}
use Rattle.std.specs.Str.{str_eq_ignore_ascii_case}
use Rattle.std.proofs.lemmas.Bool.Decides.{nat_tests}
use Rattle.std.proofs.lemmas.List.Recursion.{is_count_by}
use Rattle.caf_lexer.specs.declared.token.Token.{Token}
use Rattle.caf_lexer.specs.declared.token.What.{What}
use Rattle.caf_lexer.specs.declared.token.What.TheVariants as what
use Rattle.caf_lexer.specs.declared.token.Sign.{Sign}
use Rattle.caf_lexer.specs.declared.token.Word.{Word}
use Rattle.caf_lexer.specs.declared.fault.Mistake.{Mistake}
use Rattle.caf_lexer.specs.declared.fault.Mistake.TheVariants.{BadToken, BadNumber}
use Rattle.caf_lexer.specs.declared.piece.Piece.{Piece}
use Rattle.caf_lexer.specs.declared.piece.Piece.TheVariants as piece
use Rattle.caf_lexer.specs.Spelling.{Bytes, Cut, Quoted, is_blank, is_quote, is_name_byte, words, word_in, word_or_name, name_of, value, number_of, can_stand, before, quoted, text_of, text_at, misplaced, wrong, signs, sign_in, sign_or, sign_at, front, pieces_after, pieces}
use Rattle.caf_lexer.specs.Lines.{lines}
use Rattle.caf_lexer.specs.Tokens.{Given, Answer, token_at, after_token, rest_of, joined, line_of, lines_of, in_front, followed_by, with_token, with_tokens, with_answer, tokens_of, is_end, is_ended}
use Rattle.caf_tree.specs.Text.{quote_for, doubled}
use Rattle.caf_printer.proofs.Printable.{Said, whats, Fine, IsName, IsNumber, IsText, Each, each_append, begins_letter}
use Rattle.caf_printer.proofs.Lexed.{and_left, and_right}

-- a piece whose token is fine, or no token
abbrev pub IsFine : Piece → Type 0
IsFine (piece.Token w) = Fine w
IsFine piece.Ampersand = Unit {0}
IsFine (piece.Mistake m) = Unit {0}

-- ---- names

lower_twice : (b : ℕ) → to_ascii_lowercase (to_ascii_lowercase b) ≡ to_ascii_lowercase b
lower_twice b = grind (arith, nat_tests)

lower_letter : (b : ℕ) → is_ascii_alphabetic b ≡ true → is_ascii_alphabetic (to_ascii_lowercase b) ≡ true
lower_letter b e = grind (arith, nat_tests)

lower_byte : (b : ℕ) → is_name_byte b ≡ true → is_name_byte (to_ascii_lowercase b) ≡ true
lower_byte b e = grind (arith, nat_tests)

lower_all : (z : Bytes) → list_all is_name_byte z ≡ true → list_all is_name_byte (map to_ascii_lowercase z) ≡ true
lower_all [] all = refl
lower_all (b ∷ z) all = let k : is_name_byte (to_ascii_lowercase b) ≡ true = lower_byte b (and_left (is_name_byte b) _ all) in rw k (lower_all z (and_right (is_name_byte b) _ all))

lower_length : (z : Bytes) → length (map to_ascii_lowercase z) ≡ length z
lower_length [] = refl
lower_length (b ∷ z) = ap suc (lower_length z)

lower_same : (z : Bytes) → map to_ascii_lowercase (map to_ascii_lowercase z) ≡ map to_ascii_lowercase z
lower_same [] = refl
lower_same (b ∷ z) = rw (lower_twice b, lower_same z) refl

lower_begins : (z : Bytes) → begins_letter z → begins_letter (map to_ascii_lowercase z)
lower_begins [] h = h
lower_begins (b ∷ z) h = lower_letter b h

equal_lower : (z x : Bytes) → str_eq_ignore_ascii_case (map to_ascii_lowercase z) x ≡ str_eq_ignore_ascii_case z x
equal_lower z x = rw (lower_same z) refl

word_lower : (table : List (Bytes × Word)) (z : Bytes) → word_in table (map to_ascii_lowercase z) ≡ word_in table z
word_lower [] z = refl
word_lower (entry ∷ others) z = rw (equal_lower z entry.0, word_lower others z) refl

name_fine : (z : Bytes) → begins_letter z → list_all is_name_byte z ≡ true → IsFine (name_of z)
unfolding name_of
name_fine z begins all = by_length (nat_lt 63 (length z)) refl
  where
    fits : nat_lt 63 (length z) ≡ false → length z ≤ 63
    fits e = grind (arith, nat_tests)

    by_word : (found : Option Word) → word_in words z ≡ found → nat_lt 63 (length z) ≡ false → IsFine (word_or_name found z)
    by_word (Some w) e k = tt
    by_word None e k = record {
      begins = lower_begins z begins;
      all = lower_all z all;
      short = let short : length z ≤ 63 = fits k in let same : length (map to_ascii_lowercase z) ≡ length z = lower_length z in omega arith;
      named = rw (lower_length z, k, word_lower words z, e, lower_same z) refl;
    }

    by_length : (long : Bool) → nat_lt 63 (length z) ≡ long → IsFine (cond long (piece.Mistake BadToken) (word_or_name (word_in words z) z))
    by_length true k = tt
    by_length false k = by_word (word_in words z) refl k

-- ---- numbers

number_fine : (z : Bytes) → IsFine (number_of z)
unfolding number_of
number_fine z = by_size (nat_lt (value z) (2 ^ 63)) refl
  where
    fits : nat_lt (value z) (2 ^ 63) ≡ true → value z < 2 ^ 63
    fits e = grind (arith, nat_tests)

    by_size : (small : Bool) → nat_lt (value z) (2 ^ 63) ≡ small → IsFine (cond small (piece.Token (what.Number (pos (value z)))) (piece.Mistake BadNumber))
    by_size true k = record { count = value z; is = refl; fits = fits k }
    by_size false k = tt

-- ---- texts

-- what stands between quotes can be written again in as much room
abbrev Fits : ℕ → ℕ → Quoted → Type 0
Fits quote room (Ok q) = (list_all can_stand q.0 ≡ true) × (length (doubled quote q.0) ≤ room)
Fits quote room (Err mistake) = Unit {0}

same_is : (a b : ℕ) → (a == b) ≡ true → a ≡ b
same_is a b e = grind (arith, nat_tests)

behind_double : (quote room b : ℕ) → can_stand quote ≡ true → (b == quote) ≡ true → nat_lt room 2 ≡ false → (found : Quoted) → Fits quote (room - 2) found → Fits quote room (before (b ∷ []) 1 (before [] 1 found))
behind_double quote room b stands e k (Err mistake) h = tt
behind_double quote room b stands e k (Ok q) h =
    let two : 2 ≤ room = not_less k in
    let same : b ≡ quote = same_is b quote e in
    let stand : can_stand b ≡ true = ap can_stand same ∙ stands in
    let less : length (doubled quote q.0) ≤ room - 2 = h.1 in
    (rw stand h.0, rw e (omega arith))
  where
    not_less : nat_lt room 2 ≡ false → 2 ≤ room
    not_less e = grind (arith, nat_tests)

behind_one : (quote room b : ℕ) → (b == quote) ≡ false → (room == 0 || not (can_stand b)) ≡ false → (found : Quoted) → Fits quote (room - 1) found → Fits quote room (before (b ∷ []) 1 found)
behind_one quote room b e k (Err mistake) h = tt
behind_one quote room b e k (Ok q) h =
    let stand : can_stand b ≡ true = or_right (room == 0) (can_stand b) k in
    let some : (room == 0) ≡ false = or_left (room == 0) (not (can_stand b)) k in
    let one : 0 < room = not_zero some in
    let less : length (doubled quote q.0) ≤ room - 1 = h.1 in
    (rw stand h.0, rw e (omega arith))
  where
    or_left : (a b : Bool) → (a || b) ≡ false → a ≡ false
    or_left true b e = e
    or_left false b e = refl

    or_right : (a b : Bool) → (a || not b) ≡ false → b ≡ true
    or_right true b e = absurd (let z : ◌≡◌ {A = Bool} true false = e in cc)
    or_right false true e = refl
    or_right false false e = sym e

    not_zero : (room == 0) ≡ false → 0 < room
    not_zero e = grind (arith, nat_tests)

text_fits : (quote : ℕ) → can_stand quote ≡ true → (room : ℕ) (z : Bytes) → Fits quote room (quoted quote false room z)
text_fits quote stands room [] = tt
text_fits quote stands room (b ∷ []) = by_first (b == quote) refl (room == 0 || not (can_stand b)) refl
  where
    by_first : (is : Bool) → (b == quote) ≡ is → (bad : Bool) → (room == 0 || not (can_stand b)) ≡ bad → Fits quote room (quoted quote false room (b ∷ []))
    by_first true e bad k = by_next (0 == quote) refl
      where
        by_next : (t : Bool) → (0 == quote) ≡ t → Fits quote room (quoted quote false room (b ∷ []))
        by_next true f = by_room (nat_lt room 2) refl
          where
            by_room : (u : Bool) → nat_lt room 2 ≡ u → Fits quote room (quoted quote false room (b ∷ []))
            by_room true g = rw (e, f, g) tt
            by_room false g = rw (e, f, g) tt
        by_next false f = rw (e, f) (refl, omega arith)
    by_first false e true k = rw (e, k) tt
    by_first false e false k = rw (e, k) tt
text_fits quote stands room (b ∷ c ∷ z) = by_first (b == quote) refl (c == quote) refl (room == 0 || not (can_stand b)) refl (nat_lt room 2) refl (text_fits quote stands (room - 2) z) (text_fits quote stands (room - 1) (c ∷ z))
  where
    by_first : (is : Bool) → (b == quote) ≡ is → (again : Bool) → (c == quote) ≡ again → (bad : Bool) → (room == 0 || not (can_stand b)) ≡ bad → (short : Bool) → nat_lt room 2 ≡ short
        → Fits quote (room - 2) (quoted quote false (room - 2) z) → Fits quote (room - 1) (quoted quote false (room - 1) (c ∷ z)) → Fits quote room (quoted quote false room (b ∷ c ∷ z))
    by_first true e true f bad k true g two one = rw (e, f, g) tt
    by_first true e true f bad k false g two one = rw (e, f, g) (behind_double quote room b stands e g (quoted quote false (room - 2) z) two)
    by_first true e false f bad k short g two one = rw (e, f) (refl, omega arith)
    by_first false e again f true k short g two one = rw (e, k) tt
    by_first false e again f false k short g two one = rw (e, k) (behind_one quote room b e k (quoted quote false (room - 1) (c ∷ z)) one)

abbrev how_many : (ℕ → Bool) → Bytes → ℕ
how_many p [] = 0
how_many p (b ∷ z) = cond (p b) (1 + how_many p z) (how_many p z)

doubled_size : (quote : ℕ) (content : Bytes) → length (doubled quote content) ≡ length content + how_many (λ b. b == quote) content
doubled_size quote [] = omega arith
doubled_size quote (b ∷ content) = by_first (b == quote) refl (doubled_size quote content)
  where
    by_first : (is : Bool) → (b == quote) ≡ is → length (doubled quote content) ≡ length content + how_many (λ b. b == quote) content
        → length (doubled quote (b ∷ content)) ≡ length (b ∷ content) + how_many (λ b. b == quote) (b ∷ content)
    by_first true e ih = rw e (omega (arith, ih))
    by_first false e ih = rw e (omega (arith, ih))

doubled_length : (quote : ℕ) (content : Bytes) → length (doubled quote content) ≡ length content + count_by (λ b. b == quote) content
doubled_length quote content = doubled_size quote content ∙ ap (λ n. length content + n) (is_count_by (how_many (λ b. b == quote)) (λ b. b == quote) refl (λ x xs. refl) content)

best_quote : (content : Bytes) (room : ℕ) → length (doubled 39 content) ≤ room → length (doubled (quote_for content) content) ≤ room
best_quote content room h = by_test (nat_lt (count_by (λ b. b == 34) content) (count_by (λ b. b == 39) content)) refl
  where
    by_test : (t : Bool) → nat_lt (count_by (λ b. b == 34) content) (count_by (λ b. b == 39) content) ≡ t → length (doubled (cond t 34 39) content) ≤ room
    by_test false e = h
    by_test true e =
        let a : length (doubled 34 content) ≡ length content + count_by (λ b. b == 34) content = doubled_length 34 content in
        let b : length (doubled 39 content) ≡ length content + count_by (λ b. b == 39) content = doubled_length 39 content in
        let less : count_by (λ b. b == 34) content < count_by (λ b. b == 39) content = is_less e in
        omega arith
      where
        is_less : nat_lt (count_by (λ b. b == 34) content) (count_by (λ b. b == 39) content) ≡ true → count_by (λ b. b == 34) content < count_by (λ b. b == 39) content
        is_less e = grind (arith, nat_tests)

best_double : (content : Bytes) (room : ℕ) → length (doubled 34 content) ≤ room → length (doubled (quote_for content) content) ≤ room
best_double content room h = by_test (nat_lt (count_by (λ b. b == 34) content) (count_by (λ b. b == 39) content)) refl
  where
    by_test : (t : Bool) → nat_lt (count_by (λ b. b == 34) content) (count_by (λ b. b == 39) content) ≡ t → length (doubled (cond t 34 39) content) ≤ room
    by_test true e = h
    by_test false e =
        let a : length (doubled 34 content) ≡ length content + count_by (λ b. b == 34) content = doubled_length 34 content in
        let b : length (doubled 39 content) ≡ length content + count_by (λ b. b == 39) content = doubled_length 39 content in
        let less : count_by (λ b. b == 39) content ≤ count_by (λ b. b == 34) content = not_less e in
        omega arith
      where
        not_less : nat_lt (count_by (λ b. b == 34) content) (count_by (λ b. b == 39) content) ≡ false → count_by (λ b. b == 39) content ≤ count_by (λ b. b == 34) content
        not_less e = grind (arith, nat_tests)

text_of_fine : (quote : ℕ) → ((content : Bytes) → length (doubled quote content) ≤ 120 → length (doubled (quote_for content) content) ≤ 120) → (found : Quoted) → Fits quote 120 found → IsFine (text_of found).0
text_of_fine quote best (Ok q) h = record { all = h.0; short = best q.0 h.1 }
text_of_fine quote best (Err mistake) h = tt

text_fine : (b : ℕ) (z : Bytes) → is_quote b ≡ true → IsFine (text_at b z).0
unfolding text_at
text_fine b z e = by_single (b == 39) refl (b == 34) refl
  where
    by_single : (t : Bool) → (b == 39) ≡ t → (u : Bool) → (b == 34) ≡ u → IsFine (text_of (quoted b false 120 z)).0
    by_single true k u l = subst (λ q. IsFine (text_of (quoted q false 120 z)).0) (sym (same_is b 39 k)) (text_of_fine 39 (λ c h. best_quote c 120 h) (quoted 39 false 120 z) (text_fits 39 refl 120 z))
    by_single false k true l = subst (λ q. IsFine (text_of (quoted q false 120 z)).0) (sym (same_is b 34 l)) (text_of_fine 34 (λ c h. best_double c 120 h) (quoted 34 false 120 z) (text_fits 34 refl 120 z))
    by_single false k false l = absurd (let z : ◌≡◌ {A = Bool} false true = rw (k, l) at e in cc)

-- ---- the piece at a place

sign_fine : (mistake : Mistake) (found : Option (Sign × ℕ)) → IsFine (sign_or mistake found).0
sign_fine mistake (Some s) = tt
sign_fine mistake None = tt

run_all : (p : ℕ → Bool) (z : Bytes) → list_all p (take (prefix_len p z) z) ≡ true
run_all p [] = refl
run_all p (b ∷ z) = by_first (p b) refl (run_all p z)
  where
    by_first : (is : Bool) → p b ≡ is → list_all p (take (prefix_len p z) z) ≡ true → list_all p (take (prefix_len p (b ∷ z)) (b ∷ z)) ≡ true
    by_first true e others = let one : 1 + prefix_len p z ≡ suc (prefix_len p z) = omega arith in rw (e, one, e) others
    by_first false e others = rw e refl

letter_byte : (b : ℕ) → is_ascii_alphabetic b ≡ true → is_name_byte b ≡ true
letter_byte b e = grind (arith, nat_tests)

run_begins : (b : ℕ) (z : Bytes) → is_ascii_alphabetic b ≡ true → begins_letter (take (prefix_len is_name_byte (b ∷ z)) (b ∷ z))
run_begins b z e =
    let k : is_name_byte b ≡ true = letter_byte b e in
    let one : 1 + prefix_len is_name_byte z ≡ suc (prefix_len is_name_byte z) = omega arith in
    rw (k, one) e

front_fine : (b : ℕ) (z : Bytes) → IsFine (front b (b ∷ z)).0
unfolding front sign_at
front_fine b z = by_kind (is_ascii_alphabetic b) refl (is_ascii_digit b) refl (is_quote b) refl (b == 38) refl (b == 59) refl
  where
    by_kind : (l : Bool) → is_ascii_alphabetic b ≡ l → (d : Bool) → is_ascii_digit b ≡ d → (q : Bool) → is_quote b ≡ q → (a : Bool) → (b == 38) ≡ a → (s : Bool) → (b == 59) ≡ s → IsFine (front b (b ∷ z)).0
    by_kind true e d f q g a h s k = rw e (name_fine _ (run_begins b z e) (run_all is_name_byte (b ∷ z)))
    by_kind false e true f q g a h s k = rw (e, f) (number_fine _)
    by_kind false e false f true g a h s k = rw (e, f, g) (text_fine b z g)
    by_kind false e false f false g true h s k = rw (e, f, g, h) tt
    by_kind false e false f false g false h true k = rw (e, f, g, h, k) tt
    by_kind false e false f false g false h false k = rw (e, f, g, h, k) (sign_fine (misplaced b) (sign_in signs (b ∷ z)))

pieces_fine : (n : ℕ) (z : Bytes) → Each IsFine (pieces_after n z)
pieces_fine n [] = tt
pieces_fine (suc n) (b ∷ z) = pieces_fine n z
pieces_fine zero (b ∷ z) = by_kind (is_blank b) refl (b == 33) refl (λ k. pieces_fine k z)
  where
    by_kind : (l : Bool) → is_blank b ≡ l → (m : Bool) → (b == 33) ≡ m → ((k : ℕ) → Each IsFine (pieces_after k z)) → Each IsFine (pieces_after zero (b ∷ z))
    by_kind true e m f go = rw e (go zero)
    by_kind false e true f go = rw (e, f) tt
    by_kind false e false f go = rw (e, f) (front_fine b z, go ((front b (b ∷ z)).1 - 1))

-- ---- lines

abbrev GivenFine : Given → Type 0
GivenFine (Ok given) = Each Fine (whats given.0)
GivenFine (Err fault) = Unit {0}

after_fine : (n : ℕ) (w : What) (given : Given) → Fine w → GivenFine given → GivenFine (after_token (token_at n w) given)
after_fine n w (Ok given) h k = (h, k)
after_fine n w (Err fault) h k = tt

rest_fine : (n : ℕ) (found : List Piece) → Each IsFine found → GivenFine (rest_of n found)
rest_fine n [] h = (tt, tt)
rest_fine n (piece.Token w ∷ others) h = after_fine n w (rest_of n others) h.0 (rest_fine n others h.1)
rest_fine n (piece.Mistake m ∷ others) h = tt
rest_fine n (piece.Ampersand ∷ []) h = tt
rest_fine n (piece.Ampersand ∷ second ∷ others) h = tt

joined_fine : (on : Bool) (n : ℕ) (found : List Piece) → Each IsFine found → GivenFine (joined on n found)
joined_fine true n [] h = tt
joined_fine false n [] h = (tt, tt)
joined_fine on n (piece.Token w ∷ others) h = rest_fine n (piece.Token w ∷ others) h
joined_fine on n (piece.Mistake m ∷ others) h = tt
joined_fine on n (piece.Ampersand ∷ []) h = tt
joined_fine true n (piece.Ampersand ∷ second ∷ others) h = rest_fine n (second ∷ others) h.1
joined_fine false n (piece.Ampersand ∷ second ∷ others) h = tt

line_fine : (on : Bool) (n : ℕ) (line : Bytes) → GivenFine (line_of on n line)
unfolding line_of
line_fine on n line = by_length (nat_lt 132 (length line)) refl
  where
    by_length : (long : Bool) → nat_lt 132 (length line) ≡ long → GivenFine (line_of on n line)
    by_length true k = rw k tt
    by_length false k = rw k (joined_fine on n (pieces line) (pieces_fine 0 line))

abbrev AnswerFine : Answer → Type 0
AnswerFine (Ok tokens) = Each Fine (whats tokens)
AnswerFine (Err fault) = Unit {0}

whats_append : (xs ys : List Token) → whats (xs ++ ys) ≡ whats xs ++ whats ys
whats_append [] ys = refl
whats_append (x ∷ xs) ys = ap (λ us. x.what ∷ us) (whats_append xs ys)

both_fine : (xs ys : List Token) → Each Fine (whats xs) → Each Fine (whats ys) → Each Fine (whats (xs ++ ys))
both_fine xs ys h k = subst (Each Fine) (sym (whats_append xs ys)) (each_append Fine (whats xs) (whats ys) h k)

in_front_fine : (xs : List Token) (answer : Answer) → Each Fine (whats xs) → AnswerFine answer → AnswerFine (in_front xs answer)
in_front_fine xs (Ok others) h k = both_fine xs others h k
in_front_fine xs (Err fault) h k = tt

lines_fine : (text : List Bytes) (on : Bool) (n : ℕ) → AnswerFine (lines_of on n text)
lines_fine [] true n = tt
lines_fine [] false n = tt
lines_fine (line ∷ others) on n = by_line (line_of on n line) (line_fine on n line) (λ b. lines_fine others b (n + 1))
  where
    by_line : (given : Given) → GivenFine given → ((b : Bool) → AnswerFine (lines_of b (n + 1) others)) → AnswerFine (followed_by given (λ b. lines_of b (n + 1) others))
    by_line (Ok given) h rest = in_front_fine given.0 (lines_of given.1 (n + 1) others) h (rest given.1)
    by_line (Err fault) h rest = tt

with_fine : (others tokens : List Token) → Each Fine (whats tokens) → Each Fine (whats others) → Each Fine (whats (with_tokens tokens others))
with_fine [] tokens h k = h
with_fine (t ∷ others) tokens h k = with_fine others (with_token tokens t) (by_idle (is_end t.what && is_ended tokens)) k.1
  where
    by_idle : (idle : Bool) → Each Fine (whats (cond idle tokens (tokens ++ t ∷ [])))
    by_idle true = h
    by_idle false = both_fine tokens (t ∷ []) h (k.0, tt)

pub tokens_fine : (text : Bytes) (tokens : List Token) → tokens_of text ≡ Ok tokens → Each Fine (whats tokens)
unfolding tokens_of
tokens_fine text tokens e = by_answer (lines_of false 1 (lines text)) (lines_fine (lines text) false 1) e
  where
    by_answer : (answer : Answer) → AnswerFine answer → with_answer [] answer ≡ Ok tokens → Each Fine (whats tokens)
    by_answer (Ok given) h e = subst (λ ts. Each Fine (whats ts)) (same (with_tokens [] given) tokens e) (with_fine given [] tt h)
      where
        same : (xs ys : List Token) → ◌≡◌ {A = Answer} (Ok xs) (Ok ys) → xs ≡ ys
        same xs ys e = cc
    by_answer (Err fault) h e = absurd (let z : ◌≡◌ {A = Answer} (Err fault) (Ok tokens) = e in cc)
