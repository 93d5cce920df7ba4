-- What the lexer takes at a place is the longest spelling there.
use Rattle.std.proofs.Common.{◌≡◌, ℕ, zero, suc, ◌+◌, ◌-◌, ◌<◌, ◌≤◌, Bool, true, false, not, ◌&&◌, ◌||◌, ◌==◌, nat_lt, cond, ◌⊎◌, inl, inr, List, [], ◌∷◌, length, take, drop, Option, Some, None, Ok, Err, refl, ap, sym, ◌∙◌, subst, arith, length-take}
use Rattle.std.specs.Prelude.{slice_index, nat_le}
use Rattle.std.specs.Option.{option_map, is_some}
use Rattle.std.specs.List.{prefix_len, list_all}
use Rattle.std.specs.Char.{is_ascii_digit, is_ascii_alphabetic, to_ascii_lowercase}
use Rattle.std.specs.Int.{is_in_range}
use Rattle.std.specs.Str.{str_eq_ignore_ascii_case}
use Rattle.std.proofs.lemmas.List.{length-take-le}
use Rattle.std.proofs.lemmas.List.Sums.{prefix_len-le-length}
use Rattle.std.proofs.lemmas.Bool.Decides.{nat_tests}
use Rattle.std.proofs.lemmas.Bool.{both_ways, ltb-false, ltb-true, leb-true, eqb-true}
use Rattle.caf_lexer.specs.declared.token.Sign.{Sign}
use Rattle.caf_lexer.specs.declared.token.What.TheVariants as what
use Rattle.caf_lexer.specs.declared.piece.Piece.{Piece}
use Rattle.caf_lexer.specs.declared.piece.Piece.TheVariants as piece
use Rattle.caf_lexer.specs.Spelling.{Bytes, Cut, Quoted, is_blank, is_quote, is_name_byte, name_of, number_of, can_stand, before, quoted, text_of, text_at, misplaced, signs, begins, sign_in, sign_or, sign_at, front, pieces, pieces_after}
use Rattle.caf_lexer.specs.Longest.{is_empty, put, text_in, sign_of, spelled, IsLongest, is_over, IsCut, is_sound}

one-add : (n : ℕ) → 1 + n ≡ suc n
one-add n = omega arith

-- what `Some` came from
test-passed : {A : Type 0} (t : Bool) (x y : A) → ◌≡◌ {A = Option A} (cond t (Some x) None) (Some y) → t ≡ true
test-passed true x y e = refl
test-passed false x y e = cc

both-passed : {A B : Type 0} (t : Bool) (f : A → B) (found : Option A) (y : B) → ◌≡◌ {A = Option B} (cond t (option_map f found) None) (Some y) → is_some found ≡ true
both-passed true f (Some x) y e = refl
both-passed true f None y e = cc
both-passed false f found y e = cc

and-left : (a b : Bool) → (a && b) ≡ true → a ≡ true
and-left true b e = refl
and-left false b e = e

and-right : (a b : Bool) → (a && b) ≡ true → b ≡ true
and-right true b e = e
and-right false b e = cc

-- ---- names and numbers

run-passes : (p : ℕ → Bool) (z : Bytes) → list_all p (take (prefix_len p z) z) ≡ true
run-passes p [] = refl
run-passes p (b ∷ z) = by_first (p b) refl (run-passes p z)
  where
    by_first : (is : Bool) → p b ≡ is → list_all p (take (prefix_len p z) z) ≡ true → list_all p (take (prefix_len p (b ∷ z)) (b ∷ z)) ≡ true
    by_first true e others = rw (e, one-add (prefix_len p z), e) others
    by_first false e others = rw e refl

run-longest : (p : ℕ → Bool) (z : Bytes) (n : ℕ) → n ≤ length z → list_all p (take n z) ≡ true → n ≤ prefix_len p z
run-longest p z zero within passes = omega arith
run-longest p [] (suc n) within passes = absurd (omega arith)
run-longest p (b ∷ z) (suc n) within passes = by_first (p b) refl (run-longest p z n (omega arith))
  where
    by_first : (is : Bool) → p b ≡ is → (list_all p (take n z) ≡ true → n ≤ prefix_len p z) → suc n ≤ prefix_len p (b ∷ z)
    by_first true e ih = let more : n ≤ prefix_len p z = ih (and-right (p b) _ passes) in rw e (omega arith)
    by_first false e ih = let none : false ≡ true = sym e ∙ and-left (p b) _ passes in absurd (cc)

run-size : (p : ℕ → Bool) (b : ℕ) (z : Bytes) → p b ≡ true → prefix_len p (b ∷ z) ≡ suc (prefix_len p z)
run-size p b z e = rw e (one-add (prefix_len p z))

run-is-longest : (p : ℕ → Bool) (made : Bytes → Piece) (b : ℕ) (z : Bytes) → p b ≡ true → is_quote b ≡ false → ((w : Bytes) → spelled (b ∷ w) ≡ cond (list_all p w) (Some (made (b ∷ w))) None)
    → IsLongest (b ∷ z) (prefix_len p (b ∷ z)) (made (take (prefix_len p (b ∷ z)) (b ∷ z)))
run-is-longest p made b z e no_quote is = subst (λ n. IsLongest (b ∷ z) n (made (take n (b ∷ z)))) (sym (run-size p b z e)) plain
  where
    plain : IsLongest (b ∷ z) (suc (prefix_len p z)) (made (b ∷ take (prefix_len p z) z))
    plain = record {
      within = let short : prefix_len p z ≤ length z = prefix_len-le-length p z in omega arith;
      spells = is (take (prefix_len p z) z) ∙ rw (run-passes p z) refl;
      longest = no_longer;
      closed = λ quote. absurd (both_ways (is_quote b) no_quote quote);
    }
      where
        no_longer : (n : ℕ) (other : Piece) → n ≤ length (b ∷ z) → spelled (take n (b ∷ z)) ≡ Some other → n ≤ suc (prefix_len p z)
        no_longer zero other within spells = omega arith
        no_longer (suc n) other within spells =
            let passes : list_all p (take n z) ≡ true = test-passed (list_all p (take n z)) (made (b ∷ take n z)) other (sym (is (take n z)) ∙ spells) in
            let short : n ≤ prefix_len p z = run-longest p z n (omega arith) passes in
            omega arith

-- ---- texts

some-put : (b : ℕ) (content : Option Bytes) → is_some (put b content) ≡ is_some content
some-put b (Some content) = refl
some-put b None = refl

none-is-some : {A : Type 0} (found : Option A) → ◌≡◌ {A = Option A} found None → is_some found ≡ true → ⊥
none-is-some (Some x) e k = cc
none-is-some None e k = cc

-- how many bytes may stand beyond the room, where the flag is at the second of two quotes
abbrev pub beyond : Bool → ℕ
beyond true = 2
beyond false = 1

pub record IsText (quote : ℕ) (is_second : Bool) (room : ℕ) (z content : Bytes) (size : ℕ) : Type 0 where
  pub spells : text_in quote is_second (take size z) ≡ Some content
  pub short : size ≤ room + beyond is_second
  pub within : size ≤ length z
  pub longest : (n : ℕ) → n ≤ length z → is_some (text_in quote is_second (take n z)) ≡ true → n ≤ size
  pub closed : (slice_index (drop size z) 0 == quote) ≡ false

-- no text begins here
abbrev pub IsOpen : ℕ → Bool → ℕ → Bytes → Type 0
IsOpen quote is_second room z = (n : ℕ) → n ≤ length z → n ≤ room + beyond is_second → is_some (text_in quote is_second (take n z)) ≡ true → (slice_index (drop n z) 0 == quote) ≡ false → ⊥

abbrev pub AreTexts : ℕ → Bool → ℕ → Bytes → Quoted → Type 0
AreTexts quote is_second room z (Ok found) = IsText quote is_second room z found.0 found.1
AreTexts quote is_second room z (Err mistake) = IsOpen quote is_second room z

none-in-nothing : (quote : ℕ) (is_second : Bool) → is_some (text_in quote is_second []) ≡ true → ⊥
none-in-nothing quote true some = cc
none-in-nothing quote false some = cc

open-nothing : (quote : ℕ) (is_second : Bool) (room : ℕ) → IsOpen quote is_second room []
open-nothing quote is_second room zero within fits some followed = none-in-nothing quote is_second some
open-nothing quote is_second room (suc n) within fits some followed = absurd (omega arith)

nothing-in-none : (quote : ℕ) (is_second : Bool) (z : Bytes) → is_some (text_in quote is_second z) ≡ true → is_empty z ≡ false
nothing-in-none quote true [] some = cc
nothing-in-none quote false [] some = cc
nothing-in-none quote is_second (b ∷ z) some = refl

no-less : (n : ℕ) (z : Bytes) → is_empty (take (suc n) z) ≡ true → suc n ≤ length z → ⊥
no-less n [] e within = absurd (omega arith)
no-less n (b ∷ z) e within = cc

-- one byte more in front, where the flag is set
behind-second : (quote b : ℕ) (room : ℕ) (z : Bytes) → (b == quote) ≡ true → (found : Quoted) → AreTexts quote false room z found → AreTexts quote true room (b ∷ z) (before [] 1 found)
behind-second quote b room z is (Err mistake) texts = open_still
  where
    open_still : IsOpen quote true room (b ∷ z)
    open_still zero within fits some followed = none-in-nothing quote true some
    open_still (suc n) within fits some followed = texts n (omega arith) (let bound : suc n ≤ room + 2 = fits in (let goal : n ≤ room + 1 = omega arith in goal)) (rw is at some) followed
behind-second quote b room z is (Ok found) texts = record {
  closed = rw (one-add found.1) texts.closed;
  spells = rw (one-add found.1, is) texts.spells;
  short = let short : found.1 ≤ room + 1 = texts.short in (let goal : 1 + found.1 ≤ room + 2 = omega arith in goal);
  within = let within : found.1 ≤ length z = texts.within in omega arith;
  longest = no_longer;
}
  where
    no_longer : (n : ℕ) → n ≤ length (b ∷ z) → is_some (text_in quote true (take n (b ∷ z))) ≡ true → n ≤ 1 + found.1
    no_longer zero within some = omega arith
    no_longer (suc n) within some = let less : n ≤ found.1 = texts.longest n (omega arith) (rw is at some) in omega arith

-- a byte that is no quote
behind-plain : (quote b : ℕ) (room : ℕ) (z : Bytes) → (b == quote) ≡ false → can_stand b ≡ true → 0 < room → (found : Quoted) → AreTexts quote false (room - 1) z found → AreTexts quote false room (b ∷ z) (before (b ∷ []) 1 found)
behind-plain quote b room z not_quote stands some_room (Err mistake) texts = open_still
  where
    open_still : IsOpen quote false room (b ∷ z)
    open_still zero within fits some followed = none-in-nothing quote false some
    open_still (suc n) within fits some followed =
        texts n (omega arith) (let bound : suc n ≤ room + 1 = fits in (let goal : n ≤ room - 1 + 1 = omega arith in goal)) (sym (some-put b (text_in quote false (take n z))) ∙ rw (not_quote, stands) at some) followed
behind-plain quote b room z not_quote stands some_room (Ok found) texts = record {
  closed = rw (one-add found.1) texts.closed;
  spells = rw (one-add found.1, not_quote, stands) (ap (put b) texts.spells);
  short = let short : found.1 ≤ room - 1 + 1 = texts.short in (let goal : 1 + found.1 ≤ room + 1 = omega arith in goal);
  within = let within : found.1 ≤ length z = texts.within in omega arith;
  longest = no_longer;
}
  where
    no_longer : (n : ℕ) → n ≤ length (b ∷ z) → is_some (text_in quote false (take n (b ∷ z))) ≡ true → n ≤ 1 + found.1
    no_longer zero within some = omega arith
    no_longer (suc n) within some =
        let less : n ≤ found.1 = texts.longest n (omega arith) (sym (some-put b (text_in quote false (take n z))) ∙ rw (not_quote, stands) at some) in
        omega arith

-- the first of two quotes
behind-first : (quote b : ℕ) (room : ℕ) (z : Bytes) → (b == quote) ≡ true → (slice_index z 0 == quote) ≡ true → 2 ≤ room → (found : Quoted) → AreTexts quote true (room - 2) z found → AreTexts quote false room (b ∷ z) (before (b ∷ []) 1 found)
behind-first quote b room z is twice some_room (Err mistake) texts = open_still
  where
    open_still : IsOpen quote false room (b ∷ z)
    open_still zero within fits some followed = none-in-nothing quote false some
    open_still (suc zero) within fits some followed = both_ways (slice_index z 0 == quote) followed twice
    open_still (suc (suc n)) within fits some followed = by_rest (is_empty (take (suc n) z)) refl
      where
        by_rest : (none : Bool) → is_empty (take (suc n) z) ≡ none → ⊥
        by_rest true e = no-less n z e (omega arith)
        by_rest false e =
            texts (suc n) (omega arith) (let bound : suc (suc n) ≤ room + 1 = fits in (let goal : suc n ≤ room - 2 + 2 = omega arith in goal)) (sym (some-put b (text_in quote true (take (suc n) z))) ∙ rw (is, e) at some) followed
behind-first quote b room z is twice some_room (Ok found) texts = record {
  closed = rw (one-add found.1) texts.closed;
  spells = rw (one-add found.1, is, nothing-in-none quote true (take found.1 z) (ap is_some texts.spells)) (ap (put b) texts.spells);
  short = let short : found.1 ≤ room - 2 + 2 = texts.short in (let goal : 1 + found.1 ≤ room + 1 = omega arith in goal);
  within = let within : found.1 ≤ length z = texts.within in omega arith;
  longest = no_longer;
}
  where
    no_longer : (n : ℕ) → n ≤ length (b ∷ z) → is_some (text_in quote false (take n (b ∷ z))) ≡ true → n ≤ 1 + found.1
    no_longer zero within some = omega arith
    no_longer (suc zero) within some = omega arith
    no_longer (suc (suc n)) within some =
        by_rest (is_empty (take (suc n) z)) refl
      where
        by_rest : (none : Bool) → is_empty (take (suc n) z) ≡ none → suc (suc n) ≤ 1 + found.1
        by_rest true e = absurd (no-less n z e (omega arith))
        by_rest false e =
            let less : suc n ≤ found.1 = texts.longest (suc n) (omega arith) (sym (some-put b (text_in quote true (take (suc n) z))) ∙ rw (is, e) at some) in
            omega arith

-- the closing quote
closing : (quote b : ℕ) (room : ℕ) (z : Bytes) → (b == quote) ≡ true → (slice_index z 0 == quote) ≡ false → IsText quote false room (b ∷ z) [] 1
closing quote b room z is other = record {
  spells = rw is refl;
  short = let goal : 1 ≤ room + 1 = omega arith in goal;
  within = omega arith;
  longest = no_longer z other;
  closed = other;
}
  where
    no_longer : (z : Bytes) → (slice_index z 0 == quote) ≡ false → (n : ℕ) → n ≤ length (b ∷ z) → is_some (text_in quote false (take n (b ∷ z))) ≡ true → n ≤ 1
    no_longer z other zero within some = omega arith
    no_longer z other (suc zero) within some = omega arith
    no_longer [] other (suc (suc n)) within some = absurd (omega arith)
    no_longer (c ∷ z) other (suc (suc n)) within some = let none : false ≡ true = rw (is, other) at some in absurd (cc)

room-for-one : (room : ℕ) (stands : Bool) → ((room == 0) || not stands) ≡ false → (0 < room) × (stands ≡ true)
room-for-one room stands e = by_room (room == 0) refl stands refl
  where
    by_room : (none : Bool) → (room == 0) ≡ none → (is : Bool) → stands ≡ is → (0 < room) × (stands ≡ true)
    by_room true k is l = let no : true ≡ false = rw k at e in absurd (cc)
    by_room false k true l = (grind (arith, nat_tests), l)
    by_room false k false l = let no : true ≡ false = rw (k, l) at e in absurd (cc)

-- two quotes where one byte at most may stand
no-room-for-two : (quote b : ℕ) (room : ℕ) (z : Bytes) → (b == quote) ≡ true → (slice_index z 0 == quote) ≡ true → room < 2 → IsOpen quote false room (b ∷ z)
no-room-for-two quote b room z is twice less zero within fits some followed = none-in-nothing quote false some
no-room-for-two quote b room z is twice less (suc zero) within fits some followed = both_ways (slice_index z 0 == quote) followed twice
no-room-for-two quote b room [] is twice less (suc (suc zero)) within fits some followed = absurd (omega arith)
no-room-for-two quote b room (c ∷ z) is twice less (suc (suc zero)) within fits some followed = let none : false ≡ true = rw (is, twice) at some in absurd (cc)
no-room-for-two quote b room z is twice less (suc (suc (suc n))) within fits some followed = let bound : suc (suc (suc n)) ≤ room + 1 = fits in absurd (omega arith)

-- a byte that can't stand, or that is one too many
no-room : (quote b : ℕ) (room : ℕ) (z : Bytes) → (b == quote) ≡ false → ((room == 0) || not (can_stand b)) ≡ true → IsOpen quote false room (b ∷ z)
no-room quote b room z not_quote e zero within fits some followed = none-in-nothing quote false some
no-room quote b room z not_quote e (suc n) within fits some followed = by_byte (can_stand b) refl
  where
    past : (n : ℕ) → room ≡ 0 → suc n ≤ room + 1 → is_some (put b (text_in quote false (take n z))) ≡ true → ⊥
    past zero none bound stands = absurd (let no : false ≡ true = stands in cc)
    past (suc n) none bound stands = absurd (omega arith)

    by_byte : (stands : Bool) → can_stand b ≡ stands → ⊥
    by_byte false k = absurd (let no : false ≡ true = rw (not_quote, k) at some in cc)
    by_byte true k = past n (eqb-true room 0 (only (room == 0) (rw k at e))) fits (rw (not_quote, k) at some)
      where
        only : (t : Bool) → (t || false) ≡ true → t ≡ true
        only true same = refl
        only false same = same

texts-are : (quote : ℕ) (z : Bytes) (is_second : Bool) (room : ℕ) → (is_second ≡ true → (slice_index z 0 == quote) ≡ true) → AreTexts quote is_second room z (quoted quote is_second room z)
texts-are quote [] true room second = open-nothing quote true room
texts-are quote [] false room second = open-nothing quote false room
texts-are quote (b ∷ z) true room second = behind-second quote b room z (second refl) (quoted quote false room z) (texts-are quote z false room (λ e. cc))
texts-are quote (b ∷ z) false room second = by_byte (b == quote) refl (texts-are quote z)
  where
    Rest : Type 0
    Rest = (is_second : Bool) (room : ℕ) → (is_second ≡ true → (slice_index z 0 == quote) ≡ true) → AreTexts quote is_second room z (quoted quote is_second room z)

    at_quote : (b == quote) ≡ true → (twice : Bool) → (slice_index z 0 == quote) ≡ twice → Rest → AreTexts quote false room (b ∷ z) (quoted quote false room (b ∷ z))
    at_quote is false e rest = rw (is, e) (closing quote b room z is e)
    at_quote is true e rest = by_room (nat_lt room 2) refl
      where
        by_room : (less : Bool) → nat_lt room 2 ≡ less → AreTexts quote false room (b ∷ z) (quoted quote false room (b ∷ z))
        by_room true k = rw (is, e, k) (no-room-for-two quote b room z is e (ltb-true room 2 k))
        by_room false k = rw (is, e, k) (behind-first quote b room z is e (ltb-false room 2 k) (quoted quote true (room - 2) z) (rest true (room - 2) (λ same. e)))

    by_byte : (is : Bool) → (b == quote) ≡ is → Rest → AreTexts quote false room (b ∷ z) (quoted quote false room (b ∷ z))
    by_byte true is rest = at_quote is (slice_index z 0 == quote) refl rest
    by_byte false is rest = by_room ((room == 0) || not (can_stand b)) refl
      where
        by_room : (none : Bool) → ((room == 0) || not (can_stand b)) ≡ none → AreTexts quote false room (b ∷ z) (quoted quote false room (b ∷ z))
        by_room true k = rw (is, k) (no-room quote b room z is k)
        by_room false k =
            let room_and = room-for-one room (can_stand b) k in
            rw (is, k) (behind-plain quote b room z is room_and.1 room_and.0 (quoted quote false (room - 1) z) (rest false (room - 1) (λ same. cc)))

-- ---- signs

same-length : (a b : Bytes) → str_eq_ignore_ascii_case a b ≡ true → length a ≡ length b
same-length [] [] e = refl
same-length [] (y ∷ b) e = cc
same-length (x ∷ a) [] e = cc
same-length (x ∷ a) (y ∷ b) e = ap (λ n. suc n) (same-length a b (and-right (to_ascii_lowercase x == to_ascii_lowercase y) _ e))

begins-of : (z spelling : Bytes) (n : ℕ) → n ≤ length z → str_eq_ignore_ascii_case (take n z) spelling ≡ true → begins z spelling ≡ true
begins-of z spelling n within is = subst (λ k. str_eq_ignore_ascii_case (take k z) spelling ≡ true) (sym (length-take-le n z within) ∙ same-length (take n z) spelling is) is

-- the longer before the shorter
abbrev pub is_descending : List (Bytes × Sign) → Bool
is_descending [] = true
is_descending (entry ∷ others) = list_all (λ (other : Bytes × Sign). nat_le (length other.0) (length entry.0)) others && is_descending others

signs-descend : is_descending signs ≡ true
unfolding signs
signs-descend = refl

none-is-empty : sign_of signs [] ≡ None
unfolding signs
none-is-empty = refl

shorter : (table : List (Bytes × Sign)) (k : ℕ) (w : Bytes) → list_all (λ (other : Bytes × Sign). nat_le (length other.0) k) table ≡ true → is_some (sign_of table w) ≡ true → length w ≤ k
shorter [] k w all some = absurd (none-is-some {A = Sign} None refl some)
shorter (entry ∷ others) k w all some = by_first (str_eq_ignore_ascii_case w entry.0) refl (shorter others k w (and-right (nat_le (length entry.0) k) _ all))
  where
    by_first : (is : Bool) → str_eq_ignore_ascii_case w entry.0 ≡ is → (is_some (sign_of others w) ≡ true → length w ≤ k) → length w ≤ k
    by_first true e ih =
        let same : length w ≡ length entry.0 = same-length w entry.0 e in
        let short : length entry.0 ≤ k = leb-true (length entry.0) k (and-left (nat_le (length entry.0) k) _ all) in
        omega arith
    by_first false e ih = ih (rw e at some)

pub record IsSign (table : List (Bytes × Sign)) (z : Bytes) (found : Sign) (size : ℕ) : Type 0 where
  pub spells : sign_of table (take size z) ≡ Some found
  pub within : size ≤ length z
  pub longest : (n : ℕ) → n ≤ length z → is_some (sign_of table (take n z)) ≡ true → n ≤ size

abbrev pub AreSigns : List (Bytes × Sign) → Bytes → Option (Sign × ℕ) → Type 0
AreSigns table z (Some found) = IsSign table z found.0 found.1
AreSigns table z None = (n : ℕ) → n ≤ length z → is_some (sign_of table (take n z)) ≡ true → ⊥

behind-entry : (entry : Bytes × Sign) (others : List (Bytes × Sign)) (z : Bytes) → begins z entry.0 ≡ false → (found : Option (Sign × ℕ)) → AreSigns others z found → AreSigns (entry ∷ others) z found
behind-entry entry others z not_it None signs = λ n within some. none_here n within some (str_eq_ignore_ascii_case (take n z) entry.0) refl
  where
    none_here : (n : ℕ) → n ≤ length z → is_some (sign_of (entry ∷ others) (take n z)) ≡ true → (is : Bool) → str_eq_ignore_ascii_case (take n z) entry.0 ≡ is → ⊥
    none_here n within some true e = both_ways (begins z entry.0) not_it (begins-of z entry.0 n within e)
    none_here n within some false e = signs n within (rw e at some)
behind-entry entry others z not_it (Some found) signs = record {
  spells = by_first (str_eq_ignore_ascii_case (take found.1 z) entry.0) refl;
  within = signs.within;
  longest = λ n within some. no_longer n within some (str_eq_ignore_ascii_case (take n z) entry.0) refl;
}
  where
    by_first : (is : Bool) → str_eq_ignore_ascii_case (take found.1 z) entry.0 ≡ is → sign_of (entry ∷ others) (take found.1 z) ≡ Some found.0
    by_first true e = let no : false ≡ true = sym not_it ∙ begins-of z entry.0 found.1 signs.within e in absurd (cc)
    by_first false e = rw e signs.spells

    no_longer : (n : ℕ) → n ≤ length z → is_some (sign_of (entry ∷ others) (take n z)) ≡ true → (is : Bool) → str_eq_ignore_ascii_case (take n z) entry.0 ≡ is → n ≤ found.1
    no_longer n within some true e = let no : false ≡ true = sym not_it ∙ begins-of z entry.0 n within e in absurd (cc)
    no_longer n within some false e = signs.longest n within (rw e at some)

at-entry : (entry : Bytes × Sign) (others : List (Bytes × Sign)) (z : Bytes) → begins z entry.0 ≡ true → list_all (λ (other : Bytes × Sign). nat_le (length other.0) (length entry.0)) others ≡ true → IsSign (entry ∷ others) z entry.1 (length entry.0)
at-entry entry others z is short = record {
  spells = rw is refl;
  within = let same : length (take (length entry.0) z) ≡ length entry.0 = same-length (take (length entry.0) z) entry.0 is in omega (arith, length-take (length entry.0) z);
  longest = λ n within some. no_longer n within some (str_eq_ignore_ascii_case (take n z) entry.0) refl;
}
  where
    no_longer : (n : ℕ) → n ≤ length z → is_some (sign_of (entry ∷ others) (take n z)) ≡ true → (is : Bool) → str_eq_ignore_ascii_case (take n z) entry.0 ≡ is → n ≤ length entry.0
    no_longer n within some true e =
        let same : length (take n z) ≡ length entry.0 = same-length (take n z) entry.0 e in
        let size : length (take n z) ≡ n = length-take-le n z within in
        omega arith
    no_longer n within some false e =
        let less : length (take n z) ≤ length entry.0 = shorter others (length entry.0) (take n z) short (rw e at some) in
        let size : length (take n z) ≡ n = length-take-le n z within in
        omega arith

signs-are : (table : List (Bytes × Sign)) (z : Bytes) → is_descending table ≡ true → AreSigns table z (sign_in table z)
signs-are [] z descends = λ n within some. none-is-some {A = Sign} None refl some
signs-are (entry ∷ others) z descends = by_first (begins z entry.0) refl (signs-are others z (and-right (list_all (λ (other : Bytes × Sign). nat_le (length other.0) (length entry.0)) others) _ descends))
  where
    by_first : (is : Bool) → begins z entry.0 ≡ is → AreSigns others z (sign_in others z) → AreSigns (entry ∷ others) z (sign_in (entry ∷ others) z)
    by_first true e rest = rw e (at-entry entry others z e (and-left _ (is_descending others) descends))
    by_first false e rest = rw e (behind-entry entry others z e (sign_in others z) rest)

-- ---- the piece at a place

-- The cut is the longest spelling, or a mistake, and then no spelling is the longest.
abbrev pub Decided : Bytes → Cut → Type 0
Decided z cut = IsLongest z cut.1 cut.0 ⊎ ((is_sound cut.0 ≡ false) × ((n : ℕ) (any : Piece) → IsLongest z n any → ⊥))

letter-is-name_byte : (digit upper lower other : Bool) → (upper || lower) ≡ true → (((digit || upper) || lower) || other) ≡ true
letter-is-name_byte true upper lower other e = refl
letter-is-name_byte false true lower other e = refl
letter-is-name_byte false false true other e = refl
letter-is-name_byte false false false other e = cc

quote-is : (b : ℕ) → is_quote b ≡ true → (b ≡ 39) ⊎ (b ≡ 34)
quote-is b quote = by_first (b == 39) refl
  where
    by_first : (is : Bool) → (b == 39) ≡ is → (b ≡ 39) ⊎ (b ≡ 34)
    by_first true e = inl (eqb-true b 39 e)
    by_first false e = inr (eqb-true b 34 (rw e at quote))

no-quote-is : (b : ℕ) (test : ℕ → Bool) → test b ≡ true → test 39 ≡ false → test 34 ≡ false → is_quote b ≡ false
no-quote-is b test is no_single no_double = by_quote (is_quote b) refl
  where
    by_quote : (quote : Bool) → is_quote b ≡ quote → quote ≡ false
    by_quote false e = refl
    by_quote true e = absurd (elim (quote-is b e) [ inl same ↦ both_ways (test 39) no_single (subst (λ c. test c ≡ true) same is) | inr same ↦ both_ways (test 34) no_double (subst (λ c. test c ≡ true) same is) ])

-- a byte that is neither letter nor digit
pub record IsOther (b : ℕ) : Type 0 where
  pub no_letter : is_ascii_alphabetic b ≡ false
  pub no_digit : is_ascii_digit b ≡ false

text-spells : (b : ℕ) (z : Bytes) (n : ℕ) (any : Piece) → IsOther b → is_quote b ≡ true → spelled (b ∷ take n z) ≡ Some any → (is_some (text_in b false (take n z)) ≡ true) × (nat_le (length (take n z)) 121 ≡ true)
text-spells b z n any other quote spells =
    let from : cond (nat_le (length (take n z)) 121) (option_map (λ content. piece.Token (what.Text content)) (text_in b false (take n z))) None ≡ Some any = rw (other.no_letter, other.no_digit, quote) at spells in
    (both-passed (nat_le (length (take n z)) 121) (λ content. piece.Token (what.Text content)) (text_in b false (take n z)) any from, tested (nat_le (length (take n z)) 121) (option_map (λ content. piece.Token (what.Text content)) (text_in b false (take n z))) from)
  where
    tested : (t : Bool) (found : Option Piece) → ◌≡◌ {A = Option Piece} (cond t found None) (Some any) → t ≡ true
    tested true found e = refl
    tested false found e = cc

text-decided : (b : ℕ) (z : Bytes) → IsOther b → is_quote b ≡ true → (found : Quoted) → AreTexts b false 120 z found → Decided (b ∷ z) (text_of found)
text-decided b z other quote (Err mistake) texts = inr (refl, none_here)
  where
    none_at : (n : ℕ) (any : Piece) → n ≤ length (b ∷ z) → spelled (take n (b ∷ z)) ≡ Some any → (slice_index (drop n (b ∷ z)) 0 == b) ≡ false → ⊥
    none_at zero any within spells followed = cc
    none_at (suc n) any within spells followed =
        let both = text-spells b z n any other quote spells in
        let size : length (take n z) ≡ n = length-take-le n z (omega arith) in
        let short : length (take n z) ≤ 121 = leb-true (length (take n z)) 121 both.1 in
        texts n (omega arith) (let goal : n ≤ 120 + 1 = omega arith in goal) both.0 followed

    none_here : (n : ℕ) (any : Piece) → IsLongest (b ∷ z) n any → ⊥
    none_here n any longest = none_at n any longest.within longest.spells (longest.closed quote)
text-decided b z other quote (Ok found) texts = inl (record {
  within = let within : found.1 ≤ length z = texts.within in omega arith;
  spells = rw (one-add found.1, other.no_letter, other.no_digit, quote, fits) (ap (option_map (λ content. piece.Token (what.Text content))) texts.spells);
  longest = no_longer;
  closed = λ same. rw (one-add found.1) texts.closed;
})
  where
    fits : nat_le (length (take found.1 z)) 121 ≡ true
    fits =
        let size : length (take found.1 z) ≡ found.1 = length-take-le found.1 z texts.within in
        let short : found.1 ≤ 120 + 1 = texts.short in
        grind (arith, nat_tests)

    no_longer : (n : ℕ) (any : Piece) → n ≤ length (b ∷ z) → spelled (take n (b ∷ z)) ≡ Some any → n ≤ 1 + found.1
    no_longer zero any within spells = omega arith
    no_longer (suc n) any within spells = let less : n ≤ found.1 = texts.longest n (omega arith) (text-spells b z n any other quote spells).0 in omega arith

sign-decided : (b : ℕ) (z : Bytes) → IsOther b → is_quote b ≡ false → (b == 38) ≡ false → (b == 59) ≡ false → (found : Option (Sign × ℕ)) → AreSigns signs (b ∷ z) found → Decided (b ∷ z) (sign_or (misplaced b) found)
sign-decided b z other no_quote no_ampersand no_end found signs_are = by_found found signs_are
  where
    some_sign : (n : ℕ) (any : Piece) → spelled (b ∷ take n z) ≡ Some any → is_some (sign_of signs (b ∷ take n z)) ≡ true
    some_sign n any spells = both-passed true (λ s. piece.Token (what.Sign s)) (sign_of signs (b ∷ take n z)) any (rw (other.no_letter, other.no_digit, no_quote, no_ampersand, no_end) at spells)

    by_size : (size : ℕ) (s : Sign) → sign_of signs (take size (b ∷ z)) ≡ Some s → spelled (take size (b ∷ z)) ≡ Some (piece.Token (what.Sign s))
    by_size zero s spells = absurd (none-is-some (sign_of signs []) none-is-empty (ap is_some spells))
    by_size (suc size) s spells = rw (other.no_letter, other.no_digit, no_quote, no_ampersand, no_end) (ap (option_map (λ s. piece.Token (what.Sign s))) spells)

    no_longer : (s : Sign) (size : ℕ) → IsSign signs (b ∷ z) s size → (n : ℕ) (any : Piece) → n ≤ length (b ∷ z) → spelled (take n (b ∷ z)) ≡ Some any → n ≤ size
    no_longer s size sign_is zero any within spells = omega arith
    no_longer s size sign_is (suc n) any within spells = sign_is.longest (suc n) within (some_sign n any spells)

    none_at : ((n : ℕ) → n ≤ length (b ∷ z) → is_some (sign_of signs (take n (b ∷ z))) ≡ true → ⊥) → (n : ℕ) (any : Piece) → n ≤ length (b ∷ z) → spelled (take n (b ∷ z)) ≡ Some any → ⊥
    none_at none zero any within spells = cc
    none_at none (suc n) any within spells = none (suc n) within (some_sign n any spells)

    by_found : (found : Option (Sign × ℕ)) → AreSigns signs (b ∷ z) found → Decided (b ∷ z) (sign_or (misplaced b) found)
    by_found None none = inr (refl, λ n any longest. none_at none n any longest.within longest.spells)
    by_found (Some sign_at) sign_is = inl (record {
      within = sign_is.within;
      spells = by_size sign_at.1 sign_at.0 sign_is.spells;
      longest = no_longer sign_at.0 sign_at.1 sign_is;
      closed = λ quote. absurd (both_ways (is_quote b) no_quote quote);
    })

-- a piece of one byte that nothing longer begins with
single : (b : ℕ) (z : Bytes) (found : Piece) → is_quote b ≡ false → ((w : Bytes) → spelled (b ∷ w) ≡ cond (is_empty w) (Some found) None) → IsLongest (b ∷ z) 1 found
single b z found no_quote is = record {
  within = omega arith;
  spells = is [];
  longest = no_longer z;
  closed = λ quote. absurd (both_ways (is_quote b) no_quote quote);
}
  where
    no_longer : (z : Bytes) (n : ℕ) (any : Piece) → n ≤ length (b ∷ z) → spelled (take n (b ∷ z)) ≡ Some any → n ≤ 1
    no_longer z zero any within spells = omega arith
    no_longer z (suc zero) any within spells = omega arith
    no_longer [] (suc (suc n)) any within spells = absurd (omega arith)
    no_longer (c ∷ z) (suc (suc n)) any within spells = absurd (none-is-some {A = Piece} None refl (ap is_some (sym (is (c ∷ take n z)) ∙ spells)))

name-longest : (b : ℕ) (z : Bytes) → is_ascii_alphabetic b ≡ true → let n = prefix_len is_name_byte (b ∷ z) in IsLongest (b ∷ z) n (name_of (take n (b ∷ z)))
name-longest b z letter =
    run-is-longest is_name_byte name_of b z (letter-is-name_byte (is_in_range 48 57 b) (is_in_range 65 90 b) (is_in_range 97 122 b) (b == 95) letter) (no-quote-is b is_ascii_alphabetic letter refl refl) (λ w. rw letter refl)

number-longest : (b : ℕ) (z : Bytes) → is_ascii_alphabetic b ≡ false → is_ascii_digit b ≡ true → let n = prefix_len is_ascii_digit (b ∷ z) in IsLongest (b ∷ z) n (number_of (take n (b ∷ z)))
number-longest b z no_letter digit = run-is-longest is_ascii_digit number_of b z digit (no-quote-is b is_ascii_digit digit refl refl) (λ w. rw (no_letter, digit) refl)

text_at-decided : (b : ℕ) (z : Bytes) → IsOther b → is_quote b ≡ true → Decided (b ∷ z) (text_at b z)
unfolding text_at
text_at-decided b z other quote = text-decided b z other quote (quoted b false 120 z) (texts-are b z false 120 (λ e. cc))

sign_at-decided : (b : ℕ) (z : Bytes) → IsOther b → is_quote b ≡ false → (b == 38) ≡ false → (b == 59) ≡ false → Decided (b ∷ z) (sign_at b (b ∷ z))
unfolding sign_at
sign_at-decided b z other no_quote no_ampersand no_end = sign-decided b z other no_quote no_ampersand no_end (sign_in signs (b ∷ z)) (signs-are signs (b ∷ z) signs-descend)

front-decided : (b : ℕ) (z : Bytes) → Decided (b ∷ z) (front b (b ∷ z))
unfolding front
front-decided b z = by_class (is_ascii_alphabetic b) refl (is_ascii_digit b) refl (is_quote b) refl (b == 38) refl (b == 59) refl
  where
    by_class : (letter : Bool) → is_ascii_alphabetic b ≡ letter → (digit : Bool) → is_ascii_digit b ≡ digit → (quote : Bool) → is_quote b ≡ quote → (ampersand : Bool) → (b == 38) ≡ ampersand → (end : Bool) → (b == 59) ≡ end → Decided (b ∷ z) (front b (b ∷ z))
    by_class true l digit d quote q ampersand a end e = rw l (inl (name-longest b z l))
    by_class false l true d quote q ampersand a end e = rw (l, d) (inl (rw d at (number-longest b z l d)))
    by_class false l false d true q ampersand a end e = rw (l, d, q) (text_at-decided b z (record { no_letter = l; no_digit = d }) q)
    by_class false l false d false q true a end e = rw (l, d, q, a) (inl (single b z piece.Ampersand q (λ w. rw (l, d, q, a) refl)))
    by_class false l false d false q false a true e = rw (l, d, q, a, e) (inl (single b z (piece.Token what.End) q (λ w. rw (l, d, q, a, e) refl)))
    by_class false l false d false q false a false e = rw (l, d, q, a, e) (sign_at-decided b z (record { no_letter = l; no_digit = d }) q a e)

front-taken : (b : ℕ) (z : Bytes) → is_sound (front b (b ∷ z)).0 ≡ true → IsLongest (b ∷ z) (front b (b ∷ z)).1 (front b (b ∷ z)).0
front-taken b z sound = elim (front-decided b z) [ inl longest ↦ longest | inr none ↦ absurd (both_ways (is_sound (front b (b ∷ z)).0) none.0 sound) ]

some-same : (p q : Piece) → ◌≡◌ {A = Option Piece} (Some p) (Some q) → p ≡ q
some-same p q e = cc

-- one spelling is the longest
longest-once : (z : Bytes) (n k : ℕ) (p q : Piece) → IsLongest z n p → IsLongest z k q → (n ≡ k) × (p ≡ q)
longest-once z n k p q first second =
    let most : n ≤ k = second.longest n p first.within first.spells in
    let least : k ≤ n = first.longest k q second.within second.spells in
    let same : n ≡ k = omega arith in
    (same, some-same p q (sym first.spells ∙ ap (λ m. spelled (take m z)) same ∙ second.spells))

front-found : (b : ℕ) (z : Bytes) (n : ℕ) (found : Piece) → IsLongest (b ∷ z) n found → (n ≡ (front b (b ∷ z)).1) × (found ≡ (front b (b ∷ z)).0)
front-found b z n found longest = elim (front-decided b z) [ inl taken ↦ longest-once (b ∷ z) n (front b (b ∷ z)).1 found (front b (b ∷ z)).0 longest taken | inr none ↦ absurd (none.1 n found longest) ]

-- ---- the pieces of a line

behind-blank : (b : ℕ) (z : Bytes) (found : List Piece) → is_blank b ≡ true → IsCut z found → IsCut (b ∷ z) found
behind-blank b z [] is over = rw is over
behind-blank b z (first ∷ others) is cut = (cut.0, record { gap = suc cut.1.gap; size = cut.1.size; blank = rw is cut.1.blank; longest = cut.1.longest; behind = cut.1.behind }, cut.2)

drop-behind : (n b : ℕ) (z : Bytes) (found : Piece) → spelled (take n (b ∷ z)) ≡ Some found → drop (n - 1) z ≡ drop n (b ∷ z)
drop-behind zero b z found spells = cc
drop-behind (suc n) b z found spells = let less : suc n - 1 ≡ n = omega arith in rw less refl

in-front : (b : ℕ) (z : Bytes) (size : ℕ) (found : Piece) (others : List Piece) → IsLongest (b ∷ z) size found → IsCut (drop (size - 1) z) others → IsCut (b ∷ z) (found ∷ others)
in-front b z size found others longest cut = (drop size (b ∷ z), record { gap = 0; size = size; blank = refl; longest = longest; behind = refl }, subst (λ rest. IsCut rest others) (drop-behind size b z found longest.spells) cut)

pub pieces_after-cut : (n : ℕ) (z : Bytes) → list_all is_sound (pieces_after n z) ≡ true → IsCut (drop n z) (pieces_after n z)
pieces_after-cut zero [] sound = refl
pieces_after-cut (suc n) [] sound = refl
pieces_after-cut (suc n) (b ∷ z) sound = pieces_after-cut n z sound
pieces_after-cut zero (b ∷ z) sound = by_blank (is_blank b) refl (b == 33) refl (λ n. pieces_after-cut n z)
  where
    by_blank : (blank : Bool) → is_blank b ≡ blank → (comment : Bool) → (b == 33) ≡ comment → ((n : ℕ) → list_all is_sound (pieces_after n z) ≡ true → IsCut (drop n z) (pieces_after n z)) → IsCut (b ∷ z) (pieces_after zero (b ∷ z))
    by_blank true k comment c rest = rw k (behind-blank b z (pieces_after zero z) k (rest zero (rw k at sound)))
    by_blank false k true c rest = rw (k, c, k) c
    by_blank false k false c rest =
        let all = rw (k, c) at sound in
        let size = (front b (b ∷ z)).1 in
        rw (k, c) (in-front b z size (front b (b ∷ z)).0 (pieces_after (size - 1) z) (front-taken b z (and-left (is_sound (front b (b ∷ z)).0) _ all)) (rest (size - 1) (and-right (is_sound (front b (b ∷ z)).0) _ all)))

-- blanks and comment signs spell nothing
blank-spells-nothing : (w : Bytes) → (sign_of signs (32 ∷ w) ≡ None) × (sign_of signs (9 ∷ w) ≡ None) × (sign_of signs (33 ∷ w) ≡ None)
unfolding signs
blank-spells-nothing w = (refl, refl, refl)

begins-no-blank : (b : ℕ) (w : Bytes) (found : Piece) → spelled (b ∷ w) ≡ Some found → is_blank b ≡ false
begins-no-blank b w found spells = by_first (b == 32) refl (b == 9) refl
  where
    no_space : b ≡ 32 → ⊥
    no_space same = none-is-some (sign_of signs (32 ∷ w)) (blank-spells-nothing w).0 (both-passed true (λ s. piece.Token (what.Sign s)) (sign_of signs (32 ∷ w)) found (subst (λ c. spelled (c ∷ w) ≡ Some found) same spells))

    no_tab : b ≡ 9 → ⊥
    no_tab same = none-is-some (sign_of signs (9 ∷ w)) (blank-spells-nothing w).1 (both-passed true (λ s. piece.Token (what.Sign s)) (sign_of signs (9 ∷ w)) found (subst (λ c. spelled (c ∷ w) ≡ Some found) same spells))

    by_first : (space : Bool) → (b == 32) ≡ space → (tab : Bool) → (b == 9) ≡ tab → is_blank b ≡ false
    by_first true s tab t = absurd (no_space (eqb-true b 32 s))
    by_first false s true t = absurd (no_tab (eqb-true b 9 t))
    by_first false s false t = rw (s, t) refl

begins-no-comment : (b : ℕ) (w : Bytes) (found : Piece) → spelled (b ∷ w) ≡ Some found → (b == 33) ≡ false
begins-no-comment b w found spells = by_first (b == 33) refl
  where
    no_comment : b ≡ 33 → ⊥
    no_comment same = none-is-some (sign_of signs (33 ∷ w)) (blank-spells-nothing w).2 (both-passed true (λ s. piece.Token (what.Sign s)) (sign_of signs (33 ∷ w)) found (subst (λ c. spelled (c ∷ w) ≡ Some found) same spells))

    by_first : (is : Bool) → (b == 33) ≡ is → is ≡ false
    by_first true e = absurd (no_comment (eqb-true b 33 e))
    by_first false e = refl

over-has-none : (z : Bytes) → is_over z ≡ true → pieces z ≡ []
over-has-none [] over = refl
over-has-none (b ∷ z) over = by_blank (is_blank b) refl (over-has-none z)
  where
    by_blank : (blank : Bool) → is_blank b ≡ blank → (is_over z ≡ true → pieces z ≡ []) → pieces (b ∷ z) ≡ []
    by_blank true k rest = rw k (rest (rw k at over))
    by_blank false k rest = let comment : (b == 33) ≡ true = rw k at over in rw (k, comment) refl

pieces_after-drop : (n : ℕ) (z : Bytes) → pieces_after n z ≡ pieces (drop n z)
pieces_after-drop zero z = refl
pieces_after-drop (suc n) [] = refl
pieces_after-drop (suc n) (b ∷ z) = pieces_after-drop n z

leads-here : (z : Bytes) (size : ℕ) (found : Piece) → IsLongest z size found → pieces z ≡ found ∷ pieces (drop size z)
leads-here z zero found longest = absurd (let no : None ≡ Some found = longest.spells in none-is-some {A = Piece} None refl (ap is_some no))
leads-here [] (suc size) found longest = absurd (omega (arith, longest.within))
leads-here (b ∷ z) (suc size) found longest =
    let front_is = front-found b z (suc size) found longest in
    let less : (front b (b ∷ z)).1 - 1 ≡ size = omega (arith, front_is.0) in
    rw (begins-no-blank b (take size z) found longest.spells, begins-no-comment b (take size z) found longest.spells, less) (ap (λ first. first ∷ pieces_after size z) (sym front_is.1) ∙ ap (λ others. found ∷ others) (pieces_after-drop size z))

leads-on : (z : Bytes) (gap size : ℕ) (found : Piece) → list_all is_blank (take gap z) ≡ true → IsLongest (drop gap z) size found → pieces z ≡ found ∷ pieces (drop size (drop gap z))
leads-on z zero size found blank longest = leads-here z size found longest
leads-on [] (suc gap) size found blank longest = leads-here [] size found longest
leads-on (b ∷ z) (suc gap) size found blank longest = rw (and-left (is_blank b) _ blank) (leads-on z gap size found (and-right (is_blank b) _ blank) longest)

-- a line is cut in one way
pub cut-once : (found : List Piece) (z : Bytes) → IsCut z found → found ≡ pieces z
cut-once [] z over = sym (over-has-none z over)
cut-once (first ∷ others) z cut =
    let leads = cut.1 in
    ap (λ rest. first ∷ rest) (cut-once others cut.0 cut.2 ∙ ap pieces leads.behind) ∙ sym (leads-on z leads.gap leads.size first leads.blank leads.longest)
