-- How a text goes on behind its first line.
use Rattle.std.proofs.Common.{◌≡◌, ℕ, zero, suc, ◌+◌, ◌-◌, ◌<◌, Bool, true, false, not, ◌==◌, cond, List, [], ◌∷◌, length, take, drop, refl, ap, ◌∙◌, arith}
use Rattle.std.specs.Prelude.{slice_index}
use Rattle.std.specs.List.{prefix_len}
use Rattle.caf_lexer.specs.Spelling.{Bytes}
use Rattle.caf_lexer.specs.Lines.{lines, onto_first, without_return}

-- how many bytes stand before the first byte 10
abbrev pub line_length : Bytes → ℕ
line_length z = prefix_len (λ b. not (b == 10)) z

one-add : (n : ℕ) → 1 + n ≡ suc n
one-add n = omega arith

if-cons : (t : Bool) (b : ℕ) (x y : Bytes) → cond t (b ∷ x) (b ∷ y) ≡ b ∷ cond t x y
if-cons true b x y = refl
if-cons false b x y = refl

without_return-cons : (b c : ℕ) (z : Bytes) → without_return (b ∷ c ∷ z) ≡ b ∷ without_return (c ∷ z)
without_return-cons b c z =
    let outer : length (b ∷ c ∷ z) - 1 ≡ suc (length z) = omega arith in
    let inner : length (c ∷ z) - 1 ≡ length z = omega arith in
    rw (outer, inner) (if-cons (slice_index (c ∷ z) (length z) == 13) b (take (length z) (c ∷ z)) (c ∷ z))

-- a byte just before byte 10
before-end : (b : ℕ) (is : Bool) → (b == 13) ≡ is → (rest others : List Bytes) → rest ≡ others → cond (b == 13) ([] ∷ rest) ((b ∷ []) ∷ rest) ≡ cond (b == 13) [] (b ∷ []) ∷ others
before-end b true e rest others same = rw e (ap (λ x. [] ∷ x) same)
before-end b false e rest others same = rw e (ap (λ x. (b ∷ []) ∷ x) same)

same-tail : {x y : Bytes} {rest others : List Bytes} → ◌≡◌ {A = List Bytes} (x ∷ rest) (y ∷ others) → rest ≡ others
same-tail e = cc

cons-line : (b : ℕ) (z : Bytes) (others : List Bytes) → (b == 10) ≡ false → line_length z < length z → lines z ≡ without_return (take (line_length z) z) ∷ others
    → lines (b ∷ z) ≡ without_return (take (line_length (b ∷ z)) (b ∷ z)) ∷ others
cons-line b [] others no_end less ih = absurd (omega arith)
cons-line b (c ∷ z) others no_end less ih = by_next (c == 10) refl
  where
    by_next : (is : Bool) → (c == 10) ≡ is → lines (b ∷ c ∷ z) ≡ without_return (take (line_length (b ∷ c ∷ z)) (b ∷ c ∷ z)) ∷ others
    by_next true e = rw (no_end, e) (before-end b (b == 13) refl (lines z) others (same-tail (rw e at ih)))
    by_next false e = rw (no_end, e, one-add (line_length z), one-add (suc (line_length z)), without_return-cons b c (take (line_length z) z)) (longer _ (rw (e, one-add (line_length z)) at ih))
      where
        longer : (rest : List Bytes) → rest ≡ without_return (c ∷ take (line_length z) z) ∷ others → onto_first b rest ≡ (b ∷ without_return (c ∷ take (line_length z) z)) ∷ others
        longer rest same = rw same refl

drop-step : (b : ℕ) (z : Bytes) (n : ℕ) → drop (1 + n + 1) (b ∷ z) ≡ drop (n + 1) z
drop-step b z n = let e : 1 + n + 1 ≡ suc (n + 1) = omega arith in rw e refl

-- a line that byte 10 ends
pub lines-cut : (z : Bytes) → line_length z < length z → lines z ≡ without_return (take (line_length z) z) ∷ lines (drop (line_length z + 1) z)
lines-cut [] less = absurd (omega arith)
lines-cut (b ∷ z) less = by_first (b == 10) refl (lines-cut z)
  where
    by_first : (is : Bool) → (b == 10) ≡ is → (line_length z < length z → lines z ≡ without_return (take (line_length z) z) ∷ lines (drop (line_length z + 1) z))
        → lines (b ∷ z) ≡ without_return (take (line_length (b ∷ z)) (b ∷ z)) ∷ lines (drop (line_length (b ∷ z) + 1) (b ∷ z))
    by_first true e ih = rw e refl
    by_first false e ih =
        let longer : 1 + line_length z < suc (length z) = rw e at less in
        let shorter : line_length z < length z = omega arith in
        cons-line b z _ e shorter (ih shorter) ∙ rw (e, drop-step b z (line_length z)) refl

-- a line that the end of the text ends
last-line : (b : ℕ) (z : Bytes) → line_length (b ∷ z) ≡ length (b ∷ z) → lines (b ∷ z) ≡ (b ∷ z) ∷ []
last-line b [] e = by_first (b == 10) refl
  where
    by_first : (is : Bool) → (b == 10) ≡ is → lines (b ∷ []) ≡ (b ∷ []) ∷ []
    by_first true k = let z : ◌≡◌ {A = ℕ} 0 1 = rw k at e in absurd (omega arith)
    by_first false k = rw k refl
last-line b (c ∷ z) e = by_both (b == 10) refl (c == 10) refl (last-line c z)
  where
    by_both : (t : Bool) → (b == 10) ≡ t → (u : Bool) → (c == 10) ≡ u → (line_length (c ∷ z) ≡ length (c ∷ z) → lines (c ∷ z) ≡ (c ∷ z) ∷ []) → lines (b ∷ c ∷ z) ≡ (b ∷ c ∷ z) ∷ []
    by_both true k u l ih = let f : 0 ≡ suc (suc (length z)) = rw k at e in absurd (omega arith)
    by_both false k true l ih = let f : 1 ≡ suc (suc (length z)) = rw (k, l) at e in absurd (omega arith)
    by_both false k false l ih =
        let f : 1 + line_length (c ∷ z) ≡ suc (suc (length z)) = rw k at e in
        let g : lines (c ∷ z) ≡ (c ∷ z) ∷ [] = ih (omega arith) in
        rw (k, l) (ap (onto_first b) (rw l at g))

pub lines-last : (z : Bytes) → 0 < length z → line_length z ≡ length z → lines z ≡ z ∷ []
lines-last [] some e = absurd (omega arith)
lines-last (b ∷ z) some e = last-line b z e

drop-one : (n : ℕ) (z : Bytes) → drop 1 (drop n z) ≡ drop (suc n) z
drop-one zero [] = refl
drop-one zero (b ∷ z) = refl
drop-one (suc n) [] = refl
drop-one (suc n) (b ∷ z) = drop-one n z

pub drop-drop_one : (n : ℕ) (z : Bytes) → drop 1 (drop n z) ≡ drop (n + 1) z
drop-drop_one n z = let e : n + 1 ≡ suc n = omega arith in drop-one n z ∙ rw e refl
