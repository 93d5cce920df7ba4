-- A text is cut at its first mark.
use Rattle.std.proofs.Common.{◌≡◌, ℕ, zero, suc, ◌+◌, ◌-◌, ◌<◌, ◌≤◌, true, false, cond, eqb, ltb, List, [], ◌∷◌, ◌++◌, length, get_or, take, drop, Option, Some, None, position, refl, sym, ap, ◌∙◌, add-one, arith, inl, inr}
use Rattle.std.specs.List.{AllByRecursion, position_or_len}
use Rattle.std.proofs.lemmas.Bool.{cases_eq, cases_lt, lt-ltb, eq-eqb, ne_eqb}
use Rattle.std.proofs.lemmas.List.{take_rest}
use Rattle.std.proofs.lemmas.Option.{some_pair_parts}
use Rattle.std.proofs.lemmas.List.Quantifiers.{position-Some}
use Rattle.std.proofs.lemmas.List.Sums.{fails_before_first}
use Rattle.caf_journal.specs.Reading.{cut, onto_front}

abbrev pub Lacks : ℕ → List ℕ → Type 0
Lacks mark text = AllByRecursion (λ b. eqb b mark ≡ false) text

-- a text without the mark, the mark, and what stands behind it
pub cut-append : (mark : ℕ) (front rest : List ℕ) → Lacks mark front → cut mark (front ++ mark ∷ rest) ≡ Some (front, rest)
cut-append mark [] rest lacks = rw (eq-eqb mark mark refl) refl
cut-append mark (b ∷ front) rest lacks = rw (lacks.0, cut-append mark front rest lacks.1) refl

cut_here : (mark b : ℕ) (text front rest : List ℕ) → b ≡ mark → cut mark (b ∷ text) ≡ Some (front, rest) → b ∷ text ≡ front ++ mark ∷ rest
cut_here mark b text front rest same e =
    let found : cut mark (b ∷ text) ≡ Some ([], text) = rw (eq-eqb b mark same) refl in
    let parts = some_pair_parts [] front text rest (sym found ∙ e) in
    rw (← parts.0, ← parts.1, same) refl

cut_later : (mark b : ℕ) (text front rest : List ℕ) (found : Option (List ℕ × List ℕ)) → ((before after : List ℕ) → cut mark text ≡ Some (before, after) → text ≡ before ++ mark ∷ after) → cut mark text ≡ found → onto_front b found ≡ Some (front, rest) → b ∷ text ≡ front ++ mark ∷ rest
cut_later mark b text front rest None is at e = absurd cc
cut_later mark b text front rest (Some (before, after)) is at e =
    let parts = some_pair_parts (b ∷ before) front after rest e in
    rw (← parts.0, ← parts.1) (ap (λ t. b ∷ t) (is before after at))

-- what is cut is the text
pub cut_is : (mark : ℕ) (text front rest : List ℕ) → cut mark text ≡ Some (front, rest) → text ≡ front ++ mark ∷ rest
cut_is mark [] front rest e = absurd cc
cut_is mark (b ∷ text) front rest e =
    elim (cases_eq b mark) [
      | inl same ↦ cut_here mark b text front rest same e
      | inr other ↦ cut_later mark b text front rest (cut mark text) (cut_is mark text) refl (let k : cut mark (b ∷ text) ≡ onto_front b (cut mark text) = rw (ne_eqb b mark other) refl in sym k ∙ e)
    ]

cut_none : (mark : ℕ) (text : List ℕ) → ((k : ℕ) → k < length text → eqb (get_or text k 0) mark ≡ false) → cut mark text ≡ None
cut_none mark [] other = refl
cut_none mark (b ∷ text) other = rw (other 0 (omega arith), cut_none mark text (λ k lt. other (suc k) (omega arith))) refl

cut_some : (mark : ℕ) (text : List ℕ) (i : ℕ) → i < length text → eqb (get_or text i 0) mark ≡ true → ((k : ℕ) → k < i → eqb (get_or text k 0) mark ≡ false) → cut mark text ≡ Some (take i text, drop (suc i) text)
cut_some mark [] i lt here before = absurd (omega arith)
cut_some mark (b ∷ text) zero lt here before = rw here refl
cut_some mark (b ∷ text) (suc i) lt here before = rw (before 0 (omega arith), cut_some mark text i (omega arith) here (λ k below. before (suc k) (omega arith))) refl

absent : {A : Type 0} (a b : ℕ) (x : A) → cond (ltb a b) (Some x) None ≡ None → b ≤ a
absent a b x e =
    elim (cases_lt a b) [ inl lt ↦ absurd (let here : cond (ltb a b) (Some x) None ≡ Some x = rw (lt-ltb a b lt) refl in let clash : Some x ≡ None = sym here ∙ e in cc) | inr le ↦ le ]

-- by the place of the mark
pub cut-from_none : (mark : ℕ) (text : List ℕ) → position (λ b. eqb b mark) text ≡ None → cut mark text ≡ None
cut-from_none mark text e =
    let past = absent (position_or_len (λ b. eqb b mark) text) (length text) (position_or_len (λ b. eqb b mark) text) e in
    cut_none mark text (λ k lt. fails_before_first (λ b. eqb b mark) text k 0 (omega arith))

pub cut-from_some : (mark : ℕ) (text : List ℕ) (i : ℕ) → position (λ b. eqb b mark) text ≡ Some i → cut mark text ≡ Some (take i text, take (length text - (i + 1)) (drop (i + 1) text))
cut-from_some mark text i e =
    let p = position-Some (λ b. eqb b mark) text i 0 e in
    rw (take_rest text (i + 1), add-one) (cut_some mark text i p.0 p.1 p.2)
