-- A word is read as a number exactly where it is the number's decimal text.
use Rattle.std.proofs.Common.{◌≡◌, ℕ, ◌<◌, ◌≤◌, ◌^◌, true, ◌&&◌, ltb, List, Option, Some, None, refl, sym, ap, subst, ◌∙◌, arith}
use Rattle.std.specs.Fmt.{decimal}
use Rattle.std.specs.Str.{bytes_eq}
use Rattle.std.specs.Str.Parse.{digits_value}
use Rattle.std.proofs.lemmas.Fmt.{decimal_is_IsNumeral}
use Rattle.std.proofs.lemmas.Option.{cond_some}
use Rattle.std.proofs.lemmas.Slice.Eq.{bytes_eq-Decides}
use Rattle.std.proofs.lemmas.Bool.{ltb-true, lt-ltb, and_parts}
use Rattle.caf_journal.specs.Reading.{number_below}

-- what is read is so written
pub number_below_is : (limit : ℕ) (word : List ℕ) (n : ℕ) → number_below limit word ≡ Some n → (n < limit) × (word ≡ decimal n)
unfolding number_below
number_below_is limit word n e =
    let v = digits_value 10 word in
    let found = cond_some (ltb v limit && bytes_eq word (decimal v)) v n e in
    let tests = and_parts (ltb v limit) (bytes_eq word (decimal v)) found.0 in
    (subst (λ (k : ℕ). k < limit) found.1 (ltb-true v limit tests.0), (bytes_eq-Decides word (decimal v)).0 tests.1 ∙ ap decimal found.1)

-- what is so written is read
pub number_below-decimal : (limit n : ℕ) → limit ≤ 2 ^ 64 → n < limit → number_below limit (decimal n) ≡ Some n
unfolding number_below
number_below-decimal limit n le lt =
    let value : digits_value 10 (decimal n) ≡ n = (decimal_is_IsNumeral n (omega arith)).1 in
    let same : bytes_eq (decimal n) (decimal n) ≡ true = (bytes_eq-Decides (decimal n) (decimal n)).1 refl in
    let small : ltb n limit ≡ true = lt-ltb n limit lt in
    rw (value, small, same) refl

none_if : (o : Option ℕ) → ((n : ℕ) → o ≡ Some n → ⊥) → None ≡ o
none_if None other = refl
none_if (Some n) other = absurd (other n refl)

-- where the word is no such number
pub number_below_none : (limit : ℕ) (word : List ℕ) → ((n : ℕ) → n < limit → word ≡ decimal n → ⊥) → None ≡ number_below limit word
number_below_none limit word other =
    none_if (number_below limit word) (λ n e. let is = number_below_is limit word n e in other n is.0 is.1)

pub number_below_some : (limit : ℕ) (word : List ℕ) (n : ℕ) → limit ≤ 2 ^ 64 → n < limit → decimal n ≡ word → Some n ≡ number_below limit word
number_below_some limit word n le lt is = sym (rw (← is) (number_below-decimal limit n le lt))
