-- What a few decimal digits say.
use Rattle.std.proofs.Common.{sym, ◌∙◌, Result, Ok, Err, Some, None, cond, nat_lt, nat_le, ◌≡◌, ℕ, ◌+◌, ◌*◌, ◌-◌, ◌<◌, ◌≤◌, ◌^◌, true, List, [], ◌∷◌, length, fold, rules, arith, refl}
use Rattle.std.specs.List.{list_all}
use Rattle.std.specs.Char.{is_ascii_digit}
use Rattle.std.proofs.lemmas.Str.Parse.{IsDigitsTest, FoldsDigits, IsNumeralModel, numerals_by_fold, parse_digits}
use Rattle.std.specs.Str.Parse.{ParsesUnsigned}
use Rattle.std.specs.Result.{OkIff, result_ok}
use Rattle.std.proofs.lemmas.Bool.Decides.{nat_tests}
use Rattle.std.proofs.lemmas.Grind.{common_steps}
use Rattle.caf_words.specs.Numbers.{digits}
use Rattle.caf_words.specs.Numbers.{number_in}

abbrev AreDigits : List ℕ → Type 0
AreDigits bs = list_all is_ascii_digit bs ≡ true

abbrev read_on : ℕ → List ℕ → ℕ
read_on n bs = fold (λ m d. 10 * m + (d - 48)) n bs

test : IsDigitsTest AreDigits
test = search rules

folds : FoldsDigits read_on
folds = search rules

-- `digits` reads numerals as std's `parse` does
own : IsNumeralModel AreDigits digits
own = numerals_by_fold AreDigits test read_on folds

not_lt : (a b : ℕ) → ¬ (a < b) → b ≤ a
not_lt a b h = grind arith

read_by : {E : Type 0} (bs : List ℕ) (n : ℕ) (r : Result ℕ E) → OkIff r ((0 < length bs) × (n < 2 ^ 64)) n → (0 < length bs) → result_ok r ≡ cond (nat_lt n (2 ^ 64)) (Some n) None
read_by bs n (Ok x) h some =
    let small : n < 2 ^ 64 = h.0.1 in
    let same : x ≡ n = h.1 in
    grind (arith, nat_tests)
read_by bs n (Err e) h some =
    let large : 2 ^ 64 ≤ n = not_lt n (2 ^ 64) (λ lt. h (some, lt)) in
    grind (arith, nat_tests)

-- what `parse` gives of a word of one to twenty digits
pub parse_is_number_in : {E : Type 0} (bs : List ℕ) (r : Result ℕ E) → ParsesUnsigned 64 10 bs r → list_all is_ascii_digit bs ≡ true → 0 < length bs → length bs ≤ 20 → result_ok r ≡ number_in bs
parse_is_number_in bs r h all some few =
    let by = read_by bs (digits bs) r (parse_digits own 64 bs r h all) some in
    let one : nat_lt 0 (length bs) ≡ true = grind (arith, nat_tests) in
    let two : nat_le (length bs) 20 ≡ true = grind (arith, nat_tests) in
    by ∙ sym (rw (one, two, all) refl)
