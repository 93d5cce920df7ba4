-- What the place of the first that passes a test tells.
use Rattle.std.proofs.Common.{◌≡◌, ℕ, suc, Bool, true, false, List, [], ◌∷◌, ◌++◌, length, refl, ap, ◌∙◌, sym}
use Rattle.std.specs.Prelude.{Option, Some, None, is_some, find, count_by, ◌+◌, ◌||◌, if◌then◌else◌}
use Rattle.std.specs.List.{list_any}
use Rattle.std.specs.Option.{option_map, option_or}
use Rattle.std.proofs.Common.{arith}
use Rattle.std.proofs.lemmas.List.Sums.{sum_by-append}
use Rattle.caf_history.specs.Index.{one_if}
use Rattle.caf_history.specs.Places.{place_of, at_place, place_if}

pub or_none : {A : Type 0} (o : Option A) → option_or o None ≡ o
or_none None = refl
or_none (Some x) = refl

moved : {A : Type 0} (x : A) (xs : List A) (o : Option ℕ) → at_place xs o ≡ at_place (x ∷ xs) (option_map suc o)
moved x xs None = refl
moved x xs (Some at) = refl

-- it is where the first stands
pub find_place : {A : Type 0} (test : A → Bool) (xs : List A) → find test xs ≡ at_place xs (place_of test xs)
find_place test [] = refl
find_place {A} test (x ∷ xs) = step (test x) (find_place test xs)
  where
    step : (b : Bool) → find test xs ≡ at_place xs (place_of test xs) → (if b then Some x else find test xs) ≡ at_place (x ∷ xs) (if b then Some 0 else option_map suc (place_of test xs))
    step true rest = refl
    step false rest = rest ∙ moved x xs (place_of test xs)

is_some-suc : (o : Option ℕ) → is_some (option_map suc o) ≡ is_some o
is_some-suc None = refl
is_some-suc (Some at) = refl

-- there is one if any passes
pub any_place : {A : Type 0} (test : A → Bool) (xs : List A) → is_some (place_of test xs) ≡ list_any test xs
any_place test [] = refl
any_place {A} test (x ∷ xs) = step (test x) (any_place test xs)
  where
    step : (b : Bool) → is_some (place_of test xs) ≡ list_any test xs → is_some (if b then Some 0 else option_map suc (place_of test xs)) ≡ (b || list_any test xs)
    step true rest = refl
    step false rest = is_some-suc (place_of test xs) ∙ rest

after_suc : (o : Option ℕ) (b : Bool) (n : ℕ) → option_map suc (option_or o (place_if b n)) ≡ option_or (option_map suc o) (place_if b (suc n))
after_suc (Some at) b n = refl
after_suc None true n = refl
after_suc None false n = refl

-- with one more behind
pub place_more : {A : Type 0} (test : A → Bool) (xs : List A) (y : A) → place_of test (xs ++ y ∷ []) ≡ option_or (place_of test xs) (place_if (test y) (length xs))
place_more test [] y = step (test y)
  where
    step : (b : Bool) → (if b then Some 0 else None) ≡ place_if b 0
    step true = refl
    step false = refl
place_more {A} test (x ∷ xs) y = step (test x) (place_more test xs y)
  where
    step : (b : Bool) → place_of test (xs ++ y ∷ []) ≡ option_or (place_of test xs) (place_if (test y) (length xs)) → (if b then Some 0 else option_map suc (place_of test (xs ++ y ∷ []))) ≡ option_or (if b then Some 0 else option_map suc (place_of test xs)) (place_if (test y) (length (x ∷ xs)))
    step true rest = refl
    step false rest = ap (option_map suc) rest ∙ after_suc (place_of test xs) (test y) (length xs)

none_plus : (n : ℕ) → 0 + n ≡ n
none_plus n = omega arith

-- a count with one more behind
pub count_more : {A : Type 0} (test : A → Bool) (xs : List A) (y : A) → count_by test (xs ++ y ∷ []) ≡ count_by test xs + one_if (test y)
count_more test xs y = sum_by-append (λ x. if test x then 1 else 0) xs (y ∷ []) ∙ ap (λ n. count_by test xs + n) (none_plus (one_if (test y)))
