-- A number summed over a list, as one element changes.
use Rattle.std.proofs.Common.{◌≡◌, ◌≢◌, ℕ, zero, suc, ◌+◌, ◌≤◌, List, [], ◌∷◌, set, sym, refl, ap, arith}
use Rattle.std.specs.List.{sum_by}
use Rattle.std.proofs.lemmas.List.Sums.{sum_by-cons}
use mathlib.Core.Option.{some, some-injective, some-ne-none}
use lib.ListN.{get_elem?}

module _ {A : Type 0} where
  -- an element's number is no more than the sum
  pub at_most_sum : (f : A → ℕ) (xs : List A) (i : ℕ) (v : A) → get_elem? xs i ≡ some v → f v ≤ sum_by f xs
  at_most_sum f [] i v at = absurd (some-ne-none v (sym at))
  at_most_sum f (x ∷ xs) zero v at = let same : f x ≡ f v = ap f (some-injective x v at) in omega (arith, sum_by-cons f x xs)
  at_most_sum f (x ∷ xs) (suc i) v at = let rest = at_most_sum f xs i v at in omega (arith, sum_by-cons f x xs)

  -- nor are those of two elements together
  pub two_at_most_sum : (f : A → ℕ) (xs : List A) (i j : ℕ) (v w : A) → i ≢ j → get_elem? xs i ≡ some v → get_elem? xs j ≡ some w → f v + f w ≤ sum_by f xs
  two_at_most_sum f [] i j v w apart at at' = absurd (some-ne-none v (sym at))
  two_at_most_sum f (x ∷ xs) zero zero v w apart at at' = absurd (apart refl)
  two_at_most_sum f (x ∷ xs) zero (suc j) v w apart at at' =
      let same : f x ≡ f v = ap f (some-injective x v at) in let rest = at_most_sum f xs j w at' in omega (arith, sum_by-cons f x xs)
  two_at_most_sum f (x ∷ xs) (suc i) zero v w apart at at' =
      let same : f x ≡ f w = ap f (some-injective x w at') in let rest = at_most_sum f xs i v at in omega (arith, sum_by-cons f x xs)
  two_at_most_sum f (x ∷ xs) (suc i) (suc j) v w apart at at' =
      let rest = two_at_most_sum f xs i j v w (λ same. apart (ap suc same)) at at' in omega (arith, sum_by-cons f x xs)

  -- where one element takes the place of another, the sum changes as its number does
  pub sum_set : (f : A → ℕ) (xs : List A) (i : ℕ) (v w : A) → get_elem? xs i ≡ some v → sum_by f (set xs i w) + f v ≡ sum_by f xs + f w
  sum_set f [] i v w at = absurd (some-ne-none v (sym at))
  sum_set f (x ∷ xs) zero v w at = let same : f x ≡ f v = ap f (some-injective x v at) in omega (arith, sum_by-cons f x xs, sum_by-cons f w xs)
  sum_set f (x ∷ xs) (suc i) v w at = let rest = sum_set f xs i v w at in omega (arith, sum_by-cons f x xs, sum_by-cons f x (set xs i w))

  -- a sum of numbers, each of which is at most another, is at most the sum of those
  pub sum_at_most : (f g : A → ℕ) (xs : List A) → ((i : ℕ) (v : A) → get_elem? xs i ≡ some v → f v ≤ g v) → sum_by f xs ≤ sum_by g xs
  sum_at_most f g [] each = omega arith
  sum_at_most f g (x ∷ xs) each =
      let here = each 0 x refl in let rest = sum_at_most f g xs (λ i. each (suc i)) in omega (arith, sum_by-cons f x xs, sum_by-cons g x xs)
