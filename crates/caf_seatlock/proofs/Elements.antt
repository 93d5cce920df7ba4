-- What is true of each element of a list, as one element changes or is added.
use Rattle.std.proofs.Common.{◌≡◌, ◌≢◌, ℕ, zero, suc, List, [], ◌∷◌, ◌++◌, set, sym, refl, subst, ⊎_elim}
use mathlib.Core.Option.{some, some-injective, some-ne-none}
use lib.ListN.{get_elem?}
use Rattle.atomic_table.proofs.Lists.{at_set, at_snoc}
use Rattle.caf_seatlock.specs.Line.{Each}

module _ {A : Type 0} where
  -- what is true of the new element, and of the others, is true of each
  pub each_else : (P : A → Type 0) (xs : List A) (i : ℕ) (w : A) → P w → ((j : ℕ) (v : A) → j ≢ i → get_elem? xs j ≡ some v → P v) → Each P (set xs i w)
  each_else P xs i w here others j v at = ⊎_elim
      (λ (it : (j ≡ i) × (w ≡ v)). subst P it.1 here)
      (λ (it : (j ≢ i) × (get_elem? xs j ≡ some v)). others j v it.0 it.1)
      (at_set xs i j w v at)

  -- the same where it was true of each before
  pub each_set : (P : A → Type 0) (xs : List A) (i : ℕ) (w : A) → P w → Each P xs → Each P (set xs i w)
  each_set P xs i w here each = each_else P xs i w here (λ j v apart at. each j v at)

  -- the same where an element is added
  pub each_more : (P : A → Type 0) (xs : List A) (w : A) → P w → Each P xs → Each P (xs ++ w ∷ [])
  each_more P xs w here each j v at = ⊎_elim (λ (it : get_elem? xs j ≡ some v). each j v it) (λ (it : w ≡ v). subst P it here) (at_snoc xs w v j at)

  -- what is true of an element is true of each element of the list with it alone
  pub each_alone : (P : A → Type 0) (w : A) → P w → Each P (w ∷ [])
  each_alone P w here zero v at = subst P (some-injective w v at) here
  each_alone P w here (suc j) v at = absurd (some-ne-none v (sym at))

  -- the new element stands at its place
  pub new_at : (xs : List A) (i : ℕ) (v w : A) → get_elem? xs i ≡ some v → get_elem? (set xs i w) i ≡ some w
  new_at [] i v w at = absurd (some-ne-none v (sym at))
  new_at (x ∷ xs) zero v w at = refl
  new_at (x ∷ xs) (suc i) v w at = new_at xs i v w at
