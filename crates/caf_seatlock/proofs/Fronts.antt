-- Lists that begin with others.
use Rattle.std.proofs.Common.{◌≡◌, ℕ, zero, suc, List, [], ◌∷◌, ◌++◌, Some, Result, Ok, Err, IfOk, slice_get, subst, sym, refl, ap, ◌∙◌, append_assoc, append-nil}
use mathlib.Core.List.{IsPrefix}

module _ {A : Type 0} where
  -- a list begins with itself
  pub begins_same : (xs : List A) → IsPrefix xs xs
  begins_same xs = ([], append-nil xs)

  -- and with the empty list
  pub begins_empty : (xs : List A) → IsPrefix [] xs
  begins_empty xs = (xs, refl)

  -- it begins with whatever one begins with that it begins with
  pub begins_through : (xs ys zs : List A) → IsPrefix xs ys → IsPrefix ys zs → IsPrefix xs zs
  begins_through xs ys zs a b = (a.0 ++ b.0, sym (append_assoc xs a.0 b.0) ∙ (ap (λ l. l ++ b.0) a.1 ∙ b.1))

  -- an element stays at its place, whatever is added behind
  stays : (xs more : List A) (i : ℕ) (x : A) → slice_get xs i ≡ Some x → slice_get (xs ++ more) i ≡ Some x
  stays [] more i x at = absurd cc
  stays (y ∷ xs) more zero x at = at
  stays (y ∷ xs) more (suc i) x at = stays xs more i x at

  -- what stands at a place that was told stands there in each list that begins with the first
  pub stands_on : {E : Type 0} (xs ys : List A) (told : Result ℕ E) (x : A) → IsPrefix xs ys → IfOk told (λ i. slice_get xs i ≡ Some x) → IfOk told (λ i. slice_get ys i ≡ Some x)
  stands_on xs ys (Ok i) x front at = subst (λ list. slice_get list i ≡ Some x) front.1 (stays xs front.0 i x at)
  stands_on xs ys (Err e) x front at = at
