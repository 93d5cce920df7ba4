-- A test of the elements of a list, from a place on.
use Rattle.std.proofs.Common.{◌≡◌, ℕ, zero, suc, ◌+◌, ◌<◌, Bool, true, false, ◌||◌, List, [], ◌∷◌, Option, Some, ap, arith, drop, length, slice_get, sym, ◌∙◌}
use Rattle.std.specs.List.{list_any}

any_at : {A : Type 0} (p : A → Bool) (q : Option A → Bool) → ((x : A) → q (Some x) ≡ p x) → (xs : List A) (n : ℕ) → n < length xs → list_any p (drop n xs) ≡ (q (slice_get xs n) || list_any p (drop (suc n) xs))
any_at p q same [] n within = absurd (omega (arith, within))
any_at p q same (x ∷ xs) zero within = ap (λ b. b || list_any p xs) (sym (same x))
any_at p q same (x ∷ xs) (suc n) within = any_at p q same xs n (omega (arith, within))

-- an element that doesn't pass is left out
pub any_more : {A : Type 0} (p : A → Bool) (q : Option A → Bool) (xs : List A) (n : ℕ) → ((x : A) → q (Some x) ≡ p x) → n < length xs → q (slice_get xs n) ≡ false → list_any p (drop n xs) ≡ list_any p (drop (n + 1) xs)
any_more p q xs n same within fails =
    let one : n + 1 ≡ suc n = omega arith in
    any_at p q same xs n within ∙ ap (λ b. b || list_any p (drop (suc n) xs)) fails ∙ ap (λ k. list_any p (drop k xs)) (sym one)

-- an element that passes
pub any_here : {A : Type 0} (p : A → Bool) (q : Option A → Bool) (xs : List A) (n : ℕ) → ((x : A) → q (Some x) ≡ p x) → n < length xs → q (slice_get xs n) ≡ true → list_any p (drop n xs) ≡ true
any_here p q xs n same within passes = any_at p q same xs n within ∙ ap (λ b. b || list_any p (drop (suc n) xs)) passes
