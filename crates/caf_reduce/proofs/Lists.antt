-- A list changed from the front on, an element at a time.
use Rattle.std.proofs.Common.{◌≡◌, ℕ, zero, suc, ◌<◌, List, [], ◌∷◌, map, length, get_or, refl, ap, arith, ◌+◌, add-one, ◌∙◌}
use Rattle.std.proofs.Math.ListN.{set}

-- the first elements changed, and the rest as it was
abbrev pub partly : {X : Type 0} → (X → X) → ℕ → List X → List X
partly f zero xs = xs
partly f (suc n) [] = []
partly f (suc n) (x ∷ xs) = f x ∷ partly f n xs

pub get_or-partly : {X : Type 0} (f : X → X) (n : ℕ) (xs : List X) (d : X) → get_or (partly f n xs) n d ≡ get_or xs n d
get_or-partly f zero xs d = refl
get_or-partly f (suc n) [] d = refl
get_or-partly f (suc n) (x ∷ xs) d = get_or-partly f n xs d

pub set-partly : {X : Type 0} (f : X → X) (n : ℕ) (xs : List X) (d : X) → n < length xs → set (partly f n xs) n (f (get_or xs n d)) ≡ partly f (suc n) xs
set-partly f zero [] d h = absurd (omega arith)
set-partly f (suc n) [] d h = absurd (omega arith)
set-partly f zero (x ∷ xs) d h = refl
set-partly f (suc n) (x ∷ xs) d h = ap (λ ys. f x ∷ ys) (set-partly f n xs d (omega arith))

pub partly-length : {X : Type 0} (f : X → X) (xs : List X) → partly f (length xs) xs ≡ map f xs
partly-length f [] = refl
partly-length f (x ∷ xs) = ap (λ ys. f x ∷ ys) (partly-length f xs)

-- one element more
pub partly-step : {X : Type 0} (f : X → X) (n : ℕ) (xs ys : List X) (d y : X) → ys ≡ partly f n xs → y ≡ f (get_or ys n d) → n < length xs → set ys n y ≡ partly f (n + 1) xs
partly-step f n xs ys d y so_far next within =
    let at_n : y ≡ f (get_or xs n d) = next ∙ ap (λ zs. f (get_or zs n d)) so_far ∙ ap f (get_or-partly f n xs d) in
    rw (add-one, so_far, at_n) (set-partly f n xs d within)

-- and all of them
pub partly-all : {X : Type 0} (f : X → X) (n : ℕ) (xs ys : List X) → ys ≡ partly f n xs → n ≡ length xs → ys ≡ map f xs
partly-all f n xs ys so_far all = so_far ∙ ap (λ k. partly f k xs) all ∙ partly-length f xs
