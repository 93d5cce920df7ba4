-- Counts over a list, and what holds of each or of some element, by recursion.
use Rattle.std.proofs.Common.{◌≡◌, ℕ, ◌+◌, ◌≤◌, Bool, false, cond, List, [], ◌∷◌, ◌⊎◌, inl, inr, refl, ap, ◌∙◌, arith, count_by, zero-add}
use Rattle.std.proofs.lemmas.List.Sums.{sum_by-cons}

abbrev pub Each : {X : Type 0} → (X → Type 0) → List X → Type 0
Each P [] = Unit {0}
Each P (x ∷ xs) = P x × Each P xs

abbrev pub SomeOf : {X : Type 0} → (X → Type 0) → List X → Type 0
SomeOf P [] = ⊥
SomeOf P (x ∷ xs) = P x ⊎ SomeOf P xs

pub Each-weaker : {X : Type 0} (P Q : X → Type 0) → ((x : X) → P x → Q x) → (xs : List X) → Each P xs → Each Q xs
Each-weaker P Q f [] h = tt
Each-weaker P Q f (x ∷ xs) h = (f x h.0, Each-weaker P Q f xs h.1)

pub Each-both : {X : Type 0} (P Q : X → Type 0) → (xs : List X) → Each P xs → Each Q xs → Each (λ x. P x × Q x) xs
Each-both P Q [] h k = tt
Each-both P Q (x ∷ xs) h k = ((h.0, k.0), Each-both P Q xs h.1 k.1)

pub Each-of_all : {X : Type 0} (P : X → Type 0) → ((x : X) → P x) → (xs : List X) → Each P xs
Each-of_all P f [] = tt
Each-of_all P f (x ∷ xs) = (f x, Each-of_all P f xs)

pub SomeOf-weaker : {X : Type 0} (P Q : X → Type 0) → ((x : X) → P x → Q x) → (xs : List X) → SomeOf P xs → SomeOf Q xs
SomeOf-weaker P Q f [] h = h
SomeOf-weaker P Q f (x ∷ xs) (inl h) = inl (f x h)
SomeOf-weaker P Q f (x ∷ xs) (inr h) = inr (SomeOf-weaker P Q f xs h)

-- what holds of each and of some, holds of one together
pub SomeOf-each : {X : Type 0} (P Q : X → Type 0) {C : Type 0} → ((x : X) → P x → Q x → C) → (xs : List X) → SomeOf P xs → Each Q xs → C
SomeOf-each P Q f [] h k = absurd h
SomeOf-each P Q f (x ∷ xs) (inl h) k = f x h k.0
SomeOf-each P Q f (x ∷ xs) (inr h) k = SomeOf-each P Q f xs h k.1

abbrev pub bit : Bool → ℕ
bit b = cond b 1 0

pub count-cons : {X : Type 0} (p : X → Bool) (x : X) (xs : List X) → count_by p (x ∷ xs) ≡ bit (p x) + count_by p xs
count-cons p x xs = sum_by-cons (λ y. cond (p y) 1 0) x xs

pub count-each : {X : Type 0} (p q : X → Bool) → (xs : List X) → Each (λ x. p x ≡ q x) xs → count_by p xs ≡ count_by q xs
count-each p q [] h = refl
count-each p q (x ∷ xs) h = rw (count-cons p x xs, count-cons q x xs, h.0, count-each p q xs h.1)

pub count-add : {X : Type 0} (r p q : X → Bool) → ((x : X) → bit (r x) ≡ bit (p x) + bit (q x)) → (xs : List X) → count_by r xs ≡ count_by p xs + count_by q xs
count-add r p q f [] = refl
count-add r p q f (x ∷ xs) =
    omega (arith, count-cons r x xs, count-cons p x xs, count-cons q x xs, f x, count-add r p q f xs)

pub count-le : {X : Type 0} (p q : X → Bool) → ((x : X) → bit (p x) ≤ bit (q x)) → (xs : List X) → count_by p xs ≤ count_by q xs
count-le p q f [] = omega arith
count-le p q f (x ∷ xs) = omega (arith, count-cons p x xs, count-cons q x xs, f x, count-le p q f xs)

-- where the smaller count is no smaller, each element counts in both or in neither
pub count-same : {X : Type 0} (p q : X → Bool) → ((x : X) → bit (p x) ≤ bit (q x)) → (xs : List X) → count_by q xs ≤ count_by p xs → Each (λ x. bit (q x) ≤ bit (p x)) xs
count-same p q f [] h = tt
count-same p q f (x ∷ xs) h =
    let rest : count_by p xs ≤ count_by q xs = count-le p q f xs in
    let a = count-cons p x xs in
    let b = count-cons q x xs in
    let fx = f x in
    (omega arith, count-same p q f xs (omega arith))

pub count-none : {X : Type 0} (p : X → Bool) → (xs : List X) → Each (λ x. p x ≡ false) xs → count_by p xs ≡ 0
count-none p [] h = refl
count-none p (x ∷ xs) h = count-cons p x xs ∙ (ap (λ b. bit b + count_by p xs) h.0 ∙ (zero-add _ ∙ count-none p xs h.1))
