-- Tests of the numbers below a number.
use Rattle.std.proofs.lemmas.Bool.{eqb-true}
use Rattle.std.proofs.Common.{◌≡◌, ℕ, zero, suc, ◌+◌, ◌<◌, ◌++◌, Bool, true, false, ◌||◌, List, [], ◌∷◌, ap, arith, nat_eq, refl, subst, ◌∙◌}
use Rattle.std.specs.List.{list_any}
use Rattle.caf_base.specs.Places.{below}

or_or : (a b c : Bool) → (a || (b || c)) ≡ ((a || b) || c)
or_or true b c = refl
or_or false b c = refl

any_both : {A : Type 0} (p : A → Bool) (xs ys : List A) → list_any p (xs ++ ys) ≡ (list_any p xs || list_any p ys)
any_both p [] ys = refl
any_both p (x ∷ xs) ys = ap (λ b. p x || b) (any_both p xs ys) ∙ or_or (p x) (list_any p xs) (list_any p ys)

or_right : (a : Bool) → (a || true) ≡ true
or_right true = refl
or_right false = refl

-- a number below that passes
pub any_below : (p : ℕ → Bool) (n i : ℕ) → i < n → p i ≡ true → list_any p (below n) ≡ true
any_below p zero i within is = absurd (omega (arith, within))
any_below p (suc n) i within is = any_both p (below n) (n ∷ []) ∙ go (nat_eq i n) refl (any_below p n i)
  where
    go : (b : Bool) → nat_eq i n ≡ b → (i < n → p i ≡ true → list_any p (below n) ≡ true) → (list_any p (below n) || (p n || false)) ≡ true
    go true same rest = ap (λ b. list_any p (below n) || (b || false)) (subst (λ k. p k ≡ true) (eqb-true i n same) is) ∙ or_right (list_any p (below n))
    go false other rest = let less : i < n = grind (arith, other, within) in ap (λ b. b || (p n || false)) (rest less is)

-- one number more that doesn't pass
pub none_more : (p : ℕ → Bool) (i : ℕ) → list_any p (below i) ≡ false → p i ≡ false → list_any p (below (i + 1)) ≡ false
none_more p i none is =
    let one : i + 1 ≡ suc i = omega arith in
    ap (λ n. list_any p (below n)) one ∙ any_both p (below i) (i ∷ []) ∙ ap (λ b. b || (p i || false)) none ∙ ap (λ b. b || false) is
