-- How the counts and the sum of parts change.
use Rattle.std.proofs.Common.{◌≡◌, ℕ, zero, suc, ◌+◌, ◌<◌, ◌≤◌, Bool, true, false, cond, List, [], ◌∷◌, map, length, get_or, refl, ap, sym, ◌∙◌, arith, ℤ, pos, ◌+ℤ◌, ◌++◌, count_by, ◌==◌, ◌||◌}
use Rattle.std.proofs.Math.ListN.{set}
use Rattle.std.proofs.lemmas.Int.{ints}
use Rattle.std.proofs.lemmas.List.Sums.{sum_by-cons, sum_by-set}
use Rattle.caf_reduce.specs.declared.part.Part.{Part}
use Rattle.caf_reduce.specs.declared.part.Part.TheVariants.{Outside, Missing, Present}
use Rattle.caf_reduce.specs.Tree.{first_part, is_child}
use Rattle.caf_reduce.specs.Sum.{is_missing, is_inside, number_of, sum_of, missing_in, emptied_part, emptied}

-- 1 where the test passes
abbrev pub bit : Bool → ℕ
bit b = cond b 1 0

pub bit-le-1 : (b : Bool) → bit b ≤ 1
bit-le-1 true = omega arith
bit-le-1 false = omega arith

count-cons : {X : Type 0} (p : X → Bool) (x : X) (xs : List X) → count_by p (x ∷ xs) ≡ bit (p x) + count_by p xs
count-cons p x xs = sum_by-cons (λ y. cond (p y) 1 0) x xs

-- a part that was missing is there
pub sum_of-set : (parts : List Part) (from : ℕ) (s : ℤ) → from < length parts → get_or parts from Missing ≡ Missing → sum_of (set parts from (Present s)) ≡ sum_of parts +ℤ s
sum_of-set [] from s h e = absurd (omega arith)
sum_of-set (p ∷ parts) zero s h e = omega (arith, ints, ap number_of e)
sum_of-set (p ∷ parts) (suc from) s h e = omega (arith, ints, sum_of-set parts from s (omega arith) e)

-- one that was missing is not missing any more, and inside as before
pub missing-set : (parts : List Part) (from : ℕ) (s : ℤ) → from < length parts → get_or parts from Missing ≡ Missing → missing_in (set parts from (Present s)) + 1 ≡ missing_in parts
missing-set parts from s h e =
    omega (arith, sum_by-set (λ y. cond (is_missing y) 1 0) parts from (Present s) Missing h, ap (λ y. bit (is_missing y)) e)

pub inside-set : (parts : List Part) (from : ℕ) (s : ℤ) → from < length parts → get_or parts from Missing ≡ Missing → count_by is_inside (set parts from (Present s)) ≡ count_by is_inside parts
inside-set parts from s h e =
    omega (arith, sum_by-set (λ y. cond (is_inside y) 1 0) parts from (Present s) Missing h, ap (λ y. bit (is_inside y)) e)

pub missing-push : (parts : List Part) (part : Part) → missing_in (parts ++ part ∷ []) ≡ missing_in parts + bit (is_missing part)
missing-push [] part = omega (arith, count-cons is_missing part [])
missing-push (p ∷ parts) part =
    omega (arith, count-cons is_missing p parts, count-cons is_missing p (parts ++ part ∷ []), missing-push parts part)

-- parts of which two counts agree one by one
count-each : {X : Type 0} (p q : X → Bool) (f : X → X) → ((x : X) → p (f x) ≡ q x) → (xs : List X) → count_by p (map f xs) ≡ count_by q xs
count-each p q f same [] = refl
count-each p q f same (x ∷ xs) =
    omega (arith, count-cons p (f x) (map f xs), count-cons q x xs, ap bit (same x), count-each p q f same xs)

missing-emptied_part : (part : Part) → is_missing (emptied_part part) ≡ is_inside part
missing-emptied_part Outside = refl
missing-emptied_part Missing = refl
missing-emptied_part (Present s) = refl

inside-emptied_part : (part : Part) → is_inside (emptied_part part) ≡ is_inside part
inside-emptied_part Outside = refl
inside-emptied_part Missing = refl
inside-emptied_part (Present s) = refl

pub missing-emptied : (parts : List Part) → missing_in (emptied parts) ≡ count_by is_inside parts
missing-emptied = count-each is_missing is_inside emptied_part missing-emptied_part

pub inside-emptied : (parts : List Part) → count_by is_inside (emptied parts) ≡ count_by is_inside parts
inside-emptied = count-each is_inside is_inside emptied_part inside-emptied_part

number-emptied_part : (part : Part) → number_of (emptied_part part) ≡ pos 0
number-emptied_part Outside = refl
number-emptied_part Missing = refl
number-emptied_part (Present s) = refl

pub sum_of-emptied : (parts : List Part) → sum_of (emptied parts) ≡ pos 0
sum_of-emptied [] = refl
sum_of-emptied (p ∷ parts) = omega (arith, ints, number-emptied_part p, sum_of-emptied parts)

-- before anything was given, emptying changes nothing
first_part-emptied : (b : Bool) → let part : Part = cond b Missing Outside in emptied_part part ≡ part
first_part-emptied true = refl
first_part-emptied false = refl

pub first-emptied : (size rank : ℕ) (xs : List ℕ) → emptied (map (first_part size rank) xs) ≡ map (first_part size rank) xs
first-emptied size rank [] = refl
first-emptied size rank (x ∷ xs) =
    ap (λ p. p ∷ emptied (map (first_part size rank) xs)) (first_part-emptied ((x == rank) || is_child size rank x)) ∙ ap (λ ps. first_part size rank x ∷ ps) (first-emptied size rank xs)

pub sum_of-first : (size rank : ℕ) (xs : List ℕ) → sum_of (map (first_part size rank) xs) ≡ pos 0
sum_of-first size rank xs =
    ap sum_of (sym (first-emptied size rank xs)) ∙ sum_of-emptied (map (first_part size rank) xs)

pub inside-first : (size rank : ℕ) (xs : List ℕ) → count_by is_inside (map (first_part size rank) xs) ≡ missing_in (map (first_part size rank) xs)
inside-first size rank xs =
    sym (missing-emptied (map (first_part size rank) xs)) ∙ ap missing_in (first-emptied size rank xs)
