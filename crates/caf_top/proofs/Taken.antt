-- What a sink took, one write after another.
use Rattle.std.proofs.Common.{◌≡◌, ℕ, ◌+◌, ◌≤◌, ◌-◌, List, ◌++◌, length, take, drop, Option, Some, None, ap, ◌∙◌, arith, append_assoc, subst, take_all, length-drop}
use Rattle.std.proofs.Math.Seq.{take-add}
use Rattle.std.specs.Io.KnownBytes.{Appends}

appends_both : (a b c : Option (List ℕ)) (xs ys : List ℕ) → Appends a b xs → Appends b c ys → Appends a c (xs ++ ys)
appends_both None b c xs ys h k = tt
appends_both (Some old) None c xs ys h k = absurd h
appends_both (Some old) (Some bs) None xs ys h k = absurd k
appends_both (Some old) (Some bs) (Some cs) xs ys h k = k ∙ (ap (λ l. l ++ ys) h ∙ append_assoc old xs ys)

-- a write of n bytes more, from place i on
pub appends_more : (a b c : Option (List ℕ)) (bs : List ℕ) (i n : ℕ) → i ≤ length bs → Appends a b (take i bs) → Appends b c (take n (take (length bs - i) (drop i bs))) → Appends a c (take (i + n) bs)
appends_more a b c bs i n le h k =
    let all : take (length bs - i) (drop i bs) ≡ drop i bs = take_all (length bs - i) (drop i bs) (omega (arith, length-drop i bs)) in
    rw (take-add i n bs) (appends_both a b c (take i bs) (take n (drop i bs)) h (subst (λ rest. Appends b c (take n rest)) all k))
