-- A wave is whole exactly where as many ranks have contributed and were relayed as there are.
use Rattle.std.proofs.Common.{◌≡◌, ℕ, zero, suc, ◌+◌, ◌<◌, ◌≤◌, ◌==◌, ◌↔◌, Bool, true, false, cond, ◌&&◌, ◌||◌, List, [], ◌∷◌, ◌⊎◌, inl, inr, refl, ap, sym, ◌∙◌, arith, subst}
use Rattle.std.proofs.lemmas.Bool.{cases_lt, eqb-true, eq-eqb, ne_eqb, false_from_ne_true}
use Rattle.caf_finish.specs.declared.event.FinishEvent.{FinishEvent}
use Rattle.caf_finish.specs.declared.event.FinishEvent.TheVariants.{Contribute, Relay}
use Rattle.caf_finish.specs.Events.{wave_of, has_contributed, was_relayed}
use Rattle.caf_finish.specs.Kept.{IsKept}
use Rattle.caf_finish.specs.Totals.{contributes_in_wave, relays_in_wave}
use Rattle.caf_finish.proofs.Lists.{bit}
use Rattle.caf_finish.proofs.Waves.{contributes-now, contributed-below}

-- how many numbers below n meet the test
abbrev pub below : (ℕ → Bool) → ℕ → ℕ
below p zero = 0
below p (suc n) = bit (p n) + below p n

below_le : (p : ℕ → Bool) (n : ℕ) → below p n ≤ n
below_le p zero = omega arith
below_le p (suc n) = go (p n) (below_le p n)
  where
    go : (b : Bool) → below p n ≤ n → bit b + below p n ≤ suc n
    go true le = omega arith
    go false le = omega arith

-- all of them, where as many meet it
full_all : (p : ℕ → Bool) (n : ℕ) → below p n ≡ n → (i : ℕ) → i < n → p i ≡ true
full_all p zero e i lt = absurd (omega arith)
full_all p (suc n) e i lt = go (p n) refl e (cases_lt i n) (λ f less. full_all p n f i less)
  where
    go : (b : Bool) → p n ≡ b → bit b + below p n ≡ suc n → (i < n) ⊎ (n ≤ i) → (below p n ≡ n → i < n → p i ≡ true) → p i ≡ true
    go true is e (inl less) rest = rest (omega arith) less
    go true is e (inr more) rest = let same : n ≡ i = omega arith in subst (λ x. p x ≡ true) same is
    go false is e at rest = let le = below_le p n in absurd (omega arith)

all_full : (p : ℕ → Bool) (n : ℕ) → ((i : ℕ) → i < n → p i ≡ true) → below p n ≡ n
all_full p zero f = refl
all_full p (suc n) f =
    let one : bit (p n) ≡ 1 = ap bit (f n (omega arith)) in
    let rest = all_full p n (λ i lt. f i (omega arith)) in
    omega arith

same_below : (p q : ℕ → Bool) (n : ℕ) → ((i : ℕ) → p i ≡ q i) → below p n ≡ below q n
same_below p q zero f = refl
same_below p q (suc n) f = let here = ap bit (f n) in let rest = same_below p q n f in omega arith

-- where j is added, one more meets it if j is below n
added_above : (p : ℕ → Bool) (j n : ℕ) → n ≤ j → below (λ i. (j == i) || p i) n ≡ below p n
added_above p j zero le = refl
added_above p j (suc n) le =
    let other : (j == n) ≡ false = ne_eqb j n (λ e. absurd (omega arith)) in
    let here : bit ((j == n) || p n) ≡ bit (p n) = ap (λ b. bit (b || p n)) other in
    let rest = added_above p j n (omega arith) in
    omega arith

added_below : (p : ℕ → Bool) (j n : ℕ) → j < n → p j ≡ false → below (λ i. (j == i) || p i) n ≡ 1 + below p n
added_below p j zero lt unmet = absurd (omega arith)
added_below p j (suc n) lt unmet = go (cases_lt j n) (λ less. added_below p j n less unmet)
  where
    go : (j < n) ⊎ (n ≤ j) → (j < n → below (λ i. (j == i) || p i) n ≡ 1 + below p n) → bit ((j == n) || p n) + below (λ i. (j == i) || p i) n ≡ 1 + (bit (p n) + below p n)
    go (inl less) before =
        let other : (j == n) ≡ false = ne_eqb j n (λ e. absurd (omega arith)) in
        let here : bit ((j == n) || p n) ≡ bit (p n) = ap (λ b. bit (b || p n)) other in
        let rest = before less in
        omega arith
    go (inr more) before =
        let same : j ≡ n = omega arith in
        let here : bit ((j == n) || p n) ≡ 1 = ap (λ b. bit (b || p n)) (eq-eqb j n same) in
        let none : bit (p n) ≡ 0 = ap (λ x. bit (p x)) (sym same) ∙ ap bit unmet in
        let rest = added_above p j n more in
        omega arith

and_or : (a c : Bool) → ((a && true) || c) ≡ (a || c)
and_or true c = refl
and_or false c = refl

no_or : (a c : Bool) → ((a && false) || c) ≡ c
no_or true c = refl
no_or false c = refl

-- Invariant: a wave has as many Contributes as ranks that have contributed in it.

module _ (size : ℕ) (h : List FinishEvent) (w : ℕ) (j : ℕ) (rank_in : j < size) (not_yet : wave_of h j ≡ w → has_contributed h j w ≡ false) where
  one_contributed : (b : Bool) → (wave_of h j == w) ≡ b → bit b + below (λ i. has_contributed h i w) size ≡ below (λ i. ((j == i) && b) || has_contributed h i w) size
  one_contributed true e =
      sym (same_below _ _ size (λ i. and_or (j == i) (has_contributed h i w)) ∙ added_below (λ i. has_contributed h i w) j size rank_in (not_yet (eqb-true _ _ e)))
  one_contributed false e = let same = same_below _ _ size (λ i. no_or (j == i) (has_contributed h i w)) in omega arith

none_below : (n : ℕ) → 0 ≡ below (λ i. false) n
none_below zero = refl
none_below (suc n) = let rest = none_below n in omega arith

contributes_count : (size : ℕ) (h : List FinishEvent) (w : ℕ) → IsKept size h → contributes_in_wave h w ≡ below (λ i. has_contributed h i w) size
contributes_count size [] w k = none_below size
contributes_count size (Contribute j four ∷ h) w k =
    ap (λ n. cond (wave_of h j == w) 1 0 + n) (contributes_count size h w k.1)
    ∙ one_contributed size h w j k.0.rank_in not_yet (wave_of h j == w) refl
  where
    not_yet : wave_of h j ≡ w → has_contributed h j w ≡ false
    not_yet e = false_from_ne_true _ (λ t.
        let less = contributed-below size h j w k.1 t in
        let now = contributes-now size h j four k.1 k.0 in
        absurd (omega arith))
contributes_count size (_ ∷ h) w k = contributes_count size h w k.1

-- Invariant: a wave has as many Relays as ranks above 0 that were relayed in it.

or_swap : (z a r : Bool) → (z || ((a && true) || r)) ≡ (a || (z || r))
or_swap true true r = refl
or_swap true false r = refl
or_swap false true r = refl
or_swap false false r = refl

no_more : (z a r : Bool) → (z || ((a && false) || r)) ≡ (z || r)
no_more true a r = refl
no_more false a r = no_or a r

module _ (size : ℕ) (h : List FinishEvent) (w : ℕ) (c : ℕ) (rank_in : c < size) (above : 0 < c) (not_yet : wave_of h c ≡ w → was_relayed h c w ≡ false) where
  one_relayed : (b : Bool) → (wave_of h c == w) ≡ b → bit b + below (λ i. (0 == i) || was_relayed h i w) size ≡ below (λ i. (0 == i) || (((c == i) && b) || was_relayed h i w)) size
  one_relayed true e =
      let not_0 : (0 == c) ≡ false = ne_eqb 0 c (λ z. absurd (omega arith)) in
      let not_c : ((0 == c) || was_relayed h c w) ≡ false = ap (λ b. b || was_relayed h c w) not_0 ∙ not_yet (eqb-true _ _ e) in
      sym (same_below _ _ size (λ i. or_swap (0 == i) (c == i) (was_relayed h i w)) ∙ added_below (λ i. (0 == i) || was_relayed h i w) c size rank_in not_c)
  one_relayed false e = let same = same_below _ _ size (λ i. no_more (0 == i) (c == i) (was_relayed h i w)) in omega arith

relays_count : (size : ℕ) (h : List FinishEvent) (w : ℕ) → 0 < size → IsKept size h → relays_in_wave h w + 1 ≡ below (λ i. (0 == i) || was_relayed h i w) size
relays_count size [] w team k =
    let one = added_below (λ i. false) 0 size team refl in
    let none = none_below size in
    omega arith
relays_count size (Relay p c ∷ h) w team k =
    let rest = relays_count size h w team k.1 in
    let more = one_relayed size h w c k.0.child_in k.0.above (λ e. subst (λ v. was_relayed h c v ≡ false) e k.0.once) (wave_of h c == w) refl in
    omega arith
relays_count size (_ ∷ h) w team k = relays_count size h w team k.1

-- the two tests of a wave
module _ (size : ℕ) (h : List FinishEvent) (w : ℕ) (team : 0 < size) (k : IsKept size h) where
  pub all-contributed : contributes_in_wave h w ≡ size ↔ ((j : ℕ) → j < size → has_contributed h j w ≡ true)
  all-contributed = (
    (λ e. full_all (λ i. has_contributed h i w) size (sym (contributes_count size h w k) ∙ e)),
    λ f. contributes_count size h w k ∙ all_full (λ i. has_contributed h i w) size f,
  )

  or_first : (z r : Bool) → z ≡ false → (z || r) ≡ true → r ≡ true
  or_first true r n e = absurd cc
  or_first false r n e = e

  pub all-relayed : (relays_in_wave h w + 1 ≡ size) ↔ ((j : ℕ) → 0 < j → j < size → was_relayed h j w ≡ true)
  all-relayed = (
    (λ e j above lt.
        or_first (0 == j) (was_relayed h j w) (ne_eqb 0 j (λ z. absurd (omega arith)))
        (full_all (λ i. (0 == i) || was_relayed h i w) size (sym (relays_count size h w team k) ∙ e) j lt)),
    λ f. relays_count size h w team k ∙ all_full (λ i. (0 == i) || was_relayed h i w) size (λ i lt. go i (0 == i) refl f lt),
  )
    where
      go : (i : ℕ) (b : Bool) → (0 == i) ≡ b → ((j : ℕ) → 0 < j → j < size → was_relayed h j w ≡ true) → i < size → (b || was_relayed h i w) ≡ true
      go i true e f lt = refl
      go i false e f lt = f i (positive i e) lt
        where
          positive : (i : ℕ) → (0 == i) ≡ false → 0 < i
          positive zero e = absurd cc
          positive (suc n) e = omega arith
