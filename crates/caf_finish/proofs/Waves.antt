-- How often each rank has contributed, and which messages were completed before which of those contributions.
use Rattle.std.proofs.Common.{◌≡◌, ℕ, ◌+◌, ◌<◌, ◌≤◌, ◌==◌, Bool, true, false, cond, ◌&&◌, ◌||◌, leb, List, [], ◌∷◌, inl, inr, refl, ap, ◌∙◌, arith, subst}
use Rattle.std.proofs.lemmas.Bool.{eqb-true, and_parts, or_cases, le-leb}
use Rattle.caf_base.specs.declared.four.Four.{Four}
use Rattle.caf_finish.specs.declared.event.FinishEvent.{FinishEvent}
use Rattle.caf_finish.specs.declared.event.FinishEvent.TheVariants.{Stand, Complete, Contribute, Result}
use Rattle.caf_finish.specs.Events.{is_completed, wave_of, is_late, has_stood, has_contributed}
use Rattle.caf_finish.specs.Kept.{IsKept, MayContribute}
use Rattle.caf_finish.proofs.Lists.{bit}

-- how often a rank has contributed
abbrev pub contributes : List FinishEvent → ℕ → ℕ
contributes [] i = 0
contributes (Contribute j four ∷ h) i = bit (j == i) + contributes h i
contributes (_ ∷ h) i = contributes h i

-- Invariant: a rank has contributed once in each wave behind it, and once more where it is late.

late_more : (b l : Bool) (c w : ℕ) → c ≡ w + bit l → (b ≡ true → l ≡ false) → bit b + c ≡ w + bit (cond b true l)
late_more true l c w e f = let g : c ≡ w + 0 = e ∙ ap (λ x. w + bit x) (f refl) in omega arith
late_more false l c w e f = omega arith

wave_more : (b l : Bool) (c w : ℕ) → c ≡ w + bit l → (b ≡ true → l ≡ true) → c ≡ (bit b + w) + bit (cond b false l)
wave_more true l c w e f = let g : c ≡ w + 1 = e ∙ ap (λ x. w + bit x) (f refl) in omega arith
wave_more false l c w e f = omega arith

pub contributes-is : (size : ℕ) (h : List FinishEvent) (i : ℕ) → IsKept size h → contributes h i ≡ wave_of h i + bit (is_late h i)
contributes-is size [] i k = refl
contributes-is size (Contribute j four ∷ h) i k =
    late_more (j == i) (is_late h i) _ _ (contributes-is size h i k.1)
    (λ e. subst (λ x. is_late h x ≡ false) (eqb-true j i e) k.0.not_late)
contributes-is size (Result j s ∷ h) i k =
    wave_more (j == i) (is_late h i) _ _ (contributes-is size h i k.1)
    (λ e. subst (λ x. is_late h x ≡ true) (eqb-true j i e) k.0.late)
contributes-is size (_ ∷ h) i k = contributes-is size h i k.1

-- at its Contribute a rank has contributed as often as its wave says
pub contributes-now : (size : ℕ) (h : List FinishEvent) (j : ℕ) (four : Four) → IsKept size h → MayContribute size h j four → contributes h j ≡ wave_of h j
contributes-now size h j four k may =
    let n : contributes h j ≡ wave_of h j + bit false = contributes-is size h j k ∙ (rw may.not_late refl) in
    omega arith

-- Invariant: a Contribute in wave w makes the rank's contributions more than w.

below_at : (size : ℕ) (h : List FinishEvent) (j i w : ℕ) → IsKept size h → ((j == i) && (wave_of h j == w)) ≡ true → w < bit (j == i) + contributes h i
below_at size h j i w k both =
    let p = and_parts (j == i) (wave_of h j == w) both in
    let wave : wave_of h i ≡ w = subst (λ x. wave_of h x ≡ w) (eqb-true j i p.0) (eqb-true (wave_of h j) w p.1) in
    let n = contributes-is size h i k in
    let one : bit (j == i) ≡ 1 = ap bit p.0 in
    omega arith

pub contributed-below : (size : ℕ) (h : List FinishEvent) (i w : ℕ) → IsKept size h → has_contributed h i w ≡ true → w < contributes h i
contributed-below size [] i w k e = absurd cc
contributed-below size (Contribute j four ∷ h) i w k e =
    elim (or_cases ((j == i) && (wave_of h j == w)) (has_contributed h i w) e) [
      | inl now ↦ below_at size h j i w k.1 now
      | inr before ↦ let below = contributed-below size h i w k.1 before in omega arith
    ]
contributed-below size (_ ∷ h) i w k e = contributed-below size h i w k.1 e

-- Invariant: a rank that hasn't stood hasn't contributed.

or_right-false : (b c : Bool) → (b || c) ≡ false → c ≡ false
or_right-false true c p = absurd cc
or_right-false false c p = p

pub stood-first : (size : ℕ) (h : List FinishEvent) (i : ℕ) → IsKept size h → has_stood h i ≡ false → contributes h i ≡ 0
stood-first size [] i k e = refl
stood-first size (Contribute j four ∷ h) i k e = go (j == i) refl (stood-first size h i k.1 e)
  where
    go : (b : Bool) → (j == i) ≡ b → contributes h i ≡ 0 → bit b + contributes h i ≡ 0
    go true p r = absurd (cc (k.0.stands, ap (has_stood h) (eqb-true j i p)))
    go false p r = omega arith
stood-first size (Stand j ∷ h) i k e = stood-first size h i k.1 (or_right-false (j == i) _ e)
stood-first size (_ ∷ h) i k e = stood-first size h i k.1 e

-- the message n was completed before its target t contributed in wave v, if t has contributed in it
abbrev pub done_by : List FinishEvent → ℕ → ℕ → ℕ → Bool
done_by [] t v n = false
done_by (Complete m ∷ h) t v n = ((m == n) && leb (contributes h t) v) || done_by h t v n
done_by (_ ∷ h) t v n = done_by h t v n

-- Invariant: what was done by some wave is completed.

neither : (b c d r : Bool) → (b || c) ≡ false → (c ≡ false → r ≡ false) → ((b && d) || r) ≡ false
neither true c d r e f = absurd cc
neither false c d r e f = f e

pub done_by-open : (h : List FinishEvent) (t v n : ℕ) → is_completed h n ≡ false → done_by h t v n ≡ false
done_by-open [] t v n e = refl
done_by-open (Complete m ∷ h) t v n e = neither (m == n) (is_completed h n) _ _ e (done_by-open h t v n)
done_by-open (_ ∷ h) t v n e = done_by-open h t v n e

-- Invariant: until the target contributes in wave v, completed and done by wave v are one.

and_true : (b c : Bool) → ((b && true) || c) ≡ (b || c)
and_true true c = refl
and_true false c = refl

pub done_by-yet : (h : List FinishEvent) (t v n : ℕ) → contributes h t ≤ v → done_by h t v n ≡ is_completed h n
done_by-yet [] t v n le = refl
done_by-yet (Complete m ∷ h) t v n le =
    let now : leb (contributes h t) v ≡ true = le-leb _ _ le in
    let rest : done_by h t v n ≡ is_completed h n = done_by-yet h t v n le in
    rw (now, rest) (and_true (m == n) (is_completed h n))
done_by-yet (Contribute j four ∷ h) t v n le = done_by-yet h t v n (omega arith)
done_by-yet (_ ∷ h) t v n le = done_by-yet h t v n le
