-- A message of a later wave stems from one that was open at a contribution, and that one stays a witness.
use Rattle.std.proofs.Common.{◌≡◌, ℕ, ◌+◌, ◌*◌, ◌<◌, ◌≤◌, ◌==◌, Bool, true, false, ◌&&◌, ◌||◌, leb, List, [], ◌∷◌, ◌⊎◌, inl, inr, refl, sym, arith, subst, Option, Some, None}
use Rattle.std.proofs.lemmas.Bool.{cases_lt, lt-leb}
use Rattle.caf_base.specs.declared.four.Four.{Four}
use Rattle.caf_finish.specs.declared.event.FinishEvent.{FinishEvent}
use Rattle.caf_finish.specs.declared.event.FinishEvent.TheVariants.{Send, Complete, Contribute}
use Rattle.caf_finish.specs.Events.{Message, messages_of, wave_of, is_late}
use Rattle.caf_finish.specs.Kept.{IsKept, MaySendBy}
use Rattle.caf_finish.proofs.Lists.{bit, Each, SomeOf, SomeOf-weaker}
use Rattle.caf_finish.proofs.Waves.{contributes, contributes-is, stood-first, done_by, done_by-open}
use Rattle.caf_finish.proofs.Messages.{found-some}

-- each message is counted in wave v
abbrev pub AllEarly : ℕ → List Message → Type 0
AllEarly v ms = Each (λ m. m.epoch ≤ 2 * v) ms

-- the message is counted in wave v, and wasn't completed before its target contributed in that wave
abbrev pub IsOpenAt : List FinishEvent → ℕ → Message → Type 0
IsOpenAt h v m = (m.epoch ≤ 2 * v) × (done_by h m.target v m.number ≡ false) × (v < contributes h m.target)

-- Invariant: each message is counted in wave v, or one that is was open at its target's Contribute of wave v.
abbrev pub IsChained : List FinishEvent → ℕ → Type 0
IsChained h v = AllEarly v (messages_of h) ⊎ SomeOf (IsOpenAt h v) (messages_of h)

chained_at_contribute : (h : List FinishEvent) (j : ℕ) (four : Four) (v : ℕ) → IsChained h v → IsChained (Contribute j four ∷ h) v
chained_at_contribute h j four v (inl early) = inl early
chained_at_contribute h j four v (inr some) =
    inr (SomeOf-weaker (IsOpenAt h v) (IsOpenAt (Contribute j four ∷ h) v) (λ m o. (o.0, o.1, omega arith)) (messages_of h) some)

-- what is open at a Contribute behind it can't be completed before it
still_open : (a d : Bool) (c v : ℕ) → v < c → d ≡ false → ((a && leb c v) || d) ≡ false
still_open true d c v lt e = rw (lt-leb c v lt, e) refl
still_open false d c v lt e = e

chained_at_complete : (h : List FinishEvent) (n v : ℕ) → IsChained h v → IsChained (Complete n ∷ h) v
chained_at_complete h n v (inl early) = inl early
chained_at_complete h n v (inr some) =
    inr (SomeOf-weaker (IsOpenAt h v) (IsOpenAt (Complete n ∷ h) v) (λ m o. (o.0, still_open (n == m.number) _ _ v o.2 o.1, o.2)) (messages_of h) some)

first_epoch : (v c w : ℕ) (l : Bool) → c ≡ w + bit l → c ≡ 0 → 2 * w + bit l ≤ 2 * v
first_epoch v c w true p q = omega arith
first_epoch v c w false p q = omega arith

later_epoch : (v c w : ℕ) (l : Bool) → c ≡ w + bit l → 2 * v < 2 * w + bit l → v < c
later_epoch v c w true p q = omega arith
later_epoch v c w false p q = omega arith

-- the first message that is of a later wave is sent by one that is open, at a rank that has contributed in wave v
module _ (size : ℕ) (h : List FinishEvent) (v m o t : ℕ) (k : IsKept size h) where
  by_open : (q : ℕ) → MaySendBy h o (Some q) → 2 * v < 2 * wave_of h o + bit (is_late h o) → AllEarly v (messages_of h) → SomeOf (IsOpenAt h v) (messages_of h)
  by_open q may lt early =
      found-some (λ y. y.target ≡ o) (λ y. y.epoch ≤ 2 * v) (IsOpenAt h v) q
      (λ y same here le. (
        le,
        subst (λ n. done_by h y.target v n ≡ false) (sym same) (done_by-open h y.target v q may.1),
        subst (λ i. v < contributes h i) (sym here) (later_epoch v _ _ (is_late h o) (contributes-is size h o k) lt),
      ))
      (messages_of h) may.2 early

  chained_at_send : (by : Option ℕ) → MaySendBy h o by → IsChained h v → IsChained (Send m o t by ∷ h) v
  chained_at_send by may (inr some) = inr (inr some)
  chained_at_send None may (inl early) =
      inl (first_epoch v _ _ (is_late h o) (contributes-is size h o k) (stood-first size h o k may), early)
  chained_at_send (Some q) may (inl early) =
      elim (cases_lt (2 * v) (2 * wave_of h o + bit (is_late h o))) [
        | inr le ↦ inl (le, early)
        | inl lt ↦ inr (inr (by_open q may lt early))
      ]

pub chained : (size : ℕ) (h : List FinishEvent) (v : ℕ) → IsKept size h → IsChained h v
chained size [] v k = inl tt
chained size (Contribute j four ∷ h) v k = chained_at_contribute h j four v (chained size h v k.1)
chained size (Complete n ∷ h) v k = chained_at_complete h n v (chained size h v k.1)
chained size (Send m o t by ∷ h) v k = chained_at_send size h v m o t k.1 by k.0.sender (chained size h v k.1)
chained size (_ ∷ h) v k = chained size h v k.1
