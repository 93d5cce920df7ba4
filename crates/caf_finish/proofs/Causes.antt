-- By which message each message was sent, and how their epochs and depths lie.
use Rattle.std.proofs.Common.{◌≡◌, ℕ, ◌+◌, ◌*◌, ◌≤◌, ◌==◌, Bool, true, false, ◌&&◌, leb, List, [], ◌∷◌, ◌⊎◌, inl, inr, refl, ap, arith, Option, Some, None, IsSomeAnd}
use Rattle.std.proofs.lemmas.Bool.{leb-true, or_cases, and_parts}
use Rattle.caf_finish.specs.declared.event.FinishEvent.{FinishEvent}
use Rattle.caf_finish.specs.declared.event.FinishEvent.TheVariants.{Send, Complete}
use Rattle.caf_finish.specs.Events.{Message, message_in, depth_of, sent_message, messages_of, is_late}
use Rattle.caf_finish.specs.Kept.{IsKept, MaySendBy}
use Rattle.caf_finish.proofs.Lists.{bit, Each, SomeOf, Each-weaker, Each-both, SomeOf-weaker}
use Rattle.caf_finish.proofs.Waves.{contributes, contributes-is, stood-first, done_by, done_by-open}
use Rattle.caf_finish.proofs.Messages.{RanksIn, ranks, epochs, found-some}

-- the message q is the one by which m was sent: one less deep, at m's origin, and not done there before m was sent
abbrev pub IsCause : List FinishEvent → Message → Message → Type 0
IsCause h m q = (q.target ≡ m.origin) × (m.depth ≡ q.depth + 1) × ((u : ℕ) → done_by h q.target u q.number ≡ true → m.epoch ≤ 2 * u)

-- Invariant: each message has a cause, or was sent by its origin's own program before its first Contribute.
abbrev pub HasCause : List FinishEvent → List Message → Message → Type 0
HasCause h ms m = ((m.epoch ≡ 0) × (m.depth ≡ 1)) ⊎ SomeOf (IsCause h m) ms

first_epoch : (c w : ℕ) (l : Bool) → c ≡ w + bit l → c ≡ 0 → 2 * w + bit l ≡ 0
first_epoch c w true p q = omega arith
first_epoch c w false p q = omega arith

-- the message that is found, with its depth
pub found-deep : (ms : List Message) (q : ℕ) (P : Message → Type 0) → IsSomeAnd (message_in ms q) P → IsSomeAnd (message_in ms q) (λ x. P x × (depth_of (message_in ms q) ≡ x.depth))
found-deep ms q P e = go (message_in ms q) e
  where
    go : (o : Option Message) → IsSomeAnd o P → IsSomeAnd o (λ x. P x × (depth_of o ≡ x.depth))
    go None e = e
    go (Some x) e = (e, refl)

module _ (size : ℕ) (h : List FinishEvent) (m o t : ℕ) (k : IsKept size h) where
  new_cause : (by : Option ℕ) → MaySendBy h o by → HasCause (Send m o t by ∷ h) (messages_of (Send m o t by ∷ h)) (sent_message h (messages_of h) m o t by)
  new_cause None may = inl (first_epoch _ _ (is_late h o) (contributes-is size h o k) (stood-first size h o k may), refl)
  new_cause (Some q) may =
      inr (inr (found-some (λ x. (x.target ≡ o) × (depth_of (message_in (messages_of h) q) ≡ x.depth)) (λ x. RanksIn size x) (IsCause h (sent_message h (messages_of h) m o t (Some q))) q
      (λ x same p r. (p.0, ap (λ n. n + 1) p.1, λ u d. absurd (cc (d, done_by-open h x.target u q may.1, ap (done_by h x.target u) same))))
      (messages_of h) (found-deep (messages_of h) q (λ x. x.target ≡ o) may.2) (ranks size h k)))

  old_cause : (by : Option ℕ) (y : Message) → HasCause h (messages_of h) y → HasCause (Send m o t by ∷ h) (messages_of (Send m o t by ∷ h)) y
  old_cause by y (inl first) = inl first
  old_cause by y (inr some) = inr (inr some)

-- what becomes done at a Complete is done by the present wave of its target, which is at least that of the later message
module _ (h : List FinishEvent) (n : ℕ) where
  done_in_time : (y q : Message) → y.epoch ≤ 2 * contributes h y.origin → q.target ≡ y.origin → (u : ℕ)
      → (done_by h q.target u q.number ≡ true → y.epoch ≤ 2 * u)
      → (((n == q.number) && leb (contributes h q.target) u) ≡ true) ⊎ (done_by h q.target u q.number ≡ true) → y.epoch ≤ 2 * u
  done_in_time y q le here u f (inl now) =
      let c : contributes h q.target ≤ u = leb-true _ _ (and_parts (n == q.number) _ now).1 in
      let e : contributes h q.target ≡ contributes h y.origin = ap (contributes h) here in
      omega arith
  done_in_time y q le here u f (inr before) = f before

  cause_at_complete : (y : Message) → y.epoch ≤ 2 * contributes h y.origin → HasCause h (messages_of h) y → HasCause (Complete n ∷ h) (messages_of h) y
  cause_at_complete y le (inl first) = inl first
  cause_at_complete y le (inr some) =
      inr (SomeOf-weaker (IsCause h y) (IsCause (Complete n ∷ h) y)
      (λ q p. (p.0, p.1, λ u d. done_in_time y q le p.0 u (p.2 u) (or_cases _ _ d))) (messages_of h) some)

pub causes : (size : ℕ) (h : List FinishEvent) → IsKept size h → Each (HasCause h (messages_of h)) (messages_of h)
causes size [] k = tt
causes size (Send m o t by ∷ h) k = (
  new_cause size h m o t k.1 by k.0.sender,
  Each-weaker (HasCause h (messages_of h)) (HasCause (Send m o t by ∷ h) (messages_of (Send m o t by ∷ h)))
      (old_cause size h m o t k.1 by) (messages_of h) (causes size h k.1),
)
causes size (Complete n ∷ h) k =
    Each-weaker (λ y. HasCause h (messages_of h) y × (y.epoch ≤ 2 * contributes h y.origin)) (HasCause (Complete n ∷ h) (messages_of h))
    (λ y p. cause_at_complete h n y p.1 p.0) (messages_of h) (Each-both _ _ (messages_of h) (causes size h k.1) (epochs size h k.1))
causes size (_ ∷ h) k = causes size h k.1
