-- The epochs of what each rank has sent and taken: at most that of a late rank in its present wave.
use Rattle.std.proofs.Common.{◌≡◌, ℕ, ◌+◌, ◌*◌, ◌/◌, ◌≤◌, ◌==◌, Bool, true, false, cond, List, [], ◌∷◌, ◌⊎◌, inl, inr, ap, ◌∙◌, arith, Some}
use Rattle.std.proofs.lemmas.Bool.{or_cases}
use Rattle.caf_finish.specs.declared.event.FinishEvent.{FinishEvent}
use Rattle.caf_finish.specs.declared.event.FinishEvent.TheVariants.{Send, Take, Contribute, Result}
use Rattle.caf_finish.specs.Events.{Message, message_in, messages_of, is_taken, wave_of, is_late}
use Rattle.caf_finish.specs.Kept.{IsKept}
use Rattle.caf_finish.proofs.Lists.{bit, Each, Each-weaker, Each-both}
use Rattle.caf_finish.proofs.Messages.{new-untaken}
use Rattle.caf_finish.proofs.Numbers.{apart, found-holds, found-only}

-- Invariant: what a rank has sent was stamped in its present wave or before.
abbrev pub IsSentInTime : List FinishEvent → Message → Type 0
IsSentInTime h m = m.epoch ≤ 2 * wave_of h m.origin + bit (is_late h m.origin)

sent_at_contribute : (b l : Bool) (e w : ℕ) → e ≤ 2 * w + bit l → e ≤ 2 * w + bit (cond b true l)
sent_at_contribute true true e w p = omega arith
sent_at_contribute true false e w p = omega arith
sent_at_contribute false l e w p = p

sent_at_result : (b l : Bool) (e w : ℕ) → e ≤ 2 * w + bit l → e ≤ 2 * (bit b + w) + bit (cond b false l)
sent_at_result true true e w p = omega arith
sent_at_result true false e w p = omega arith
sent_at_result false l e w p = omega arith

pub sent-stamps : (size : ℕ) (h : List FinishEvent) → IsKept size h → Each (IsSentInTime h) (messages_of h)
sent-stamps size [] k = tt
sent-stamps size (Send m o t by ∷ h) k = (omega arith, sent-stamps size h k.1)
sent-stamps size (Contribute j four ∷ h) k =
    Each-weaker (IsSentInTime h) (IsSentInTime (Contribute j four ∷ h)) (λ m p. sent_at_contribute (j == m.origin) (is_late h m.origin) _ _ p) (messages_of h) (sent-stamps size h k.1)
sent-stamps size (Result j s ∷ h) k =
    Each-weaker (IsSentInTime h) (IsSentInTime (Result j s ∷ h)) (λ m p. sent_at_result (j == m.origin) (is_late h m.origin) _ _ p) (messages_of h) (sent-stamps size h k.1)
sent-stamps size (_ ∷ h) k = sent-stamps size h k.1

-- Invariant: what a rank has taken was stamped up to its present wave, by the wave rule.
abbrev pub IsTakenInTime : List FinishEvent → Message → Type 0
IsTakenInTime h m = is_taken h m.number ≡ true → m.epoch ≤ 2 * wave_of h m.target + 1

taken_at_take : (h : List FinishEvent) (n : ℕ) (m : Message) → IsTakenInTime h m → ((n == m.number) ≡ true → m.epoch / 2 ≤ wave_of h m.target)
    → ((n == m.number) ≡ true) ⊎ (is_taken h m.number ≡ true) → m.epoch ≤ 2 * wave_of h m.target + 1
taken_at_take h n m f g (inl now) = let le = g now in omega arith
taken_at_take h n m f g (inr before) = f before

pub taken-stamps : (size : ℕ) (h : List FinishEvent) → IsKept size h → Each (IsTakenInTime h) (messages_of h)
taken-stamps size [] k = tt
taken-stamps size (Send m o t by ∷ h) k =
    (λ e. absurd (cc (e, new-untaken size h m k.1 k.0.is_new)), taken-stamps size h k.1)
taken-stamps size (Take n ∷ h) k =
    Each-weaker (λ m. IsTakenInTime h m × ((n == m.number) ≡ true → m.epoch / 2 ≤ wave_of h m.target)) (IsTakenInTime (Take n ∷ h))
    (λ m p e. taken_at_take h n m p.0 p.1 (or_cases _ _ e)) (messages_of h)
    (Each-both _ _ (messages_of h) (taken-stamps size h k.1) (found-only (λ x. x.epoch / 2 ≤ wave_of h x.target) n (messages_of h) (apart size h k.1) k.0.sent))
taken-stamps size (Result j s ∷ h) k =
    Each-weaker (IsTakenInTime h) (IsTakenInTime (Result j s ∷ h)) (λ m f e. let le = f e in omega arith) (messages_of h) (taken-stamps size h k.1)
taken-stamps size (_ ∷ h) k = taken-stamps size h k.1

-- the same of the message that is found by its number
module _ (size : ℕ) (h : List FinishEvent) (n : ℕ) (y : Message) (k : IsKept size h) (found : message_in (messages_of h) n ≡ Some y) where
  pub sent-stamp : y.epoch ≤ 2 * wave_of h y.origin + 1
  sent-stamp = go (is_late h y.origin) (found-holds (IsSentInTime h) n y (messages_of h) found (sent-stamps size h k)).1
    where
      go : (l : Bool) → y.epoch ≤ 2 * wave_of h y.origin + bit l → y.epoch ≤ 2 * wave_of h y.origin + 1
      go true le = le
      go false le = omega arith

  pub taken-stamp : is_taken h n ≡ true → y.epoch ≤ 2 * wave_of h y.target + 1
  taken-stamp t =
      let p = found-holds (IsTakenInTime h) n y (messages_of h) found (taken-stamps size h k) in
      p.1 (ap (is_taken h) p.0 ∙ t)
