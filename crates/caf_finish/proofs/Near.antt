-- How far apart the ranks' waves are, and what a contribution tells of the messages that were sent before it.
use Rattle.std.proofs.Common.{◌≡◌, ℕ, ◌+◌, ◌*◌, ◌<◌, ◌≤◌, ◌==◌, Bool, true, false, ◌&&◌, List, [], ◌∷◌, refl, ap, sym, ◌∙◌, arith, count_by}
use Rattle.std.proofs.lemmas.Bool.{eqb-true, or_right}
use Rattle.caf_base.specs.declared.four.Four.{Four}
use Rattle.caf_finish.specs.declared.event.FinishEvent.{FinishEvent}
use Rattle.caf_finish.specs.declared.event.FinishEvent.TheVariants.{Send, Take, Contribute, Result}
use Rattle.caf_finish.specs.Events.{Message, messages_of, is_even, is_taken, is_acked, wave_of, is_late}
use Rattle.caf_finish.specs.Kept.{IsKept, MayContribute}
use Rattle.caf_finish.proofs.Lists.{bit, Each, Each-weaker, Each-both, count-same}
use Rattle.caf_finish.proofs.Waves.{contributes, contributes-is, contributes-now, contributed-below}
use Rattle.caf_finish.proofs.Messages.{acked-taken, even-early}
use Rattle.caf_finish.proofs.Zero.{and-le}

-- Invariant: no rank is in a wave above the contributions of another.

pub waves-near : (size : ℕ) (h : List FinishEvent) (i j : ℕ) → IsKept size h → j < size → wave_of h i ≤ contributes h j
waves-near size [] i j k lt = omega arith
waves-near size (Contribute r four ∷ h) i j k lt = let rest = waves-near size h i j k.1 lt in omega arith
waves-near size (Result r s ∷ h) i j k lt = go (r == i) refl (waves-near size h i j k.1 lt)
  where
    go : (b : Bool) → (r == i) ≡ b → wave_of h i ≤ contributes h j → bit b + wave_of h i ≤ contributes h j
    go true e rest =
        let same : wave_of h r ≡ wave_of h i = ap (wave_of h) (eqb-true r i e) in
        let below = contributed-below size h j (wave_of h r) k.1 (k.0.whole.contributed j lt) in
        omega arith
    go false e rest = omega arith
waves-near size (_ ∷ h) i j k lt = waves-near size h i j k.1 lt

-- Invariant: what was sent before its origin's last Contribute was taken.

abbrev pub IsTakenBefore : List FinishEvent → Message → Type 0
IsTakenBefore h m = m.epoch + 2 ≤ 2 * contributes h m.origin → is_taken h m.number ≡ true

new_late : (c w : ℕ) (l : Bool) → c ≡ w + bit l → (2 * w + bit l) + 2 ≤ 2 * c → ⊥
new_late c w true e le = omega arith
new_late c w false e le = omega arith

both_then : (a e t : Bool) → a ≡ true → e ≡ true → bit (a && e) ≤ bit ((a && e) && t) → t ≡ true
both_then true true true p q r = refl
both_then true true false p q r = absurd (omega arith)
both_then true false t p q r = absurd cc
both_then false e t p q r = absurd cc

-- at a Contribute, since sent equals delivered, each of the rank's even messages has its Ack
module _ (size : ℕ) (h : List FinishEvent) (j : ℕ) (four : Four) (k : IsKept size h) (may : MayContribute size h j four) where
  all_acked : Each (λ m. bit ((j == m.origin) && is_even (wave_of h j) m) ≤ bit (((j == m.origin) && is_even (wave_of h j) m) && is_acked h m.number)) (messages_of h)
  all_acked =
      let w = wave_of h j in
      let even = λ (m : Message). (j == m.origin) && is_even w m in
      let heard = λ (m : Message). ((j == m.origin) && is_even w m) && is_acked h m.number in
      let same : count_by even (messages_of h) ≡ count_by heard (messages_of h) =
      sym (ap (λ (f : Four). f.sent) may.counts) ∙ (may.delivered ∙ ap (λ (f : Four). f.delivered) may.counts) in
      count-same heard even (λ m. and-le _ _) (messages_of h) (omega arith)

  taken_now : (m : Message) → IsTakenBefore h m → bit ((j == m.origin) && is_even (wave_of h j) m) ≤ bit (((j == m.origin) && is_even (wave_of h j) m) && is_acked h m.number)
      → (b : Bool) → (j == m.origin) ≡ b → m.epoch + 2 ≤ 2 * (bit b + contributes h m.origin) → is_taken h m.number ≡ true
  taken_now m f a true e le =
      let now = contributes-now size h j four k may in
      let here : contributes h j ≡ contributes h m.origin = ap (contributes h) (eqb-true j m.origin e) in
      acked-taken size h m.number k (both_then _ _ _ e (even-early (wave_of h j) m (omega arith)) a)
  taken_now m f a false e le = f (omega arith)

  taken_at_contribute : Each (IsTakenBefore h) (messages_of h) → Each (IsTakenBefore (Contribute j four ∷ h)) (messages_of h)
  taken_at_contribute before =
      Each-weaker (λ m. IsTakenBefore h m × (bit ((j == m.origin) && is_even (wave_of h j) m) ≤ bit (((j == m.origin) && is_even (wave_of h j) m) && is_acked h m.number))) (IsTakenBefore (Contribute j four ∷ h))
      (λ m p le. taken_now m p.0 p.1 (j == m.origin) refl le) (messages_of h)
      (Each-both _ _ (messages_of h) before all_acked)

pub taken-before : (size : ℕ) (h : List FinishEvent) → IsKept size h → Each (IsTakenBefore h) (messages_of h)
taken-before size [] k = tt
taken-before size (Send m o t by ∷ h) k =
    (λ le. absurd (new_late _ _ (is_late h o) (contributes-is size h o k.1) le), taken-before size h k.1)
taken-before size (Take n ∷ h) k =
    Each-weaker (IsTakenBefore h) (IsTakenBefore (Take n ∷ h)) (λ m f le. or_right _ _ (f le)) (messages_of h) (taken-before size h k.1)
taken-before size (Contribute j four ∷ h) k = taken_at_contribute size h j four k.1 k.0 (taken-before size h k.1)
taken-before size (_ ∷ h) k = taken-before size h k.1
