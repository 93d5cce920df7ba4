-- What the sums of a wave count: event by event, the messages sent and completed before the contributions to it.
use Rattle.std.proofs.Common.{◌≡◌, ℕ, ◌+◌, ◌*◌, ◌<◌, ◌≤◌, ◌==◌, Bool, true, false, cond, ◌&&◌, ◌||◌, leb, List, [], ◌∷◌, refl, ap, sym, ◌∙◌, arith, zero-add, subst, ℤ, pos, ◌+ℤ◌, ◌-ℤ◌, Option, count_by}
use Rattle.std.proofs.lemmas.Int.{ints}
use Rattle.std.proofs.lemmas.Bool.{eqb-true, lt-leb, false_from_ne_true}
use Rattle.caf_base.specs.declared.four.Four.{Four}
use Rattle.caf_finish.specs.declared.event.FinishEvent.{FinishEvent}
use Rattle.caf_finish.specs.declared.event.FinishEvent.TheVariants.{Send, Complete, Contribute}
use Rattle.caf_finish.specs.Events.{Message, sent_message, messages_of, is_even, sum_of_wave, is_completed, wave_of, is_late, has_contributed}
use Rattle.caf_finish.specs.Kept.{IsKept, MayContribute, MaySend}
use Rattle.caf_finish.specs.Totals.{sent_in_wave, completed_in_wave}
use Rattle.caf_finish.proofs.Lists.{bit, Each-of_all, count-cons, count-each, count-add}
use Rattle.caf_finish.proofs.Waves.{contributes, contributes-is, contributes-now, contributed-below, done_by, done_by-open, done_by-yet}
use Rattle.caf_finish.proofs.Messages.{even-late, new-open}

-- the sum of a wave is what was sent less what was completed
difference_more : (b : Bool) (s c a d : ℕ) (t : ℤ) → t ≡ pos a -ℤ pos d
    → (cond b (pos s -ℤ pos c) (pos 0)) +ℤ t ≡ pos (cond b s 0 + a) -ℤ pos (cond b c 0 + d)
difference_more true s c a d t e = omega (arith, ints)
difference_more false s c a d t e = omega (arith, ints)

pub sum-is : (h : List FinishEvent) (w : ℕ) → sum_of_wave h w ≡ pos (sent_in_wave h w) -ℤ pos (completed_in_wave h w)
sum-is [] w = refl
sum-is (Contribute j four ∷ h) w = difference_more (wave_of h j == w) four.sent four.completed _ _ _ (sum-is h w)
sum-is (_ ∷ h) w = sum-is h w

-- the message was sent before its origin's Contribute of wave w, which has been
abbrev pub counts_sent : List FinishEvent → ℕ → Message → Bool
counts_sent h w m = has_contributed h m.origin w && is_even w m

-- the message was sent and completed before the Contributes of wave w, of which its target's has been
abbrev pub counts_done : List FinishEvent → ℕ → Message → Bool
counts_done h w m = (has_contributed h m.target w && is_even w m) && done_by h m.target w m.number

-- At a Send: no wave in which the origin has contributed counts the new message, whose epoch lies above it.

epoch_above : (w c wave : ℕ) (l : Bool) → c ≡ wave + bit l → w < c → 2 * w < 2 * wave + bit l
epoch_above w c wave true e lt = omega arith
epoch_above w c wave false e lt = omega arith

apart : (a e : Bool) → (a ≡ true → e ≡ false) → (a && e) ≡ false
apart true e f = f refl
apart false e f = refl

uncounted : (p : Message → Bool) (x : Message) (ms : List Message) → p x ≡ false → count_by p ms ≡ count_by p (x ∷ ms)
uncounted p x ms e = sym (count-cons p x ms ∙ (ap (λ b. bit b + count_by p ms) e ∙ zero-add _))

module _ (size : ℕ) (h : List FinishEvent) (w m o t : ℕ) (by : Option ℕ) (k : IsKept size h) (may : MaySend size h m o t by) where
  sent_at_send : count_by (counts_sent h w) (messages_of h) ≡ count_by (counts_sent h w) (messages_of (Send m o t by ∷ h))
  sent_at_send =
      let x = sent_message h (messages_of h) m o t by in
      uncounted (counts_sent h w) x (messages_of h) (apart (has_contributed h o w) (is_even w x) (λ c.
      even-late w x (epoch_above w _ (wave_of h o) (is_late h o) (contributes-is size h o k) (contributed-below size h o w k c))))

  done_at_send : count_by (counts_done h w) (messages_of h) ≡ count_by (counts_done h w) (messages_of (Send m o t by ∷ h))
  done_at_send =
      let x = sent_message h (messages_of h) m o t by in
      uncounted (counts_done h w) x (messages_of h) (apart (has_contributed h t w && is_even w x) _ (λ c.
      done_by-open h t w m (new-open size h m k may.is_new)))

-- At a Contribute in wave w: the rank's even counts are what the wave counts more, word for word.

sent_more : (a c e : Bool) → (a ≡ true → c ≡ false) → bit (((a && true) || c) && e) ≡ bit (c && e) + bit (a && e)
sent_more true c e f = rw (f refl) (sym (zero-add (bit e)))
sent_more false true true f = refl
sent_more false true false f = refl
sent_more false false e f = refl

sent_same : (a c e : Bool) → (c && e) ≡ (((a && false) || c) && e)
sent_same true c e = refl
sent_same false c e = refl

done_more : (a c e d f : Bool) → (a ≡ true → c ≡ false) → (a ≡ true → d ≡ f) → bit ((((a && true) || c) && e) && d) ≡ bit ((c && e) && d) + bit ((a && e) && f)
done_more true c true d f p q = rw (p refl, q refl) (sym (zero-add (bit f)))
done_more true c false d f p q = rw (p refl) refl
done_more false true true true f p q = refl
done_more false true true false f p q = refl
done_more false true false d f p q = refl
done_more false false e d f p q = refl

done_same : (a c e d : Bool) → ((c && e) && d) ≡ ((((a && false) || c) && e) && d)
done_same true c e d = refl
done_same false c e d = refl

module _ (size : ℕ) (h : List FinishEvent) (j w : ℕ) (four : Four) (k : IsKept size h) (may : MayContribute size h j four) where
  not_yet : wave_of h j ≡ w → (x : ℕ) → (j == x) ≡ true → has_contributed h x w ≡ false
  not_yet wave x p =
      subst (λ x. has_contributed h x w ≡ false) (eqb-true j x p) (false_from_ne_true _ (λ t.
      let below = contributed-below size h j w k t in
      let now = contributes-now size h j four k may in
      omega arith))

  up_to_now : wave_of h j ≡ w → (x : ℕ) → (j == x) ≡ true → contributes h x ≤ w
  up_to_now wave x p = subst (λ x. contributes h x ≤ w) (eqb-true j x p) (let now = contributes-now size h j four k may in omega arith)

  sent_at_contribute : (b : Bool) → (wave_of h j == w) ≡ b
      → cond b four.sent 0 + count_by (counts_sent h w) (messages_of h)
      ≡ count_by (λ m. (((j == m.origin) && b) || has_contributed h m.origin w) && is_even w m) (messages_of h)
  sent_at_contribute true e =
      let wave : wave_of h j ≡ w = eqb-true (wave_of h j) w e in
      let mine : four.sent ≡ count_by (λ m. (j == m.origin) && is_even w m) (messages_of h) =
      ap (λ (f : Four). f.sent) may.counts ∙ ap (λ v. count_by (λ m. (j == m.origin) && is_even v m) (messages_of h)) wave in
      let all = count-add (λ m. (((j == m.origin) && true) || has_contributed h m.origin w) && is_even w m) (counts_sent h w) (λ m. (j == m.origin) && is_even w m)
      (λ m. sent_more (j == m.origin) (has_contributed h m.origin w) (is_even w m) (not_yet wave m.origin)) (messages_of h) in
      omega arith
  sent_at_contribute false e =
      zero-add _ ∙ count-each _ _ (messages_of h) (Each-of_all _ (λ m. sent_same (j == m.origin) (has_contributed h m.origin w) (is_even w m)) (messages_of h))

  done_at_contribute : (b : Bool) → (wave_of h j == w) ≡ b
      → cond b four.completed 0 + count_by (counts_done h w) (messages_of h)
      ≡ count_by (λ m. ((((j == m.target) && b) || has_contributed h m.target w) && is_even w m) && done_by h m.target w m.number) (messages_of h)
  done_at_contribute true e =
      let wave : wave_of h j ≡ w = eqb-true (wave_of h j) w e in
      let mine : four.completed ≡ count_by (λ m. ((j == m.target) && is_even w m) && is_completed h m.number) (messages_of h) =
      ap (λ (f : Four). f.completed) may.counts ∙ ap (λ v. count_by (λ m. ((j == m.target) && is_even v m) && is_completed h m.number) (messages_of h)) wave in
      let all = count-add (λ m. ((((j == m.target) && true) || has_contributed h m.target w) && is_even w m) && done_by h m.target w m.number) (counts_done h w) (λ m. ((j == m.target) && is_even w m) && is_completed h m.number)
      (λ m. done_more (j == m.target) (has_contributed h m.target w) (is_even w m) (done_by h m.target w m.number) (is_completed h m.number)
      (not_yet wave m.target) (λ p. done_by-yet h m.target w m.number (up_to_now wave m.target p))) (messages_of h) in
      omega arith
  done_at_contribute false e =
      zero-add _ ∙ count-each _ _ (messages_of h) (Each-of_all _ (λ m. done_same (j == m.target) (has_contributed h m.target w) (is_even w m) (done_by h m.target w m.number)) (messages_of h))

-- At a Complete: a wave that counts the message has its target's Contribute behind it, so that nothing becomes done by it.

unchanged : (c e a l d : Bool) → (c ≡ true → l ≡ false) → ((c && e) && d) ≡ ((c && e) && ((a && l) || d))
unchanged true true true l d f = rw (f refl) refl
unchanged true true false l d f = refl
unchanged true false a l d f = refl
unchanged false e a l d f = refl

done_at_complete : (size : ℕ) (h : List FinishEvent) (w n : ℕ) → IsKept size h
    → count_by (counts_done h w) (messages_of h) ≡ count_by (counts_done (Complete n ∷ h) w) (messages_of h)
done_at_complete size h w n k =
    count-each _ _ (messages_of h) (Each-of_all _ (λ m.
    unchanged (has_contributed h m.target w) (is_even w m) (n == m.number) (leb (contributes h m.target) w) (done_by h m.target w m.number)
    (λ c. lt-leb _ _ (contributed-below size h m.target w k c))) (messages_of h))

-- Invariant: what a wave's Contributes have sent in all is the number of messages that it counts as sent.

pub sent-is : (size : ℕ) (h : List FinishEvent) (w : ℕ) → IsKept size h → sent_in_wave h w ≡ count_by (counts_sent h w) (messages_of h)
sent-is size [] w k = refl
sent-is size (Contribute j four ∷ h) w k =
    ap (λ n. cond (wave_of h j == w) four.sent 0 + n) (sent-is size h w k.1)
    ∙ sent_at_contribute size h j w four k.1 k.0 (wave_of h j == w) refl
sent-is size (Send m o t by ∷ h) w k = sent-is size h w k.1 ∙ sent_at_send size h w m o t by k.1 k.0
sent-is size (_ ∷ h) w k = sent-is size h w k.1

-- Invariant: what they have completed in all is the number of messages that it counts as done.

pub done-is : (size : ℕ) (h : List FinishEvent) (w : ℕ) → IsKept size h → completed_in_wave h w ≡ count_by (counts_done h w) (messages_of h)
done-is size [] w k = refl
done-is size (Contribute j four ∷ h) w k =
    ap (λ n. cond (wave_of h j == w) four.completed 0 + n) (done-is size h w k.1)
    ∙ done_at_contribute size h j w four k.1 k.0 (wave_of h j == w) refl
done-is size (Send m o t by ∷ h) w k = done-is size h w k.1 ∙ done_at_send size h w m o t by k.1 k.0
done-is size (Complete n ∷ h) w k = done-is size h w k.1 ∙ done_at_complete size h w n k.1
done-is size (_ ∷ h) w k = done-is size h w k.1
