-- The counts of each rank, by class, after an event that counts a message.
use Rattle.std.proofs.Common.{◌≡◌, ℕ, ◌+◌, ◌*◌, ◌==◌, Bool, true, false, not, cond, ◌&&◌, nat_lt, List, ◌∷◌, refl, ap, ◌∙◌, arith, zero-add, Option, Some, None, count_by}
use Rattle.caf_base.specs.declared.four.Four.{Four}
use Rattle.caf_epochs.specs.declared.counters.Class.TheVariants.{Even, Odd}
use Rattle.caf_epochs.specs.declared.counters.Counters.{Counters}
use Rattle.caf_epochs.specs.Epoch.{class_of}
use Rattle.caf_epochs.specs.Counters.{in_class}
use Rattle.caf_finish.specs.declared.counted.Counted.{Counted}
use Rattle.caf_finish.specs.declared.counted.Counted.TheVariants.{Sent, Delivered, Received, Completed}
use Rattle.caf_finish.specs.declared.event.FinishEvent.{FinishEvent}
use Rattle.caf_finish.specs.declared.event.FinishEvent.TheVariants.{Send, Take, Complete, Ack}
use Rattle.caf_finish.specs.Account.{one_more}
use Rattle.caf_finish.specs.Events.{Message, message_in, sent_message, messages_of, is_class_even, is_even, is_odd, counts_of, is_taken, is_completed, is_acked, wave_of}
use Rattle.caf_finish.specs.Kept.{IsKept}
use Rattle.caf_finish.specs.Ledger.{counters_of}
use Rattle.caf_finish.proofs.Lists.{bit, count-cons}
use Rattle.caf_finish.proofs.Messages.{new-untaken, new-open, new-unacked}
use Rattle.caf_finish.proofs.Numbers.{apart, count-marked}

pub four-same : {a b c d a' b' c' d' : ℕ} → a ≡ a' → b ≡ b' → c ≡ c' → d ≡ d'
    → ◌≡◌ {A = Four} (record { sent = a; delivered = b; received = c; completed = d }) (record { sent = a'; delivered = b'; received = c'; completed = d' })
four-same p q r s = λ i. record { sent = p i; delivered = q i; received = r i; completed = s i }

-- so many more of a kind
abbrev pub more : Counted → ℕ → Four → Four
more Sent n four = record four { sent = n + four.sent }
more Delivered n four = record four { delivered = n + four.delivered }
more Received n four = record four { received = n + four.received }
more Completed n four = record four { completed = n + four.completed }

one_plus : (n : ℕ) → 1 + n ≡ n + 1
one_plus n = omega arith

more-none : (what : Counted) (four : Four) → more what 0 four ≡ four
more-none Sent four = λ i. record four { sent = zero-add four.sent i }
more-none Delivered four = λ i. record four { delivered = zero-add four.delivered i }
more-none Received four = λ i. record four { received = zero-add four.received i }
more-none Completed four = λ i. record four { completed = zero-add four.completed i }

more-one : (what : Counted) (four : Four) → more what 1 four ≡ one_more what four
more-one Sent four = λ i. record four { sent = one_plus four.sent i }
more-one Delivered four = λ i. record four { delivered = one_plus four.delivered i }
more-one Received four = λ i. record four { received = one_plus four.received i }
more-one Completed four = λ i. record four { completed = one_plus four.completed i }

-- the counts of both classes, where the message y is counted once more if b is true
pub counted-at : (what : Counted) (counters : Counters) (w : ℕ) (b : Bool) (y : Message)
    → ◌≡◌ {A = Counters} (record { even = more what (bit (b && is_even w y)) counters.even; odd = more what (bit (b && is_odd w y)) counters.odd })
    (cond b (in_class (class_of y.epoch w) (one_more what) counters) counters)
counted-at what counters w false y = λ i. record { even = more-none what counters.even i; odd = more-none what counters.odd i }
counted-at what counters w true y = go (nat_lt y.epoch (2 * w + 1))
  where
    go : (c : Bool) → ◌≡◌ {A = Counters} (record { even = more what (bit (is_class_even (cond c Even Odd))) counters.even; odd = more what (bit (not (is_class_even (cond c Even Odd)))) counters.odd })
        (in_class (cond c Even Odd) (one_more what) counters)
    go true = λ i. record { even = more-one what counters.even i; odd = more-none what counters.odd i }
    go false = λ i. record { even = more-none what counters.even i; odd = more-one what counters.odd i }

-- the counts over a class after each event that counts a message

new_uncounted : (p mark : Message → Bool) (x : Message) (ms : List Message) → mark x ≡ false → count_by (λ y. p y && mark y) (x ∷ ms) ≡ count_by (λ y. p y && mark y) ms
new_uncounted p mark x ms e = count-cons (λ y. p y && mark y) x ms ∙ (ap (λ n. n + count_by (λ y. p y && mark y) ms) (none (p x) (mark x) e) ∙ zero-add _)
  where
    none : (a b : Bool) → b ≡ false → bit (a && b) ≡ 0
    none true b e = ap bit e
    none false b e = refl

counts_at_send : (size : ℕ) (h : List FinishEvent) (c : Message → Bool) (m o t : ℕ) (by : Option ℕ) (i : ℕ) → IsKept size h → message_in (messages_of h) m ≡ None
    → counts_of c (Send m o t by ∷ h) i ≡ more Sent (bit ((i == o) && c (sent_message h (messages_of h) m o t by))) (counts_of c h i)
counts_at_send size h c m o t by i k new =
    let x = sent_message h (messages_of h) m o t by in
    let ms = messages_of h in
    four-same
    (count-cons (λ y. (i == y.origin) && c y) x ms)
    (new_uncounted (λ y. (i == y.origin) && c y) (λ y. is_acked h y.number) x ms (new-unacked size h m k new))
    (new_uncounted (λ y. (i == y.target) && c y) (λ y. is_taken h y.number) x ms (new-untaken size h m k new))
    (new_uncounted (λ y. (i == y.target) && c y) (λ y. is_completed h y.number) x ms (new-open size h m k new))

module _ (size : ℕ) (h : List FinishEvent) (k : IsKept size h) (c : Message → Bool) (n : ℕ) (y : Message) (found : message_in (messages_of h) n ≡ Some y) (i : ℕ) where
  counts_at_take : is_taken h n ≡ false → counts_of c (Take n ∷ h) i ≡ more Received (bit ((i == y.target) && c y)) (counts_of c h i)
  counts_at_take e = four-same refl refl (count-marked (λ m. (i == m.target) && c m) (is_taken h) n y e (messages_of h) (apart size h k) found) refl

  counts_at_complete : is_completed h n ≡ false → counts_of c (Complete n ∷ h) i ≡ more Completed (bit ((i == y.target) && c y)) (counts_of c h i)
  counts_at_complete e = four-same refl refl refl (count-marked (λ m. (i == m.target) && c m) (is_completed h) n y e (messages_of h) (apart size h k) found)

  counts_at_ack : is_acked h n ≡ false → counts_of c (Ack n ∷ h) i ≡ more Delivered (bit ((i == y.origin) && c y)) (counts_of c h i)
  counts_at_ack e = four-same refl (count-marked (λ m. (i == m.origin) && c m) (is_acked h) n y e (messages_of h) (apart size h k) found) refl refl

-- the counters of a rank after each of these events

pub counters-same : {a b a' b' : Four} → a ≡ a' → b ≡ b' → ◌≡◌ {A = Counters} (record { even = a; odd = b }) (record { even = a'; odd = b' })
counters-same p q = λ i. record { even = p i; odd = q i }

pub counters-send : (size : ℕ) (h : List FinishEvent) (m o t : ℕ) (by : Option ℕ) (i : ℕ) → IsKept size h → message_in (messages_of h) m ≡ None
    → counters_of (Send m o t by ∷ h) i ≡ cond (i == o) (in_class (class_of (sent_message h (messages_of h) m o t by).epoch (wave_of h i)) (one_more Sent) (counters_of h i)) (counters_of h i)
counters-send size h m o t by i k new =
    counters-same (counts_at_send size h (is_even (wave_of h i)) m o t by i k new) (counts_at_send size h (is_odd (wave_of h i)) m o t by i k new)
    ∙ counted-at Sent (counters_of h i) (wave_of h i) (i == o) (sent_message h (messages_of h) m o t by)

module _ (size : ℕ) (h : List FinishEvent) (k : IsKept size h) (n : ℕ) (y : Message) (found : message_in (messages_of h) n ≡ Some y) (i : ℕ) where
  pub counters-take : is_taken h n ≡ false → counters_of (Take n ∷ h) i ≡ cond (i == y.target) (in_class (class_of y.epoch (wave_of h i)) (one_more Received) (counters_of h i)) (counters_of h i)
  counters-take e =
      counters-same (counts_at_take size h k (is_even (wave_of h i)) n y found i e) (counts_at_take size h k (is_odd (wave_of h i)) n y found i e)
      ∙ counted-at Received (counters_of h i) (wave_of h i) (i == y.target) y

  pub counters-complete : is_completed h n ≡ false → counters_of (Complete n ∷ h) i ≡ cond (i == y.target) (in_class (class_of y.epoch (wave_of h i)) (one_more Completed) (counters_of h i)) (counters_of h i)
  counters-complete e =
      counters-same (counts_at_complete size h k (is_even (wave_of h i)) n y found i e) (counts_at_complete size h k (is_odd (wave_of h i)) n y found i e)
      ∙ counted-at Completed (counters_of h i) (wave_of h i) (i == y.target) y

  pub counters-ack : is_acked h n ≡ false → counters_of (Ack n ∷ h) i ≡ cond (i == y.origin) (in_class (class_of y.epoch (wave_of h i)) (one_more Delivered) (counters_of h i)) (counters_of h i)
  counters-ack e =
      counters-same (counts_at_ack size h k (is_even (wave_of h i)) n y found i e) (counts_at_ack size h k (is_odd (wave_of h i)) n y found i e)
      ∙ counted-at Delivered (counters_of h i) (wave_of h i) (i == y.origin) y
