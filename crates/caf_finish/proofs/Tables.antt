-- What is told of each message and of each wave after an event, how many messages run, and bounds.
use Rattle.std.proofs.Common.{◌≡◌, ℕ, suc, ◌+◌, ◌≤◌, ◌==◌, Bool, true, false, not, cond, ◌||◌, List, [], ◌∷◌, length, refl, ap, sym, ◌∙◌, arith, zero-add, Option, Some, None, count_by}
use Rattle.std.proofs.lemmas.List.Sums.{count_by-le-length}
use Rattle.std.proofs.lemmas.Bool.{eqb-true, eq-eqb}
use Rattle.caf_base.specs.declared.four.Four.{Four}
use Rattle.caf_epochs.specs.Epoch.{epoch_of}
use Rattle.caf_finish.specs.declared.event.FinishEvent.{FinishEvent}
use Rattle.caf_finish.specs.declared.event.FinishEvent.TheVariants.{Send, Take, Complete, Ack, Contribute, Relay, Result}
use Rattle.caf_finish.specs.declared.message_state.MessageState.{MessageState}
use Rattle.caf_finish.specs.declared.wave_totals.WaveTotals.{WaveTotals}
use Rattle.caf_finish.specs.Events.{Message, message_in, sent_message, messages_of, running_in, is_taken, is_completed, is_acked, wave_of, is_late}
use Rattle.caf_finish.specs.Kept.{IsKept}
use Rattle.caf_finish.specs.Totals.{contributes_in_wave, relays_in_wave}
use Rattle.caf_finish.specs.Ledger.{state_of, message_state, totals_of, one_contribute, one_relay, AreSmallTotals}
use Rattle.caf_finish.proofs.Lists.{bit, count-cons, count-add}
use Rattle.caf_finish.proofs.Messages.{new-untaken, new-open, new-unacked}
use Rattle.caf_finish.proofs.Numbers.{apart, count-marked, found-number}
use Rattle.caf_finish.proofs.Totals.{counts_sent, counts_done, sent-is, done-is}

-- a message that was just sent
abbrev pub new_state : ℕ → ℕ → ℕ → MessageState
new_state o t e = record { origin = o; target = t; epoch = e; taken = false; completed = false; acked = false }

pub message-send : (size : ℕ) (h : List FinishEvent) (m o t : ℕ) (by : Option ℕ) (n : ℕ) → IsKept size h → message_in (messages_of h) m ≡ None
    → message_state (Send m o t by ∷ h) n ≡ cond (m == n) (Some (new_state o t (epoch_of (wave_of h o) (is_late h o)))) (message_state h n)
message-send size h m o t by n k new = go (m == n)
  where
    go : (b : Bool) → state_of h (cond b (Some (sent_message h (messages_of h) m o t by)) (message_in (messages_of h) n)) ≡ cond b (Some (new_state o t (epoch_of (wave_of h o) (is_late h o)))) (message_state h n)
    go true = λ i. Some (record { origin = o; target = t; epoch = epoch_of (wave_of h o) (is_late h o); taken = new-untaken size h m k new i; completed = new-open size h m k new i; acked = new-unacked size h m k new i })
    go false = refl

-- where one mark is set for a number, the message of that number has it and the others are as before
module _ (h : List FinishEvent) (n : ℕ) (y : Message) (found : message_in (messages_of h) n ≡ Some y) (q : ℕ) where
  marked : (state : Bool → Message → MessageState) → (b : Bool) → (n == q) ≡ b
      → (o : Option Message) → message_in (messages_of h) q ≡ o
      → (new old : Option Message → Option MessageState) → new None ≡ None → old None ≡ None
      → ((x : Message) → new (Some x) ≡ Some (state (n == x.number) x)) → ((x : Message) → old (Some x) ≡ Some (state false x))
      → new o ≡ cond b (Some (state true y)) (old o)
  marked state true e o is new old new_none old_none new_some old_some =
      let found_too : message_in (messages_of h) q ≡ Some y = ap (message_in (messages_of h)) (sym (eqb-true n q e)) ∙ found in
      let own : (n == y.number) ≡ true = eq-eqb n y.number (sym (found-number n y (messages_of h) found)) in
      ap new (sym is ∙ found_too) ∙ (new_some y ∙ ap (λ b. Some (state b y)) own)
  marked state false e None is new old new_none old_none new_some old_some = new_none ∙ sym old_none
  marked state false e (Some x) is new old new_none old_none new_some old_some =
      let other : (n == x.number) ≡ false = ap (λ v. n == v) (found-number q x (messages_of h) is) ∙ e in
      new_some x ∙ (ap (λ b. Some (state b x)) other ∙ sym (old_some x))

  pub message-take : message_state (Take n ∷ h) q ≡ cond (n == q) (Some (record { origin = y.origin; target = y.target; epoch = y.epoch; taken = true; completed = is_completed h y.number; acked = is_acked h y.number })) (message_state h q)
  message-take = marked (λ b x. record { origin = x.origin; target = x.target; epoch = x.epoch; taken = b || is_taken h x.number; completed = is_completed h x.number; acked = is_acked h x.number })
      (n == q) refl (message_in (messages_of h) q) refl (state_of (Take n ∷ h)) (state_of h) refl refl (λ x. refl) (λ x. refl)

  pub message-complete : message_state (Complete n ∷ h) q ≡ cond (n == q) (Some (record { origin = y.origin; target = y.target; epoch = y.epoch; taken = is_taken h y.number; completed = true; acked = is_acked h y.number })) (message_state h q)
  message-complete = marked (λ b x. record { origin = x.origin; target = x.target; epoch = x.epoch; taken = is_taken h x.number; completed = b || is_completed h x.number; acked = is_acked h x.number })
      (n == q) refl (message_in (messages_of h) q) refl (state_of (Complete n ∷ h)) (state_of h) refl refl (λ x. refl) (λ x. refl)

  pub message-ack : message_state (Ack n ∷ h) q ≡ cond (n == q) (Some (record { origin = y.origin; target = y.target; epoch = y.epoch; taken = is_taken h y.number; completed = is_completed h y.number; acked = true })) (message_state h q)
  message-ack = marked (λ b x. record { origin = x.origin; target = x.target; epoch = x.epoch; taken = is_taken h x.number; completed = is_completed h x.number; acked = b || is_acked h x.number })
      (n == q) refl (message_in (messages_of h) q) refl (state_of (Ack n ∷ h)) (state_of h) refl refl (λ x. refl) (λ x. refl)

-- the totals of each wave after a Contribute and after a Relay

swap : (a b : ℕ) → a + b ≡ b + a
swap a b = omega arith

at_wave : (h : List FinishEvent) (f : WaveTotals → WaveTotals) (v w : ℕ) → cond (v == w) (f (totals_of h w)) (totals_of h w) ≡ cond (v == w) (f (totals_of h v)) (totals_of h w)
at_wave h f v w = go (v == w) refl
  where
    go : (b : Bool) → (v == w) ≡ b → cond b (f (totals_of h w)) (totals_of h w) ≡ cond b (f (totals_of h v)) (totals_of h w)
    go true e = ap (λ x. f (totals_of h x)) (sym (eqb-true _ _ e))
    go false e = refl

pub wave-contribute : (h : List FinishEvent) (four : Four) (j w : ℕ)
    → totals_of (Contribute j four ∷ h) w ≡ cond (wave_of h j == w) (one_contribute four (totals_of h (wave_of h j))) (totals_of h w)
wave-contribute h four j w = go (wave_of h j == w) (totals_of h w) ∙ at_wave h (one_contribute four) (wave_of h j) w
  where
    go : (b : Bool) (t : WaveTotals)
        → ◌≡◌ {A = WaveTotals} (record { contributes = cond b 1 0 + t.contributes; relays = t.relays; sent = cond b four.sent 0 + t.sent; completed = cond b four.completed 0 + t.completed }) (cond b (one_contribute four t) t)
    go true t = λ i. record { contributes = swap 1 t.contributes i; relays = t.relays; sent = swap four.sent t.sent i; completed = swap four.completed t.completed i }
    go false t = λ i. record { contributes = zero-add t.contributes i; relays = t.relays; sent = zero-add t.sent i; completed = zero-add t.completed i }

pub wave-relay : (h : List FinishEvent) (p c w : ℕ) → totals_of (Relay p c ∷ h) w ≡ cond (wave_of h c == w) (one_relay (totals_of h (wave_of h c))) (totals_of h w)
wave-relay h p c w = go (wave_of h c == w) (totals_of h w) ∙ at_wave h one_relay (wave_of h c) w
  where
    go : (b : Bool) (t : WaveTotals) → ◌≡◌ {A = WaveTotals} (record t { relays = cond b 1 0 + t.relays }) (cond b (one_relay t) t)
    go true t = λ i. record t { relays = swap 1 t.relays i }
    go false t = λ i. record t { relays = zero-add t.relays i }

-- how many messages run

all_count : (c : Message → Bool) (ms : List Message) → count_by (λ m. true) ms ≡ count_by (λ m. not (c m)) ms + count_by c ms
all_count c ms = count-add (λ m. true) (λ m. not (c m)) c (λ m. go (c m)) ms
  where
    go : (b : Bool) → 1 ≡ bit (not b) + bit b
    go true = refl
    go false = refl

pub running-send : (size : ℕ) (h : List FinishEvent) (m o t : ℕ) (by : Option ℕ) → IsKept size h → message_in (messages_of h) m ≡ None → running_in (Send m o t by ∷ h) ≡ running_in h + 1
running-send size h m o t by k new =
    let one : bit (not (is_completed h m)) ≡ 1 = ap (λ b. bit (not b)) (new-open size h m k new) in
    omega (arith, count-cons (λ y. not (is_completed h y.number)) (sent_message h (messages_of h) m o t by) (messages_of h))

pub running-complete : (size : ℕ) (h : List FinishEvent) (n : ℕ) (y : Message) → IsKept size h → message_in (messages_of h) n ≡ Some y → is_completed h n ≡ false → running_in (Complete n ∷ h) + 1 ≡ running_in h
running-complete size h n y k found unmarked =
    let ms = messages_of h in
    let a = all_count (λ m. is_completed h m.number) ms in
    let b = all_count (λ m. (n == m.number) || is_completed h m.number) ms in
    let c = count-marked (λ m. true) (is_completed h) n y unmarked ms (apart size h k) found in
    omega arith

-- no count is above the number of events

messages_le : (h : List FinishEvent) → length (messages_of h) ≤ length h
messages_le [] = omega arith
messages_le (Send m o t by ∷ h) = let le = messages_le h in omega arith
messages_le (e ∷ h) = let le = messages_le h in omega arith

pub count-few : (p : Message → Bool) (h : List FinishEvent) → count_by p (messages_of h) ≤ length h
count-few p h = omega (arith, count_by-le-length p (messages_of h), messages_le h)

bit_le : (b : Bool) (n l : ℕ) → n ≤ l → bit b + n ≤ suc l
bit_le true n l le = omega arith
bit_le false n l le = omega arith

pub wave-few : (h : List FinishEvent) (i : ℕ) → wave_of h i ≤ length h
wave-few [] i = omega arith
wave-few (Result j s ∷ h) i = bit_le (j == i) _ _ (wave-few h i)
wave-few (e ∷ h) i = let le = wave-few h i in omega arith

contributes_few : (h : List FinishEvent) (w : ℕ) → contributes_in_wave h w ≤ length h
contributes_few [] w = omega arith
contributes_few (Contribute j four ∷ h) w = bit_le (wave_of h j == w) _ _ (contributes_few h w)
contributes_few (e ∷ h) w = let le = contributes_few h w in omega arith

relays_few : (h : List FinishEvent) (w : ℕ) → relays_in_wave h w ≤ length h
relays_few [] w = omega arith
relays_few (Relay p c ∷ h) w = bit_le (wave_of h c == w) _ _ (relays_few h w)
relays_few (e ∷ h) w = let le = relays_few h w in omega arith

pub small-totals : (size : ℕ) (h : List FinishEvent) (w : ℕ) → IsKept size h → length h ≤ 1000000 → AreSmallTotals (totals_of h w)
small-totals size h w k few =
    record {
      contributes = omega (arith, contributes_few h w);
      relays = omega (arith, relays_few h w);
      sent = omega (arith, sent-is size h w k, count-few (counts_sent h w) h);
      completed = omega (arith, done-is size h w k, count-few (counts_done h w) h);
    }
