-- Zero means none: no Result is negative, and at a Result 0 each message is completed and stays so.
use Rattle.std.proofs.Common.{◌≡◌, ℕ, ◌*◌, ◌<◌, ◌≤◌, ◌==◌, Bool, true, false, ◌&&◌, ◌||◌, List, [], ◌∷◌, inl, inr, ap, sym, ◌∙◌, arith, Option, Some, None, count_by, ℤ, pos, ◌-ℤ◌, refl}
use Rattle.std.specs.Prelude.{◌≤ℤ◌}
use Rattle.std.proofs.lemmas.Int.{ints}
use Rattle.std.proofs.lemmas.Bool.{or_cases, or_right, false_from_ne_true, true_from_ne_false}
use Rattle.caf_base.specs.Arithmetic.{is_zero}
use Rattle.caf_finish.specs.declared.event.FinishEvent.{FinishEvent}
use Rattle.caf_finish.specs.declared.event.FinishEvent.TheVariants.{Stand, Send, Complete, Result}
use Rattle.caf_finish.specs.Events.{Message, messages_of, is_even, sum_of_wave, has_stood, is_completed, wave_of, has_contributed}
use Rattle.caf_finish.specs.Kept.{IsKept, MayFollow, MaySendBy}
use Rattle.caf_finish.specs.Sound.{some_zero, NoneNegative, NoSendAfterZero}
use Rattle.caf_finish.specs.Totals.{sent_in_wave, completed_in_wave}
use Rattle.caf_finish.proofs.Lists.{bit, Each, Each-weaker, Each-both, SomeOf-each, count-each, count-le, count-same}
use Rattle.caf_finish.proofs.Waves.{contributed-below, stood-first, done_by, done_by-open}
use Rattle.caf_finish.proofs.Messages.{RanksIn, ranks, found-some, even-early, zero-is}
use Rattle.caf_finish.proofs.Totals.{sum-is, counts_sent, counts_done, sent-is, done-is}
use Rattle.caf_finish.proofs.Chain.{IsChained, IsOpenAt, chained}

-- each rank of the team has contributed in wave w
abbrev pub AllIn : ℕ → List FinishEvent → ℕ → Type 0
AllIn size h w = (j : ℕ) → j < size → has_contributed h j w ≡ true

-- the message is counted in wave w, and was completed before its target contributed in it
abbrev pub is_done : List FinishEvent → ℕ → Message → Bool
is_done h w m = is_even w m && done_by h m.target w m.number

-- In a wave in which all have contributed, the sums count all messages of the wave or before, and those of them that are done.

and_first : (a b : Bool) → a ≡ true → (a && b) ≡ b
and_first true b e = refl
and_first false b e = absurd cc

and_first3 : (a b c : Bool) → a ≡ true → ((a && b) && c) ≡ (b && c)
and_first3 true b c e = refl
and_first3 false b c e = absurd cc

pub and-le : (a b : Bool) → bit (a && b) ≤ bit a
and-le true true = omega arith
and-le true false = omega arith
and-le false b = omega arith

module _ (size : ℕ) (h : List FinishEvent) (w : ℕ) (k : IsKept size h) (all : AllIn size h w) where
  pub sent-whole : sent_in_wave h w ≡ count_by (is_even w) (messages_of h)
  sent-whole = sent-is size h w k ∙ count-each (counts_sent h w) (is_even w) (messages_of h)
      (Each-weaker (RanksIn size) (λ m. counts_sent h w m ≡ is_even w m) (λ m r. and_first _ _ (all m.origin r.0)) (messages_of h) (ranks size h k))

  pub done-whole : completed_in_wave h w ≡ count_by (is_done h w) (messages_of h)
  done-whole = done-is size h w k ∙ count-each (counts_done h w) (is_done h w) (messages_of h)
      (Each-weaker (RanksIn size) (λ m. counts_done h w m ≡ is_done h w m) (λ m r. and_first3 _ _ _ (all m.target r.1)) (messages_of h) (ranks size h k))

  done_within : completed_in_wave h w ≤ sent_in_wave h w
  done_within =
      let a = sent-whole in
      let b = done-whole in
      let c = count-le (is_done h w) (is_even w) (λ m. and-le (is_even w m) (done_by h m.target w m.number)) (messages_of h) in
      omega arith

-- No Result is negative.

difference_positive : (s d : ℕ) (t : ℤ) → t ≡ pos s -ℤ pos d → d ≤ s → pos 0 ≤ℤ t
difference_positive s d t e le = omega (arith, ints)

pub none-negative : (size : ℕ) (h : List FinishEvent) → IsKept size h → NoneNegative h
none-negative size [] k = tt
none-negative size (Result i s ∷ h) k = (
  difference_positive _ _ s (k.0.sum ∙ sum-is h (wave_of h i)) (done_within size h (wave_of h i) k.1 k.0.whole.contributed),
  none-negative size h k.1,
)
none-negative size (_ ∷ h) k = none-negative size h k.1

-- A Result 0 finds all messages completed, and all ranks standing.

pub record IsQuiet (size : ℕ) (h : List FinishEvent) : Type 0 where
  pub completed : Each (λ m. is_completed h m.number ≡ true) (messages_of h)
  pub stood : (i : ℕ) → i < size → has_stood h i ≡ true

difference_zero : (s d : ℕ) → pos s -ℤ pos d ≡ pos 0 → s ≤ d
difference_zero s d e = omega (arith, ints)

both_count : (a b : Bool) → a ≡ true → bit a ≤ bit (a && b) → b ≡ true
both_count true true p q = refl
both_count true false p q = absurd (omega arith)
both_count false b p q = absurd cc

done_completed : (h : List FinishEvent) (t v n : ℕ) → done_by h t v n ≡ true → is_completed h n ≡ true
done_completed h t v n d = true_from_ne_false _ (λ f. absurd (cc (d, done_by-open h t v n f)))

module _ (size : ℕ) (h : List FinishEvent) (w : ℕ) (k : IsKept size h) (all : AllIn size h w) (zero : sum_of_wave h w ≡ pos 0) where
  counted_done : Each (λ m. bit (is_even w m) ≤ bit (is_done h w m)) (messages_of h)
  counted_done =
      let a = sent-whole size h w k all in
      let b = done-whole size h w k all in
      let c : sent_in_wave h w ≤ completed_in_wave h w = difference_zero _ _ (sym (sum-is h w) ∙ zero) in
      count-same (is_done h w) (is_even w) (λ m. and-le (is_even w m) (done_by h m.target w m.number)) (messages_of h) (omega arith)

  -- by the chain: no message is of a later wave, since nothing that the wave counts was open
  all_completed : IsChained h w → Each (λ m. is_completed h m.number ≡ true) (messages_of h)
  all_completed (inl early) =
      Each-weaker (λ m. (bit (is_even w m) ≤ bit (is_done h w m)) × (m.epoch ≤ 2 * w)) (λ m. is_completed h m.number ≡ true)
      (λ m p. done_completed h m.target w m.number (both_count _ _ (even-early w m p.1) p.0)) (messages_of h)
      (Each-both _ _ (messages_of h) counted_done early)
  all_completed (inr some) =
      absurd (SomeOf-each (IsOpenAt h w) (λ m. bit (is_even w m) ≤ bit (is_done h w m)) {C = ⊥}
      (λ m o d. cc (both_count _ _ (even-early w m o.0) d, o.1)) (messages_of h) some counted_done)

  all_stood : (i : ℕ) → i < size → has_stood h i ≡ true
  all_stood i lt = true_from_ne_false _ (λ f.
      let none = stood-first size h i k f in
      let some = contributed-below size h i w k (all i lt) in
      absurd (omega arith))

  zero_quiet : IsQuiet size h
  zero_quiet = record { completed = all_completed (chained size h w k); stood = all_stood }

-- Behind that no message is sent, and it stays so at each event.

quiet_no_send : (size : ℕ) (h : List FinishEvent) (o : ℕ) (by : Option ℕ) → o < size → IsQuiet size h → MaySendBy h o by → ⊥
quiet_no_send size h o None lt q may = cc (q.stood o lt, may)
quiet_no_send size h o (Some n) lt q may =
    SomeOf-each (λ x. ⊥) (λ x. is_completed h x.number ≡ true) {C = ⊥} (λ x f g. f) (messages_of h)
    (found-some (λ x. x.target ≡ o) (λ x. is_completed h x.number ≡ true) (λ x. ⊥) n
    (λ x same here done. cc (done, ap (is_completed h) same, may.1)) (messages_of h) may.2 q.completed)
    q.completed

quiet_stays : (size : ℕ) (h : List FinishEvent) (e : FinishEvent) → MayFollow size h e → IsQuiet size h → IsQuiet size (e ∷ h)
quiet_stays size h (Stand j) may q = record { completed = q.completed; stood = λ i lt. or_right _ _ (q.stood i lt) }
quiet_stays size h (Send m o t by) may q = absurd (quiet_no_send size h o by may.origin_in q may.sender)
quiet_stays size h (Complete n) may q =
    record {
      completed = Each-weaker (λ m. is_completed h m.number ≡ true) (λ m. ((n == m.number) || is_completed h m.number) ≡ true) (λ m d. or_right _ _ d) (messages_of h) q.completed;
      stood = q.stood;
    }
quiet_stays size h _ may q = record { completed = q.completed; stood = q.stood }

-- Invariant: where there is a Result 0, all is quiet.
pub quiet : (size : ℕ) (h : List FinishEvent) → IsKept size h → some_zero h ≡ true → IsQuiet size h
quiet size [] k z = absurd cc
quiet size (Result i s ∷ h) k z =
    quiet_stays size h (Result i s) k.0
    (elim (or_cases (is_zero s) (some_zero h) z) [
      | inl now ↦ zero_quiet size h (wave_of h i) k.1 k.0.whole.contributed (sym k.0.sum ∙ zero-is s now)
      | inr before ↦ quiet size h k.1 before
    ])
quiet size (e ∷ h) k z = quiet_stays size h e k.0 (quiet size h k.1 z)

pub no-send : (size : ℕ) (h : List FinishEvent) → IsKept size h → NoSendAfterZero h
no-send size [] k = tt
no-send size (Send m o t by ∷ h) k =
    (false_from_ne_true _ (λ z. quiet_no_send size h o by k.0.origin_in (quiet size h k.1 z) k.0.sender), no-send size h k.1)
no-send size (_ ∷ h) k = no-send size h k.1
