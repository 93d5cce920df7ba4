-- At a Result the odd counts join the even ones, and no odd ones are left.
use Rattle.std.proofs.Common.{◌≡◌, ℕ, ◌+◌, ◌*◌, ◌≤◌, ◌==◌, Bool, true, false, not, ◌&&◌, List, [], ◌∷◌, refl, ap, arith, count_by}
use Rattle.std.proofs.lemmas.Bool.{eqb-true}
use Rattle.caf_epochs.specs.Counters.{no_four, sum_of_fours}
use Rattle.caf_finish.specs.declared.event.FinishEvent.{FinishEvent}
use Rattle.caf_finish.specs.Events.{Message, messages_of, is_even, is_odd, counts_of, even_of, odd_of, is_taken, is_completed, is_acked, wave_of, is_late}
use Rattle.caf_finish.specs.Kept.{IsKept}
use Rattle.caf_finish.proofs.Lists.{bit, Each, Each-weaker, count-cons, count-none}
use Rattle.caf_finish.proofs.Messages.{completed-taken, even-early}
use Rattle.caf_finish.proofs.Stamps.{IsSentInTime, sent-stamps, IsTakenInTime, taken-stamps}
use Rattle.caf_finish.proofs.Counts.{four-same}

-- where each element counts in one part or in the other
count-split : {X : Type 0} (r p q : X → Bool) → (xs : List X) → Each (λ x. bit (r x) ≡ bit (p x) + bit (q x)) xs → count_by r xs ≡ count_by p xs + count_by q xs
count-split r p q [] e = refl
count-split r p q (x ∷ xs) e =
    let here = e.0 in
    let rest = count-split r p q xs e.1 in
    omega (arith, count-cons r x xs, count-cons p x xs, count-cons q x xs)

-- a message stamped up to wave w is Even in the next wave, where it was Even or Odd in this one
both_classes : (b : Bool) → 1 ≡ bit b + bit (not b)
both_classes true = refl
both_classes false = refl

module _ (w : ℕ) (m : Message) where
  even_next : m.epoch ≤ 2 * w + 1 → is_even (1 + w) m ≡ true
  even_next le = even-early (1 + w) m (omega arith)

  split_at : (b : Bool) → (b ≡ true → m.epoch ≤ 2 * w + 1) → bit (b && is_even (1 + w) m) ≡ bit (b && is_even w m) + bit (b && is_odd w m)
  split_at false f = refl
  split_at true f = rw (even_next (f refl)) (both_classes (is_even w m))

  none_at : (b : Bool) → (b ≡ true → m.epoch ≤ 2 * w + 1) → (b && is_odd (1 + w) m) ≡ false
  none_at false f = refl
  none_at true f = ap not (even_next (f refl))

-- the same where only marked messages count
marked_all : (x : Bool) → (x && true) ≡ x
marked_all true = refl
marked_all false = refl

marked_none : (x : Bool) → (x && false) ≡ false
marked_none true = refl
marked_none false = refl

split_marked : (x y z mark : Bool) → (mark ≡ true → bit x ≡ bit y + bit z) → bit (x && mark) ≡ bit (y && mark) + bit (z && mark)
split_marked x y z true f = rw (marked_all x, marked_all y, marked_all z) (f refl)
split_marked x y z false f = rw (marked_none x, marked_none y, marked_none z) refl

none_marked : (x mark : Bool) → (mark ≡ true → x ≡ false) → (x && mark) ≡ false
none_marked x true f = rw (f refl) refl
none_marked x false f = marked_none x

module _ (size : ℕ) (h : List FinishEvent) (k : IsKept size h) (i : ℕ) where
  -- the messages of the rank were stamped up to its wave
  sent_bound : (m : Message) (l : Bool) → m.epoch ≤ 2 * wave_of h m.origin + bit l → (i == m.origin) ≡ true → m.epoch ≤ 2 * wave_of h i + 1
  sent_bound m true le e = let w = ap (wave_of h) (eqb-true i m.origin e) in omega arith
  sent_bound m false le e = let w = ap (wave_of h) (eqb-true i m.origin e) in omega arith

  abbrev IsMineSent : Message → Type 0
  IsMineSent m = (i == m.origin) ≡ true → m.epoch ≤ 2 * wave_of h i + 1

  abbrev IsMineTaken : Message → Type 0
  IsMineTaken m = is_taken h m.number ≡ true → (i == m.target) ≡ true → m.epoch ≤ 2 * wave_of h i + 1

  sent_bounds : Each IsMineSent (messages_of h)
  sent_bounds = Each-weaker (IsSentInTime h) IsMineSent (λ m le e. sent_bound m (is_late h m.origin) le e) (messages_of h) (sent-stamps size h k)

  taken_bounds : Each IsMineTaken (messages_of h)
  taken_bounds = Each-weaker (IsTakenInTime h) IsMineTaken
      (λ m f t e. let le = f t in let w = ap (wave_of h) (eqb-true i m.target e) in omega arith) (messages_of h) (taken-stamps size h k)

  pub fold-even : counts_of (is_even (1 + wave_of h i)) h i ≡ sum_of_fours (even_of h i) (odd_of h i)
  fold-even =
      let w = wave_of h i in
      four-same
      (count-split (λ m. (i == m.origin) && is_even (1 + w) m) (λ m. (i == m.origin) && is_even w m) (λ m. (i == m.origin) && is_odd w m) (messages_of h)
      (Each-weaker IsMineSent _ (λ m f. split_at w m (i == m.origin) f) (messages_of h) sent_bounds))
      (count-split (λ m. ((i == m.origin) && is_even (1 + w) m) && is_acked h m.number) (λ m. ((i == m.origin) && is_even w m) && is_acked h m.number) (λ m. ((i == m.origin) && is_odd w m) && is_acked h m.number) (messages_of h)
      (Each-weaker IsMineSent _ (λ m f. split_marked _ _ _ (is_acked h m.number) (λ t. split_at w m (i == m.origin) f)) (messages_of h) sent_bounds))
      (count-split (λ m. ((i == m.target) && is_even (1 + w) m) && is_taken h m.number) (λ m. ((i == m.target) && is_even w m) && is_taken h m.number) (λ m. ((i == m.target) && is_odd w m) && is_taken h m.number) (messages_of h)
      (Each-weaker IsMineTaken _ (λ m f. split_marked _ _ _ (is_taken h m.number) (λ t. split_at w m (i == m.target) (f t))) (messages_of h) taken_bounds))
      (count-split (λ m. ((i == m.target) && is_even (1 + w) m) && is_completed h m.number) (λ m. ((i == m.target) && is_even w m) && is_completed h m.number) (λ m. ((i == m.target) && is_odd w m) && is_completed h m.number) (messages_of h)
      (Each-weaker IsMineTaken _ (λ m f. split_marked _ _ _ (is_completed h m.number) (λ t. split_at w m (i == m.target) (f (completed-taken size h m.number k t)))) (messages_of h) taken_bounds))

  pub fold-odd : counts_of (is_odd (1 + wave_of h i)) h i ≡ no_four
  fold-odd =
      let w = wave_of h i in
      four-same
      (count-none (λ m. (i == m.origin) && is_odd (1 + w) m) (messages_of h)
      (Each-weaker IsMineSent _ (λ m f. none_at w m (i == m.origin) f) (messages_of h) sent_bounds))
      (count-none (λ m. ((i == m.origin) && is_odd (1 + w) m) && is_acked h m.number) (messages_of h)
      (Each-weaker IsMineSent _ (λ m f. none_marked _ (is_acked h m.number) (λ t. none_at w m (i == m.origin) f)) (messages_of h) sent_bounds))
      (count-none (λ m. ((i == m.target) && is_odd (1 + w) m) && is_taken h m.number) (messages_of h)
      (Each-weaker IsMineTaken _ (λ m f. none_marked _ (is_taken h m.number) (λ t. none_at w m (i == m.target) (f t))) (messages_of h) taken_bounds))
      (count-none (λ m. ((i == m.target) && is_odd (1 + w) m) && is_completed h m.number) (messages_of h)
      (Each-weaker IsMineTaken _ (λ m f. none_marked _ (is_completed h m.number) (λ t. none_at w m (i == m.target) (f (completed-taken size h m.number k t)))) (messages_of h) taken_bounds))
