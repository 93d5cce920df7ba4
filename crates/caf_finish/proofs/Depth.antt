-- Before a rank contributes in wave v it has completed each message to it of depth at most v. So waves are few.
use Rattle.std.proofs.Common.{◌≡◌, ℕ, ◌+◌, ◌-◌, ◌*◌, ◌<◌, ◌≤◌, ◌==◌, Bool, true, false, ◌&&◌, ◌||◌, List, [], ◌∷◌, inl, inr, refl, ap, sym, ◌∙◌, arith, Option, Some, None, count_by, pos, ◌-ℤ◌}
use Rattle.std.proofs.lemmas.Int.{ints}
use Rattle.std.proofs.lemmas.Bool.{cases_lt, eqb-true, or_cases, or_right, and_parts}
use Rattle.caf_base.specs.declared.four.Four.{Four}
use Rattle.caf_base.specs.Arithmetic.{is_zero}
use Rattle.caf_finish.specs.declared.event.FinishEvent.{FinishEvent}
use Rattle.caf_finish.specs.declared.event.FinishEvent.TheVariants.{Send, Complete, Contribute, Result}
use Rattle.caf_finish.specs.Events.{Message, message_in, depth_of, depth_by, greatest_depth, messages_of, is_even, sum_of_wave, is_taken, is_completed, wave_of, is_late, has_contributed, has_zero}
use Rattle.caf_finish.specs.Kept.{IsKept, MaySendBy, MayContribute}
use Rattle.caf_finish.specs.Sound.{HasFewWaves}
use Rattle.caf_finish.proofs.Lists.{bit, Each, Each-weaker, Each-both, SomeOf-each, count-each, count-same}
use Rattle.caf_finish.proofs.Waves.{contributes, contributes-is, contributes-now, contributed-below, stood-first, done_by, done_by-open, done_by-yet}
use Rattle.caf_finish.proofs.Messages.{RanksIn, ranks, completed-taken, found-some, even-early}
use Rattle.caf_finish.proofs.Totals.{sum-is}
use Rattle.caf_finish.proofs.Zero.{AllIn, is_done, sent-whole, done-whole}
use Rattle.caf_finish.proofs.Near.{waves-near, IsTakenBefore, taken-before}
use Rattle.caf_finish.proofs.Causes.{IsCause, HasCause, causes, found-deep}

-- Invariant: a message of depth at most v was completed before its target's Contribute of wave v, if that has been.
abbrev pub IsDoneInTime : List FinishEvent → Message → Type 0
IsDoneInTime h m = (v : ℕ) → m.depth ≤ v → v < contributes h m.target → done_by h m.target v m.number ≡ true

-- At a Send: the target hasn't contributed in a wave as late as the new message is deep, or its cause would be completed.

near_waves : (c d w : ℕ) (l : Bool) → c ≡ w + bit l → w ≤ d → c ≤ d + 1
near_waves c d w true e le = omega arith
near_waves c d w false e le = omega arith

module _ (size : ℕ) (h : List FinishEvent) (m o t : ℕ) (k : IsKept size h) (rank_in : o < size) where
  not_far : contributes h t ≤ contributes h o + 1
  not_far = near_waves _ _ (wave_of h t) (is_late h t) (contributes-is size h t k) (waves-near size h t o k rank_in)

  not_deep : (by : Option ℕ) → MaySendBy h o by → Each (IsDoneInTime h) (messages_of h) → (v : ℕ) → depth_by (messages_of h) by ≤ v → v < contributes h t → ⊥
  not_deep None may rest v d lt =
      let none = stood-first size h o k may in
      let near = not_far in
      omega arith
  not_deep (Some q) may rest v d lt =
      let near = not_far in
      SomeOf-each (λ x. ⊥) (IsDoneInTime h) {C = ⊥} (λ x f g. f) (messages_of h)
      (found-some (λ x. (x.target ≡ o) × (depth_of (message_in (messages_of h) q) ≡ x.depth)) (IsDoneInTime h) (λ x. ⊥) q
      (λ x same p done.
      let here : contributes h x.target ≡ contributes h o = ap (contributes h) p.0 in
      let deep = p.1 in
      let contributed : x.depth < contributes h x.target = omega arith in
      let finished = done x.depth (omega arith) contributed in
      cc (finished, done_by-open h x.target x.depth q may.1, ap (done_by h x.target x.depth) same))
      (messages_of h) (found-deep (messages_of h) q (λ x. x.target ≡ o) may.2) rest) rest

-- At a Contribute in wave v: a message of depth at most v was sent before its origin's Contribute of the wave before. So it
-- was taken, is Even, and is completed, since received equals completed.

and_more : (a c t : Bool) → (c ≡ true → t ≡ true) → bit (a && c) ≤ bit (a && t)
and_more true true t f = rw (f refl) (omega arith)
and_more true false t f = omega arith
and_more false c t f = omega arith

all_then : (a e t c : Bool) → a ≡ true → e ≡ true → t ≡ true → bit ((a && e) && t) ≤ bit ((a && e) && c) → c ≡ true
all_then true true true true p q s r = refl
all_then true true true false p q s r = absurd (omega arith)
all_then true true false c p q s r = absurd cc
all_then true false t c p q s r = absurd cc
all_then false e t c p q s r = absurd cc

module _ (size : ℕ) (h : List FinishEvent) (j : ℕ) (four : Four) (k : IsKept size h) (may : MayContribute size h j four) (rest : Each (IsDoneInTime h) (messages_of h)) where
  all_completed : Each (λ m. bit (((j == m.target) && is_even (wave_of h j) m) && is_taken h m.number) ≤ bit (((j == m.target) && is_even (wave_of h j) m) && is_completed h m.number)) (messages_of h)
  all_completed =
      let w = wave_of h j in
      let got = λ (m : Message). ((j == m.target) && is_even w m) && is_taken h m.number in
      let done = λ (m : Message). ((j == m.target) && is_even w m) && is_completed h m.number in
      let same : count_by got (messages_of h) ≡ count_by done (messages_of h) =
      sym (ap (λ (f : Four). f.received) may.counts) ∙ (may.completed ∙ ap (λ (f : Four). f.completed) may.counts) in
      count-same done got (λ m. and_more _ _ _ (completed-taken size h m.number k)) (messages_of h) (omega arith)

  sent_early : (m : Message) (v : ℕ) → HasCause h (messages_of h) m → m.depth ≤ v → v ≤ contributes h m.origin → m.epoch + 2 ≤ 2 * v
  sent_early m v (inl first) d le = let e = first.0 in let one = first.1 in omega arith
  sent_early m v (inr some) d le =
      SomeOf-each (IsCause h m) (IsDoneInTime h) {C = m.epoch + 2 ≤ 2 * v}
      (λ q p f.
      let here : contributes h q.target ≡ contributes h m.origin = ap (contributes h) p.0 in
      let deep = p.1 in
      let bound : m.epoch ≤ 2 * (v - 1) = p.2 (v - 1) (f (v - 1) (omega arith) (omega arith)) in
      omega arith)
      (messages_of h) some rest

  done_now : (m : Message) → IsDoneInTime h m → IsTakenBefore h m → HasCause h (messages_of h) m → RanksIn size m
      → bit (((j == m.target) && is_even (wave_of h j) m) && is_taken h m.number) ≤ bit (((j == m.target) && is_even (wave_of h j) m) && is_completed h m.number)
      → (b : Bool) → (j == m.target) ≡ b → (v : ℕ) → m.depth ≤ v → v < bit b + contributes h m.target → done_by h m.target v m.number ≡ true
  done_now m f t c r a false e v d lt = f v d (omega arith)
  done_now m f t c r a true e v d lt =
      elim (cases_lt v (contributes h m.target)) [
        | inl below ↦ f v d below
        | inr up_to ↦
            let now = contributes-now size h j four k may in
            let here : contributes h j ≡ contributes h m.target = ap (contributes h) (eqb-true j m.target e) in
            let near = waves-near size h j m.origin k r.0 in
            let early : m.epoch + 2 ≤ 2 * v = sent_early m v c d (omega arith) in
            done_by-yet h m.target v m.number up_to ∙ all_then _ _ _ _ e (even-early (wave_of h j) m (omega arith)) (t (omega arith)) a
      ]

  done_at_contribute : Each (IsDoneInTime (Contribute j four ∷ h)) (messages_of h)
  done_at_contribute =
      Each-weaker (λ m. (IsDoneInTime h m × IsTakenBefore h m) × ((HasCause h (messages_of h) m × RanksIn size m) × (bit (((j == m.target) && is_even (wave_of h j) m) && is_taken h m.number) ≤ bit (((j == m.target) && is_even (wave_of h j) m) && is_completed h m.number)))) (IsDoneInTime (Contribute j four ∷ h))
      (λ m p v d lt. done_now m p.0.0 p.0.1 p.1.0.0 p.1.0.1 p.1.1 (j == m.target) refl v d lt) (messages_of h)
      (Each-both _ _ (messages_of h)
      (Each-both _ _ (messages_of h) rest (taken-before size h k))
      (Each-both _ _ (messages_of h) (Each-both _ _ (messages_of h) (causes size h k) (ranks size h k)) all_completed))

pub done-in-time : (size : ℕ) (h : List FinishEvent) → IsKept size h → Each (IsDoneInTime h) (messages_of h)
done-in-time size [] k = tt
done-in-time size (Send m o t by ∷ h) k =
    (λ v d lt. absurd (not_deep size h m o t k.1 k.0.origin_in by k.0.sender (done-in-time size h k.1) v d lt), done-in-time size h k.1)
done-in-time size (Complete n ∷ h) k =
    Each-weaker (IsDoneInTime h) (IsDoneInTime (Complete n ∷ h)) (λ m f v d lt. or_right _ _ (f v d lt)) (messages_of h) (done-in-time size h k.1)
done-in-time size (Contribute j four ∷ h) k = done_at_contribute size h j four k.1 k.0 (done-in-time size h k.1)
done-in-time size (_ ∷ h) k = done-in-time size h k.1

-- In a wave that is as late as the greatest depth the sum is 0.

deep_each : (ms : List Message) (w : ℕ) → greatest_depth ms ≤ w → Each (λ m. m.depth ≤ w) ms
deep_each [] w le = tt
deep_each (x ∷ xs) w le = (omega arith, deep_each xs w (omega arith))

and_same : (a b : Bool) → b ≡ true → a ≡ (a && b)
and_same true b e = sym e
and_same false b e = refl

difference_same : (s d : ℕ) → s ≡ d → pos s -ℤ pos d ≡ pos 0
difference_same s d e = omega (arith, ints)

late_sum : (size : ℕ) (h : List FinishEvent) (w : ℕ) → IsKept size h → AllIn size h w → greatest_depth (messages_of h) ≤ w → sum_of_wave h w ≡ pos 0
late_sum size h w k all le =
    let each : Each (λ m. is_even w m ≡ is_done h w m) (messages_of h) =
    Each-weaker (λ m. (IsDoneInTime h m × RanksIn size m) × (m.depth ≤ w)) (λ m. is_even w m ≡ is_done h w m)
    (λ m p. and_same (is_even w m) _ (p.0.0 w p.1 (contributed-below size h m.target w k (all m.target p.0.1.1)))) (messages_of h)
    (Each-both (λ m. IsDoneInTime h m × RanksIn size m) (λ m. m.depth ≤ w) (messages_of h)
    (Each-both _ _ (messages_of h) (done-in-time size h k) (ranks size h k)) (deep_each (messages_of h) w le)) in
    sum-is h w ∙ difference_same _ _ (sent-whole size h w k all ∙ (count-each (is_even w) (is_done h w) (messages_of h) each ∙ sym (done-whole size h w k all)))

-- Invariant: a rank without a Result 0 is in a wave up to the greatest depth.

or_left-false : (b c : Bool) → (b || c) ≡ false → b ≡ false
or_left-false true c p = absurd cc
or_left-false false c p = refl

waves-few : (size : ℕ) (h : List FinishEvent) (i : ℕ) → IsKept size h → has_zero h i ≡ false → wave_of h i ≤ greatest_depth (messages_of h)
waves-few size [] i k z = omega arith
waves-few size (Result r s ∷ h) i k z = go (r == i) refl z (waves-few size h i k.1)
  where
    go : (b : Bool) → (r == i) ≡ b → ((b && is_zero s) || has_zero h i) ≡ false → (has_zero h i ≡ false → wave_of h i ≤ greatest_depth (messages_of h)) → bit b + wave_of h i ≤ greatest_depth (messages_of h)
    go false e z rest = let le = rest z in omega arith
    go true e z rest =
        elim (cases_lt (wave_of h i) (greatest_depth (messages_of h))) [
          | inl lt ↦ omega arith
          | inr ge ↦
              let same : wave_of h r ≡ wave_of h i = ap (wave_of h) (eqb-true r i e) in
              let none : s ≡ pos 0 = k.0.sum ∙ late_sum size h (wave_of h r) k.1 k.0.whole.contributed (omega arith) in
              absurd (cc (or_left-false (is_zero s) (has_zero h i) z, ap is_zero none))
        ]
waves-few size (Send m o t by ∷ h) i k z = let le = waves-few size h i k.1 z in omega arith
waves-few size (_ ∷ h) i k z = waves-few size h i k.1 z

-- Contributes are of waves up to the greatest depth.
pub few_waves : (size : ℕ) (h : List FinishEvent) → IsKept size h → HasFewWaves h
few_waves size [] k i w e = absurd cc
few_waves size (Contribute j four ∷ h) k i w e =
    elim (or_cases ((j == i) && (wave_of h j == w)) (has_contributed h i w) e) [
      | inl now ↦
          let wave : wave_of h j ≡ w = eqb-true (wave_of h j) w (and_parts (j == i) _ now).1 in
          let le = waves-few size h j k.1 k.0.no_zero in
          omega arith
      | inr before ↦ few_waves size h k.1 i w before
    ]
few_waves size (Send m o t by ∷ h) k i w e = let le = few_waves size h k.1 i w e in omega arith
few_waves size (_ ∷ h) k i w e = few_waves size h k.1 i w e
