-- What is told of each rank after an event: one rank changes.
use Rattle.std.proofs.Common.{◌≡◌, ℕ, ◌+◌, ◌≤◌, ◌==◌, Bool, true, false, cond, ◌&&◌, ◌||◌, List, [], ◌∷◌, inl, inr, refl, ap, sym, ◌∙◌, arith, zero-add, subst, Option, Some, None, ℤ}
use Rattle.std.proofs.lemmas.Bool.{cases_eq, eqb-true, eq-eqb, ne_eqb, or_cases, and_parts, false_from_ne_true}
use Rattle.caf_base.specs.declared.four.Four.{Four}
use Rattle.caf_base.specs.Arithmetic.{is_zero}
use Rattle.caf_epochs.specs.Epoch.{epoch_of, class_of}
use Rattle.caf_epochs.specs.Counters.{in_class}
use Rattle.caf_finish.specs.declared.counted.Counted.{Counted}
use Rattle.caf_finish.specs.declared.counted.Counted.TheVariants.{Sent, Delivered, Received, Completed}
use Rattle.caf_finish.specs.declared.event.FinishEvent.{FinishEvent}
use Rattle.caf_finish.specs.declared.event.FinishEvent.TheVariants.{Stand, Send, Take, Complete, Ack, Contribute, Relay, Result, Leave}
use Rattle.caf_finish.specs.declared.rank_state.RankState.{RankState}
use Rattle.caf_finish.specs.Account.{is_over, one_more}
use Rattle.caf_finish.specs.Events.{Message, message_in, messages_of, is_even, is_odd, counts_of, has_stood, has_left, is_taken, is_completed, is_acked, wave_of, is_late, last_result, has_zero, was_relayed}
use Rattle.caf_finish.specs.Kept.{IsKept}
use Rattle.caf_finish.specs.Ledger.{counters_of, rank_state, counted_state, state_after_result}
use Rattle.caf_finish.proofs.Lists.{bit}
use Rattle.caf_finish.proofs.Counts.{counters-send, counters-take, counters-complete, counters-ack, counters-same}
use Rattle.caf_finish.proofs.Folds.{fold-even, fold-odd}

-- a change at the one rank j, told at any rank i
at_rank : (g : ℕ → RankState) (F : Bool → RankState → RankState) → ((s : RankState) → F false s ≡ s) → (j i : ℕ) → F (j == i) (g i) ≡ cond (j == i) (F true (g j)) (g i)
at_rank g F same j i = go (j == i) refl
  where
    go : (b : Bool) → (j == i) ≡ b → F b (g i) ≡ cond b (F true (g j)) (g i)
    go true e = ap (λ n. F true (g n)) (sym (eqb-true j i e))
    go false e = same (g i)

eqb_swap : (j i : ℕ) → (j == i) ≡ (i == j)
eqb_swap j i =
    elim (cases_eq j i) [
      | inl e ↦ eq-eqb j i e ∙ sym (eq-eqb i j (sym e))
      | inr n ↦ ne_eqb j i n ∙ sym (ne_eqb i j (λ e. n (sym e)))
    ]

-- a message that is counted at one rank
counted_at : (what : Counted) (epoch : ℕ) (h : List FinishEvent) (j i : ℕ)
    → (record (rank_state h i) { counters = cond (i == j) (in_class (class_of epoch (wave_of h i)) (one_more what) (counters_of h i)) (counters_of h i) })
    ≡ cond (j == i) (counted_state what epoch (rank_state h j)) (rank_state h i)
counted_at what epoch h j i =
    go (i == j)
    ∙ (ap (λ b. cond b (counted_state what epoch (rank_state h i)) (rank_state h i)) (eqb_swap i j)
    ∙ at_rank (rank_state h) (λ b s. cond b (counted_state what epoch s) s) (λ s. refl) j i)
  where
    go : (b : Bool) → (record (rank_state h i) { counters = cond b (in_class (class_of epoch (wave_of h i)) (one_more what) (counters_of h i)) (counters_of h i) })
        ≡ cond b (counted_state what epoch (rank_state h i)) (rank_state h i)
    go true = refl
    go false = refl

pub rank-send : (size : ℕ) (h : List FinishEvent) (m o t : ℕ) (by : Option ℕ) (i : ℕ) → IsKept size h → message_in (messages_of h) m ≡ None
    → rank_state (Send m o t by ∷ h) i ≡ cond (o == i) (counted_state Sent (epoch_of (wave_of h o) (is_late h o)) (rank_state h o)) (rank_state h i)
rank-send size h m o t by i k new =
    ap (λ c. record (rank_state h i) { counters = c }) (counters-send size h m o t by i k new)
    ∙ counted_at Sent (epoch_of (wave_of h o) (is_late h o)) h o i

module _ (size : ℕ) (h : List FinishEvent) (k : IsKept size h) (n : ℕ) (y : Message) (found : message_in (messages_of h) n ≡ Some y) (i : ℕ) where
  pub rank-take : is_taken h n ≡ false → rank_state (Take n ∷ h) i ≡ cond (y.target == i) (counted_state Received y.epoch (rank_state h y.target)) (rank_state h i)
  rank-take e =
      ap (λ c. record (rank_state h i) { counters = c }) (counters-take size h k n y found i e)
      ∙ counted_at Received y.epoch h y.target i

  pub rank-complete : is_completed h n ≡ false → rank_state (Complete n ∷ h) i ≡ cond (y.target == i) (counted_state Completed y.epoch (rank_state h y.target)) (rank_state h i)
  rank-complete e =
      ap (λ c. record (rank_state h i) { counters = c }) (counters-complete size h k n y found i e)
      ∙ counted_at Completed y.epoch h y.target i

  pub rank-ack : is_acked h n ≡ false → rank_state (Ack n ∷ h) i ≡ cond (y.origin == i) (counted_state Delivered y.epoch (rank_state h y.origin)) (rank_state h i)
  rank-ack e =
      ap (λ c. record (rank_state h i) { counters = c }) (counters-ack size h k n y found i e)
      ∙ counted_at Delivered y.epoch h y.origin i

pub rank-stand : (h : List FinishEvent) (j i : ℕ) → rank_state (Stand j ∷ h) i ≡ cond (j == i) (record (rank_state h j) { stood = true }) (rank_state h i)
rank-stand h j i = at_rank (rank_state h) (λ b s. record s { stood = b || s.stood }) (λ s. refl) j i

pub rank-leave : (h : List FinishEvent) (j i : ℕ) → rank_state (Leave j ∷ h) i ≡ cond (j == i) (record (rank_state h j) { left = true }) (rank_state h i)
rank-leave h j i = at_rank (rank_state h) (λ b s. record s { left = b || s.left }) (λ s. refl) j i

pub rank-contribute : (h : List FinishEvent) (four : Four) (j i : ℕ) → rank_state (Contribute j four ∷ h) i ≡ cond (j == i) (record (rank_state h j) { late = true }) (rank_state h i)
rank-contribute h four j i = at_rank (rank_state h) (λ b s. record s { late = cond b true s.late }) (λ s. refl) j i

pub rank-relay : (h : List FinishEvent) (p j i : ℕ) → rank_state (Relay p j ∷ h) i ≡ cond (j == i) (record (rank_state h j) { relayed = true }) (rank_state h i)
rank-relay h p j i =
    ap (λ b. record (rank_state h i) { relayed = b || was_relayed h i (wave_of h i) }) (go (j == i) refl)
    ∙ at_rank (rank_state h) (λ b s. record s { relayed = b || s.relayed }) (λ s. refl) j i
  where
    go : (b : Bool) → (j == i) ≡ b → (b && (wave_of h j == wave_of h i)) ≡ b
    go true e = eq-eqb _ _ (ap (wave_of h) (eqb-true j i e))
    go false e = refl

-- Invariant: a rank was relayed in its present wave or before.

relay_now : (h : List FinishEvent) (j i w : ℕ) → ((j == i) && (wave_of h j == w)) ≡ true → w ≤ wave_of h i
relay_now h j i w both =
    let p = and_parts (j == i) (wave_of h j == w) both in
    let same = ap (wave_of h) (eqb-true j i p.0) in
    let wave = eqb-true (wave_of h j) w p.1 in
    omega arith

relayed_within : (size : ℕ) (h : List FinishEvent) (i w : ℕ) → IsKept size h → was_relayed h i w ≡ true → w ≤ wave_of h i
relayed_within size [] i w k e = absurd cc
relayed_within size (Relay p j ∷ h) i w k e =
    elim (or_cases ((j == i) && (wave_of h j == w)) (was_relayed h i w) e) [
      | inl now ↦ relay_now h j i w now
      | inr before ↦ relayed_within size h i w k.1 before
    ]
relayed_within size (Result j s ∷ h) i w k e = let le = relayed_within size h i w k.1 e in omega arith
relayed_within size (_ ∷ h) i w k e = relayed_within size h i w k.1 e

-- a rank in wave w, by what else is told of it
abbrev in_wave : List FinishEvent → ℕ → Bool → Option ℤ → ℕ → RankState
in_wave h i late last w =
    record {
      stood = has_stood h i;
      left = has_left h i;
      wave = w;
      late = late;
      relayed = was_relayed h i w;
      last = last;
      counters = record { even = counts_of (is_even w) h i; odd = counts_of (is_odd w) h i };
    }

pub rank-result : (size : ℕ) (h : List FinishEvent) (s : ℤ) (j i : ℕ) → IsKept size h → rank_state (Result j s ∷ h) i ≡ cond (j == i) (state_after_result s (rank_state h j)) (rank_state h i)
rank-result size h s j i k = go (j == i) refl
  where
    next : in_wave h i false (Some s) (1 + wave_of h i) ≡ state_after_result s (rank_state h i)
    next =
        let up : 1 + wave_of h i ≡ wave_of h i + 1 = omega arith in
        let none : was_relayed h i (1 + wave_of h i) ≡ false =
        false_from_ne_true _ (λ t. let le = relayed_within size h i (1 + wave_of h i) k t in absurd (omega arith)) in
        λ t. record {
          stood = has_stood h i;
          left = has_left h i;
          wave = up t;
          late = false;
          relayed = none t;
          last = Some s;
          counters = counters-same (fold-even size h k i) (fold-odd size h k i) t;
        }

    go : (b : Bool) → (j == i) ≡ b → in_wave h i (cond b false (is_late h i)) (cond b (Some s) (last_result h i)) (bit b + wave_of h i) ≡ cond b (state_after_result s (rank_state h j)) (rank_state h i)
    go true e = next ∙ ap (λ n. state_after_result s (rank_state h n)) (sym (eqb-true j i e))
    go false e = ap (in_wave h i (is_late h i) (last_result h i)) (zero-add (wave_of h i))

-- Invariant: a late rank has no Result 0.

late_no_zero : (size : ℕ) (h : List FinishEvent) (i : ℕ) → IsKept size h → is_late h i ≡ true → has_zero h i ≡ false
late_no_zero size [] i k e = absurd cc
late_no_zero size (Contribute j four ∷ h) i k e = go (j == i) refl e (late_no_zero size h i k.1)
  where
    go : (b : Bool) → (j == i) ≡ b → cond b true (is_late h i) ≡ true → (is_late h i ≡ true → has_zero h i ≡ false) → has_zero h i ≡ false
    go true p e rest = subst (λ x. has_zero h x ≡ false) (eqb-true j i p) k.0.no_zero
    go false p e rest = rest e
late_no_zero size (Result j s ∷ h) i k e = go (j == i) e (late_no_zero size h i k.1)
  where
    go : (b : Bool) → cond b false (is_late h i) ≡ true → (is_late h i ≡ true → has_zero h i ≡ false) → ((b && is_zero s) || has_zero h i) ≡ false
    go true e rest = absurd cc
    go false e rest = rest e
late_no_zero size (_ ∷ h) i k e = late_no_zero size h i k.1 e

-- Invariant: a rank has a Result 0 where its last one is 0, since it takes none behind that.

pub zero_last : (size : ℕ) (h : List FinishEvent) (i : ℕ) → IsKept size h → has_zero h i ≡ is_over (last_result h i)
zero_last size [] i k = refl
zero_last size (Result j s ∷ h) i k = go (j == i) refl (zero_last size h i k.1)
  where
    or_none : (a b : Bool) → b ≡ false → (a || b) ≡ a
    or_none true b e = refl
    or_none false b e = e

    go : (b : Bool) → (j == i) ≡ b → has_zero h i ≡ is_over (last_result h i) → ((b && is_zero s) || has_zero h i) ≡ is_over (cond b (Some s) (last_result h i))
    go true p rest = or_none (is_zero s) (has_zero h i) (late_no_zero size h i k.1 (subst (λ x. is_late h x ≡ true) (eqb-true j i p) k.0.late))
    go false p rest = rest
zero_last size (_ ∷ h) i k = zero_last size h i k.1
