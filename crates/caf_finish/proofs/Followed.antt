-- An account that tells what the events tell of a rank does so after each event, if it changes as the desk's calls change it.
use Rattle.std.proofs.Common.{◌≡◌, ℕ, ◌+◌, ◌-◌, ◌*◌, ◌/◌, ◌^◌, ◌≤◌, ◌<◌, ◌==◌, Bool, true, false, not, cond, ◌&&◌, List, [], ◌∷◌, length, refl, ap, sym, ◌∙◌, subst, arith, Option, Some, None, is_some, IsSomeAnd, ℤ}
use Rattle.std.proofs.lemmas.Bool.{eqb-true, and_parts, eq-eqb}
use Rattle.caf_base.specs.declared.four.Four.{Four}
use Rattle.caf_epochs.specs.declared.counters.Counters.{Counters}
use Rattle.caf_epochs.specs.Epoch.{epoch_of, class_of}
use Rattle.caf_epochs.specs.Counters.{four_of, in_class, is_quiet, sum_of_fours, FitsFour, folded}
use Rattle.caf_finish.specs.declared.counted.Counted.{Counted}
use Rattle.caf_finish.specs.declared.counted.Counted.TheVariants.{Sent, Delivered, Received, Completed}
use Rattle.caf_finish.specs.declared.event.FinishEvent.{FinishEvent}
use Rattle.caf_finish.specs.declared.event.FinishEvent.TheVariants.{Stand, Send, Take, Complete, Ack, Contribute, Relay, Result, Leave}
use Rattle.caf_finish.specs.declared.rank_state.RankState.{RankState}
use Rattle.caf_finish.specs.Account.{Account, first_account, epoch_at, number_of, IsCountable, counted, CanTakeResult, contributed, relayed, after_result, is_over, may_contribute, one_more}
use Rattle.caf_finish.specs.Events.{Message, message_in, messages_of, is_taken, even_of, wave_of, is_late, last_result, has_stood}
use Rattle.caf_finish.specs.Kept.{IsKept, MayContribute}
use Rattle.caf_finish.specs.Ledger.{rank_state, counted_state, state_after_result}
use Rattle.caf_finish.specs.Follows.{IsAccountOf, at_target, at_origin, account_after, IfAtTarget, IfAtOrigin, CanFollow}
use Rattle.caf_finish.proofs.Messages.{taken-sent}
use Rattle.caf_finish.proofs.Numbers.{at-some}
use Rattle.caf_finish.proofs.Stamps.{sent-stamp, taken-stamp}
use Rattle.caf_finish.proofs.Room.{epoch-within, count-room, fold-room}
use Rattle.caf_finish.proofs.Ranks.{rank-send, rank-take, rank-complete, rank-ack, rank-contribute, rank-result, zero_last}

-- the account tells what this is told of a rank
pub record Tells (account : Account) (state : RankState) : Type 0 where
  pub wave : account.wave ≡ state.wave
  pub last : account.last ≡ state.last
  pub late : account.late ≡ state.late
  pub counters : account.counters ≡ state.counters

tells : (h : List FinishEvent) (i : ℕ) (account : Account) → IsAccountOf h i account → Tells account (rank_state h i)
tells h i account is = record { wave = is.wave; last = is.last; late = is.late; counters = is.counters }

is_told : (h : List FinishEvent) (i : ℕ) (account : Account) → Tells account (rank_state h i) → IsAccountOf h i account
is_told h i account is = record { wave = is.wave; last = is.last; late = is.late; counters = is.counters }

-- where one rank changes, and the account of that rank changes alike
one_changes : (h : List FinishEvent) (e : FinishEvent) (j i : ℕ) (state : RankState) (account new : Account) → IsAccountOf h i account
    → rank_state (e ∷ h) i ≡ cond (j == i) state (rank_state h i) → (j ≡ i → Tells new state) → IsAccountOf (e ∷ h) i (cond (j == i) new account)
one_changes h e j i state account new is step alike =
    is_told (e ∷ h) i (cond (j == i) new account) (subst (Tells (cond (j == i) new account)) (sym step) (go (j == i) refl))
  where
    go : (b : Bool) → (j == i) ≡ b → Tells (cond b new account) (cond b state (rank_state h i))
    go true p = alike (eqb-true j i p)
    go false p = tells h i account is

-- a message that is counted
counts : (h : List FinishEvent) (what : Counted) (epoch : ℕ) (j i : ℕ) (account : Account) → IsAccountOf h i account → j ≡ i → Tells (counted what epoch account) (counted_state what epoch (rank_state h j))
counts h what epoch j i account is same =
    subst (λ n. Tells (counted what epoch account) (counted_state what epoch (rank_state h n))) (sym same)
    (record {
      wave = is.wave;
      last = is.last;
      late = is.late;
      counters = λ t. in_class (class_of epoch (is.wave t)) (one_more what) (is.counters t);
    })

module _ (size : ℕ) (h : List FinishEvent) (i : ℕ) (account : Account) (is : IsAccountOf h i account) where
  -- what was taken is found
  unsent : (m : ℕ) → IsKept size h → message_in (messages_of h) m ≡ None → is_taken h m ≡ true → ⊥
  unsent m k none taken = cc (taken-sent size h m k taken, ap is_some none)

  take_followed : (m : ℕ) → IsKept size (Take m ∷ h) → (o : Option Message) → message_in (messages_of h) m ≡ o → IsAccountOf (Take m ∷ h) i (at_target (counted Received) o i account)
  take_followed m k None found = absurd (subst (λ o. IsSomeAnd o (λ x. x.epoch / 2 ≤ wave_of h x.target)) found k.0.sent)
  take_followed m k (Some y) found =
      one_changes h (Take m) y.target i _ account (counted Received y.epoch account) is (rank-take size h k.1 m y found i k.0.once) (counts h Received y.epoch y.target i account is)

  complete_followed : (m : ℕ) → IsKept size (Complete m ∷ h) → (o : Option Message) → message_in (messages_of h) m ≡ o → IsAccountOf (Complete m ∷ h) i (at_target (counted Completed) o i account)
  complete_followed m k None found = absurd (unsent m k.1 found k.0.taken)
  complete_followed m k (Some y) found =
      one_changes h (Complete m) y.target i _ account (counted Completed y.epoch account) is (rank-complete size h k.1 m y found i k.0.once) (counts h Completed y.epoch y.target i account is)

  ack_followed : (m : ℕ) → IsKept size (Ack m ∷ h) → (o : Option Message) → message_in (messages_of h) m ≡ o → IsAccountOf (Ack m ∷ h) i (at_origin (counted Delivered) o i account)
  ack_followed m k None found = absurd (unsent m k.1 found k.0.taken)
  ack_followed m k (Some y) found =
      one_changes h (Ack m) y.origin i _ account (counted Delivered y.epoch account) is (rank-ack size h k.1 m y found i k.0.once) (counts h Delivered y.epoch y.origin i account is)

  send_followed : (m o t : ℕ) (by : Option ℕ) → IsKept size (Send m o t by ∷ h) → IsAccountOf (Send m o t by ∷ h) i (cond (o == i) (counted Sent (epoch_at account) account) account)
  send_followed m o t by k =
      one_changes h (Send m o t by) o i _ account (counted Sent (epoch_at account) account) is (rank-send size h m o t by i k.1 k.0.is_new)
      (λ same. subst (λ e. Tells (counted Sent e account) (counted_state Sent (epoch_of (wave_of h o) (is_late h o)) (rank_state h o))) (stamp same)
      (counts h Sent (epoch_of (wave_of h o) (is_late h o)) o i account is same))
    where
      stamp : o ≡ i → epoch_of (wave_of h o) (is_late h o) ≡ epoch_at account
      stamp same = (λ t. epoch_of (wave_of h (same t)) (is_late h (same t))) ∙ (λ t. epoch_of (sym is.wave t) (sym is.late t))

  contribute_followed : (j : ℕ) (four : Four) → IsAccountOf (Contribute j four ∷ h) i (cond (j == i) (contributed account) account)
  contribute_followed j four =
      one_changes h (Contribute j four) j i _ account (contributed account) is (rank-contribute h four j i)
      (λ same. subst (λ n. Tells (contributed account) (record (rank_state h n) { late = true })) (sym same)
      (record { wave = is.wave; last = is.last; late = refl; counters = is.counters }))

  result_followed : (j : ℕ) (s : ℤ) → IsKept size (Result j s ∷ h) → IsAccountOf (Result j s ∷ h) i (cond (j == i) (after_result s account) account)
  result_followed j s k =
      one_changes h (Result j s) j i _ account (after_result s account) is (rank-result size h s j i k.1)
      (λ same. subst (λ n. Tells (after_result s account) (state_after_result s (rank_state h n))) (sym same)
      (record { wave = ap (λ n. n + 1) is.wave; last = refl; late = refl; counters = ap folded is.counters }))

  relay_followed : (p c : ℕ) (sum : ℤ) → IsAccountOf (Relay p c ∷ h) i (cond (p == i) (relayed c sum account) account)
  relay_followed p c sum = go (p == i)
    where
      go : (b : Bool) → IsAccountOf (Relay p c ∷ h) i (cond b (relayed c sum account) account)
      go true = record { wave = is.wave; last = is.last; late = is.late; counters = is.counters }
      go false = record { wave = is.wave; last = is.last; late = is.late; counters = is.counters }

  pub followed : (sum : ℤ) (e : FinishEvent) → IsKept size (e ∷ h) → IsAccountOf (e ∷ h) i (account_after h i sum e account)
  followed sum (Stand j) k = record { wave = is.wave; last = is.last; late = is.late; counters = is.counters }
  followed sum (Send m o t by) k = send_followed m o t by k
  followed sum (Take m) k = take_followed m k (message_in (messages_of h) m) refl
  followed sum (Complete m) k = complete_followed m k (message_in (messages_of h) m) refl
  followed sum (Ack m) k = ack_followed m k (message_in (messages_of h) m) refl
  followed sum (Contribute j four) k = contribute_followed j four
  followed sum (Relay p c) k = relay_followed p c sum
  followed sum (Result j s) k = result_followed j s k
  followed sum (Leave j) k = record { wave = is.wave; last = is.last; late = is.late; counters = is.counters }

-- what the calls ask for
module _ (size : ℕ) (h : List FinishEvent) (i : ℕ) (account : Account) (is : IsAccountOf h i account) (few : length h < 2 ^ 31 - 1) where
  countable : (what : Counted) (epoch : ℕ) → epoch ≤ 2 * wave_of h i + 1 → IsCountable what epoch account
  countable what epoch le =
      let room = count-room h i what epoch few le in
      record {
        stamped = subst (λ w. epoch ≤ 2 * w + 1) (sym is.wave) room.stamped;
        room = subst (λ w. number_of what (four_of (class_of epoch w) account.counters) < 4294967295) (sym is.wave)
            (subst (λ c. number_of what (four_of (class_of epoch (wave_of h i)) c) < 4294967295) (sym is.counters) room.room);
      }

  at_wave : (epoch : ℕ) {j : ℕ} → j ≡ i → epoch ≤ 2 * wave_of h j + 1 → epoch ≤ 2 * wave_of h i + 1
  at_wave epoch same le = subst (λ j. epoch ≤ 2 * wave_of h j + 1) same le

  take_asked : (m : ℕ) → IsKept size (Take m ∷ h) → (o : Option Message) → message_in (messages_of h) m ≡ o → IfAtTarget (λ epoch. IsCountable Received epoch account) o i
  take_asked m k None found = tt
  take_asked m k (Some y) found = λ same.
      countable Received y.epoch (at_wave y.epoch same (let half = at-some (message_in (messages_of h) m) y (λ x. x.epoch / 2 ≤ wave_of h x.target) found k.0.sent in omega arith))

  complete_asked : (m : ℕ) → IsKept size (Complete m ∷ h) → (o : Option Message) → message_in (messages_of h) m ≡ o → IfAtTarget (λ epoch. IsCountable Completed epoch account) o i
  complete_asked m k None found = tt
  complete_asked m k (Some y) found = λ same. countable Completed y.epoch (at_wave y.epoch same (taken-stamp size h m y k.1 found k.0.taken))

  ack_asked : (m : ℕ) → IsKept size (Ack m ∷ h) → (o : Option Message) → message_in (messages_of h) m ≡ o → IfAtOrigin (λ epoch. IsCountable Delivered epoch account) o i
  ack_asked m k None found = tt
  ack_asked m k (Some y) found = λ same. countable Delivered y.epoch (at_wave y.epoch same (sent-stamp size h m y k.1 found))

  result_asked : is_late h i ≡ true → CanTakeResult account
  result_asked late =
      let room = fold-room h i few in
      record {
        late = is.late ∙ late;
        small = subst (λ w. w < 2 ^ 31 - 1) (sym is.wave) room.small;
        fits = subst (λ (c : Counters). FitsFour (sum_of_fours c.even c.odd)) (sym is.counters) room.fits;
      }

  even_is : account.counters.even ≡ even_of h i
  even_is = ap (λ (c : Counters). c.even) is.counters

  contribute_asked : (four : Four) → IsKept size h → MayContribute size h i four → (may_contribute account ≡ true) × (four ≡ account.counters.even)
  contribute_asked four k may = (
    all_true account.late (is_quiet account.counters.even) (is_over account.last) (is.late ∙ may.not_late) quiet
        (ap is_over is.last ∙ (sym (zero_last size h i k) ∙ may.no_zero)),
    same,
  )
    where
      same : four ≡ account.counters.even
      same = may.counts ∙ sym even_is

      both : (a b : Bool) → a ≡ true → b ≡ true → (a && b) ≡ true
      both a b p q = rw (p, q) refl

      quiet : is_quiet account.counters.even ≡ true
      quiet = subst (λ f. is_quiet f ≡ true) same (both _ _ (eq-eqb _ _ may.delivered) (eq-eqb _ _ may.completed))

      all_true : (l q o : Bool) → l ≡ false → q ≡ true → o ≡ false → ((not l && q) && not o) ≡ true
      all_true l q o a b c = rw (a, b, c) refl

  pub asked : (e : FinishEvent) → IsKept size (e ∷ h) → CanFollow h i e account
  asked (Stand j) k = tt
  asked (Send m o t by) k = λ same. countable Sent (epoch_at account) (epoch-within _ _ (is_late h i) (λ t. epoch_of (is.wave t) (is.late t)))
  asked (Take m) k = take_asked m k (message_in (messages_of h) m) refl
  asked (Complete m) k = complete_asked m k (message_in (messages_of h) m) refl
  asked (Ack m) k = ack_asked m k (message_in (messages_of h) m) refl
  asked (Contribute j four) k = λ same. contribute_asked four k.1 (subst (λ n. MayContribute size h n four) same k.0)
  asked (Relay p c) k = tt
  asked (Result j s) k = λ same. result_asked (subst (λ n. is_late h n ≡ true) same k.0.late)
  asked (Leave j) k = λ same. ap is_over is.last ∙ subst (λ n. is_over (last_result h n) ≡ true) same k.0.over

-- where the desk says that an image may contribute, the rules say so of its rank, once it stands
pub may-contribute : (size : ℕ) (h : List FinishEvent) (i : ℕ) (account : Account) → IsKept size h → IsAccountOf h i account → i < size → has_stood h i ≡ true → may_contribute account ≡ true → MayContribute size h i account.counters.even
may-contribute size h i account k is lt stands may =
    let outer = and_parts (not account.late && is_quiet account.counters.even) (not (is_over account.last)) may in
    let inner = and_parts (not account.late) (is_quiet account.counters.even) outer.0 in
    let quiet = and_parts (account.counters.even.sent == account.counters.even.delivered) (account.counters.even.received == account.counters.even.completed) inner.1 in
    record {
      rank_in = lt;
      stands = stands;
      not_late = sym is.late ∙ not_true _ inner.0;
      no_zero = zero_last size h i k ∙ (sym (ap is_over is.last) ∙ not_true _ outer.1);
      counts = ap (λ (c : Counters). c.even) is.counters;
      delivered = eqb-true _ _ quiet.0;
      completed = eqb-true _ _ quiet.1;
    }
  where
    not_true : (b : Bool) → not b ≡ true → b ≡ false
    not_true true e = absurd cc
    not_true false e = refl

pub first : (size i : ℕ) → IsAccountOf [] i (first_account size i)
first size i = record { wave = refl; last = refl; late = refl; counters = refl }
