-- An event that is added to what a ledger tells of.
use Rattle.std.proofs.Common.{◌≡◌, ℕ, ◌+◌, ◌-◌, ◌*◌, ◌/◌, ◌<◌, ◌≤◌, ◌==◌, Bool, true, false, not, cond, nat_eq, List, ◌∷◌, length, refl, ap, sym, ◌∙◌, arith, subst, Option, Some, None, is_some, unwrap_or, ℤ}
use Rattle.std.specs.Prelude.{IsSome}
use Rattle.std.specs.HashMap.{get}
use Rattle.caf_base.specs.declared.four.Four.{Four}
use Rattle.caf_epochs.specs.declared.counters.Class.TheVariants.{Even}
use Rattle.caf_epochs.specs.Epoch.{epoch_of}
use Rattle.caf_finish.specs.declared.counted.Counted.{Counted}
use Rattle.caf_finish.specs.declared.counted.Counted.TheVariants.{Sent, Delivered, Received, Completed}
use Rattle.caf_finish.specs.declared.event.FinishEvent.{FinishEvent}
use Rattle.caf_finish.specs.declared.event.FinishEvent.TheVariants.{Stand, Send, Take, Complete, Ack, Contribute, Relay, Result, Leave}
use Rattle.caf_finish.specs.declared.ledger.Ledger.{Ledger}
use Rattle.caf_finish.specs.declared.rank_state.RankState.{RankState}
use Rattle.caf_finish.specs.declared.message_state.MessageState.{MessageState}
use Rattle.caf_finish.specs.declared.wave_totals.WaveTotals.{WaveTotals}
use Rattle.caf_finish.specs.Events.{Message, message_in, messages_of, running_in, is_taken, is_completed, is_acked, wave_of, is_late}
use Rattle.caf_finish.specs.Kept.{IsKept, MayFollow, MayStand, MaySend, MayTake, MayComplete, MayAck, MayContribute, MayRelay, MayResult, MayLeave}
use Rattle.caf_finish.specs.Ledger.{rank_state, no_rank_state, state_of, message_state, totals_of, no_totals, counted_state, CanCount, state_after_result, CanFold, one_contribute, one_relay, IsSmallFour}
use Rattle.caf_finish.specs.IsLedger.{IsLedger, RankPut, WavePut, BothPut, Adds}
use Rattle.caf_finish.proofs.Messages.{taken-sent}
use Rattle.caf_finish.proofs.Numbers.{found-number, at-some}
use Rattle.caf_finish.proofs.Stamps.{sent-stamp, taken-stamp}
use Rattle.caf_finish.proofs.Ranks.{rank-send, rank-take, rank-complete, rank-ack, rank-stand, rank-leave, rank-contribute, rank-relay, rank-result}
use Rattle.caf_finish.proofs.Tables.{new_state, message-send, message-take, message-complete, message-ack, wave-contribute, wave-relay, running-send, running-complete, count-few}
use Rattle.caf_finish.proofs.Room.{counters-few, epoch-within, count-room, fold-room}
use Rattle.caf_finish.proofs.Allowed.{IsStateOf, state-found}

-- what a table gives at each key after a put

rank_put : (b : Bool) (s d : RankState) (o : Option RankState) → unwrap_or (cond b (Some s) o) d ≡ cond b s (unwrap_or o d)
rank_put true s d o = refl
rank_put false s d o = refl

wave_put : (b : Bool) (s d : WaveTotals) (o : Option WaveTotals) → unwrap_or (cond b (Some s) o) d ≡ cond b s (unwrap_or o d)
wave_put true s d o = refl
wave_put false s d o = refl

module _ (h : List FinishEvent) (e : FinishEvent) (a b : Ledger) (ledger : IsLedger h a) where
  abbrev RanksAre : Type 0
  RanksAre = (i : ℕ) → unwrap_or (get nat_eq b.ranks i) no_rank_state ≡ rank_state (e ∷ h) i

  abbrev MessagesAre : Type 0
  MessagesAre = (m : ℕ) → get nat_eq b.messages m ≡ message_state (e ∷ h) m

  abbrev WavesAre : Type 0
  WavesAre = (w : ℕ) → unwrap_or (get nat_eq b.waves w) no_totals ≡ totals_of (e ∷ h) w

  ranks_after : (rank : ℕ) (state : RankState) → ((i : ℕ) → get nat_eq b.ranks i ≡ cond (rank == i) (Some state) (get nat_eq a.ranks i))
      → ((i : ℕ) → rank_state (e ∷ h) i ≡ cond (rank == i) state (rank_state h i)) → RanksAre
  ranks_after rank state put told i =
      ap (λ o. unwrap_or o no_rank_state) (put i)
      ∙ (rank_put (rank == i) state no_rank_state (get nat_eq a.ranks i)
      ∙ (ap (λ s. cond (rank == i) state s) (ledger.ranks i) ∙ sym (told i)))

  messages_after : (n : ℕ) (state : MessageState) → ((m : ℕ) → get nat_eq b.messages m ≡ cond (n == m) (Some state) (get nat_eq a.messages m))
      → ((m : ℕ) → message_state (e ∷ h) m ≡ cond (n == m) (Some state) (message_state h m)) → MessagesAre
  messages_after n state put told m = put m ∙ (ap (λ o. cond (n == m) (Some state) o) (ledger.messages m) ∙ sym (told m))

  waves_after : (wave : ℕ) (totals : WaveTotals) → ((w : ℕ) → get nat_eq b.waves w ≡ cond (wave == w) (Some totals) (get nat_eq a.waves w))
      → ((w : ℕ) → totals_of (e ∷ h) w ≡ cond (wave == w) totals (totals_of h w)) → WavesAre
  waves_after wave totals put told w =
      ap (λ o. unwrap_or o no_totals) (put w)
      ∙ (wave_put (wave == w) totals no_totals (get nat_eq a.waves w)
      ∙ (ap (λ t. cond (wave == w) totals t) (ledger.waves w) ∙ sym (told w)))

  messages_same : b.messages ≡ a.messages → ((m : ℕ) → message_state h m ≡ message_state (e ∷ h) m) → MessagesAre
  messages_same same told m = ap (λ t. get nat_eq t m) same ∙ (ledger.messages m ∙ told m)

  waves_same : b.waves ≡ a.waves → ((w : ℕ) → totals_of h w ≡ totals_of (e ∷ h) w) → WavesAre
  waves_same same told w = ap (λ t. unwrap_or (get nat_eq t w) no_totals) same ∙ (ledger.waves w ∙ told w)

  -- the event is added where each table tells what it should
  added : MayFollow a.size h e → b.size ≡ a.size → RanksAre → MessagesAre → WavesAre → b.running ≡ running_in (e ∷ h) → Adds h e a b
  added may size ranks messages waves running =
      record {
        size = size;
        ledger = record {
          team = subst (λ n. 0 < n) (sym size) ledger.team;
          kept = subst (λ n. IsKept n (e ∷ h)) (sym size) (may, ledger.kept);
          ranks = ranks;
          messages = messages;
          waves = waves;
          running = running;
        };
      }

-- an event that marks no message tells the same of all
unmarked : (h g : List FinishEvent) → ((m : ℕ) → is_taken g m ≡ is_taken h m) → ((m : ℕ) → is_completed g m ≡ is_completed h m) → ((m : ℕ) → is_acked g m ≡ is_acked h m)
    → (o : Option Message) → state_of h o ≡ state_of g o
unmarked h g t c k None = refl
unmarked h g t c k (Some x) = λ i. Some (record { origin = x.origin; target = x.target; epoch = x.epoch; taken = sym (t x.number) i; completed = sym (c x.number) i; acked = sym (k x.number) i })

-- Events of one rank.

module _ (h : List FinishEvent) (a b : Ledger) (rank : ℕ) (state : RankState) (ledger : IsLedger h a) (told : state ≡ unwrap_or (get nat_eq a.ranks rank) no_rank_state) where
  is : state ≡ rank_state h rank
  is = told ∙ ledger.ranks rank

  pub add-stand : MayStand a.size h rank → RankPut a b rank (record state { stood = true }) → Adds h (Stand rank) a b
  add-stand may put =
      added h (Stand rank) a b ledger may put.size
      (ranks_after h (Stand rank) a b ledger rank _ put.ranks (λ i. rank-stand h rank i ∙ (λ t. cond (rank == i) (record (sym is t) { stood = true }) (rank_state h i))))
      (messages_same h (Stand rank) a b ledger put.messages (λ m. unmarked h (Stand rank ∷ h) (λ n. refl) (λ n. refl) (λ n. refl) (message_in (messages_of h) m)))
      (waves_same h (Stand rank) a b ledger put.waves (λ w. refl))
      (put.running ∙ ledger.running)

  pub add-leave : MayLeave a.size h rank → RankPut a b rank (record state { left = true }) → Adds h (Leave rank) a b
  add-leave may put =
      added h (Leave rank) a b ledger may put.size
      (ranks_after h (Leave rank) a b ledger rank _ put.ranks (λ i. rank-leave h rank i ∙ (λ t. cond (rank == i) (record (sym is t) { left = true }) (rank_state h i))))
      (messages_same h (Leave rank) a b ledger put.messages (λ m. unmarked h (Leave rank ∷ h) (λ n. refl) (λ n. refl) (λ n. refl) (message_in (messages_of h) m)))
      (waves_same h (Leave rank) a b ledger put.waves (λ w. refl))
      (put.running ∙ ledger.running)

  pub add-result : (s : ℤ) → MayResult a.size h rank s → RankPut a b rank (state_after_result s state) → Adds h (Result rank s) a b
  add-result s may put =
      added h (Result rank s) a b ledger may put.size
      (ranks_after h (Result rank s) a b ledger rank _ put.ranks (λ i. rank-result a.size h s rank i ledger.kept ∙ (λ t. cond (rank == i) (state_after_result s (sym is t)) (rank_state h i))))
      (messages_same h (Result rank s) a b ledger put.messages (λ m. unmarked h (Result rank s ∷ h) (λ n. refl) (λ n. refl) (λ n. refl) (message_in (messages_of h) m)))
      (waves_same h (Result rank s) a b ledger put.waves (λ w. refl))
      (put.running ∙ ledger.running)

-- Events of one rank and its wave.

module _ (h : List FinishEvent) (a b c : Ledger) (rank : ℕ) (state : RankState) (totals : WaveTotals) (ledger : IsLedger h a)
    (told : state ≡ unwrap_or (get nat_eq a.ranks rank) no_rank_state) (told_wave : totals ≡ unwrap_or (get nat_eq a.waves state.wave) no_totals) where
  state_is : state ≡ rank_state h rank
  state_is = told ∙ ledger.ranks rank

  wave_is : state.wave ≡ wave_of h rank
  wave_is = ap (λ (s : RankState). s.wave) state_is

  totals_is : totals ≡ totals_of h (wave_of h rank)
  totals_is = told_wave ∙ (ledger.waves state.wave ∙ ap (totals_of h) wave_is)

  pub add-contribute : (four : Four) → MayContribute a.size h rank four → WavePut a b state.wave (one_contribute four totals) → RankPut b c rank (record state { late = true }) → Adds h (Contribute rank four) a c
  add-contribute four may first second =
      added h (Contribute rank four) a c ledger may (second.size ∙ first.size)
      (ranks_after h (Contribute rank four) a c ledger rank _ (λ i. second.ranks i ∙ ap (λ t. cond (rank == i) (Some (record state { late = true })) (get nat_eq t i)) first.ranks)
      (λ i. rank-contribute h four rank i ∙ (λ t. cond (rank == i) (record (sym state_is t) { late = true }) (rank_state h i))))
      (messages_same h (Contribute rank four) a c ledger (second.messages ∙ first.messages) (λ m. unmarked h (Contribute rank four ∷ h) (λ n. refl) (λ n. refl) (λ n. refl) (message_in (messages_of h) m)))
      (waves_after h (Contribute rank four) a c ledger state.wave _ (λ w. ap (λ t. get nat_eq t w) second.waves ∙ first.waves w)
      (λ w. wave-contribute h four rank w ∙ (λ t. cond (sym wave_is t == w) (one_contribute four (sym totals_is t)) (totals_of h w))))
      (second.running ∙ (first.running ∙ ledger.running))

  pub add-relay : (p : ℕ) → MayRelay a.size h p rank → WavePut a b state.wave (one_relay totals) → RankPut b c rank (record state { relayed = true }) → Adds h (Relay p rank) a c
  add-relay p may first second =
      added h (Relay p rank) a c ledger may (second.size ∙ first.size)
      (ranks_after h (Relay p rank) a c ledger rank _ (λ i. second.ranks i ∙ ap (λ t. cond (rank == i) (Some (record state { relayed = true })) (get nat_eq t i)) first.ranks)
      (λ i. rank-relay h p rank i ∙ (λ t. cond (rank == i) (record (sym state_is t) { relayed = true }) (rank_state h i))))
      (messages_same h (Relay p rank) a c ledger (second.messages ∙ first.messages) (λ m. unmarked h (Relay p rank ∷ h) (λ n. refl) (λ n. refl) (λ n. refl) (message_in (messages_of h) m)))
      (waves_after h (Relay p rank) a c ledger state.wave _ (λ w. ap (λ t. get nat_eq t w) second.waves ∙ first.waves w)
      (λ w. wave-relay h p rank w ∙ (λ t. cond (sym wave_is t == w) (one_relay (sym totals_is t)) (totals_of h w))))
      (second.running ∙ (first.running ∙ ledger.running))

-- A message is sent.

module _ (h : List FinishEvent) (a b : Ledger) (m o t : ℕ) (by : Option ℕ) (state : RankState) (epoch : ℕ) (counted : RankState) (ledger : IsLedger h a) (may : MaySend a.size h m o t by)
    (told : state ≡ unwrap_or (get nat_eq a.ranks o) no_rank_state) (stamp : epoch ≡ epoch_of state.wave state.late) (is_counted : counted ≡ counted_state Sent epoch state) (put : BothPut a b m (new_state o t epoch) o counted) where
  sender_is : state ≡ rank_state h o
  sender_is = told ∙ ledger.ranks o

  stamp_is : epoch ≡ epoch_of (wave_of h o) (is_late h o)
  stamp_is = stamp ∙ ap (λ (s : RankState). epoch_of s.wave s.late) sender_is

  pub add-send : Adds h (Send m o t by) a (record b { running = b.running + 1 })
  add-send =
      added h (Send m o t by) a (record b { running = b.running + 1 }) ledger may put.size
      (ranks_after h (Send m o t by) a b ledger o _ put.ranks
      (λ i. rank-send a.size h m o t by i ledger.kept may.is_new ∙ ((λ z. cond (o == i) (counted_state Sent (sym stamp_is z) (sym sender_is z)) (rank_state h i)) ∙ (λ z. cond (o == i) (sym is_counted z) (rank_state h i)))))
      (messages_after h (Send m o t by) a b ledger m _ put.messages
      (λ n. message-send a.size h m o t by n ledger.kept may.is_new ∙ (λ z. cond (m == n) (Some (new_state o t (sym stamp_is z))) (message_state h n))))
      (waves_same h (Send m o t by) a b ledger put.waves (λ w. refl))
      (ap (λ n. n + 1) put.running ∙ (ap (λ n. n + 1) ledger.running ∙ sym (running-send a.size h m o t by ledger.kept may.is_new)))

  pub few-running : length h < 1000000 → b.running < 1000000
  few-running few =
      let same = put.running in
      let is = ledger.running in
      omega (arith, count-few (λ x. not (is_completed h x.number)) h)

-- A message is taken, is completed, or gets its Ack.

module _ (h : List FinishEvent) (a b : Ledger) (n : ℕ) (state : MessageState) (ledger : IsLedger h a) (found : get nat_eq a.messages n ≡ Some state) where
  of : IsStateOf h n state
  of = state-found h a ledger n state found

  number : of.message.number ≡ n
  number = found-number n of.message (messages_of h) of.found

  module _ (rank : RankState) (counted : RankState) where
    pub add-take : MayTake h n → rank ≡ unwrap_or (get nat_eq a.ranks state.target) no_rank_state → counted ≡ counted_state Received state.epoch rank
        → BothPut a b n (record state { taken = true }) state.target counted → Adds h (Take n) a b
    add-take may told is_counted put =
        let rank_is : rank ≡ rank_state h state.target = told ∙ ledger.ranks state.target in
        added h (Take n) a b ledger may put.size
        (ranks_after h (Take n) a b ledger state.target _ put.ranks
        (λ i. rank-take a.size h ledger.kept n of.message of.found i may.once
        ∙ ((λ t. cond (sym of.target t == i) (counted_state Received (sym of.epoch t) (rank_state h (sym of.target t))) (rank_state h i))
        ∙ ((λ t. cond (state.target == i) (counted_state Received state.epoch (sym rank_is t)) (rank_state h i)) ∙ (λ t. cond (state.target == i) (sym is_counted t) (rank_state h i))))))
        (messages_after h (Take n) a b ledger n _ put.messages
        (λ q. message-take h n of.message of.found q
        ∙ (λ t. cond (n == q) (Some (record { origin = sym of.origin t; target = sym of.target t; epoch = sym of.epoch t; taken = true; completed = (ap (is_completed h) number ∙ sym of.completed) t; acked = (ap (is_acked h) number ∙ sym of.acked) t })) (message_state h q))))
        (waves_same h (Take n) a b ledger put.waves (λ w. refl))
        (put.running ∙ ledger.running)

    pub add-complete : MayComplete h n → rank ≡ unwrap_or (get nat_eq a.ranks state.target) no_rank_state → counted ≡ counted_state Completed state.epoch rank
        → BothPut a b n (record state { completed = true }) state.target counted → Adds h (Complete n) a (record b { running = b.running - 1 })
    add-complete may told is_counted put =
        let rank_is : rank ≡ rank_state h state.target = told ∙ ledger.ranks state.target in
        let fewer = running-complete a.size h n of.message ledger.kept of.found may.once in
        let was = ledger.running in
        let same = put.running in
        added h (Complete n) a (record b { running = b.running - 1 }) ledger may put.size
        (ranks_after h (Complete n) a b ledger state.target _ put.ranks
        (λ i. rank-complete a.size h ledger.kept n of.message of.found i may.once
        ∙ ((λ t. cond (sym of.target t == i) (counted_state Completed (sym of.epoch t) (rank_state h (sym of.target t))) (rank_state h i))
        ∙ ((λ t. cond (state.target == i) (counted_state Completed state.epoch (sym rank_is t)) (rank_state h i)) ∙ (λ t. cond (state.target == i) (sym is_counted t) (rank_state h i))))))
        (messages_after h (Complete n) a b ledger n _ put.messages
        (λ q. message-complete h n of.message of.found q
        ∙ (λ t. cond (n == q) (Some (record { origin = sym of.origin t; target = sym of.target t; epoch = sym of.epoch t; taken = (ap (is_taken h) number ∙ sym of.taken) t; completed = true; acked = (ap (is_acked h) number ∙ sym of.acked) t })) (message_state h q))))
        (waves_same h (Complete n) a b ledger put.waves (λ w. refl))
        (omega arith)

    pub add-ack : MayAck h n → rank ≡ unwrap_or (get nat_eq a.ranks state.origin) no_rank_state → counted ≡ counted_state Delivered state.epoch rank
        → BothPut a b n (record state { acked = true }) state.origin counted → Adds h (Ack n) a b
    add-ack may told is_counted put =
        let rank_is : rank ≡ rank_state h state.origin = told ∙ ledger.ranks state.origin in
        added h (Ack n) a b ledger may put.size
        (ranks_after h (Ack n) a b ledger state.origin _ put.ranks
        (λ i. rank-ack a.size h ledger.kept n of.message of.found i may.once
        ∙ ((λ t. cond (sym of.origin t == i) (counted_state Delivered (sym of.epoch t) (rank_state h (sym of.origin t))) (rank_state h i))
        ∙ ((λ t. cond (state.origin == i) (counted_state Delivered state.epoch (sym rank_is t)) (rank_state h i)) ∙ (λ t. cond (state.origin == i) (sym is_counted t) (rank_state h i))))))
        (messages_after h (Ack n) a b ledger n _ put.messages
        (λ q. message-ack h n of.message of.found q
        ∙ (λ t. cond (n == q) (Some (record { origin = sym of.origin t; target = sym of.target t; epoch = sym of.epoch t; taken = (ap (is_taken h) number ∙ sym of.taken) t; completed = (ap (is_completed h) number ∙ sym of.completed) t; acked = true })) (message_state h q))))
        (waves_same h (Ack n) a b ledger put.waves (λ w. refl))
        (put.running ∙ ledger.running)

  pub some-running : MayComplete h n → b.running ≡ a.running → 1 ≤ b.running
  some-running may same =
      let fewer = running-complete a.size h n of.message ledger.kept of.found may.once in
      let was = ledger.running in
      omega arith

  -- the epochs are those that the ranks can count
  pub take-stamp : MayTake h n → state.epoch ≤ 2 * wave_of h state.target + 1
  take-stamp may =
      let le = at-some (message_in (messages_of h) n) of.message (λ x. x.epoch / 2 ≤ wave_of h x.target) of.found may.sent in
      let epoch = of.epoch in
      let wave = ap (wave_of h) of.target in
      omega arith

  pub target-stamp : is_taken h n ≡ true → state.epoch ≤ 2 * wave_of h state.target + 1
  target-stamp taken =
      let le = taken-stamp a.size h n of.message ledger.kept of.found taken in
      let epoch = of.epoch in
      let wave = ap (wave_of h) of.target in
      omega arith

  pub origin-stamp : state.epoch ≤ 2 * wave_of h state.origin + 1
  origin-stamp =
      let le = sent-stamp a.size h n of.message ledger.kept of.found in
      let epoch = of.epoch in
      let wave = ap (wave_of h) of.origin in
      omega arith

-- What was sent is told of.

some_state : (h : List FinishEvent) (o : Option Message) → is_some o ≡ true → is_some (state_of h o) ≡ true
some_state h None e = absurd cc
some_state h (Some x) e = refl

module _ (h : List FinishEvent) (a : Ledger) (n : ℕ) (ledger : IsLedger h a) where
  pub told-taken : is_taken h n ≡ true → IsSome (get nat_eq a.messages n)
  told-taken t = ap is_some (ledger.messages n) ∙ some_state h (message_in (messages_of h) n) (taken-sent a.size h n ledger.kept t)

-- No number comes to its type's end.

module _ (h : List FinishEvent) (a : Ledger) (i : ℕ) (state : RankState) (ledger : IsLedger h a) (few : length h < 1000000) (told : state ≡ unwrap_or (get nat_eq a.ranks i) no_rank_state) where
  told_is : rank_state h i ≡ state
  told_is = sym (told ∙ ledger.ranks i)

  pub can-count : (what : Counted) (epoch : ℕ) → epoch ≤ 2 * wave_of h i + 1 → CanCount what epoch state
  can-count what epoch le = subst (CanCount what epoch) told_is (count-room h i what epoch (omega arith) le)

  pub can-fold : CanFold state
  can-fold = subst CanFold told_is (fold-room h i (omega arith))

  pub can-count-sent : (epoch : ℕ) → epoch ≡ epoch_of state.wave state.late → CanCount Sent epoch state
  can-count-sent epoch stamp =
      can-count Sent epoch (epoch-within _ _ (is_late h i) (stamp ∙ ap (λ (s : RankState). epoch_of s.wave s.late) (sym told_is)))

pub small-four : (size : ℕ) (h : List FinishEvent) (i : ℕ) (four : Four) → MayContribute size h i four → length h < 1000000 → IsSmallFour four
small-four size h i four may few =
    subst IsSmallFour (sym may.counts)
    (record {
      sent = omega (arith, counters-few h i Sent Even);
      completed = omega (arith, counters-few h i Completed Even);
    })
