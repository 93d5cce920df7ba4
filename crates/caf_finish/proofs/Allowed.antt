-- What the ledger's tests tell of the rules.
use Rattle.std.proofs.Common.{◌≡◌, ℕ, ◌+◌, ◌/◌, ◌≤◌, ◌==◌, ◌↔◌, Bool, true, false, not, ◌&&◌, leb, nat_eq, List, length, refl, ap, sym, ◌∙◌, arith, subst, Option, Some, None, is_some, unwrap_or, IsTrue, pos, ◌-ℤ◌}
use Rattle.std.specs.HashMap.{get}
use Rattle.std.proofs.lemmas.Bool.{leb-true, le-leb, eqb-true, eq-eqb, and_parts}
use Rattle.caf_finish.specs.declared.event.FinishEvent.{FinishEvent}
use Rattle.caf_finish.specs.declared.ledger.Ledger.{Ledger}
use Rattle.caf_finish.specs.declared.message_state.MessageState.{MessageState}
use Rattle.caf_finish.specs.declared.wave_totals.WaveTotals.{WaveTotals}
use Rattle.caf_finish.specs.Events.{Message, message_in, messages_of, is_taken, is_completed, is_acked, wave_of, sum_of_wave}
use Rattle.caf_finish.specs.Kept.{IsKept, IsWhole, MaySendBy, MayTake, MayComplete, MayAck}
use Rattle.caf_finish.specs.Totals.{contributes_in_wave, relays_in_wave}
use Rattle.caf_finish.specs.Ledger.{state_of, no_totals, AreSmallTotals}
use Rattle.caf_finish.specs.IsLedger.{IsLedger}
use Rattle.caf_finish.proofs.Messages.{taken-sent}
use Rattle.caf_finish.proofs.Numbers.{found-number, at-some, from-some}
use Rattle.caf_finish.proofs.Tables.{small-totals}
use Rattle.caf_finish.proofs.Totals.{sum-is}
use Rattle.caf_finish.proofs.Whole.{all-contributed, all-relayed}

-- what is told of a message that was sent
pub record IsStateOf (h : List FinishEvent) (n : ℕ) (state : MessageState) : Type 0 where
  pub message : Message
  pub found : message_in (messages_of h) n ≡ Some message
  pub origin : state.origin ≡ message.origin
  pub target : state.target ≡ message.target
  pub epoch : state.epoch ≡ message.epoch
  pub taken : state.taken ≡ is_taken h n
  pub completed : state.completed ≡ is_completed h n
  pub acked : state.acked ≡ is_acked h n

module _ (h : List FinishEvent) (a : Ledger) (ledger : IsLedger h a) (n : ℕ) where
  pub state-found : (state : MessageState) → get nat_eq a.messages n ≡ Some state → IsStateOf h n state
  state-found state e = go (message_in (messages_of h) n) refl (sym (ledger.messages n) ∙ e)
    where
      go : (o : Option Message) → message_in (messages_of h) n ≡ o → state_of h o ≡ Some state → IsStateOf h n state
      go None is e = absurd cc
      go (Some x) is e =
          let number = found-number n x (messages_of h) is in
          let same : ◌≡◌ {A = MessageState} (record { origin = x.origin; target = x.target; epoch = x.epoch; taken = is_taken h x.number; completed = is_completed h x.number; acked = is_acked h x.number }) state = cc in
          record {
            message = x;
            found = is;
            origin = sym (ap (λ (y : MessageState). y.origin) same);
            target = sym (ap (λ (y : MessageState). y.target) same);
            epoch = sym (ap (λ (y : MessageState). y.epoch) same);
            taken = sym (ap (λ (y : MessageState). y.taken) same) ∙ ap (is_taken h) number;
            completed = sym (ap (λ (y : MessageState). y.completed) same) ∙ ap (is_completed h) number;
            acked = sym (ap (λ (y : MessageState). y.acked) same) ∙ ap (is_acked h) number;
          }

  pub state-missing : get nat_eq a.messages n ≡ None → message_in (messages_of h) n ≡ None
  state-missing e = go (message_in (messages_of h) n) refl (sym (ledger.messages n) ∙ e)
    where
      go : (o : Option Message) → message_in (messages_of h) n ≡ o → state_of h o ≡ None → message_in (messages_of h) n ≡ None
      go None is e = is
      go (Some x) is e = absurd cc

-- of two tests with `&&`
pub and-first : (a b : Bool) → a ≡ true → b ≡ (a && b)
and-first a b p = sym (rw p refl)

pub and-not : (a b : Bool) → a ≡ false → a ≡ (a && b)
and-not a b p = p ∙ sym (rw p refl)

-- a message by which another is sent
pub send-by : (h : List FinishEvent) (o q : ℕ) (state : MessageState) (v : Bool) → IsStateOf h q state → v ≡ ((state.taken && not state.completed) && (state.target == o))
    → IsTrue v ↔ MaySendBy h o (Some q)
send-by h o q state v n e = (
  (λ t. yes state.taken state.completed (state.target == o) refl refl refl (sym e ∙ t)),
  λ may. e ∙ back state.taken state.completed (state.target == o) (n.taken ∙ may.0) (n.completed ∙ may.1) (eq-eqb _ _ (n.target ∙ at-some (message_in (messages_of h) q) n.message (λ x. x.target ≡ o) n.found may.2)),
)
  where
    yes : (t c b : Bool) → state.taken ≡ t → state.completed ≡ c → (state.target == o) ≡ b → ((t && not c) && b) ≡ true → MaySendBy h o (Some q)
    yes true false true p1 p2 p3 p =
        (sym n.taken ∙ p1, sym n.completed ∙ p2, from-some (message_in (messages_of h) q) n.message (λ x. x.target ≡ o) n.found (sym n.target ∙ eqb-true _ _ p3))
    yes true false false p1 p2 p3 p = absurd cc
    yes true true b p1 p2 p3 p = absurd cc
    yes false c b p1 p2 p3 p = absurd cc

    back : (t c b : Bool) → t ≡ true → c ≡ false → b ≡ true → ((t && not c) && b) ≡ true
    back t c b p q r = rw (p, q, r) refl

-- a message that may be taken
pub take : (h : List FinishEvent) (m : ℕ) (state : MessageState) (wave : ℕ) (v : Bool) → IsStateOf h m state → wave ≡ wave_of h state.target → v ≡ (not state.taken && leb (state.epoch / 2) wave)
    → IsTrue v ↔ MayTake h m
take h m state wave v n w e = (
  (λ t. yes state.taken (leb (state.epoch / 2) wave) refl refl (sym e ∙ t)),
  λ may. e ∙ back state.taken (leb (state.epoch / 2) wave) (n.taken ∙ may.once) (le-leb _ _ (in_time (at-some (message_in (messages_of h) m) n.message (λ x. x.epoch / 2 ≤ wave_of h x.target) n.found may.sent))),
)
  where
    wave_is : wave ≡ wave_of h n.message.target
    wave_is = w ∙ ap (wave_of h) n.target

    in_time : n.message.epoch / 2 ≤ wave_of h n.message.target → state.epoch / 2 ≤ wave
    in_time le = let is = wave_is in let stamp = ap (λ x. x / 2) n.epoch in omega arith

    yes : (t b : Bool) → state.taken ≡ t → leb (state.epoch / 2) wave ≡ b → (not t && b) ≡ true → MayTake h m
    yes false true p1 p2 p =
        let le : state.epoch / 2 ≤ wave = leb-true _ _ p2 in
        let is = wave_is in
        let stamp = ap (λ x. x / 2) n.epoch in
        record {
          sent = from-some (message_in (messages_of h) m) n.message (λ x. x.epoch / 2 ≤ wave_of h x.target) n.found (omega arith);
          once = sym n.taken ∙ p1;
        }
    yes false false p1 p2 p = absurd cc
    yes true b p1 p2 p = absurd cc

    back : (t b : Bool) → t ≡ false → b ≡ true → (not t && b) ≡ true
    back t b p q = rw (p, q) refl

-- a message that may be completed, and one that may have its Ack
and_not-parts : (a b : Bool) → (a && not b) ≡ true → (a ≡ true) × (b ≡ false)
and_not-parts true false e = (refl, refl)
and_not-parts true true e = absurd cc
and_not-parts false b e = absurd cc

and_not-both : (a b : Bool) → a ≡ true → b ≡ false → (a && not b) ≡ true
and_not-both a b p q = rw (p, q) refl

pub complete : (h : List FinishEvent) (m : ℕ) (state : MessageState) (v : Bool) → IsStateOf h m state → v ≡ (state.taken && not state.completed) → IsTrue v ↔ MayComplete h m
complete h m state v n e = (
  (λ t. let p = and_not-parts _ _ (sym e ∙ t) in record { taken = sym n.taken ∙ p.0; once = sym n.completed ∙ p.1 }),
  λ may. e ∙ and_not-both _ _ (n.taken ∙ may.taken) (n.completed ∙ may.once),
)

pub ack : (h : List FinishEvent) (m : ℕ) (state : MessageState) (v : Bool) → IsStateOf h m state → v ≡ (state.taken && not state.acked) → IsTrue v ↔ MayAck h m
ack h m state v n e = (
  (λ t. let p = and_not-parts _ _ (sym e ∙ t) in record { taken = sym n.taken ∙ p.0; once = sym n.acked ∙ p.1 }),
  λ may. e ∙ and_not-both _ _ (n.taken ∙ may.taken) (n.acked ∙ may.once),
)

-- what wasn't sent is neither
pub none-taken : (size : ℕ) (h : List FinishEvent) (m : ℕ) → IsKept size h → message_in (messages_of h) m ≡ None → is_taken h m ≡ true → ⊥
none-taken size h m k e t = cc (taken-sent size h m k t, ap is_some e)

-- what is told of a wave
module _ (h : List FinishEvent) (a : Ledger) (ledger : IsLedger h a) (w : ℕ) (totals : WaveTotals) (is : totals ≡ unwrap_or (get nat_eq a.waves w) no_totals) where
  pub totals-small : length h ≤ 1000000 → AreSmallTotals totals
  totals-small few = subst AreSmallTotals (sym (is ∙ ledger.waves w)) (small-totals a.size h w ledger.kept few)

  pub totals-sum : sum_of_wave h w ≡ pos totals.sent -ℤ pos totals.completed
  totals-sum = sum-is h w ∙ sym (ap (λ (x : WaveTotals). pos x.sent -ℤ pos x.completed) (is ∙ ledger.waves w))

  pub whole : (v : Bool) → v ≡ ((totals.contributes == a.size) && (totals.relays + 1 == a.size)) → IsTrue v ↔ IsWhole a.size h w
  whole v e = (
    (λ t.
        let p = and_parts (totals.contributes == a.size) (totals.relays + 1 == a.size) (sym e ∙ t) in
        record {
          contributed = (all-contributed a.size h w ledger.team ledger.kept).0 (sym contributes_is ∙ eqb-true _ _ p.0);
          relayed = (all-relayed a.size h w ledger.team ledger.kept).0 (ap (λ n. n + 1) (sym relays_is) ∙ eqb-true _ _ p.1);
        }),
    λ f. e ∙ and_true (totals.contributes == a.size) (totals.relays + 1 == a.size)
        (eq-eqb _ _ (contributes_is ∙ (all-contributed a.size h w ledger.team ledger.kept).1 f.contributed))
        (eq-eqb _ _ (ap (λ n. n + 1) relays_is ∙ (all-relayed a.size h w ledger.team ledger.kept).1 f.relayed)),
  )
    where
      contributes_is : totals.contributes ≡ contributes_in_wave h w
      contributes_is = ap (λ (x : WaveTotals). x.contributes) (is ∙ ledger.waves w)

      relays_is : totals.relays ≡ relays_in_wave h w
      relays_is = ap (λ (x : WaveTotals). x.relays) (is ∙ ledger.waves w)

      and_true : (b c : Bool) → b ≡ true → c ≡ true → (b && c) ≡ true
      and_true b c p q = rw (p, q) refl
