-- When a ledger is that of a list of events, and how its tables change.
use Rattle.std.specs.Prelude.{◌≡◌, ℕ, ◌<◌, ◌==◌, if◌then◌else◌, List, ◌∷◌, Some, unwrap_or, nat_eq}
use Rattle.std.specs.HashMap.{get}
use Rattle.caf_finish.specs.declared.event.FinishEvent.{FinishEvent}
use Rattle.caf_finish.specs.declared.ledger.Ledger.{Ledger}
use Rattle.caf_finish.specs.declared.rank_state.RankState.{RankState}
use Rattle.caf_finish.specs.declared.message_state.MessageState.{MessageState}
use Rattle.caf_finish.specs.declared.wave_totals.WaveTotals.{WaveTotals}
use Rattle.caf_finish.specs.Events.{running_in}
use Rattle.caf_finish.specs.Kept.{IsKept}
use Rattle.caf_finish.specs.Ledger.{rank_state, no_rank_state, message_state, totals_of, no_totals}

-- the events are kept, and each table tells what they tell
pub record IsLedger (h : List FinishEvent) (ledger : Ledger) : Type 0 where
  pub team : 0 < ledger.size
  pub kept : IsKept ledger.size h
  pub ranks : (i : ℕ) → unwrap_or (get nat_eq ledger.ranks i) no_rank_state ≡ rank_state h i
  pub messages : (m : ℕ) → get nat_eq ledger.messages m ≡ message_state h m
  pub waves : (w : ℕ) → unwrap_or (get nat_eq ledger.waves w) no_totals ≡ totals_of h w
  pub running : ledger.running ≡ running_in h

-- what is told of one rank is put, and nothing else changes
pub record RankPut (old new : Ledger) (rank : ℕ) (state : RankState) : Type 0 where
  pub size : new.size ≡ old.size
  pub running : new.running ≡ old.running
  pub messages : new.messages ≡ old.messages
  pub waves : new.waves ≡ old.waves
  pub ranks : (i : ℕ) → get nat_eq new.ranks i ≡ (if rank == i then Some state else get nat_eq old.ranks i)

-- what is told of one message is put, and nothing else changes
pub record MessagePut (old new : Ledger) (message : ℕ) (state : MessageState) : Type 0 where
  pub size : new.size ≡ old.size
  pub running : new.running ≡ old.running
  pub ranks : new.ranks ≡ old.ranks
  pub waves : new.waves ≡ old.waves
  pub messages : (m : ℕ) → get nat_eq new.messages m ≡ (if message == m then Some state else get nat_eq old.messages m)

-- what is told of one wave is put, and nothing else changes
pub record WavePut (old new : Ledger) (wave : ℕ) (totals : WaveTotals) : Type 0 where
  pub size : new.size ≡ old.size
  pub running : new.running ≡ old.running
  pub ranks : new.ranks ≡ old.ranks
  pub messages : new.messages ≡ old.messages
  pub waves : (w : ℕ) → get nat_eq new.waves w ≡ (if wave == w then Some totals else get nat_eq old.waves w)

-- what is told of a message and of a rank is put, and nothing else changes
pub record BothPut (old new : Ledger) (message : ℕ) (state : MessageState) (rank : ℕ) (counted : RankState) : Type 0 where
  pub size : new.size ≡ old.size
  pub running : new.running ≡ old.running
  pub waves : new.waves ≡ old.waves
  pub ranks : (i : ℕ) → get nat_eq new.ranks i ≡ (if rank == i then Some counted else get nat_eq old.ranks i)
  pub messages : (m : ℕ) → get nat_eq new.messages m ≡ (if message == m then Some state else get nat_eq old.messages m)

-- the event is added to what the ledger tells of
pub record Adds (h : List FinishEvent) (event : FinishEvent) (old new : Ledger) : Type 0 where
  pub size : new.size ≡ old.size
  pub ledger : IsLedger (event ∷ h) new
