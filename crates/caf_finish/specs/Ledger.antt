-- What the audit keeps of ranks, messages and waves, as counts over the events so far.
use Rattle.std.specs.Prelude.{ℕ, ◌+◌, ◌*◌, ◌-◌, ◌^◌, ◌<◌, ◌≤◌, false, List, Option, Some, None, ℤ}
use Rattle.caf_base.specs.declared.four.Four.{Four}
use Rattle.caf_epochs.specs.declared.counters.Counters.{Counters}
use Rattle.caf_epochs.specs.Epoch.{class_of}
use Rattle.caf_epochs.specs.Counters.{no_counts, four_of, in_class, sum_of_fours, FitsFour, folded}
use Rattle.caf_finish.specs.declared.counted.Counted.{Counted}
use Rattle.caf_finish.specs.declared.event.FinishEvent.{FinishEvent}
use Rattle.caf_finish.specs.declared.rank_state.RankState.{RankState}
use Rattle.caf_finish.specs.declared.message_state.MessageState.{MessageState}
use Rattle.caf_finish.specs.declared.wave_totals.WaveTotals.{WaveTotals}
use Rattle.caf_finish.specs.Account.{one_more, number_of}
use Rattle.caf_finish.specs.Events.{Message, message_in, messages_of, has_stood, has_left, is_taken, is_completed, is_acked, wave_of, is_late, last_result, was_relayed, even_of, odd_of}
use Rattle.caf_finish.specs.Totals.{sent_in_wave, completed_in_wave, contributes_in_wave, relays_in_wave}

-- the even and the odd counts of a rank
abbrev pub counters_of : List FinishEvent → ℕ → Counters
counters_of h i = record { even = even_of h i; odd = odd_of h i }

-- what the events tell of a rank
abbrev pub rank_state : List FinishEvent → ℕ → RankState
rank_state h i =
    record {
      stood = has_stood h i;
      left = has_left h i;
      wave = wave_of h i;
      late = is_late h i;
      relayed = was_relayed h i (wave_of h i);
      last = last_result h i;
      counters = counters_of h i;
    }

abbrev pub no_rank_state : RankState
no_rank_state =
    record {
      stood = false;
      left = false;
      wave = 0;
      late = false;
      relayed = false;
      last = None;
      counters = no_counts;
    }

-- what they tell of a message that was sent
abbrev pub state_of : List FinishEvent → Option Message → Option MessageState
state_of h None = None
state_of h (Some m) =
    Some (record {
      origin = m.origin;
      target = m.target;
      epoch = m.epoch;
      taken = is_taken h m.number;
      completed = is_completed h m.number;
      acked = is_acked h m.number;
    })

abbrev pub message_state : List FinishEvent → ℕ → Option MessageState
message_state h n = state_of h (message_in (messages_of h) n)

-- what they tell of a wave
abbrev pub totals_of : List FinishEvent → ℕ → WaveTotals
totals_of h w =
    record {
      contributes = contributes_in_wave h w;
      relays = relays_in_wave h w;
      sent = sent_in_wave h w;
      completed = completed_in_wave h w;
    }

abbrev pub no_totals : WaveTotals
no_totals = record { contributes = 0; relays = 0; sent = 0; completed = 0 }

-- a rank with one message more, of this epoch
abbrev pub counted_state : Counted → ℕ → RankState → RankState
counted_state what epoch state =
    record state { counters = in_class (class_of epoch state.wave) (one_more what) state.counters }

pub record CanCount (what : Counted) (epoch : ℕ) (state : RankState) : Type 0 where
  pub stamped : epoch ≤ 2 * state.wave + 1
  pub small : state.wave < 2 ^ 31
  pub room : number_of what (four_of (class_of epoch state.wave) state.counters) < 4294967295

-- a rank after a Result
abbrev pub state_after_result : ℤ → RankState → RankState
state_after_result sum state =
    record {
      stood = state.stood;
      left = state.left;
      wave = state.wave + 1;
      late = false;
      relayed = false;
      last = Some sum;
      counters = folded state.counters;
    }

pub record CanFold (state : RankState) : Type 0 where
  pub small : state.wave < 2 ^ 31 - 1
  pub fits : FitsFour (sum_of_fours state.counters.even state.counters.odd)

-- a wave with one Contribute more, and with one Relay more
abbrev pub one_contribute : Four → WaveTotals → WaveTotals
one_contribute four totals =
    record {
      contributes = totals.contributes + 1;
      relays = totals.relays;
      sent = totals.sent + four.sent;
      completed = totals.completed + four.completed;
    }

abbrev pub one_relay : WaveTotals → WaveTotals
one_relay totals = record totals { relays = totals.relays + 1 }

pub record AreSmallTotals (totals : WaveTotals) : Type 0 where
  pub contributes : totals.contributes < 2 ^ 30
  pub relays : totals.relays < 2 ^ 30
  pub sent : totals.sent < 2 ^ 30
  pub completed : totals.completed < 2 ^ 30

pub record IsSmallFour (four : Four) : Type 0 where
  pub sent : four.sent < 2 ^ 30
  pub completed : four.completed < 2 ^ 30
