-- No count of a rank comes to its type's end while the events are few.
use Rattle.std.proofs.Common.{ℕ, ◌≡◌, ◌+◌, ◌-◌, ◌*◌, ◌^◌, ◌<◌, ◌≤◌, ◌==◌, Bool, true, false, ◌&&◌, List, length, arith}
use Rattle.caf_epochs.specs.declared.counters.Class.{Class}
use Rattle.caf_epochs.specs.declared.counters.Class.TheVariants.{Even, Odd}
use Rattle.caf_epochs.specs.Epoch.{epoch_of, class_of}
use Rattle.caf_epochs.specs.Counters.{four_of}
use Rattle.caf_finish.specs.declared.counted.Counted.{Counted}
use Rattle.caf_finish.specs.declared.counted.Counted.TheVariants.{Sent, Delivered, Received, Completed}
use Rattle.caf_finish.specs.declared.event.FinishEvent.{FinishEvent}
use Rattle.caf_finish.specs.Account.{number_of}
use Rattle.caf_finish.specs.Events.{Message, counts_of, is_even, is_odd, is_taken, is_completed, is_acked, wave_of}
use Rattle.caf_finish.specs.Ledger.{counters_of, rank_state, CanCount, CanFold}
use Rattle.caf_finish.proofs.Tables.{count-few, wave-few}

counts_few : (h : List FinishEvent) (class : Message → Bool) (i : ℕ) (what : Counted) → number_of what (counts_of class h i) ≤ length h
counts_few h class i Sent = count-few (λ m. (i == m.origin) && class m) h
counts_few h class i Delivered = count-few (λ m. ((i == m.origin) && class m) && is_acked h m.number) h
counts_few h class i Received = count-few (λ m. ((i == m.target) && class m) && is_taken h m.number) h
counts_few h class i Completed = count-few (λ m. ((i == m.target) && class m) && is_completed h m.number) h

pub counters-few : (h : List FinishEvent) (i : ℕ) (what : Counted) (class : Class) → number_of what (four_of class (counters_of h i)) ≤ length h
counters-few h i what Even = counts_few h (is_even (wave_of h i)) i what
counters-few h i what Odd = counts_few h (is_odd (wave_of h i)) i what

-- a message that is sent now can be counted by its epoch
pub epoch-within : (epoch wave : ℕ) (late : Bool) → epoch ≡ epoch_of wave late → epoch ≤ 2 * wave + 1
epoch-within epoch wave true e = omega arith
epoch-within epoch wave false e = omega arith

module _ (h : List FinishEvent) (i : ℕ) where
  pub count-room : (what : Counted) (epoch : ℕ) → length h < 2 ^ 31 - 1 → epoch ≤ 2 * wave_of h i + 1 → CanCount what epoch (rank_state h i)
  count-room what epoch few le =
      record {
        stamped = le;
        small = omega (arith, wave-few h i);
        room = omega (arith, counters-few h i what (class_of epoch (wave_of h i)));
      }

  pub fold-room : length h < 2 ^ 31 - 1 → CanFold (rank_state h i)
  fold-room few =
      record {
        small = omega (arith, wave-few h i);
        fits = record {
          sent = omega (arith, counters-few h i Sent Even, counters-few h i Sent Odd);
          delivered = omega (arith, counters-few h i Delivered Even, counters-few h i Delivered Odd);
          received = omega (arith, counters-few h i Received Even, counters-few h i Received Odd);
          completed = omega (arith, counters-few h i Completed Even, counters-few h i Completed Odd);
        };
      }
