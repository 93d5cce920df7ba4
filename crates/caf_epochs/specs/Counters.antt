-- Two sets of four counts, by the class of the message.
use Rattle.std.specs.Prelude.{◌+◌, ◌<◌, ◌^◌, Bool, ◌==◌, ◌&&◌}
use Rattle.caf_base.specs.declared.four.Four.{Four}
use Rattle.caf_epochs.specs.declared.counters.Class.{Class}
use Rattle.caf_epochs.specs.declared.counters.Class.TheVariants.{Even, Odd}
use Rattle.caf_epochs.specs.declared.counters.Counters.{Counters}

-- no message
abbrev pub no_four : Four
no_four = record { sent = 0; delivered = 0; received = 0; completed = 0 }

abbrev pub no_counts : Counters
no_counts = record { even = no_four; odd = no_four }

-- one message more of a kind
abbrev pub one_sent : Four → Four
one_sent four = record four { sent = four.sent + 1 }

abbrev pub one_delivered : Four → Four
one_delivered four = record four { delivered = four.delivered + 1 }

abbrev pub one_received : Four → Four
one_received four = record four { received = four.received + 1 }

abbrev pub one_completed : Four → Four
one_completed four = record four { completed = four.completed + 1 }

-- the four counts of a class
abbrev pub four_of : Class → Counters → Four
four_of Even counters = counters.even
four_of Odd counters = counters.odd

-- the counts with those of this class changed, and the others as before
abbrev pub in_class : Class → (Four → Four) → Counters → Counters
in_class Even change counters = record counters { even = change counters.even }
in_class Odd change counters = record counters { odd = change counters.odd }

-- each sent message was delivered, and each received one is completed
abbrev pub is_quiet : Four → Bool
is_quiet four = (four.sent == four.delivered) && (four.received == four.completed)

abbrev pub sum_of_fours : Four → Four → Four
sum_of_fours a b =
    record {
      sent = a.sent + b.sent;
      delivered = a.delivered + b.delivered;
      received = a.received + b.received;
      completed = a.completed + b.completed;
    }

-- each of the four numbers fits 32 bits
pub record FitsFour (four : Four) : Type 0 where
  pub sent : four.sent < 2 ^ 32
  pub delivered : four.delivered < 2 ^ 32
  pub received : four.received < 2 ^ 32
  pub completed : four.completed < 2 ^ 32

-- the odd counts are added to the even ones, and none is left
abbrev pub folded : Counters → Counters
folded counters = record { even = sum_of_fours counters.even counters.odd; odd = no_four }
