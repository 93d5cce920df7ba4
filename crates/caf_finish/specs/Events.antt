-- What a list of finish events tells of ranks and messages. Each list has the latest event first, so that `e ∷ h` is the
-- event e behind those of h.
use Rattle.std.specs.Prelude.{ℕ, ◌+◌, max, Bool, true, false, not, ◌==◌, ◌&&◌, ◌||◌, if◌then◌else◌, List, [], ◌∷◌, Option, Some, None, count_by, ℤ, pos, ◌+ℤ◌, ◌-ℤ◌}
use Rattle.caf_base.specs.declared.four.Four.{Four}
use Rattle.caf_base.specs.Arithmetic.{is_zero}
use Rattle.caf_epochs.specs.declared.counters.Class.{Class}
use Rattle.caf_epochs.specs.declared.counters.Class.TheVariants.{Even, Odd}
use Rattle.caf_epochs.specs.Epoch.{epoch_of, class_of}
use Rattle.caf_finish.specs.declared.event.FinishEvent.{FinishEvent}
use Rattle.caf_finish.specs.declared.event.FinishEvent.TheVariants.{Stand, Send, Take, Complete, Ack, Contribute, Relay, Result, Leave}

-- the rank stands at the end of the finish
abbrev pub has_stood : List FinishEvent → ℕ → Bool
has_stood [] i = false
has_stood (Stand j ∷ h) i = (j == i) || has_stood h i
has_stood (_ ∷ h) i = has_stood h i

-- the rank has left the finish
abbrev pub has_left : List FinishEvent → ℕ → Bool
has_left [] i = false
has_left (Leave j ∷ h) i = (j == i) || has_left h i
has_left (_ ∷ h) i = has_left h i

-- the message was taken, was completed, or has its Ack
abbrev pub is_taken : List FinishEvent → ℕ → Bool
is_taken [] m = false
is_taken (Take n ∷ h) m = (n == m) || is_taken h m
is_taken (_ ∷ h) m = is_taken h m

abbrev pub is_completed : List FinishEvent → ℕ → Bool
is_completed [] m = false
is_completed (Complete n ∷ h) m = (n == m) || is_completed h m
is_completed (_ ∷ h) m = is_completed h m

abbrev pub is_acked : List FinishEvent → ℕ → Bool
is_acked [] m = false
is_acked (Ack n ∷ h) m = (n == m) || is_acked h m
is_acked (_ ∷ h) m = is_acked h m

-- the wave of a rank: how many Results it has taken
abbrev pub wave_of : List FinishEvent → ℕ → ℕ
wave_of [] i = 0
wave_of (Result j s ∷ h) i = (if j == i then 1 else 0) + wave_of h i
wave_of (_ ∷ h) i = wave_of h i

-- the rank is late: it has contributed since its last Result
abbrev pub is_late : List FinishEvent → ℕ → Bool
is_late [] i = false
is_late (Contribute j four ∷ h) i = if j == i then true else is_late h i
is_late (Result j s ∷ h) i = if j == i then false else is_late h i
is_late (_ ∷ h) i = is_late h i

-- the last Result of a rank
abbrev pub last_result : List FinishEvent → ℕ → Option ℤ
last_result [] i = None
last_result (Result j s ∷ h) i = if j == i then Some s else last_result h i
last_result (_ ∷ h) i = last_result h i

-- the rank has taken a Result 0
abbrev pub has_zero : List FinishEvent → ℕ → Bool
has_zero [] i = false
has_zero (Result j s ∷ h) i = ((j == i) && is_zero s) || has_zero h i
has_zero (_ ∷ h) i = has_zero h i

-- the rank has contributed in wave w
abbrev pub has_contributed : List FinishEvent → ℕ → ℕ → Bool
has_contributed [] i w = false
has_contributed (Contribute j four ∷ h) i w = ((j == i) && (wave_of h j == w)) || has_contributed h i w
has_contributed (_ ∷ h) i w = has_contributed h i w

-- the rank was relayed in wave w
abbrev pub was_relayed : List FinishEvent → ℕ → ℕ → Bool
was_relayed [] i w = false
was_relayed (Relay p j ∷ h) i w = ((j == i) && (wave_of h j == w)) || was_relayed h i w
was_relayed (_ ∷ h) i w = was_relayed h i w

-- the sum of sent minus completed over the Contributes of wave w
abbrev pub sum_of_wave : List FinishEvent → ℕ → ℤ
sum_of_wave [] w = pos 0
sum_of_wave (Contribute j four ∷ h) w =
    (if wave_of h j == w then pos four.sent -ℤ pos four.completed else pos 0) +ℤ sum_of_wave h w
sum_of_wave (_ ∷ h) w = sum_of_wave h w

-- a message, with the epoch that it was stamped with and its depth
pub record Message : Type 0 where
  pub number : ℕ
  pub origin : ℕ
  pub target : ℕ
  pub epoch : ℕ
  pub depth : ℕ

-- the message of this number
abbrev pub message_in : List Message → ℕ → Option Message
message_in [] n = None
message_in (m ∷ ms) n = if m.number == n then Some m else message_in ms n

abbrev pub depth_of : Option Message → ℕ
depth_of None = 0
depth_of (Some m) = m.depth

-- the depth of a message: 1 where the rank's own program sends it, and one more than that of the message by which it is sent
abbrev pub depth_by : List Message → Option ℕ → ℕ
depth_by ms None = 1
depth_by ms (Some q) = depth_of (message_in ms q) + 1

-- the greatest depth, 0 if there are no messages
abbrev pub greatest_depth : List Message → ℕ
greatest_depth [] = 0
greatest_depth (m ∷ ms) = max m.depth (greatest_depth ms)

-- a message that is sent behind these events
abbrev pub sent_message : List FinishEvent → List Message → ℕ → ℕ → ℕ → Option ℕ → Message
sent_message h ms m o t by =
    record { number = m; origin = o; target = t; epoch = epoch_of (wave_of h o) (is_late h o); depth = depth_by ms by }

-- the messages that were sent
abbrev pub messages_of : List FinishEvent → List Message
messages_of [] = []
messages_of (Send m o t by ∷ h) = sent_message h (messages_of h) m o t by ∷ messages_of h
messages_of (_ ∷ h) = messages_of h

-- how many messages are sent and not completed
abbrev pub running_in : List FinishEvent → ℕ
running_in h = count_by (λ m. not (is_completed h m.number)) (messages_of h)

abbrev pub is_class_even : Class → Bool
is_class_even Even = true
is_class_even Odd = false

-- the message is Even, or Odd, at a rank in wave w
abbrev pub is_even : ℕ → Message → Bool
is_even w m = is_class_even (class_of m.epoch w)

abbrev pub is_odd : ℕ → Message → Bool
is_odd w m = not (is_even w m)

-- the four counts of a rank over the messages of a class: those that it sent, those of them that have an Ack, those that
-- it took, and those that it completed
abbrev pub counts_of : (Message → Bool) → List FinishEvent → ℕ → Four
counts_of class h i =
    record {
      sent = count_by (λ m. (i == m.origin) && class m) (messages_of h);
      delivered = count_by (λ m. ((i == m.origin) && class m) && is_acked h m.number) (messages_of h);
      received = count_by (λ m. ((i == m.target) && class m) && is_taken h m.number) (messages_of h);
      completed = count_by (λ m. ((i == m.target) && class m) && is_completed h m.number) (messages_of h);
    }

-- the even and the odd counts of a rank in its present wave
abbrev pub even_of : List FinishEvent → ℕ → Four
even_of h i = counts_of (is_even (wave_of h i)) h i

abbrev pub odd_of : List FinishEvent → ℕ → Four
odd_of h i = counts_of (is_odd (wave_of h i)) h i
