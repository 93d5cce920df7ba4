-- What an image keeps of a finish, and how each call changes it.
use Rattle.std.specs.Prelude.{◌≡◌, ◌≢◌, ℕ, ◌+◌, ◌*◌, ◌-◌, ◌<◌, ◌≤◌, ◌^◌, Bool, true, false, not, ◌&&◌, List, Option, Some, None, ℤ, pos, ◌+ℤ◌, ◌-ℤ◌, slice_set, FitsSigned}
use Rattle.std.specs.Int.{w64}
use Rattle.caf_base.specs.declared.four.Four.{Four}
use Rattle.caf_base.specs.Arithmetic.{is_zero}
use Rattle.caf_epochs.specs.declared.counters.Counters.{Counters}
use Rattle.caf_epochs.specs.Epoch.{epoch_of, class_of}
use Rattle.caf_epochs.specs.Counters.{no_counts, one_sent, one_delivered, one_received, one_completed, four_of, in_class, is_quiet, sum_of_fours, FitsFour, folded}
use Rattle.caf_reduce.specs.declared.part.Part.{Part}
use Rattle.caf_reduce.specs.declared.part.Part.TheVariants.{Present}
use Rattle.caf_reduce.specs.Tree.{first_parts}
use Rattle.caf_reduce.specs.Sum.{IsMissing, sum_of, emptied}
use Rattle.caf_finish.specs.declared.counted.Counted.{Counted}
use Rattle.caf_finish.specs.declared.counted.Counted.TheVariants.{Sent, Delivered, Received, Completed}

pub record Account : Type 0 where
  -- the image's rank in the team
  pub rank : ℕ
  -- how many results it has taken, and the last of them
  pub wave : ℕ
  pub last : Option ℤ
  -- whether it has contributed since then
  pub late : Bool
  -- its numbers of messages
  pub counters : Counters
  -- by rank, what this image gathers in the present wave
  pub parts : List Part

-- of a finish of which nothing is known yet, at a rank of a team of this size
abbrev pub first_account : ℕ → ℕ → Account
first_account size rank =
    record {
      rank = rank;
      wave = 0;
      last = None;
      late = false;
      counters = no_counts;
      parts = first_parts size rank;
    }

-- the stamp of a message that the image sends now
abbrev pub epoch_at : Account → ℕ
epoch_at account = epoch_of account.wave account.late

-- one message more of a kind
abbrev pub one_more : Counted → Four → Four
one_more Sent four = one_sent four
one_more Delivered four = one_delivered four
one_more Received four = one_received four
one_more Completed four = one_completed four

-- the number of a kind
abbrev pub number_of : Counted → Four → ℕ
number_of Sent four = four.sent
number_of Delivered four = four.delivered
number_of Received four = four.received
number_of Completed four = four.completed

-- a message with this stamp can be counted
pub record IsCountable (what : Counted) (epoch : ℕ) (account : Account) : Type 0 where
  pub stamped : epoch ≤ 2 * account.wave + 1
  pub room : number_of what (four_of (class_of epoch account.wave) account.counters) < 4294967295

-- a message with this stamp is counted
abbrev pub counted : Counted → ℕ → Account → Account
counted what epoch account =
    record account { counters = in_class (class_of epoch account.wave) (one_more what) account.counters }

-- whether the last result is 0: all messages are completed, and the image may leave
abbrev pub is_over : Option ℤ → Bool
is_over None = false
is_over (Some sum) = is_zero sum

abbrev pub may_leave : Account → Bool
may_leave account = is_over account.last

-- whether the image may contribute: once a wave, with no message under way, and not after a result of 0
abbrev pub may_contribute : Account → Bool
may_contribute account = (not account.late && is_quiet account.counters.even) && not (is_over account.last)

-- what the image adds to the sum of a wave: its messages sent and not completed
abbrev pub own_sum : Account → ℤ
own_sum account = pos account.counters.even.sent -ℤ pos account.counters.even.completed

-- the image may contribute, and its part can be added
pub record CanContribute (account : Account) : Type 0 where
  pub may : may_contribute account ≡ true
  pub fits : FitsSigned w64 (sum_of account.parts +ℤ own_sum account)

-- the image contributes
abbrev pub contributed : Account → Account
contributed account =
    record account { late = true; parts = slice_set account.parts account.rank (Present (own_sum account)) }

-- the rank is a child that hasn't given in this wave, and its part can be added
pub record CanRelay (from : ℕ) (sum : ℤ) (account : Account) : Type 0 where
  pub another : from ≢ account.rank
  pub missing : IsMissing account.parts from
  pub fits : FitsSigned w64 (sum_of account.parts +ℤ sum)

-- a child gives its part
abbrev pub relayed : ℕ → ℤ → Account → Account
relayed from sum account = record account { parts = slice_set account.parts from (Present sum) }

-- the image waits for a result, and can take one
pub record CanTakeResult (account : Account) : Type 0 where
  pub late : account.late ≡ true
  pub small : account.wave < 2 ^ 31 - 1
  pub fits : FitsFour (sum_of_fours account.counters.even account.counters.odd)

-- the image takes a result: a new wave begins, with the odd numbers among the even ones
abbrev pub after_result : ℤ → Account → Account
after_result sum account =
    record account {
      wave = account.wave + 1;
      last = Some sum;
      late = false;
      counters = folded account.counters;
      parts = emptied account.parts;
    }
