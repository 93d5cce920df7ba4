-- How an image's account of a finish follows the events of that finish.
use Rattle.std.specs.Prelude.{◌≡◌, ⊤, ℕ, ◌==◌, true, if◌then◌else◌, List, Option, Some, None, ℤ}
use Rattle.caf_finish.specs.declared.counted.Counted.TheVariants.{Sent, Delivered, Received, Completed}
use Rattle.caf_finish.specs.declared.event.FinishEvent.{FinishEvent}
use Rattle.caf_finish.specs.declared.event.FinishEvent.TheVariants.{Stand, Send, Take, Complete, Ack, Contribute, Relay, Result, Leave}
use Rattle.caf_finish.specs.Account.{Account, epoch_at, IsCountable, counted, may_contribute, contributed, relayed, CanTakeResult, after_result, may_leave}
use Rattle.caf_finish.specs.Events.{Message, message_in, messages_of, wave_of, is_late, last_result}
use Rattle.caf_finish.specs.Ledger.{counters_of}

-- the account tells of rank i what the events tell of it
pub record IsAccountOf (h : List FinishEvent) (i : ℕ) (account : Account) : Type 0 where
  pub wave : account.wave ≡ wave_of h i
  pub last : account.last ≡ last_result h i
  pub late : account.late ≡ is_late h i
  pub counters : account.counters ≡ counters_of h i

-- a message that rank i took is received or completed, and one that it sent is delivered
abbrev pub at_target : (ℕ → Account → Account) → Option Message → ℕ → Account → Account
at_target change None i account = account
at_target change (Some m) i account = if m.target == i then change m.epoch account else account

abbrev pub at_origin : (ℕ → Account → Account) → Option Message → ℕ → Account → Account
at_origin change None i account = account
at_origin change (Some m) i account = if m.origin == i then change m.epoch account else account

-- the account of rank i after an event that follows h; `sum` is what the child gives, where the event is a Relay to i
abbrev pub account_after : List FinishEvent → ℕ → ℤ → FinishEvent → Account → Account
account_after h i sum (Stand j) account = account
account_after h i sum (Send m o t by) account = if o == i then counted Sent (epoch_at account) account else account
account_after h i sum (Take m) account = at_target (counted Received) (message_in (messages_of h) m) i account
account_after h i sum (Complete m) account = at_target (counted Completed) (message_in (messages_of h) m) i account
account_after h i sum (Ack m) account = at_origin (counted Delivered) (message_in (messages_of h) m) i account
account_after h i sum (Contribute j four) account = if j == i then contributed account else account
account_after h i sum (Relay p c) account = if p == i then relayed c sum account else account
account_after h i sum (Result j s) account = if j == i then after_result s account else account
account_after h i sum (Leave j) account = account

-- what the desk's calls at the event ask of the account of rank i, apart from sums that fit and parts that are missing
abbrev pub IfAtTarget : (ℕ → Type 0) → Option Message → ℕ → Type 0
IfAtTarget P None i = ⊤
IfAtTarget P (Some m) i = m.target ≡ i → P m.epoch

abbrev pub IfAtOrigin : (ℕ → Type 0) → Option Message → ℕ → Type 0
IfAtOrigin P None i = ⊤
IfAtOrigin P (Some m) i = m.origin ≡ i → P m.epoch

abbrev pub CanFollow : List FinishEvent → ℕ → FinishEvent → Account → Type 0
CanFollow h i (Stand j) account = ⊤
CanFollow h i (Send m o t by) account = o ≡ i → IsCountable Sent (epoch_at account) account
CanFollow h i (Take m) account = IfAtTarget (λ epoch. IsCountable Received epoch account) (message_in (messages_of h) m) i
CanFollow h i (Complete m) account = IfAtTarget (λ epoch. IsCountable Completed epoch account) (message_in (messages_of h) m) i
CanFollow h i (Ack m) account = IfAtOrigin (λ epoch. IsCountable Delivered epoch account) (message_in (messages_of h) m) i
CanFollow h i (Contribute j four) account = j ≡ i → (may_contribute account ≡ true) × (four ≡ account.counters.even)
CanFollow h i (Relay p c) account = ⊤
CanFollow h i (Result j s) account = j ≡ i → CanTakeResult account
CanFollow h i (Leave j) account = j ≡ i → may_leave account ≡ true
