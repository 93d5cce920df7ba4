-- When a list of finish events is kept: each event, with those before it, meets its rule. The latest event stands first.
use Rattle.std.specs.Prelude.{◌≡◌, ⊤, ℕ, ◌/◌, ◌<◌, ◌≤◌, true, false, List, [], ◌∷◌, Option, Some, None, IsSomeAnd, ℤ}
use Rattle.caf_base.specs.declared.four.Four.{Four}
use Rattle.caf_reduce.specs.Tree.{parent_of}
use Rattle.caf_finish.specs.declared.event.FinishEvent.{FinishEvent}
use Rattle.caf_finish.specs.declared.event.FinishEvent.TheVariants.{Stand, Send, Take, Complete, Ack, Contribute, Relay, Result, Leave}
use Rattle.caf_finish.specs.Account.{is_over}
use Rattle.caf_finish.specs.Events.{has_stood, has_left, is_taken, is_completed, is_acked, wave_of, is_late, last_result, has_zero, has_contributed, was_relayed, sum_of_wave, message_in, messages_of, even_of}

-- a rank sends by its own program until it stands, and by a message that it has taken and not completed
abbrev pub MaySendBy : List FinishEvent → ℕ → Option ℕ → Type 0
MaySendBy h o None = has_stood h o ≡ false
MaySendBy h o (Some q) =
    (is_taken h q ≡ true) × (is_completed h q ≡ false) × IsSomeAnd (message_in (messages_of h) q) (λ m. m.target ≡ o)

pub record MaySend (size : ℕ) (h : List FinishEvent) (m o t : ℕ) (by : Option ℕ) : Type 0 where
  pub is_new : message_in (messages_of h) m ≡ None
  pub origin_in : o < size
  pub target_in : t < size
  pub sender : MaySendBy h o by

-- the wave rule: a message waits until its target's wave is at least half its epoch
pub record MayTake (h : List FinishEvent) (m : ℕ) : Type 0 where
  pub sent : IsSomeAnd (message_in (messages_of h) m) (λ x. x.epoch / 2 ≤ wave_of h x.target)
  pub once : is_taken h m ≡ false

pub record MayComplete (h : List FinishEvent) (m : ℕ) : Type 0 where
  pub taken : is_taken h m ≡ true
  pub once : is_completed h m ≡ false

pub record MayAck (h : List FinishEvent) (m : ℕ) : Type 0 where
  pub taken : is_taken h m ≡ true
  pub once : is_acked h m ≡ false

pub record MayStand (size : ℕ) (h : List FinishEvent) (i : ℕ) : Type 0 where
  pub rank_in : i < size
  pub once : has_stood h i ≡ false

-- once a wave and until its Result 0, a rank that stands gives its even counts when its even messages are done
pub record MayContribute (size : ℕ) (h : List FinishEvent) (i : ℕ) (four : Four) : Type 0 where
  pub rank_in : i < size
  pub stands : has_stood h i ≡ true
  pub not_late : is_late h i ≡ false
  pub no_zero : has_zero h i ≡ false
  pub counts : four ≡ even_of h i
  pub delivered : four.sent ≡ four.delivered
  pub completed : four.received ≡ four.completed

-- a late rank is relayed to its parent in their common wave, once and after its own children
pub record MayRelay (size : ℕ) (h : List FinishEvent) (p c : ℕ) : Type 0 where
  pub parent_in : p < size
  pub child_in : c < size
  pub above : 0 < c
  pub is_parent : p ≡ parent_of size c
  pub late : is_late h c ≡ true
  pub same_wave : wave_of h c ≡ wave_of h p
  pub children : (k : ℕ) → 0 < k → k < size → parent_of size k ≡ c → was_relayed h k (wave_of h c) ≡ true
  pub once : was_relayed h c (wave_of h c) ≡ false

-- a wave is whole once each rank has contributed in it, and each but rank 0 was relayed
pub record IsWhole (size : ℕ) (h : List FinishEvent) (w : ℕ) : Type 0 where
  pub contributed : (j : ℕ) → j < size → has_contributed h j w ≡ true
  pub relayed : (j : ℕ) → 0 < j → j < size → was_relayed h j w ≡ true

-- a late rank takes the sum of its wave once that is whole
pub record MayResult (size : ℕ) (h : List FinishEvent) (i : ℕ) (s : ℤ) : Type 0 where
  pub rank_in : i < size
  pub late : is_late h i ≡ true
  pub whole : IsWhole size h (wave_of h i)
  pub sum : s ≡ sum_of_wave h (wave_of h i)

pub record MayLeave (size : ℕ) (h : List FinishEvent) (i : ℕ) : Type 0 where
  pub rank_in : i < size
  pub over : is_over (last_result h i) ≡ true
  pub once : has_left h i ≡ false

-- the event may follow these
abbrev pub MayFollow : ℕ → List FinishEvent → FinishEvent → Type 0
MayFollow size h (Stand i) = MayStand size h i
MayFollow size h (Send m o t by) = MaySend size h m o t by
MayFollow size h (Take m) = MayTake h m
MayFollow size h (Complete m) = MayComplete h m
MayFollow size h (Ack m) = MayAck h m
MayFollow size h (Contribute i four) = MayContribute size h i four
MayFollow size h (Relay p c) = MayRelay size h p c
MayFollow size h (Result i s) = MayResult size h i s
MayFollow size h (Leave i) = MayLeave size h i

-- each event may follow those before it
abbrev pub IsKept : ℕ → List FinishEvent → Type 0
IsKept size [] = ⊤
IsKept size (e ∷ h) = MayFollow size h e × IsKept size h
