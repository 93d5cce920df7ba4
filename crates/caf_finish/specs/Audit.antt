-- What an audit answers.
use Rattle.std.specs.Prelude.{◌≡◌, ℕ, ◌<◌, List, length, take, reverse, Some, slice_get}
use Rattle.caf_finish.specs.declared.event.FinishEvent.{FinishEvent}
use Rattle.caf_finish.specs.declared.verdict.Audit.{Audit}
use Rattle.caf_finish.specs.declared.verdict.Audit.TheVariants.{Broken, Kept}
use Rattle.caf_finish.specs.Events.{running_in}
use Rattle.caf_finish.specs.Kept.{IsKept, MayFollow}

-- the events before a place, the latest first
abbrev pub events_before : List FinishEvent → ℕ → List FinishEvent
events_before events place = reverse (take place events)

-- the event at the place is the first that breaks its rule
pub record IsFirstBroken (size : ℕ) (events : List FinishEvent) (place : ℕ) : Type 0 where
  pub place_in : place < length events
  pub kept_before : IsKept size (events_before events place)
  pub broken : (e : FinishEvent) → slice_get events place ≡ Some e → MayFollow size (events_before events place) e → ⊥

-- each event keeps its rule, and so many messages are sent and not completed
pub record IsKeptWith (size : ℕ) (events : List FinishEvent) (running : ℕ) : Type 0 where
  pub kept : IsKept size (reverse events)
  pub runs : running ≡ running_in (reverse events)

abbrev pub Answers : ℕ → List FinishEvent → Audit → Type 0
Answers size events (Broken place) = IsFirstBroken size events place
Answers size events (Kept running) = IsKeptWith size events running
