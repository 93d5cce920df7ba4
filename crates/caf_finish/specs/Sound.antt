-- What the two theorems on kept lists say.
use Rattle.std.specs.Prelude.{◌≡◌, ⊤, ℕ, ◌<◌, ◌≤◌, Bool, true, false, ◌||◌, List, [], ◌∷◌, pos, ◌≤ℤ◌}
use Rattle.caf_base.specs.Arithmetic.{is_zero}
use Rattle.caf_finish.specs.declared.event.FinishEvent.{FinishEvent}
use Rattle.caf_finish.specs.declared.event.FinishEvent.TheVariants.{Send, Result}
use Rattle.caf_finish.specs.Events.{has_stood, has_contributed, messages_of, greatest_depth, running_in}

-- no Result is negative
abbrev pub NoneNegative : List FinishEvent → Type 0
NoneNegative [] = ⊤
NoneNegative (Result i s ∷ h) = (pos 0 ≤ℤ s) × NoneNegative h
NoneNegative (_ ∷ h) = NoneNegative h

-- some Result is 0
abbrev pub some_zero : List FinishEvent → Bool
some_zero [] = false
some_zero (Result i s ∷ h) = is_zero s || some_zero h
some_zero (_ ∷ h) = some_zero h

-- no message is sent behind a Result 0
abbrev pub NoSendAfterZero : List FinishEvent → Type 0
NoSendAfterZero [] = ⊤
NoSendAfterZero (Send m o t by ∷ h) = (some_zero h ≡ false) × NoSendAfterZero h
NoSendAfterZero (_ ∷ h) = NoSendAfterZero h

-- no message is sent and not completed, and each rank has stood
pub record IsOver (size : ℕ) (h : List FinishEvent) : Type 0 where
  pub running : running_in h ≡ 0
  pub stood : (i : ℕ) → i < size → has_stood h i ≡ true

-- zero means none: no Result is negative, and where there is a Result 0, the finish is over and nothing is sent behind it
pub record ZeroMeansNone (size : ℕ) (h : List FinishEvent) : Type 0 where
  pub none_negative : NoneNegative h
  pub over : some_zero h ≡ true → IsOver size h
  pub no_send : NoSendAfterZero h

-- waves are few: a Contribute is of a wave from 0 up to the greatest depth of a message, so that at most one wave more than
-- that has any
abbrev pub HasFewWaves : List FinishEvent → Type 0
HasFewWaves h = (i w : ℕ) → has_contributed h i w ≡ true → w ≤ greatest_depth (messages_of h)
