-- When a fault may be told: only where the count of the object that was handed in rose.
use Rattle.std.specs.Prelude.{◌≡◌, ◌≢◌, ℕ, ◌+◌, ◌-◌, ◌^◌, ◌<◌, ◌≤◌, min, List, Result, OnErr, OnOk, IsErrOf}
use Rattle.caf_outside.specs.declared.fault.LoadFail.{LoadFail}
use Rattle.caf_outside.specs.declared.fault.LoadFail.TheVariants as fail

-- a counter of 64 bits was raised, or stands at its last value
abbrev pub Rose : ℕ → ℕ → Type 0
Rose before now = min (before + 1) (2 ^ 64 - 1) ≤ now

-- the count never falls, an error comes only where it rose, and it stands where there is none
pub record HasCause {T E : Type 0} (before now : ℕ) (result : Result T E) : Type 0 where
  pub later : before ≤ now
  pub failed : OnErr result (Rose before now)
  pub stood : OnOk result (now ≡ before)

-- the counts of failed loads by name: no count falls, that of another name stays, a failure comes only where the count
-- of this name rose, and that stands where the text was loaded or is too long
pub record HasLoadCause {T : Type 0} (before now : List ℕ → ℕ) (name : List ℕ) (result : Result T LoadFail) : Type 0 where
  pub later : before name ≤ now name
  pub failed : IsErrOf result fail.Failed → before name < now name
  pub loaded : OnOk result (now name ≡ before name)
  pub refused : IsErrOf result fail.TooLong → now name ≡ before name
  pub others : (other : List ℕ) → other ≢ name → now other ≡ before other
