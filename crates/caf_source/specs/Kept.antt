-- What the machine keeps: a state, and what stands beside it.
use Rattle.std.specs.Prelude.{◌≡◌, ℕ, ◌+◌, Bool, true, false}
use Rattle.caf_program.specs.declared.program.Program.{Program}
use Rattle.caf_source.specs.declared.choice.Choice.{Choice}
use Rattle.caf_source.specs.declared.stepped.Stepped.{Stepped}
use Rattle.caf_source.specs.declared.stepped.Stepped.TheVariants as stepped
use Rattle.caf_source.specs.Next.{next}
use Rattle.caf_source.specs.Placed.{ArePlaceable}
use Rattle.caf_source.specs.State.{State, first}
use Rattle.caf_source.specs.Stepping.{Makes}

pub record Kept : Type 0 where
  pub state : State
  -- how many choices were done
  pub done : ℕ
  -- whether memory was wanting once
  pub failed : Bool

-- what a run begins with
abbrev pub begun : Program → ℕ → Kept
begun p images = record { state = first p images; done = 0; failed = false }

abbrev pub IsReady : Bool → State → Type 0
IsReady true s = Unit {0}
IsReady false s = ArePlaceable s.images

-- Each image's memory is one that a Step can run on; or memory was wanting once, and then no choice is made.
abbrev pub CanGoOn : Kept → Type 0
CanGoOn k = IsReady k.failed k.state

-- how many choices a call has done
abbrev pub count_done : Stepped → ℕ
count_done stepped.Done = 1
count_done stepped.NotEnabled = 0

-- a call that made the choice or found it not defined: the state, the count, and that memory was never wanting
pub record Made (p : Program) (c : Choice) (before : Kept) (after : Kept) (r : Stepped) : Type 0 where
  pub state : Makes (next p before.state c) before.state after.state r
  pub count : after.done ≡ before.done + count_done r
  pub never : (before.failed ≡ false) × (after.failed ≡ false)
