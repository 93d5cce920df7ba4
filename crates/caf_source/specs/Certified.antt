-- What a list of choices comes to.
use Rattle.std.specs.Prelude.{◌≡◌, ℕ, List, Some, None, length, slice_get, take}
use Rattle.caf_program.specs.declared.program.Program.{Program}
use Rattle.caf_source.specs.declared.runs.Certified.{Certified}
use Rattle.caf_source.specs.declared.runs.Certified.TheVariants as certified
use Rattle.caf_source.specs.declared.choice.Choice.{Choice}
use Rattle.caf_source.specs.Kept.{CanGoOn, Kept}
use Rattle.caf_source.specs.Next.{next}
use Rattle.caf_source.specs.Run.{state_after}
use Rattle.caf_source.specs.State.{State}

-- the choices lead to a state that can go on
pub record IsLed (p : Program) (images : ℕ) (choices : List Choice) (k : Kept) : Type 0 where
  pub led : state_after p images choices ≡ Some k.state
  pub done : k.done ≡ length choices
  pub ready : CanGoOn k

-- the choice at a place isn't defined, where those before it are
pub record IsFirstRefused (p : Program) (images : ℕ) (choices : List Choice) (at : ℕ) : Type 0 where
  pub state : State
  pub led : state_after p images (take at choices) ≡ Some state
  pub choice : Choice
  pub found : slice_get choices at ≡ Some choice
  pub refused : next p state choice ≡ None

abbrev pub Certifies : Program → ℕ → List Choice → Certified → Type 0
Certifies p images choices (certified.Runs k) = IsLed p images choices k
Certifies p images choices (certified.Refused at) = IsFirstRefused p images choices at
