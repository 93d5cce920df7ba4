-- What a call that makes a choice has done.
use Rattle.std.specs.Prelude.{◌≡◌, ℕ, Bool, false, List, Option, Some, None}
use Rattle.caf_base.specs.declared.team.FinishRef.{FinishRef}
use Rattle.caf_pending.specs.declared.operation.Operation.{Operation}
use Rattle.caf_source.specs.declared.state.Image.{Image}
use Rattle.caf_source.specs.declared.stepped.Stepped.{Stepped}
use Rattle.caf_source.specs.declared.stepped.Stepped.TheVariants as stepped
use Rattle.caf_source.specs.Next.{may_leave, standing, with_image}
use Rattle.caf_source.specs.State.{State}

-- the choice is defined and leads from the one to the other, or it isn't and nothing changed
abbrev pub Makes : {A : Type 0} → Option A → A → A → Stepped → Type 0
Makes found before after stepped.Done = found ≡ Some after
Makes found before after stepped.NotEnabled = (found ≡ None) × (after ≡ before)

abbrev pub of_images : List Image → List Operation → State
of_images images pending = record { images = images; pending = pending }

-- whether an image stands at the end of a finish that may be left
abbrev pub may_leave_end : State → Option FinishRef → Bool
may_leave_end s None = false
may_leave_end s (Some f) = may_leave s f

abbrev pub can_leave_in : State → Option Image → Bool
can_leave_in s None = false
can_leave_in s (Some im) = may_leave_end s (standing im)

-- the state with what became of an image
abbrev pub placed : State → ℕ → Option Image → Option State
placed s i None = None
placed s i (Some im) = Some (with_image s i im)
