-- Runs of the source machine: the state after a list of choices, how it stands, and what its report tells.
use Rattle.std.specs.Prelude.{◌≡◌, Bool, true, false, map, List, [], ◌∷◌, Option, Some, None, ℕ, IsTrue}
use Rattle.std.specs.List.{list_any, list_all}
use Rattle.caf_base.specs.declared.summary.Ending.{Ending}
use Rattle.caf_base.specs.declared.summary.Ending.TheVariants as ending
use Rattle.caf_base.specs.declared.summary.ImageSummary.{ImageSummary}
use Rattle.caf_base.specs.declared.summary.Summary.{Summary}
use Rattle.caf_base.specs.declared.trap.Trap.{Trap}
use Rattle.caf_history.specs.Finishes.{is_program_finish}
use Rattle.caf_program.specs.declared.program.Program.{Program}
use Rattle.caf_source.specs.declared.choice.Choice.{Choice}
use Rattle.caf_source.specs.declared.state.Image.{Image}
use Rattle.caf_source.specs.State.{State, first}
use Rattle.caf_source.specs.Next.{next}

abbrev pub then_next : Program → Option State → Choice → Option State
then_next p None c = None
then_next p (Some s) c = next p s c

-- the state after the choices, none as soon as one of them isn't defined
abbrev pub state_from : Program → Option State → List Choice → Option State
state_from p s [] = s
state_from p s (c ∷ rest) = state_from p (then_next p s c) rest

abbrev pub state_after : Program → ℕ → List Choice → Option State
state_after p images choices = state_from p (Some (first p images)) choices

abbrev pub has_trap : Option Trap → Bool
has_trap None = false
has_trap (Some t) = true

abbrev pub has_trapped : State → Bool
has_trapped s = list_any (λ (im : Image). has_trap im.trap) s.images

-- each main task has left it
abbrev pub is_done : State → Bool
is_done s = list_all (λ (im : Image). list_any is_program_finish im.left) s.images

-- no choice is defined
abbrev pub IsStuck : Program → State → Type 0
IsStuck p s = (c : Choice) → next p s c ≡ None

-- how a state stands
abbrev pub Stands : Program → State → Ending → Type 0
Stands p s ending.Trapped = IsTrue (has_trapped s)
Stands p s ending.Done = (has_trapped s ≡ false) × IsTrue (is_done s)
Stands p s ending.Stuck = (has_trapped s ≡ false) × (is_done s ≡ false) × IsStuck p s
Stands p s ending.Going = (has_trapped s ≡ false) × (is_done s ≡ false) × ((c : Choice) × (t : State) × (next p s c ≡ Some t))

-- what a report tells of an image
abbrev pub summary_of : Image → ImageSummary
summary_of im = record { lines = im.memory.lines; trap = im.trap }

-- what a report tells of a state
pub record Tells (p : Program) (s : State) (r : Summary) : Type 0 where
  pub images : r.images ≡ map summary_of s.images
  pub ending : Stands p s r.ending
