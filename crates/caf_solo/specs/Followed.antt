-- How the machine that runs a program on one image stands to the source machine.
use Rattle.std.specs.Prelude.{◌≡◌, ℕ, Bool, true, false, List, [], ◌∷◌, Option, Some, None, ℤ, pos, IsTrue}
use Rattle.caf_base.specs.ImageMemory.{ImageMemory}
use Rattle.caf_base.specs.declared.trap.Trap.{Trap}
use Rattle.caf_journal.specs.declared.entry.Entry.{Entry}
use Rattle.caf_program.specs.declared.program.Program.{Program}
use Rattle.caf_source.specs.Main.{IsMainTask}
use Rattle.caf_source.specs.declared.state.Image.{Image}
use Rattle.caf_source.specs.State.{State, world_finish}
use Rattle.caf_treestep.specs.declared.task.Task.{Task as TreeTask}
use Rattle.caf_treestep.specs.declared.todo.Todo.TheVariants as item
use Rattle.caf_treestep.specs.Step.{past_finish}
use Rattle.caf_code.specs.Sound.{IsSound}
use Rattle.caf_code.specs.Task.{Task}
use Rattle.caf_code.specs.declared.listing.Listing.{Listing}
use Rattle.caf_codegen.specs.Agreement.{Agree}
use Rattle.caf_code.specs.Whole.{IsSettled}
use Rattle.caf_solo.specs.declared.phase.Phase.{Phase}
use Rattle.caf_solo.specs.declared.phase.Phase.TheVariants as phase
use Rattle.caf_check.specs.Choices.{state_of}
use Rattle.caf_solo.specs.Waves.{has_ended, is_late, is_legal, share}

-- the image with this memory and main task, and with a trap or none
abbrev pub image_with : ImageMemory → TreeTask → Option Trap → Image
image_with m t trap = record {
  memory = m;
  trap = trap;
  main = record { number = 0; task = t; finishes = world_finish 1 ∷ []; ship = None };
  shipped = [];
  operations = 0;
  ships = 0;
  left = [];
  arrived = [];
}

-- the same image once its main task has left the program's finish
abbrev pub image_left : ImageMemory → TreeTask → Image
image_left m t = record {
  memory = m;
  trap = None;
  main = record { number = 0; task = past_finish t; finishes = []; ship = None };
  shipped = [];
  operations = 0;
  ships = 0;
  left = world_finish 1 ∷ [];
  arrived = [];
}

abbrev pub image_in : Phase → ImageMemory → TreeTask → Image
image_in (phase.Trapped trap) m t = image_with m t (Some trap)
image_in phase.Left m t = image_left m t
image_in _ m t = image_with m t None

-- the state of one image in a phase of its run
abbrev pub state_in : Phase → ImageMemory → TreeTask → State
state_in f m t = record { images = image_in f m t ∷ []; pending = [] }

abbrev pub is_contributed : Phase → Bool
is_contributed phase.Contributed = true
is_contributed _ = false

abbrev pub is_ended : Phase → Bool
is_ended phase.Ended = true
is_ended phase.Left = true
is_ended _ = false

-- the two tasks do the same, and the code can run its own
pub record RunsAlike (p : Program) (code : Listing) (t : TreeTask) (c : Task) (m : ImageMemory) : Type 0 where
  pub agree : (k : ℕ) → Agree p code k t c
  pub sound : IsSound code c m
  pub settled : IsSettled code c

-- while the main task runs
abbrev pub WhileRunning : Phase → Type 0 → Type 0
WhileRunning phase.Running X = X
WhileRunning _ X = Unit {0}

-- once it has contributed
abbrev pub AtEnd : Phase → Type 0 → Type 0
AtEnd phase.Contributed X = X
AtEnd phase.Ended X = X
AtEnd _ X = Unit {0}

-- the journal so far leads the source machine to the state in which the machine stands
pub record Follows (p : Program) (code : Listing) (journal : List Entry) (f : Phase) (m : ImageMemory) (c : Task) : Type 0 where
  pub tree : TreeTask
  pub main : IsMainTask tree
  pub legal : is_legal p journal ≡ true
  pub leads : state_of p 1 journal ≡ Some (state_in f m tree)
  pub late : is_late journal ≡ is_contributed f
  pub ended : has_ended journal ≡ is_ended f
  pub share : share journal ≡ pos 0
  pub runs : WhileRunning f (RunsAlike p code tree c m)
  pub stands : AtEnd f (tree.frame.todo ≡ item.Closes ∷ [])
