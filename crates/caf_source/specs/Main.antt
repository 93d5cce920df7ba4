-- The main task of a program of the forms that run so far: what it has to do ends with the end of the program, and what
-- each open call has to do with its return.
use Rattle.std.specs.Prelude.{Bool, true, false, not, ◌&&◌, List, [], ◌∷◌, IsTrue}
use Rattle.caf_treestep.specs.declared.task.Frame.{Frame}
use Rattle.caf_treestep.specs.declared.task.Task.{Task}
use Rattle.caf_treestep.specs.declared.todo.Todo.{Todo}
use Rattle.caf_treestep.specs.declared.todo.Todo.TheVariants as item
use Rattle.caf_source.specs.Plain.{IsPlainTask}

abbrev pub is_nothing : List Todo → Bool
is_nothing [] = true
is_nothing (first ∷ rest) = false

-- whether what is to do ends as the main program does, or else as a called subroutine
abbrev pub ends_as : Bool → List Todo → Bool
ends_as main [] = false
ends_as main (item.Does s ∷ rest) = ends_as main rest
ends_as main (item.Turns v step n body ∷ rest) = ends_as main rest
ends_as main (item.Closes ∷ rest) = main && is_nothing rest
ends_as main (item.Returns outs ∷ rest) = not main && is_nothing rest
ends_as main (item.Ends ∷ rest) = false

-- the same of a frame and those of the calls below it
abbrev pub are_stacked : List Todo → List Frame → Bool
are_stacked todo [] = ends_as true todo
are_stacked todo (caller ∷ below) = ends_as false todo && are_stacked caller.todo below

pub record IsMainTask (t : Task) : Type 0 where
  pub plain : IsPlainTask t
  pub stacked : IsTrue (are_stacked t.frame.todo t.below)
