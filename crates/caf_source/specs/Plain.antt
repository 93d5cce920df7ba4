-- Tasks of the plain forms of statements.
use Rattle.std.specs.Prelude.{◌≡◌, Bool, true, false, List, [], ◌∷◌, map, None, IsTrue}
use Rattle.caf_base.specs.After.{After}
use Rattle.caf_base.specs.declared.fence.FenceClear.{FenceClear}
use Rattle.caf_base.specs.ImageMemory.{ImageMemory}
use Rattle.caf_base.specs.declared.effect.Effect.{Effect}
use Rattle.caf_base.specs.declared.effect.Effect.TheVariants as effect
use Rattle.caf_treestep.specs.declared.task.Frame.{Frame}
use Rattle.caf_treestep.specs.declared.task.Task.{Task}
use Rattle.caf_treestep.specs.declared.todo.Todo.{Todo}
use Rattle.caf_treestep.specs.declared.todo.Todo.TheVariants as item
use Rattle.caf_source.specs.Built.{all_true, is_built, is_block_built}

-- whether what is to do holds such forms only
abbrev pub is_todo_built : Todo → Bool
is_todo_built (item.Does s) = is_built s
is_todo_built (item.Turns v step left body) = is_block_built body
is_todo_built item.Closes = true
is_todo_built (item.Returns outs) = true
is_todo_built item.Ends = false

abbrev pub is_frame_built : Frame → Bool
is_frame_built f = all_true (map is_todo_built f.todo)

-- a task that waits for nothing and holds no value
pub record IsPlainTask (t : Task) : Type 0 where
  pub frame : IsTrue (is_frame_built t.frame)
  pub below : IsTrue (all_true (map is_frame_built t.below))
  pub held : t.held ≡ []
  pub wait : t.wait ≡ None

-- whether such a task may have the effect
abbrev pub is_plain_effect : Effect → Bool
is_plain_effect effect.Ran = true
is_plain_effect (effect.Blocks n) = true
is_plain_effect (effect.Traps t) = true
is_plain_effect _ = false

-- whether the Step changes nothing at its task and in the memory
abbrev pub is_refusal : Effect → Bool
is_refusal (effect.Blocks n) = true
is_refusal (effect.Traps t) = true
is_refusal _ = false

-- a Step of such a task leaves such a task, with such an effect
pub record StaysPlain (a : After Task) (t : Task) (m : ImageMemory) : Type 0 where
  pub task : IsPlainTask a.task
  pub effect : IsTrue (is_plain_effect a.effect)
  pub same : IsTrue (is_refusal a.effect) → (a.task ≡ t) × (a.memory ≡ m)

-- no copy is open
abbrev pub all_clear : FenceClear
all_clear = record { reads = true; writes = true }

-- whether a task that waits for nothing can't go on by itself: it stands at the end of a finish, or has nothing to do
abbrev pub is_still : List Todo → List Frame → Bool
is_still [] below = true
is_still (item.Closes ∷ rest) below = true
is_still (item.Returns outs ∷ rest) [] = true
is_still _ below = false
