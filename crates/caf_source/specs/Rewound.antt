-- A task that is put back to where it stood before a Step that traps once the statement is over.
use Rattle.std.specs.Prelude.{◌≡◌, Bool, true, false, List, [], ◌∷◌, Option, Some, None, if◌then◌else◌}
use Rattle.caf_base.specs.declared.effect.Effect.{Effect}
use Rattle.caf_base.specs.declared.effect.Effect.TheVariants as effect
use Rattle.caf_base.specs.ImageMemory.{ImageMemory}
use Rattle.caf_program.specs.declared.stmt.StmtR.{StmtR}
use Rattle.caf_program.specs.declared.stmt.StmtR.TheOpen.{StmtR-F}
use Rattle.caf_program.specs.declared.stmt.StmtR.TheViews.{out-StmtR}
use Rattle.caf_source.specs.declared.rewind.Saved.{Saved}
use Rattle.caf_source.specs.declared.state.Live.{Live}
use Rattle.caf_treestep.specs.declared.task.Task.{Task}
use Rattle.caf_treestep.specs.declared.task.Wait.{Wait}
use Rattle.caf_treestep.specs.declared.task.Wait.TheVariants as awaited
use Rattle.caf_treestep.specs.declared.todo.Todo.{Todo}
use Rattle.caf_treestep.specs.declared.todo.Todo.TheVariants as item

-- whether the last Step of a statement may begin an operation
abbrev pub begins_layer : StmtR-F StmtR → Bool
begins_layer (StmtR-F.Assign line v e) = true
begins_layer (StmtR-F.Spawn line event f actuals p) = true
begins_layer (StmtR-F.Notify line e) = true
begins_layer (StmtR-F.Copy line dest source events) = true
begins_layer _ = false

-- what is to do next, where its last Step may begin an operation or end a task
abbrev pub next_saved : List Todo → List Todo
next_saved (item.Does s ∷ rest) = if begins_layer (out-StmtR s) then item.Does s ∷ [] else []
next_saved (item.Ends ∷ rest) = item.Ends ∷ []
next_saved _ = []

-- what a Step may take off a task
abbrev pub saved_of : Task → Saved
saved_of t = record { next = next_saved t.frame.todo; held = t.held }

abbrev pub put_back : List Todo → Task → Task
put_back [] t = t
put_back (next ∷ rest) t = record t { frame = record t.frame { todo = next ∷ t.frame.todo } }

-- a Step that read has taken nothing off
abbrev pub rewound_by : Option Wait → Saved → Task → Task
rewound_by (Some awaited.Value) s t = record t { wait = None }
rewound_by _ s t = put_back s.next (record t { held = s.held; wait = None })

-- the task before the Step, by what was saved and the task after it
abbrev pub rewound : Saved → Task → Task
rewound s t = rewound_by t.wait s t

abbrev pub rewound_live : Saved → Live → Live
rewound_live s l = record l { task = rewound s l.task }

abbrev pub CanRewind : Saved → Task → ImageMemory → Task → ImageMemory → Type 0
CanRewind s t m u n = (rewound s u ≡ t) × (n ≡ m)

abbrev pub IsSame : Task → ImageMemory → Task → ImageMemory → Type 0
IsSame t m u n = (u ≡ t) × (n ≡ m)

-- After a Step that blocks or traps the task and the memory are as before. After one that begins an operation or ends its
-- task the memory is, and the task can be put back.
abbrev pub IsOrderly : Effect → Saved → Task → ImageMemory → Task → ImageMemory → Type 0
IsOrderly effect.Ran s t m u n = Unit {0}
IsOrderly (effect.Ends event) s t m u n = CanRewind s t m u n
IsOrderly (effect.Begins what) s t m u n = CanRewind s t m u n
IsOrderly (effect.Enters team) s t m u n = Unit {0}
IsOrderly (effect.Arrives team colour key object) s t m u n = Unit {0}
IsOrderly (effect.Blocks need) s t m u n = IsSame t m u n
IsOrderly (effect.Traps trap) s t m u n = IsSame t m u n
