-- The element that is read next, of those that expressions read before their statement's last Step.
use Rattle.std.specs.Prelude.{ℕ, ◌-◌, ◌≤◌, List, [], ◌∷◌, Option, Some, None, Result, slice_get, length}
use Rattle.caf_base.specs.ImageMemory.{ImageMemory}
use Rattle.caf_base.specs.declared.operation.Section.{Section}
use Rattle.caf_base.specs.declared.trap.Trap.{Trap}
use Rattle.caf_program.specs.Seen.{Seen}
use Rattle.caf_program.specs.Value.{Read}
use Rattle.caf_base.specs.After.{After}
use Rattle.caf_base.specs.declared.fence.FenceClear.{FenceClear}
use Rattle.caf_program.specs.declared.program.SubR.{SubR}
use Rattle.caf_program.specs.declared.stmt.StmtR.TheViews.{out-StmtR}
use Rattle.caf_treestep.specs.declared.task.Task.{Task}
use Rattle.caf_base.specs.declared.effect.Effect.TheVariants as effect
use Rattle.caf_base.specs.declared.effect.Need.TheVariants as need
use Rattle.caf_program.specs.Expressions.{count_all, expressions, reads_all}
use Rattle.caf_treestep.specs.declared.todo.Todo.{Todo}
use Rattle.caf_treestep.specs.declared.todo.Todo.TheVariants as item
use Rattle.caf_treestep.specs.Step.{At, does, does_last, read_section, reads_section}

abbrev pub section_if : Option Read → Seen → ImageMemory → Option (Result Section Trap)
section_if None s m = None
section_if (Some r) s m = Some (read_section r s m)

-- Of reads whose first held value stands at a place, the one whose value isn't held yet: none where all are.
abbrev pub next_read : List Read → ℕ → Seen → ImageMemory → Option (Result Section Trap)
next_read reads at s m = section_if (slice_get reads (length s.held - at)) s m

-- the element that a task reads next for the statement at hand: none where there is no statement, or all are read
abbrev pub read_first : List Todo → Seen → ImageMemory → Option (Result Section Trap)
read_first (item.Does s ∷ rest) seen m = next_read (reads_all (expressions s) 0) 0 seen m
read_first _ seen m = None

-- as many values are held as the statement at hand holds, if there is one
abbrev pub HoldsAll : List Todo → ℕ → Type 0
HoldsAll (item.Does s ∷ rest) held = count_all (expressions s) ≤ held
HoldsAll _ held = Unit {0}

-- the Step of what is next, where nothing is to be read for it
abbrev pub does_unread : List SubR → FenceClear → Todo → At → After Task
does_unread subs clear (item.Does s) a = does_last subs clear (out-StmtR s) a
does_unread subs clear (item.Turns v step n body) a = does subs clear (item.Turns v step n body) a
does_unread subs clear item.Closes a = does subs clear item.Closes a
does_unread subs clear (item.Returns outs) a = does subs clear (item.Returns outs) a
does_unread subs clear item.Ends a = does subs clear item.Ends a

abbrev pub unread_first : List Todo → List SubR → FenceClear → Task → ImageMemory → After Task
unread_first [] subs clear t m = record { effect = effect.Blocks need.Finish; task = t; memory = m }
unread_first (first ∷ rest) subs clear t m = does_unread subs clear first (record { task = t; memory = m; rest = rest })

-- a Step that reads: the task stays before its statement
abbrev pub reads_at_once : Result Section Trap → Task → ImageMemory → After Task
reads_at_once found t m = reads_section found (record { task = t; memory = m; rest = [] })
