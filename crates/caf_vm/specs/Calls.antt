-- Calls that are open.
use Rattle.std.specs.Prelude.{◌≡◌, ◌<◌, ◌^◌, List, [], ◌∷◌, length, reverse, nat_lt, Result, Ok, Err, IsTrue, Vec}
use Rattle.std.specs.Global.{Global}
use Rattle.std.specs.List.{list_all}
use Rattle.caf_base.specs.ImageMemory.{ImageMemory}
use Rattle.caf_code.specs.Did.{Did, Fails}
use Rattle.caf_code.specs.Task.{Frame, OpenCall, Task}
use Rattle.caf_code.specs.declared.task.CopyOut.{CopyOut}
use Rattle.caf_vm.specs.Draft.{cells_after}
use Rattle.caf_vm.specs.declared.draft.CellWrite.{CellWrite}
use Rattle.caf_vm.specs.declared.stop.Stop.{Stop}
use Rattle.caf_vm.specs.declared.stop.Stop.TheVariants as stop

-- what the end of the latest call copies out
abbrev pub outs_of : List OpenCall → List CopyOut
outs_of [] = []
outs_of (c ∷ below) = c.outs

-- a task may go on behind the latest call
abbrev pub CanReturn : List OpenCall → Type 0
CanReturn [] = Unit {0}
CanReturn (c ∷ below) = c.from < 2 ^ 63

-- a frame after these writes to its cells, the latest first
abbrev pub with_cells : List CellWrite → Frame → Frame
with_cells writes f = record f { cells = cells_after writes f.cells }

-- dummies were copied out, with these writes to the caller's frame and this memory, or a trap left this memory
abbrev pub CopiedOut : Result (Vec CellWrite Global) Stop → Did → Frame → (Frame → ImageMemory → Did) → ImageMemory → Type 0
CopiedOut (Ok writes) d f go m = d ≡ go (with_cells (reverse writes.items) f) m
CopiedOut (Err (stop.Trap trap)) d f go m = d ≡ Fails trap m
CopiedOut (Err stop.Memory) d f go m = Unit {0}

-- one dummy was copied out, and then these are all writes to the caller's frame, or a trap left this memory
abbrev pub CopiedOne : Result (Unit {0}) Stop → Did → Frame → List CellWrite → (Frame → ImageMemory → Did) → ImageMemory → Type 0
CopiedOne (Ok done) d f writes go m = d ≡ go (with_cells (reverse writes) f) m
CopiedOne (Err (stop.Trap trap)) d f writes go m = d ≡ Fails trap m
CopiedOne (Err stop.Memory) d f writes go m = Unit {0}

-- the cells that are copied out are there
abbrev pub HasCopied : List OpenCall → Frame → Type 0
HasCopied [] f = Unit {0}
HasCopied (c ∷ below) f = IsTrue (list_all (λ (o : CopyOut). nat_lt o.cell (length f.cells)) c.outs)

-- the task, with nothing held or listed in its frame
abbrev pub with_no_lists : Task → Task
with_no_lists t = record t { frame = record t.frame { held = []; listed = []; outs = [] } }
