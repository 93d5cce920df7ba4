-- Frames that called, as their fields show them.
use Rattle.std.specs.Prelude.{◌≡◌, [], reverse}
use Rattle.caf_code.specs.Task.{Frame, OpenCall}
use Rattle.caf_vm.specs.declared.task.Frame.{Frame as Kept}
use Rattle.caf_vm.specs.declared.task.OpenCall.{OpenCall as Left}

-- a frame that called: it holds and lists nothing
abbrev pub frame_of : Kept → Frame
frame_of f = record { cells = f.cells.items; stack = reverse f.stack.items; held = []; loops = reverse f.loops.items; listed = []; outs = [] }

abbrev pub call_of : Left → OpenCall
call_of c = record { caller = frame_of c.caller; from = c.from; outs = c.outs.items }

-- two frames have the same cells, operands and loops
pub record SameFrame (a b : Kept) : Type 0 where
  pub cells : a.cells.items ≡ b.cells.items
  pub stack : a.stack.items ≡ b.stack.items
  pub loops : a.loops.items ≡ b.loops.items
