-- A task as its fields show it.
use Rattle.std.specs.Prelude.{map, reverse, Option, Some, ℤ}
use Rattle.smallvec.specs.SmallVec.{SmallVec, HasRoomFor}
use Rattle.caf_code.specs.Task.{Task}
use Rattle.caf_code.specs.declared.task.Wait.{Wait}
use Rattle.caf_code.specs.declared.task.Wait.TheVariants as wait
use Rattle.caf_vm.specs.Frames.{call_of}
use Rattle.caf_vm.specs.declared.task.Task.TheInside.{Inside}

abbrev pub seen : Inside → Task
seen a = record {
  address = a.address;
  frame = record { cells = a.frame.cells.items; stack = reverse a.frame.stack.items; held = a.held.items; loops = reverse a.frame.loops.items; listed = a.listed.items; outs = a.outs.items };
  calls = reverse (map call_of a.calls.items);
  parts = a.parts.items;
  wait = a.wait;
  done = a.done;
}

-- a task that waits for the value of a read has room for it
abbrev pub HasRoom : Option Wait → SmallVec ℤ → Type 0
HasRoom (Some wait.Value) held = HasRoomFor held 1
HasRoom _ held = Unit {0}
