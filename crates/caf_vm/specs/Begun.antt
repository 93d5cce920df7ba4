-- How a task begins.
use Rattle.std.specs.Prelude.{ℕ, List, [], ℤ, Option, None}
use Rattle.caf_base.specs.declared.operation.EventAt.{EventAt}
use Rattle.caf_code.specs.Task.{Task}

-- a task at an address, in one frame with these cells
abbrev pub begun : ℕ → List ℤ → Option EventAt → Task
begun address cells done = record {
  address = address;
  frame = record { cells = cells; stack = []; held = []; loops = []; listed = []; outs = [] };
  calls = [];
  parts = [];
  wait = None;
  done = done;
}
