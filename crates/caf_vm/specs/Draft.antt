-- A task and a memory in the middle of a Step, where nothing of the Step is written yet.
use Rattle.std.specs.Prelude.{ℕ, Bool, ◌&&◌, List, [], ◌∷◌, ◌++◌, drop, reverse, nat_eq, Option, Some, None, Ok, Err, ℤ, slice_get, slice_set, slice_index_or, if◌then◌else◌}
use Rattle.std.specs.List.{find}
use Rattle.std.specs.Option.{option_map}
use Rattle.caf_base.specs.Arithmetic.{Answer, is_equal}
use Rattle.caf_base.specs.Element.{has_index, offset_of}
use Rattle.caf_base.specs.ImageMemory.{ImageMemory}
use Rattle.caf_base.specs.declared.object.Object.{Object}
use Rattle.caf_code.specs.Task.{Task}
use Rattle.caf_vm.specs.declared.draft.CellWrite.{CellWrite}
use Rattle.caf_vm.specs.declared.draft.Draft.{Draft}
use Rattle.caf_vm.specs.declared.draft.Write.{Write}

-- the cells of a frame after these writes, the latest first
abbrev pub cells_after : List CellWrite → List ℤ → List ℤ
cells_after [] cells = cells
cells_after (w ∷ earlier) cells = slice_set (cells_after earlier cells) w.cell w.value

-- the cells of the objects after a write, as before where it is out of bounds
abbrev pub put_in : Option Object → Write → List (List ℤ) → List (List ℤ)
put_in None w cells = cells
put_in (Some o) w cells = if has_index o w.index then slice_set cells w.object (slice_set (slice_index_or cells w.object []) (offset_of o w.index) w.value) else cells

-- the cells of the objects after these writes, the latest first
abbrev pub written_cells : List Object → List Write → List (List ℤ) → List (List ℤ)
written_cells objects [] cells = cells
written_cells objects (w ∷ earlier) cells = put_in (slice_get objects w.object) w (written_cells objects earlier cells)

-- whether a write is of this cell
abbrev pub is_of_cell : ℕ → CellWrite → Bool
is_of_cell k w = nat_eq w.cell k

-- the number that the latest of these writes puts in a cell, if one does
abbrev pub latest_cell : ℕ → List CellWrite → Option ℤ
latest_cell k writes = option_map (λ (w : CellWrite). w.value) (find (is_of_cell k) writes)

-- whether a write is of this element
abbrev pub is_of_element : ℕ → ℤ → Write → Bool
is_of_element object index w = nat_eq w.object object && is_equal w.index index

-- the number that the latest of these writes puts in an element, if one does
abbrev pub latest_element : ℕ → ℤ → List Write → Option ℤ
latest_element object index writes = option_map (λ (w : Write). w.value) (find (is_of_element object index) writes)

-- the number that was put there latest stands for the element, where the element is there
abbrev pub or_latest : Option ℤ → Answer → Answer
or_latest None found = found
or_latest (Some z) (Ok y) = Ok z
or_latest (Some z) (Err t) = Err t

-- the task as it stands, where it was this at the beginning of the Step
abbrev pub task_in : Draft → Task → Task
task_in d t = record t {
  address = d.address;
  frame = record t.frame {
    cells = cells_after (reverse d.cells.items) t.frame.cells;
    stack = reverse d.pushed.items ++ drop d.taken t.frame.stack;
    loops = reverse d.opened.items ++ t.frame.loops;
    listed = t.frame.listed ++ d.listed.items;
    outs = t.frame.outs ++ d.outs.items;
  };
  parts = t.parts ++ d.parts.items;
}

-- the memory as it stands, where it was this at the beginning of the Step
abbrev pub memory_in : Draft → ImageMemory → ImageMemory
memory_in d m = record m { cells = written_cells m.objects (reverse d.writes.items) m.cells }

-- the memory after these writes, the latest first
abbrev pub saved_from : List Write → ImageMemory → ImageMemory
saved_from writes m = record m { cells = written_cells m.objects writes m.cells }

-- the memory after these writes, the latest last
abbrev pub saved : List Write → ImageMemory → ImageMemory
saved writes m = saved_from (reverse writes) m

-- the memory after one write, as before where it is out of bounds
abbrev pub put : ImageMemory → Write → ImageMemory
put m w = record m { cells = put_in (slice_get m.objects w.object) w m.cells }
