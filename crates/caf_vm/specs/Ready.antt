-- The operands that an instruction finds where a code keeps its rules.
use Rattle.std.specs.Prelude.{◌≡◌, ◌⊎◌, Some, ℕ, suc, ◌<◌, ◌≤◌, Bool, true, List, map, length, IsTrue, slice_get}
use Rattle.caf_base.specs.ImageMemory.{ImageMemory}
use Rattle.caf_base.specs.Places.{copointer_at}
use Rattle.caf_base.specs.declared.operation.Section.{Section}
use Rattle.caf_memory.specs.Bounds.{HasCells}
use Rattle.caf_memory.specs.Placed.{EndsWithin}
use Rattle.caf_code.specs.Numbers.{Operator, One, Two, arithmetic_operator, logical_operator}
use Rattle.caf_code.specs.Rules.{is_marked}
use Rattle.caf_code.specs.Shapes.{dummies_in, is_copy, is_one_section, is_ship, section_numbers, sort_of, with_rank}
use Rattle.caf_code.specs.Task.{Frame}
use Rattle.caf_code.specs.declared.instr.ElementForm.{ElementForm}
use Rattle.caf_code.specs.declared.instr.ElementForm.TheVariants as element
use Rattle.caf_code.specs.declared.instr.EventUse.TheVariants as event
use Rattle.caf_code.specs.declared.instr.Instr.{Instr}
use Rattle.caf_code.specs.declared.instr.Instr.TheVariants as instr
use Rattle.caf_code.specs.declared.instr.SectionUse.TheVariants as purpose
use Rattle.caf_code.specs.declared.listing.Listing.{Listing}
use Rattle.caf_code.specs.declared.listing.SubCode.{SubCode}
use Rattle.caf_code.specs.declared.instr.CellUse.{CellUse}
use Rattle.caf_code.specs.declared.instr.CellUse.TheVariants as cell
use Rattle.caf_code.specs.declared.instr.OutForm.{OutForm}
use Rattle.caf_code.specs.declared.instr.OutForm.TheVariants as out
use Rattle.caf_code.specs.declared.instr.Printed.{Printed}
use Rattle.caf_code.specs.declared.instr.Printed.TheVariants as printed
use Rattle.caf_code.specs.declared.instr.Reach.{Reach}
use Rattle.caf_code.specs.declared.instr.Reach.TheVariants as reach

-- the index of an element
abbrev pub reach_operands : Reach → ℕ
reach_operands reach.Scalar = 0
reach_operands reach.Element = 1

-- the value for a cell
abbrev pub cell_ready : CellUse → ℕ
cell_ready cell.Get = 0
cell_ready cell.Set = 1

abbrev pub operator_operands : Operator → ℕ
operator_operands (One w) = 1
operator_operands (Two w) = 2

abbrev pub out_operands : OutForm → ℕ
out_operands (out.Element o) = 1
out_operands _ = 0

abbrev pub printed_operands : Printed → ℕ
printed_operands (printed.Text k) = 0
printed_operands _ = 1

-- a text that is printed is one of so many
abbrev pub IsTextOf : ℕ → Printed → Type 0
IsTextOf n (printed.Text k) = k < n
IsTextOf n _ = Unit {0}

-- whether an instruction ends a Step, or stands where none goes on
abbrev pub ends_step : Instr → Bool
ends_step instr.Close = true
ends_step instr.Halt = true
ends_step i = is_marked i

abbrev pub element_ready : ElementForm → ℕ
element_ready (element.Coindexed o p) = with_rank p 1
element_ready (element.Pointed c) = 1

-- how many operands an instruction takes, where a code has these subroutines
abbrev pub operands_taken : List SubCode → Instr → ℕ
operands_taken subs (instr.Load r o) = reach_operands r
operands_taken subs (instr.Store r o) = suc (reach_operands r)
operands_taken subs (instr.Cell u k) = cell_ready u
operands_taken subs (instr.Arithmetic w) = operator_operands (arithmetic_operator w)
operands_taken subs (instr.Relation w) = 2
operands_taken subs (instr.Logical w) = operator_operands (logical_operator w)
operands_taken subs (instr.Test a) = 1
operands_taken subs instr.Loop = 3
operands_taken subs (instr.Ask e) = element_ready e
operands_taken subs (instr.Put e) = suc (element_ready e)
operands_taken subs (instr.Section s) = section_numbers s
operands_taken subs (instr.EventAt o p r) = with_rank p 1
operands_taken subs (instr.Event (event.Notify o p)) = with_rank p 1
operands_taken subs (instr.Event (event.Wait o)) = 1
operands_taken subs (instr.Spawn f p) = with_rank p (dummies_in (slice_get subs f))
operands_taken subs (instr.Split name o) = 2
operands_taken subs (instr.Out o) = out_operands o
operands_taken subs (instr.Call f) = dummies_in (slice_get subs f)
operands_taken subs (instr.Print p) = printed_operands p
operands_taken subs _ = 0

-- what else an instruction finds in the code, the frame and the memory
abbrev pub Finds : Listing → Instr → Frame → ImageMemory → Type 0
Finds code (instr.Load r o) f m = HasCells m.objects o
Finds code (instr.Cell u k) f m = k < length f.cells
Finds code (instr.Held k) f m = k < length f.held
Finds code instr.StepBy f m = 1 ≤ length f.loops
Finds code (instr.Enter a) f m = 1 ≤ length f.loops
Finds code (instr.Again a) f m = 1 ≤ length f.loops
Finds code (instr.Use (purpose.Aim c)) f m = IsTrue (is_one_section (map sort_of f.listed))
Finds code (instr.Use purpose.Copy) f m = IsTrue (is_copy (map sort_of f.listed))
Finds code (instr.Spawn s p) f m = IsTrue (is_ship (map sort_of f.listed)) × (s < length code.subs)
Finds code (instr.Call s) f m = s < length code.subs
Finds code (instr.Print p) f m = IsTextOf (length code.texts) p
Finds code _ f m = Unit {0}

-- an instruction finds all that it needs
pub record IsReady (code : Listing) (i : Instr) (f : Frame) (m : ImageMemory) : Type 0 where
  pub operands : operands_taken code.subs i ≤ length f.stack
  pub finds : Finds code i f m

-- each index of what a copointer aims at fits, if there is one
abbrev pub AllAimed : ImageMemory → Type 0
AllAimed m = (copointer : ℕ) (s : Section) → copointer_at m copointer ≡ Some s → (s.extent ≡ 0) ⊎ EndsWithin s.from s.extent
