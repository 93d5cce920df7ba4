-- The instructions of statements: first the reads that its expressions need, each a Step of its own, and then the last
-- Step and what follows it. Addresses are absolute, so that the instructions of a statement depend on where it stands; how
-- many there are doesn't.
use Rattle.std.specs.Prelude.{◌≡◌, ℕ, ◌+◌, List, [], ◌∷◌, ◌++◌, length, map, sum_by, Option, Some, None, slice_get}
use Rattle.caf_program.specs.Expressions.{count_all, of_done, of_form, of_range, of_section}
use Rattle.caf_program.specs.Value.{count}
use Rattle.caf_program.specs.declared.expr.ExprR.{ExprR}
use Rattle.caf_program.specs.declared.expr.PlaceR.{PlaceR}
use Rattle.caf_program.specs.declared.expr.TeamR.{TeamR}
use Rattle.caf_program.specs.declared.parts.ActualR.{ActualR}
use Rattle.caf_program.specs.declared.parts.ActualR.TheVariants as actual
use Rattle.caf_program.specs.declared.parts.CopyEventR.{CopyEventR}
use Rattle.caf_program.specs.declared.parts.CopyEventR.TheVariants as timed
use Rattle.caf_program.specs.declared.parts.EventR.{EventR}
use Rattle.caf_program.specs.declared.parts.OwnEventR.{OwnEventR}
use Rattle.caf_program.specs.declared.parts.PrintR.{PrintR}
use Rattle.caf_program.specs.declared.parts.PrintR.TheVariants as part
use Rattle.caf_program.specs.declared.parts.RangeR.{RangeR}
use Rattle.caf_program.specs.declared.parts.RangeR.TheVariants as range
use Rattle.caf_program.specs.declared.parts.RegionR.{RegionR}
use Rattle.caf_program.specs.declared.parts.SectionR.{SectionR}
use Rattle.caf_program.specs.declared.parts.SectionR.TheVariants as written
use Rattle.caf_program.specs.declared.parts.VariableR.{VariableR}
use Rattle.caf_program.specs.declared.parts.VariableR.TheVariants as variable
use Rattle.caf_program.specs.declared.stmt.LoopVariableR.{LoopVariableR}
use Rattle.caf_program.specs.declared.stmt.LoopVariableR.TheVariants as loop_variable
use Rattle.caf_program.specs.declared.stmt.StmtR.{StmtR}
use Rattle.caf_program.specs.declared.stmt.StmtR.TheOpen.{StmtR-F}
use Rattle.caf_program.specs.declared.stmt.StmtR.TheFolds.{fold-StmtR, map-StmtR}
use Rattle.caf_program.specs.declared.stmt.StmtR.TheViews.{out-StmtR}
use Rattle.caf_treestep.specs.Evaluated.{held_by_actual, held_by_copy_event, held_by_part}
use Rattle.caf_code.specs.declared.instr.Arithmetic.TheVariants as arithmetic
use Rattle.caf_code.specs.declared.instr.CellUse.TheVariants as cell
use Rattle.caf_code.specs.declared.instr.ElementForm.TheVariants as element
use Rattle.caf_code.specs.declared.instr.EventUse.TheVariants as event
use Rattle.caf_code.specs.declared.instr.Instr.{Instr}
use Rattle.caf_code.specs.declared.instr.Instr.TheVariants as instr
use Rattle.caf_code.specs.declared.instr.OutForm.TheVariants as out
use Rattle.caf_code.specs.declared.instr.PlaceForm.{PlaceForm}
use Rattle.caf_code.specs.declared.instr.PlaceForm.TheVariants as place
use Rattle.caf_code.specs.declared.instr.Printed.TheVariants as printed
use Rattle.caf_code.specs.declared.instr.RangeForm.{RangeForm}
use Rattle.caf_code.specs.declared.instr.RangeForm.TheVariants as form
use Rattle.caf_code.specs.declared.instr.Reach.TheVariants as reach
use Rattle.caf_code.specs.declared.instr.Role.{Role}
use Rattle.caf_code.specs.declared.instr.Role.TheVariants as role
use Rattle.caf_code.specs.declared.instr.SectionForm.TheVariants as section
use Rattle.caf_code.specs.declared.instr.SectionUse.TheVariants as purpose
use Rattle.caf_code.specs.declared.instr.TeamName.{TeamName}
use Rattle.caf_exprgen.specs.ExprCode.{expr_code, joined, reads_code, team_name, team_place}

-- these elements stand in a list one after another, the first at this place
abbrev pub StandsAt : {A : Type 0} → List A → ℕ → List A → Type 0
StandsAt xs at [] = Unit {0}
StandsAt xs at (y ∷ ys) = (slice_get xs at ≡ Some y) × StandsAt xs (at + 1) ys

pub record StmtCode : Type 0 where
  -- how many instructions there are
  pub size : ℕ
  -- the texts that they print, in the order of their numbers
  pub texts : List (List ℕ)
  -- the instructions, by the address of the first one and the number of the first text
  pub code : ℕ → ℕ → List Instr

abbrev pub sizes : List StmtCode → ℕ
sizes [] = 0
sizes (c ∷ rest) = c.size + sizes rest

abbrev pub texts_in : List StmtCode → List (List ℕ)
texts_in [] = []
texts_in (c ∷ rest) = c.texts ++ texts_in rest

-- statements one after another
abbrev pub block : List StmtCode → ℕ → ℕ → List Instr
block [] a k = []
block (c ∷ rest) a k = c.code a k ++ block rest (a + c.size) (k + length c.texts)

-- instructions that name neither an address nor a text
abbrev pub fixed : List Instr → StmtCode
fixed is = record { size = length is; texts = []; code = λ a k. is }

-- the reads of expressions in written order, where the first value that they hold is held at a place
abbrev pub asked : List ExprR → ℕ → List Instr
asked [] at = []
asked (e ∷ rest) at = joined (reads_code e at) ++ asked rest (at + count e)

-- a rank, if there is one, where the first value that it holds is held at a place
abbrev pub place_code : Option (PlaceR ExprR) → ℕ → List Instr
place_code None at = []
place_code (Some p) at = expr_code p.rank at

-- a place as instructions name it
abbrev pub place_form : Option (PlaceR ExprR) → PlaceForm
place_form None = place.Own
place_form (Some p) = team_place p.team

-- An assignment: the left subscript and rank, the right side, and the store with its tests; for an element at a place and
-- one behind a copointer the beginning of a blocking write, with its tests
abbrev pub assign_code : VariableR → ExprR → List Instr
assign_code (variable.Scalar o) e = expr_code e 0 ++ (instr.Store reach.Scalar o ∷ instr.Next ∷ [])
assign_code (variable.Local k) e = expr_code e 0 ++ (instr.Cell cell.Set k ∷ instr.Next ∷ [])
assign_code (variable.Element o i) e = expr_code i 0 ++ (expr_code e (0 + count_all (i ∷ [])) ++ (instr.Store reach.Element o ∷ instr.Next ∷ []))
assign_code (variable.Coindexed o i p) e =
    expr_code i 0 ++ (expr_code p.rank (0 + count i) ++ (expr_code e (0 + count i + count p.rank) ++ (instr.Put (element.Coindexed o (team_place p.team)) ∷ [])))
assign_code (variable.Pointed c i) e = expr_code i 0 ++ (expr_code e (0 + count i) ++ (instr.Put (element.Pointed c) ∷ []))

-- an element and the place of the element, each behind its subscript
abbrev pub element_code : ℕ → ExprR → ℕ → List Instr
element_code o i at = expr_code i at ++ (instr.Load reach.Element o ∷ (expr_code i at ++ (instr.Out (out.Element o) ∷ [])))

-- An actual: its value, and for a variable the place where its dummy is copied out to
abbrev pub actual_code : ActualR → ℕ → List Instr
actual_code (actual.Value e) at = expr_code e at
actual_code (actual.Scalar o) at = instr.Load reach.Scalar o ∷ instr.Out (out.Scalar o) ∷ []
actual_code (actual.Local k) at = instr.Cell cell.Get k ∷ instr.Out (out.Local k) ∷ []
actual_code (actual.Element o i) at = element_code o i at

-- the actuals from the left, where the first value that they hold is held at a place
abbrev pub actuals_code : List ActualR → ℕ → List Instr
actuals_code [] at = []
actuals_code (x ∷ rest) at = actual_code x at ++ actuals_code rest (at + held_by_actual x)

abbrev pub call_code : ℕ → List ActualR → List Instr
call_code f actuals = actuals_code actuals 0 ++ (instr.Call f ∷ [])

-- a part of a line, where the first value that it holds is held at a place, and its text has a number
abbrev pub part_code : PrintR → ℕ → ℕ → List Instr
part_code (part.Number e) at k = expr_code e at ++ (instr.Print printed.Number ∷ [])
part_code (part.Logical e) at k = expr_code e at ++ (instr.Print printed.Logical ∷ [])
part_code (part.Text t) at k = instr.Print (printed.Text k) ∷ []

abbrev pub part_text : PrintR → List (List ℕ)
part_text (part.Number e) = []
part_text (part.Logical e) = []
part_text (part.Text t) = t ∷ []

-- the parts of a line, and its end
abbrev pub parts_code : List PrintR → ℕ → ℕ → List Instr
parts_code [] at k = instr.Line ∷ []
parts_code (p ∷ rest) at k = part_code p at k ++ parts_code rest (at + held_by_part p) (k + length (part_text p))

abbrev pub part_texts : List PrintR → List (List ℕ)
part_texts [] = []
part_texts (p ∷ rest) = part_text p ++ part_texts rest

abbrev pub print_code : List PrintR → StmtCode
print_code parts = record { size = length (parts_code parts 0 0); texts = part_texts parts; code = λ a k. parts_code parts 0 k }

-- a block behind a test, which leads past it where it fails, and behind the block a jump to an address
abbrev pub guarded : List StmtCode → ℕ → ℕ → ℕ → List Instr
guarded x next a k = instr.Test (a + 1 + sizes x + 1) ∷ (block x (a + 1) k ++ (instr.Go next ∷ []))

-- a test that leads to the second block where it fails, and behind the first block a jump over the second
abbrev pub if_code : List Instr → List StmtCode → List StmtCode → StmtCode
if_code test x y = record {
  size = length test + 1 + sizes x + 1 + sizes y;
  texts = texts_in x ++ texts_in y;
  code = λ a k. let first = a + length test + 1 in let second = first + sizes x + 1 in
      test ++ (instr.Test second ∷ (block x first k ++ (instr.Go (second + sizes y) ∷ block y second (k + length (texts_in x)))));
}

-- a test that leads out where it fails, and behind the body a jump back to the beginning of the statement
abbrev pub while_code : ℕ → List Instr → List StmtCode → StmtCode
while_code start test x = record {
  size = length test + 1 + sizes x + 1;
  texts = texts_in x;
  code = λ a k. test ++ guarded x start (a + length test) k;
}

abbrev pub load_of : LoopVariableR → Instr
load_of (loop_variable.Scalar o) = instr.Load reach.Scalar o
load_of (loop_variable.Local k) = instr.Cell cell.Get k

abbrev pub store_of : LoopVariableR → Instr
store_of (loop_variable.Scalar o) = instr.Store reach.Scalar o
store_of (loop_variable.Local k) = instr.Cell cell.Set k

-- the end of an iteration, where the body begins at an address
abbrev pub turn_code : LoopVariableR → ℕ → List Instr
turn_code v top = load_of v ∷ instr.StepBy ∷ instr.Arithmetic arithmetic.Add ∷ store_of v ∷ instr.Again top ∷ []

-- the first number, the last one and the step
abbrev pub bounds_code : ExprR → ExprR → ExprR → List Instr
bounds_code first last step = expr_code first 0 ++ (expr_code last (0 + count first) ++ expr_code step (0 + count first + count last))

-- the bounds, the beginning of the loop, the body, and the end of an iteration
abbrev pub do_code : LoopVariableR → List Instr → List StmtCode → StmtCode
do_code v bounds x = record {
  size = length bounds + 3 + sizes x + 5;
  texts = texts_in x;
  code = λ a k. let top = a + length bounds + 3 in bounds ++ (instr.Loop ∷ store_of v ∷ instr.Enter (top + sizes x + 5) ∷ (block x top k ++ turn_code v top));
}

-- a notice: the subscript of its event, the rank, and the notice with its tests
abbrev pub notify_code : EventR → List Instr
notify_code e = expr_code e.own.index 0 ++ (place_code e.place (0 + count e.own.index) ++ (instr.Event (event.Notify e.own.object (place_form e.place)) ∷ []))

-- a wait for an event of this image: its subscript, and the wait with its test
abbrev pub wait_code : OwnEventR → List Instr
wait_code e = expr_code e.index 0 ++ (instr.Event (event.Wait e.object) ∷ [])

-- an event that is listed in a role, where the first value that it holds is held at a place
abbrev pub event_at_code : EventR → Role → ℕ → List Instr
event_at_code e r at = expr_code e.own.index at ++ (place_code e.place (at + count e.own.index) ++ (instr.EventAt e.own.object (place_form e.place) r ∷ []))

-- the event for the end of a ship, if there is one
abbrev pub done_code : Option EventR → ℕ → List Instr
done_code None at = []
done_code (Some e) at = event_at_code e role.Done at

-- the value of an actual that is shipped
abbrev pub value_code : ActualR → ℕ → List Instr
value_code (actual.Value e) at = expr_code e at
value_code (actual.Scalar o) at = instr.Load reach.Scalar o ∷ []
value_code (actual.Local k) at = instr.Cell cell.Get k ∷ []
value_code (actual.Element o i) at = expr_code i at ++ (instr.Load reach.Element o ∷ [])

abbrev pub values_code : List ActualR → ℕ → List Instr
values_code [] at = []
values_code (x ∷ rest) at = value_code x at ++ values_code rest (at + held_by_actual x)

-- a ship: its event, its values from the left, the rank, and the ship with its tests
abbrev pub spawn_code : Option EventR → ℕ → List ActualR → PlaceR ExprR → List Instr
spawn_code e f actuals p =
    done_code e 0 ++ (values_code actuals (0 + count_all (of_done e)) ++ (expr_code p.rank (0 + count_all (of_done e) + sum_by held_by_actual actuals) ++ (instr.Spawn f (team_place p.team) ∷ [])))

-- the numbers of a range
abbrev pub range_code : RangeR → ℕ → List Instr
range_code range.All at = []
range_code (range.Cell i) at = expr_code i at
range_code (range.Between i j) at = expr_code i at ++ expr_code j (at + count i)
range_code (range.From i) at = expr_code i at
range_code (range.UpTo j) at = expr_code j at

-- a range as instructions name it
abbrev pub range_form : RangeR → RangeForm
range_form range.All = form.All
range_form (range.Cell i) = form.Cell
range_form (range.Between i j) = form.Between
range_form (range.From i) = form.From
range_form (range.UpTo j) = form.UpTo

-- a section that is listed: the numbers of its range, the rank, and the section without its tests
abbrev pub region_code : RegionR → ℕ → List Instr
region_code r at = range_code r.range at ++ (place_code r.place (at + count_all (of_range r.range)) ++ (instr.Section (section.Region r.object (range_form r.range) (place_form r.place)) ∷ []))

-- a copointer is aimed at a section
abbrev pub aim_code : ℕ → RegionR → List Instr
aim_code c r = region_code r 0 ++ (instr.Use (purpose.Aim c) ∷ [])

abbrev pub section_code : SectionR → ℕ → List Instr
section_code (written.Region r) at = region_code r at
section_code (written.Pointed c r) at = range_code r at ++ (instr.Section (section.Pointed c (range_form r)) ∷ [])

abbrev pub role_of : CopyEventR → Role
role_of (timed.Pre e) = role.Pre
role_of (timed.Srce e) = role.Srce
role_of (timed.Deste e) = role.Deste

-- an event of a copy
abbrev pub copy_event_code : CopyEventR → ℕ → List Instr
copy_event_code (timed.Pre e) at = expr_code e.index at ++ (instr.EventAt e.object place.Own role.Pre ∷ [])
copy_event_code (timed.Srce e) at = event_at_code e role.Srce at
copy_event_code (timed.Deste e) at = event_at_code e role.Deste at

abbrev pub copy_events_code : List CopyEventR → ℕ → List Instr
copy_events_code [] at = []
copy_events_code (e ∷ rest) at = copy_event_code e at ++ copy_events_code rest (at + held_by_copy_event e)

-- a copy: destination, source, its events in written order, and the copy with its tests
abbrev pub copy_code : SectionR → SectionR → List CopyEventR → List Instr
copy_code dest source events =
    section_code dest 0 ++ (section_code source (0 + count_all (of_section dest)) ++ (copy_events_code events (0 + count_all (of_section dest) + count_all (of_section source)) ++ (instr.Use purpose.Copy ∷ [])))

-- a split: colour, key, and the arrival with its test
abbrev pub split_code : TeamR → ExprR → ExprR → ℕ → List Instr
split_code t colour key o = expr_code colour 0 ++ (expr_code key (0 + count colour) ++ (instr.Split (team_name t) o ∷ []))

-- a finish: its beginning, its body, and its end
abbrev pub finish_code : TeamName → List StmtCode → StmtCode
finish_code name x = record {
  size = 1 + sizes x + 1;
  texts = texts_in x;
  code = λ a k. instr.Finish name ∷ (block x (a + 1) k ++ (instr.Close ∷ []));
}

-- the last Step of a statement that begins at an address, with the blocks that follow it
abbrev pub last_layer : ℕ → StmtR-F StmtCode → StmtCode
last_layer start (StmtR-F.Assign line v e) = fixed (assign_code v e)
last_layer start (StmtR-F.Print line parts) = print_code parts
last_layer start (StmtR-F.If line e x y) = if_code (expr_code e 0) x y
last_layer start (StmtR-F.Do line v first last step x) = do_code v (bounds_code first last step) x
last_layer start (StmtR-F.While line e x) = while_code start (expr_code e 0) x
last_layer start (StmtR-F.Call line f actuals) = fixed (call_code f actuals)
last_layer start (StmtR-F.Aim line c r) = fixed (aim_code c r)
last_layer start (StmtR-F.Spawn line e f actuals p) = fixed (spawn_code e f actuals p)
last_layer start (StmtR-F.Notify line e) = fixed (notify_code e)
last_layer start (StmtR-F.Wait line e) = fixed (wait_code e)
last_layer start (StmtR-F.Copy line dest source events) = fixed (copy_code dest source events)
last_layer start (StmtR-F.Cofence line down) = fixed (instr.Cofence down ∷ [])
last_layer start (StmtR-F.Split line t colour key o) = fixed (split_code t colour key o)
last_layer start (StmtR-F.Finish line t x) = finish_code (team_name t) x

-- the reads of a statement
abbrev pub asked_first : {A : Type 0} → StmtR-F A → List Instr
asked_first s = asked (of_form s) 0

abbrev pub stmt_layer : StmtR-F StmtCode → StmtCode
stmt_layer s = record {
  size = length (asked_first s) + (last_layer 0 s).size;
  texts = (last_layer 0 s).texts;
  code = λ a k. asked_first s ++ (last_layer a s).code (a + length (asked_first s)) k;
}

abbrev pub stmt_code : StmtR → StmtCode
stmt_code = fold-StmtR StmtCode stmt_layer

abbrev pub last_code : ℕ → StmtR → StmtCode
last_code start s = last_layer start (map-StmtR StmtR StmtCode stmt_code (out-StmtR s))

-- the statements of a block
abbrev pub codes : List StmtR → List StmtCode
codes = map stmt_code
