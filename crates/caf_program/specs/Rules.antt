-- The rules that the statements of a part keep: kinds and slots, arguments, and what may be written. Each is a test.
use Rattle.std.specs.Prelude.{ℕ, Bool, true, false, not, ◌&&◌, List, [], ◌∷◌, Option, Some, None, slice_get, nat_eq, nat_lt, count_by}
use Rattle.std.specs.List.{list_all}
use Rattle.caf_program.specs.declared.expr.ExprR.{ExprR}
use Rattle.caf_program.specs.declared.expr.PlaceR.{PlaceR}
use Rattle.caf_program.specs.declared.program.ValueKind.{ValueKind}
use Rattle.caf_program.specs.declared.program.Intent.{Intent}
use Rattle.caf_program.specs.declared.program.Intent.TheVariants.{In, InOut}
use Rattle.caf_program.specs.declared.program.DummyR.{DummyR}
use Rattle.caf_program.specs.declared.program.SubR.{SubR}
use Rattle.caf_program.specs.declared.stmt.LoopVariableR.{LoopVariableR}
use Rattle.caf_program.specs.declared.stmt.LoopVariableR.TheVariants as counter
use Rattle.caf_program.specs.declared.parts.VariableR.{VariableR}
use Rattle.caf_program.specs.declared.parts.VariableR.TheVariants as variable
use Rattle.caf_program.specs.declared.parts.ActualR.{ActualR}
use Rattle.caf_program.specs.declared.parts.ActualR.TheVariants as actual
use Rattle.caf_program.specs.declared.parts.PrintR.{PrintR}
use Rattle.caf_program.specs.declared.parts.PrintR.TheVariants as part
use Rattle.caf_program.specs.declared.parts.RangeR.{RangeR}
use Rattle.caf_program.specs.declared.parts.RegionR.{RegionR}
use Rattle.caf_program.specs.declared.parts.SectionR.{SectionR}
use Rattle.caf_program.specs.declared.parts.SectionR.TheVariants as section
use Rattle.caf_program.specs.declared.parts.OwnEventR.{OwnEventR}
use Rattle.caf_program.specs.declared.parts.EventR.{EventR}
use Rattle.caf_program.specs.declared.parts.CopyEventR.{CopyEventR}
use Rattle.caf_program.specs.declared.parts.CopyEventR.TheVariants as role
use Rattle.caf_program.specs.declared.stmt.StmtR.{StmtR}
use Rattle.caf_program.specs.declared.stmt.StmtR.TheOpen.{StmtR-F}
use Rattle.caf_program.specs.declared.stmt.StmtR.TheFolds.{fold-StmtR}
use Rattle.caf_program.specs.Expressions.{of_range}
use Rattle.caf_program.specs.Kinds.{Scope, has_kind, is_integer, is_logical, agree_in_kind, provided, object_kind, scalar_kind, coarray_kind, copointer_kind, holds_team, holds_event, is_coarray, cell_kind, is_writable, names_team, kind_of}

-- the variables of the loops around a statement, in the same part
abbrev pub Loops : Type 0
Loops = List LoopVariableR

abbrev pub is_object : ℕ → LoopVariableR → Bool
is_object o (counter.Scalar p) = nat_eq o p
is_object o (counter.Local k) = false

abbrev pub is_cell : ℕ → LoopVariableR → Bool
is_cell k (counter.Scalar o) = false
is_cell k (counter.Local j) = nat_eq k j

-- whether no loop around counts by the object
abbrev pub free_object : Loops → ℕ → Bool
free_object loops o = list_all (λ v. not (is_object o v)) loops

-- whether no loop around counts by the frame cell, and it may be written at all
abbrev pub free_cell : Scope → Loops → ℕ → Bool
free_cell s loops k = is_writable (slice_get s.cells k) && list_all (λ v. not (is_cell k v)) loops

-- a rank is an integer, and a team one that the program has
abbrev pub fits_place : Scope → PlaceR ExprR → Bool
fits_place s p = is_integer (kind_of s p.rank) && names_team s p.team

-- a place stands on a coarray only
abbrev pub fits_on : Scope → ℕ → Option (PlaceR ExprR) → Bool
fits_on s o None = true
fits_on s o (Some p) = is_coarray (slice_get s.objects o) && fits_place s p

abbrev pub variable_kind : Scope → VariableR → Option ValueKind
variable_kind s (variable.Scalar o) = scalar_kind (slice_get s.objects o)
variable_kind s (variable.Local k) = cell_kind (slice_get s.cells k)
variable_kind s (variable.Element o i) = provided (is_integer (kind_of s i)) (object_kind (slice_get s.objects o))
variable_kind s (variable.Coindexed o i p) = provided (is_integer (kind_of s i) && fits_place s p) (coarray_kind (slice_get s.objects o))
variable_kind s (variable.Pointed c i) = provided (is_integer (kind_of s i)) (copointer_kind (slice_get s.objects c))

-- a variable may be assigned if no loop around counts by it, and it is no `intent(in)` dummy
abbrev pub may_assign : Scope → Loops → VariableR → Bool
may_assign s loops (variable.Scalar o) = free_object loops o
may_assign s loops (variable.Local k) = free_cell s loops k
may_assign s loops (variable.Element o i) = free_object loops o
may_assign s loops (variable.Coindexed o i p) = free_object loops o
may_assign s loops (variable.Pointed c i) = true

-- a loop counts by a scalar integer that may be assigned
abbrev pub may_count : Scope → Loops → LoopVariableR → Bool
may_count s loops (counter.Scalar o) = is_integer (scalar_kind (slice_get s.objects o)) && free_object loops o
may_count s loops (counter.Local k) = is_integer (cell_kind (slice_get s.cells k)) && free_cell s loops k

-- numbers and truth values are printed each in their way
abbrev pub fits_part : Scope → PrintR → Bool
fits_part s (part.Number e) = is_integer (kind_of s e)
fits_part s (part.Logical e) = is_logical (kind_of s e)
fits_part s (part.Text t) = true

-- the bounds of a section are integers
abbrev pub fits_range : Scope → RangeR → Bool
fits_range s r = list_all (λ e. is_integer (kind_of s e)) (of_range r)

abbrev pub region_kind : Scope → RegionR → Option ValueKind
region_kind s r = provided (fits_range s r.range && fits_on s r.object r.place) (object_kind (slice_get s.objects r.object))

abbrev pub section_kind : Scope → SectionR → Option ValueKind
section_kind s (section.Region r) = region_kind s r
section_kind s (section.Pointed c r) = provided (fits_range s r) (copointer_kind (slice_get s.objects c))

abbrev pub fits_own_event : Scope → OwnEventR → Bool
fits_own_event s e = holds_event (slice_get s.objects e.object) && is_integer (kind_of s e.index)

abbrev pub fits_event : Scope → EventR → Bool
fits_event s e = fits_own_event s e.own && fits_on s e.own.object e.place

abbrev pub fits_done : Scope → Option EventR → Bool
fits_done s None = true
fits_done s (Some e) = fits_event s e

abbrev pub fits_copy_event : Scope → CopyEventR → Bool
fits_copy_event s (role.Pre e) = fits_own_event s e
fits_copy_event s (role.Srce e) = fits_event s e
fits_copy_event s (role.Deste e) = fits_event s e

abbrev pub is_pre : CopyEventR → Bool
is_pre (role.Pre e) = true
is_pre _ = false

abbrev pub is_srce : CopyEventR → Bool
is_srce (role.Srce e) = true
is_srce _ = false

abbrev pub is_deste : CopyEventR → Bool
is_deste (role.Deste e) = true
is_deste _ = false

-- each kind of event stands at most once
abbrev pub once_each : List CopyEventR → Bool
once_each events = nat_lt (count_by is_pre events) 2 && nat_lt (count_by is_srce events) 2 && nat_lt (count_by is_deste events) 2

-- an actual has its dummy's kind: a value for `intent(in)`, for `intent(inout)` a scalar variable or an element
-- without place that may be assigned
abbrev pub fits_dummy : Scope → Loops → ValueKind → Intent → ActualR → Bool
fits_dummy s loops k In (actual.Value e) = has_kind k (kind_of s e)
fits_dummy s loops k InOut (actual.Scalar o) = has_kind k (scalar_kind (slice_get s.objects o)) && free_object loops o
fits_dummy s loops k InOut (actual.Local j) = has_kind k (cell_kind (slice_get s.cells j)) && free_cell s loops j
fits_dummy s loops k InOut (actual.Element o i) = has_kind k (object_kind (slice_get s.objects o)) && is_integer (kind_of s i) && free_object loops o
fits_dummy s loops k _ _ = false

-- as many actuals as dummies, and each fits
abbrev pub fit_dummies : Scope → Loops → List DummyR → List ActualR → Bool
fit_dummies s loops [] [] = true
fit_dummies s loops (d ∷ dummies) (a ∷ actuals) = fits_dummy s loops d.kind d.intent a && fit_dummies s loops dummies actuals
fit_dummies s loops _ _ = false

abbrev pub fits_sub : Scope → Loops → Option SubR → List ActualR → Bool
fits_sub s loops None actuals = false
fits_sub s loops (Some f) actuals = fit_dummies s loops f.dummies actuals

-- whether a statement keeps the rules, with these loops around it
abbrev pub Keeps : Type 0
Keeps = Loops → Bool

-- whether each statement of a block does
abbrev pub all_keep : List Keeps → Keeps
all_keep [] loops = true
all_keep (s ∷ rest) loops = s loops && all_keep rest loops

abbrev pub rule_layer : Scope → StmtR-F Keeps → Keeps
rule_layer s (StmtR-F.Assign line v e) loops = agree_in_kind (variable_kind s v) (kind_of s e) && may_assign s loops v
rule_layer s (StmtR-F.Aim line c r) loops = agree_in_kind (copointer_kind (slice_get s.objects c)) (region_kind s r) && is_coarray (slice_get s.objects r.object)
rule_layer s (StmtR-F.Print line parts) loops = list_all (fits_part s) parts
rule_layer s (StmtR-F.If line e block otherwise) loops = is_logical (kind_of s e) && all_keep block loops && all_keep otherwise loops
rule_layer s (StmtR-F.Do line v first last step body) loops =
    may_count s loops v && is_integer (kind_of s first) && is_integer (kind_of s last) && is_integer (kind_of s step) && all_keep body (v ∷ loops)
rule_layer s (StmtR-F.While line e body) loops = is_logical (kind_of s e) && all_keep body loops
rule_layer s (StmtR-F.Call line f actuals) loops = fits_sub s loops (slice_get s.subs f) actuals
rule_layer s (StmtR-F.Spawn line event f actuals p) loops = fits_done s event && fits_sub s loops (slice_get s.subs f) actuals && fits_place s p
rule_layer s (StmtR-F.Notify line e) loops = fits_event s e
rule_layer s (StmtR-F.Wait line e) loops = fits_own_event s e
rule_layer s (StmtR-F.Copy line dest source events) loops =
    agree_in_kind (section_kind s dest) (section_kind s source) && list_all (fits_copy_event s) events && once_each events
rule_layer s (StmtR-F.Cofence line down) loops = true
rule_layer s (StmtR-F.Split line t colour key o) loops =
    names_team s t && is_integer (kind_of s colour) && is_integer (kind_of s key) && holds_team (slice_get s.objects o)
rule_layer s (StmtR-F.Finish line t body) loops = names_team s t && all_keep body loops

-- whether a statement keeps the rules
abbrev pub keeps_rules : Scope → StmtR → Loops → Bool
keeps_rules s = fold-StmtR Keeps (rule_layer s)

-- whether each statement of a part's body does
abbrev pub block_keeps_rules : Scope → List StmtR → Bool
block_keeps_rules s = list_all (λ statement. keeps_rules s statement [])
