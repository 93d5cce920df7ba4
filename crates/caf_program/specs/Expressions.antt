-- The expressions of a statement in written order, without those of the statements in its blocks, and the elements
-- that are read before its last Step.
use Rattle.std.specs.Prelude.{ℕ, ◌+◌, List, [], ◌∷◌, ◌++◌, Option, Some, None}
use Rattle.std.specs.List.{flat_map}
use Rattle.caf_program.specs.declared.expr.ExprR.{ExprR}
use Rattle.caf_program.specs.declared.expr.PlaceR.{PlaceR}
use Rattle.caf_program.specs.declared.parts.VariableR.{VariableR}
use Rattle.caf_program.specs.declared.parts.VariableR.TheVariants as variable
use Rattle.caf_program.specs.declared.parts.ActualR.{ActualR}
use Rattle.caf_program.specs.declared.parts.ActualR.TheVariants as actual
use Rattle.caf_program.specs.declared.parts.PrintR.{PrintR}
use Rattle.caf_program.specs.declared.parts.PrintR.TheVariants as part
use Rattle.caf_program.specs.declared.parts.RangeR.{RangeR}
use Rattle.caf_program.specs.declared.parts.RangeR.TheVariants as range
use Rattle.caf_program.specs.declared.parts.RegionR.{RegionR}
use Rattle.caf_program.specs.declared.parts.SectionR.{SectionR}
use Rattle.caf_program.specs.declared.parts.SectionR.TheVariants as section
use Rattle.caf_program.specs.declared.parts.EventR.{EventR}
use Rattle.caf_program.specs.declared.parts.CopyEventR.{CopyEventR}
use Rattle.caf_program.specs.declared.parts.CopyEventR.TheVariants as role
use Rattle.caf_program.specs.declared.stmt.StmtR.{StmtR}
use Rattle.caf_program.specs.declared.stmt.StmtR.TheOpen.{StmtR-F}
use Rattle.caf_program.specs.declared.stmt.StmtR.TheViews.{out-StmtR}
use Rattle.caf_program.specs.Value.{Read, count, reads_at}

abbrev pub of_place : Option (PlaceR ExprR) → List ExprR
of_place None = []
of_place (Some p) = p.rank ∷ []

-- the left subscript and rank
abbrev pub of_variable : VariableR → List ExprR
of_variable (variable.Scalar o) = []
of_variable (variable.Local k) = []
of_variable (variable.Element o i) = i ∷ []
of_variable (variable.Coindexed o i p) = i ∷ p.rank ∷ []
of_variable (variable.Pointed c i) = i ∷ []

abbrev pub of_actual : ActualR → List ExprR
of_actual (actual.Value e) = e ∷ []
of_actual (actual.Scalar o) = []
of_actual (actual.Local k) = []
of_actual (actual.Element o i) = i ∷ []

abbrev pub of_part : PrintR → List ExprR
of_part (part.Number e) = e ∷ []
of_part (part.Logical e) = e ∷ []
of_part (part.Text t) = []

abbrev pub of_range : RangeR → List ExprR
of_range range.All = []
of_range (range.Cell i) = i ∷ []
of_range (range.Between i j) = i ∷ j ∷ []
of_range (range.From i) = i ∷ []
of_range (range.UpTo j) = j ∷ []

abbrev pub of_region : RegionR → List ExprR
of_region r = of_range r.range ++ of_place r.place

abbrev pub of_section : SectionR → List ExprR
of_section (section.Region r) = of_region r
of_section (section.Pointed c r) = of_range r

-- the subscript and the rank
abbrev pub of_event : EventR → List ExprR
of_event e = e.own.index ∷ of_place e.place

abbrev pub of_copy_event : CopyEventR → List ExprR
of_copy_event (role.Pre e) = e.index ∷ []
of_copy_event (role.Srce e) = of_event e
of_copy_event (role.Deste e) = of_event e

abbrev pub of_done : Option EventR → List ExprR
of_done None = []
of_done (Some e) = of_event e

abbrev pub of_form : {A : Type 0} → StmtR-F A → List ExprR
of_form (StmtR-F.Assign line v e) = of_variable v ++ (e ∷ [])
of_form (StmtR-F.Aim line c r) = of_region r
of_form (StmtR-F.Print line parts) = flat_map of_part parts
of_form (StmtR-F.If line e block otherwise) = e ∷ []
of_form (StmtR-F.Do line v first last step body) = first ∷ last ∷ step ∷ []
of_form (StmtR-F.While line e body) = e ∷ []
of_form (StmtR-F.Call line f actuals) = flat_map of_actual actuals
of_form (StmtR-F.Spawn line event f actuals p) = of_done event ++ flat_map of_actual actuals ++ (p.rank ∷ [])
of_form (StmtR-F.Notify line e) = of_event e
of_form (StmtR-F.Wait line e) = e.index ∷ []
of_form (StmtR-F.Copy line dest source events) = of_section dest ++ of_section source ++ flat_map of_copy_event events
of_form (StmtR-F.Cofence line down) = []
of_form (StmtR-F.Split line t colour key o) = colour ∷ key ∷ []
of_form (StmtR-F.Finish line t body) = []

abbrev pub expressions : StmtR → List ExprR
expressions s = of_form (out-StmtR s)

-- how many values a list of expressions holds
abbrev pub count_all : List ExprR → ℕ
count_all [] = 0
count_all (e ∷ rest) = count e + count_all rest

-- the reads of a list of expressions whose first held value stands at a place
abbrev pub reads_all : List ExprR → ℕ → List Read
reads_all [] at = []
reads_all (e ∷ rest) at = reads_at e at ++ reads_all rest (at + count e)

-- what is read before a statement's last Step: each read is a Step of its own, in this order
abbrev pub reads : StmtR → List Read
reads s = reads_all (expressions s) 0
