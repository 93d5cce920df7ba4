-- Which statements of an accepted program don't run yet: those that read or write another image or behind a copointer,
-- those on events, copies, fences, ships, copointers, teams and finishes, and those that name a team in `team_rank` or
-- `team_size`.
use Rattle.std.specs.Prelude.{ℕ, Bool, true, false, ◌&&◌, List, [], ◌∷◌, map, Option, Some, None}
use Rattle.caf_base.specs.declared.arithmetic.BinaryOperator.{BinaryOperator}
use Rattle.caf_program.specs.declared.expr.ExprR.{ExprR}
use Rattle.caf_program.specs.declared.expr.ExprR.TheOpen.{ExprR-F}
use Rattle.caf_program.specs.declared.expr.ExprR.TheFolds.{fold-ExprR}
use Rattle.caf_program.specs.declared.expr.TeamR.{TeamR}
use Rattle.caf_program.specs.declared.expr.TeamR.TheVariants as team
use Rattle.caf_program.specs.declared.parts.ActualR.{ActualR}
use Rattle.caf_program.specs.declared.parts.ActualR.TheVariants as actual
use Rattle.caf_program.specs.declared.parts.PrintR.{PrintR}
use Rattle.caf_program.specs.declared.parts.PrintR.TheVariants as part
use Rattle.caf_program.specs.declared.parts.VariableR.{VariableR}
use Rattle.caf_program.specs.declared.parts.VariableR.TheVariants as variable
use Rattle.caf_program.specs.declared.program.Program.{Program}
use Rattle.caf_program.specs.declared.program.SubR.{SubR}
use Rattle.caf_program.specs.declared.stmt.StmtR.{StmtR}
use Rattle.caf_program.specs.declared.stmt.StmtR.TheOpen.{StmtR-F}
use Rattle.caf_program.specs.declared.stmt.StmtR.TheFolds.{fold-StmtR}
use Rattle.caf_source.specs.Built.{all_true, is_here, is_plain}

-- ---- expressions

abbrev pub is_world : TeamR → Bool
is_world team.World = true
is_world (team.Object o) = false

-- whether the operands of operators name no team
abbrev pub operands_free : List (BinaryOperator × Bool) → Bool
operands_free others = all_true (map (λ (p : BinaryOperator × Bool). p.1) others)

abbrev pub free_layer : ExprR-F Bool → Bool
free_layer (ExprR-F.Number n) = true
free_layer (ExprR-F.Truth b) = true
free_layer (ExprR-F.Scalar o) = true
free_layer (ExprR-F.Local k) = true
free_layer (ExprR-F.Element o i) = i
free_layer (ExprR-F.Coindexed o i p) = i && p.rank
free_layer (ExprR-F.Pointed c i) = i
free_layer (ExprR-F.Unary w a) = a
free_layer (ExprR-F.Chain a others) = a && operands_free others
free_layer (ExprR-F.Rank t) = is_world t
free_layer (ExprR-F.Size t) = is_world t

-- whether no `team_rank` and no `team_size` in an expression names a team
abbrev pub names_no_team : ExprR → Bool
names_no_team = fold-ExprR Bool free_layer

-- whether an expression runs: it reads this image's elements alone, and names no team
abbrev pub runs : ExprR → Bool
runs e = is_plain e && names_no_team e

abbrev pub variable_runs : VariableR → Bool
variable_runs (variable.Element o i) = runs i
variable_runs v = is_here v

abbrev pub part_runs : PrintR → Bool
part_runs (part.Number e) = runs e
part_runs (part.Logical e) = runs e
part_runs (part.Text t) = true

abbrev pub actual_runs : ActualR → Bool
actual_runs (actual.Value e) = runs e
actual_runs (actual.Scalar o) = true
actual_runs (actual.Local k) = true
actual_runs (actual.Element o i) = runs i

-- ---- statements

abbrev pub either : Option ℕ → Option ℕ → Option ℕ
either (Some line) other = Some line
either None other = other

abbrev pub earliest : List (Option ℕ) → Option ℕ
earliest [] = None
earliest (o ∷ others) = either o (earliest others)

-- the line, unless what the statement itself holds runs
abbrev pub unless : Bool → ℕ → Option ℕ
unless true line = None
unless false line = Some line

abbrev pub line_layer : StmtR-F (Option ℕ) → Option ℕ
line_layer (StmtR-F.Assign line v e) = unless (variable_runs v && runs e) line
line_layer (StmtR-F.Print line parts) = unless (all_true (map part_runs parts)) line
line_layer (StmtR-F.If line e block otherwise) = either (unless (runs e) line) (either (earliest block) (earliest otherwise))
line_layer (StmtR-F.Do line v first last step body) = either (unless (runs first && (runs last && runs step)) line) (earliest body)
line_layer (StmtR-F.While line e body) = either (unless (runs e) line) (earliest body)
line_layer (StmtR-F.Call line f actuals) = unless (all_true (map actual_runs actuals)) line
line_layer (StmtR-F.Aim line c r) = Some line
line_layer (StmtR-F.Spawn line d f actuals p) = Some line
line_layer (StmtR-F.Notify line e) = Some line
line_layer (StmtR-F.Wait line e) = Some line
line_layer (StmtR-F.Copy line d s events) = Some line
line_layer (StmtR-F.Cofence line d) = Some line
line_layer (StmtR-F.Split line t colour key new) = Some line
line_layer (StmtR-F.Finish line t body) = Some line

-- the line of the first statement in it that itself holds what doesn't run
abbrev pub unbuilt_in : StmtR → Option ℕ
unbuilt_in = fold-StmtR (Option ℕ) line_layer

abbrev pub unbuilt_in_block : List StmtR → Option ℕ
unbuilt_in_block block = earliest (map unbuilt_in block)

abbrev pub unbuilt_in_subs : List SubR → Option ℕ
unbuilt_in_subs subs = earliest (map (λ (f : SubR). unbuilt_in_block f.body) subs)

-- the same of a program: its main part stands before its subroutines
abbrev pub first_unbuilt : Program → Option ℕ
first_unbuilt p = either (unbuilt_in_block p.body) (unbuilt_in_subs p.subs)
