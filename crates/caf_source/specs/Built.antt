-- The forms of statements that run so far: assignment, `print`, `if`, `do`, `do while` and `call`, with expressions that
-- read no element of another image and none behind a copointer.
use Rattle.std.specs.Prelude.{Bool, true, false, ◌&&◌, List, [], ◌∷◌, map, nat_eq}
use Rattle.caf_program.specs.declared.expr.ExprR.{ExprR}
use Rattle.caf_program.specs.declared.parts.ActualR.{ActualR}
use Rattle.caf_program.specs.declared.parts.ActualR.TheVariants as actual
use Rattle.caf_program.specs.declared.parts.PrintR.{PrintR}
use Rattle.caf_program.specs.declared.parts.PrintR.TheVariants as part
use Rattle.caf_program.specs.declared.parts.VariableR.{VariableR}
use Rattle.caf_program.specs.declared.parts.VariableR.TheVariants as variable
use Rattle.caf_program.specs.declared.program.Program.{Program}
use Rattle.caf_program.specs.declared.program.SubR.{SubR}
use Rattle.caf_program.specs.declared.stmt.StmtR.{StmtR}
use Rattle.caf_program.specs.declared.stmt.StmtR.TheOpen.{StmtR-F}
use Rattle.caf_program.specs.declared.stmt.StmtR.TheFolds.{fold-StmtR}
use Rattle.caf_program.specs.Value.{count}

abbrev pub all_true : List Bool → Bool
all_true [] = true
all_true (b ∷ rest) = b && all_true rest

-- whether an expression reads no element of another image and none behind a copointer
abbrev pub is_plain : ExprR → Bool
is_plain e = nat_eq (count e) 0

-- whether a variable is one of this image or a cell of the frame
abbrev pub is_here : VariableR → Bool
is_here (variable.Scalar o) = true
is_here (variable.Local k) = true
is_here (variable.Element o i) = is_plain i
is_here _ = false

abbrev pub is_part_plain : PrintR → Bool
is_part_plain (part.Number e) = is_plain e
is_part_plain (part.Logical e) = is_plain e
is_part_plain (part.Text t) = true

abbrev pub is_actual_plain : ActualR → Bool
is_actual_plain (actual.Value e) = is_plain e
is_actual_plain (actual.Scalar o) = true
is_actual_plain (actual.Local k) = true
is_actual_plain (actual.Element o i) = is_plain i

-- whether a statement is of such a form, where its blocks are
abbrev pub built_layer : StmtR-F Bool → Bool
built_layer (StmtR-F.Assign line v e) = is_here v && is_plain e
built_layer (StmtR-F.Print line parts) = all_true (map is_part_plain parts)
built_layer (StmtR-F.If line e block otherwise) = is_plain e && (all_true block && all_true otherwise)
built_layer (StmtR-F.Do line v first last step body) = (is_plain first && (is_plain last && is_plain step)) && all_true body
built_layer (StmtR-F.While line e body) = is_plain e && all_true body
built_layer (StmtR-F.Call line f actuals) = all_true (map is_actual_plain actuals)
built_layer _ = false

abbrev pub is_built : StmtR → Bool
is_built = fold-StmtR Bool built_layer

abbrev pub is_block_built : List StmtR → Bool
is_block_built block = all_true (map is_built block)

abbrev pub are_subs_built : List SubR → Bool
are_subs_built subs = all_true (map (λ (f : SubR). is_block_built f.body) subs)

-- whether a program holds such forms only
abbrev pub is_program_built : Program → Bool
is_program_built p = is_block_built p.body && are_subs_built p.subs
