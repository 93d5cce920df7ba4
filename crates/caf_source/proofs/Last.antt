-- A statement of a form that runs so far reads nothing, so that its next Step is its last.
use Rattle.std.proofs.lemmas.Bool.{eqb-true, false≢true}
use Rattle.std.specs.List.{flat_map}
use Rattle.std.proofs.Common.{◌≡◌, ℕ, ◌+◌, ◌++◌, ◌≤◌, List, ◌∷◌, Bool, None, slice_get, IsTrue, map, ◌&&◌, arith, refl, subst, []}
use Rattle.caf_program.specs.declared.expr.ExprR.{ExprR}
use Rattle.caf_program.specs.declared.parts.ActualR.{ActualR}
use Rattle.caf_program.specs.declared.parts.ActualR.TheVariants as actual
use Rattle.caf_program.specs.declared.parts.PrintR.{PrintR}
use Rattle.caf_program.specs.declared.parts.PrintR.TheVariants as part
use Rattle.caf_program.specs.declared.parts.VariableR.{VariableR}
use Rattle.caf_program.specs.declared.parts.VariableR.TheVariants as variable
use Rattle.caf_program.specs.declared.stmt.StmtR.{StmtR}
use Rattle.caf_program.specs.declared.stmt.StmtR.TheFolds.{fold_out-StmtR, map-StmtR}
use Rattle.caf_program.specs.declared.stmt.StmtR.TheOpen.{StmtR-F}
use Rattle.caf_program.specs.declared.stmt.StmtR.TheViews.{out-StmtR}
use Rattle.caf_program.specs.Expressions.{count_all, of_actual, of_form, of_part, of_variable, reads_all}
use Rattle.caf_program.specs.Value.{count}
use Rattle.caf_source.specs.Built.{all_true, built_layer, is_actual_plain, is_built, is_here, is_part_plain, is_plain}
use Rattle.caf_treestep.specs.Step.{step}
use Rattle.caf_source.proofs.Both.{and_first, and_second}

-- what two lists of expressions hold
count_both : (es fs : List ExprR) → count_all (es ++ fs) ≡ count_all es + count_all fs
count_both [] fs = omega arith
count_both (e ∷ es) fs = omega (arith, count_both es fs)

-- the expressions of a statement, whatever stands in its blocks
same_expressions : {A : Type 0} (f : StmtR → A) (s : StmtR-F StmtR) → of_form (map-StmtR StmtR A f s) ≡ of_form s
same_expressions f (StmtR-F.Assign line v e) = refl
same_expressions f (StmtR-F.Aim line c r) = refl
same_expressions f (StmtR-F.Print line parts) = refl
same_expressions f (StmtR-F.If line e block otherwise) = refl
same_expressions f (StmtR-F.Do line v first last step body) = refl
same_expressions f (StmtR-F.While line e body) = refl
same_expressions f (StmtR-F.Call line g actuals) = refl
same_expressions f (StmtR-F.Spawn line event g actuals p) = refl
same_expressions f (StmtR-F.Notify line e) = refl
same_expressions f (StmtR-F.Wait line e) = refl
same_expressions f (StmtR-F.Copy line dest source events) = refl
same_expressions f (StmtR-F.Cofence line down) = refl
same_expressions f (StmtR-F.Split line t colour key o) = refl
same_expressions f (StmtR-F.Finish line t body) = refl

plain_count : (e : ExprR) → IsTrue (is_plain e) → count e ≡ 0
plain_count e plain = eqb-true (count e) 0 plain

variable_count : (v : VariableR) → IsTrue (is_here v) → count_all (of_variable v) ≡ 0
variable_count (variable.Scalar o) here = refl
variable_count (variable.Local k) here = refl
variable_count (variable.Element o i) here = omega (arith, plain_count i here)
variable_count (variable.Coindexed o i p) here = absurd (false≢true here)
variable_count (variable.Pointed c i) here = absurd (false≢true here)

part_count : (p : PrintR) → IsTrue (is_part_plain p) → count_all (of_part p) ≡ 0
part_count (part.Number e) plain = omega (arith, plain_count e plain)
part_count (part.Logical e) plain = omega (arith, plain_count e plain)
part_count (part.Text t) plain = refl

actual_count : (a : ActualR) → IsTrue (is_actual_plain a) → count_all (of_actual a) ≡ 0
actual_count (actual.Value e) plain = omega (arith, plain_count e plain)
actual_count (actual.Scalar o) plain = refl
actual_count (actual.Local k) plain = refl
actual_count (actual.Element o i) plain = omega (arith, plain_count i plain)

parts_count : (ps : List PrintR) → IsTrue (all_true (map is_part_plain ps)) → count_all (flat_map of_part ps) ≡ 0
parts_count [] plain = refl
parts_count (p ∷ rest) plain = omega (arith, count_both (of_part p) (flat_map of_part rest), part_count p (and_first (is_part_plain p) _ plain), parts_count rest (and_second (is_part_plain p) _ plain))

actuals_count : (xs : List ActualR) → IsTrue (all_true (map is_actual_plain xs)) → count_all (flat_map of_actual xs) ≡ 0
actuals_count [] plain = refl
actuals_count (a ∷ rest) plain = omega (arith, count_both (of_actual a) (flat_map of_actual rest), actual_count a (and_first (is_actual_plain a) _ plain), actuals_count rest (and_second (is_actual_plain a) _ plain))

layer_holds_nothing : (s : StmtR-F Bool) (n : ℕ) → IsTrue (built_layer s) → count_all (of_form s) ≤ n
layer_holds_nothing (StmtR-F.Assign line v e) n built =
    omega (arith, count_both (of_variable v) (e ∷ []), variable_count v (and_first (is_here v) _ built), plain_count e (and_second (is_here v) _ built))
layer_holds_nothing (StmtR-F.Print line parts) n built = omega (arith, parts_count parts built)
layer_holds_nothing (StmtR-F.If line e block otherwise) n built = omega (arith, plain_count e (and_first (is_plain e) _ built))
layer_holds_nothing (StmtR-F.Do line v first last step body) n built =
    let all = and_first (is_plain first && (is_plain last && is_plain step)) _ built in
    let two = and_second (is_plain first) _ all in
    omega (arith, plain_count first (and_first (is_plain first) _ all), plain_count last (and_first (is_plain last) _ two), plain_count step (and_second (is_plain last) _ two))
layer_holds_nothing (StmtR-F.While line e body) n built = omega (arith, plain_count e (and_first (is_plain e) _ built))
layer_holds_nothing (StmtR-F.Call line f actuals) n built = omega (arith, actuals_count actuals built)
layer_holds_nothing (StmtR-F.Aim line c r) n built = absurd (false≢true built)
layer_holds_nothing (StmtR-F.Spawn line event f actuals p) n built = absurd (false≢true built)
layer_holds_nothing (StmtR-F.Notify line e) n built = absurd (false≢true built)
layer_holds_nothing (StmtR-F.Wait line e) n built = absurd (false≢true built)
layer_holds_nothing (StmtR-F.Copy line dest source events) n built = absurd (false≢true built)
layer_holds_nothing (StmtR-F.Cofence line down) n built = absurd (false≢true built)
layer_holds_nothing (StmtR-F.Split line t colour key o) n built = absurd (false≢true built)
layer_holds_nothing (StmtR-F.Finish line t body) n built = absurd (false≢true built)

pub holds_nothing : (s : StmtR) (n : ℕ) → IsTrue (is_built s) → count_all (of_form (out-StmtR s)) ≤ n
holds_nothing s n built =
    subst (λ es. count_all es ≤ n) (same_expressions is_built (out-StmtR s))
    (layer_holds_nothing (map-StmtR StmtR Bool is_built (out-StmtR s)) n (subst IsTrue (fold_out-StmtR Bool built_layer s) built))

abbrev pub PastReads : Type 0
PastReads = (es : List ExprR) (at held : ℕ) → count_all es ≤ held → slice_get (reads_all es at) held ≡ None
