-- No code of a statement begins with a `go`, nor does its last Step.
use Rattle.std.proofs.Common.{◌≡◌, ℕ, ◌+◌, List, [], ◌∷◌, ◌++◌, Option, Some, None, refl, sym, subst}
use Rattle.std.specs.Prelude.{sum_by}
use Rattle.caf_program.specs.Expressions.{count_all, expressions, of_done, of_range, reads_all}
use Rattle.caf_program.specs.Value.{count}
use Rattle.caf_program.specs.declared.expr.ExprR.{ExprR}
use Rattle.caf_program.specs.declared.expr.PlaceR.{PlaceR}
use Rattle.caf_program.specs.declared.parts.ActualR.{ActualR}
use Rattle.caf_program.specs.declared.parts.ActualR.TheVariants as actual
use Rattle.caf_program.specs.declared.parts.EventR.{EventR}
use Rattle.caf_program.specs.declared.parts.PrintR.{PrintR}
use Rattle.caf_program.specs.declared.parts.PrintR.TheVariants as part
use Rattle.caf_program.specs.declared.parts.RangeR.{RangeR}
use Rattle.caf_program.specs.declared.parts.RangeR.TheVariants as range
use Rattle.caf_program.specs.declared.parts.RegionR.{RegionR}
use Rattle.caf_program.specs.declared.parts.SectionR.{SectionR}
use Rattle.caf_program.specs.declared.parts.SectionR.TheVariants as written
use Rattle.caf_program.specs.declared.parts.VariableR.TheVariants as variable
use Rattle.caf_program.specs.declared.stmt.StmtR.{StmtR}
use Rattle.caf_program.specs.declared.stmt.StmtR.TheOpen.{StmtR-F}
use Rattle.caf_program.specs.declared.stmt.StmtR.TheViews.{out-StmtR}
use Rattle.caf_treestep.specs.Evaluated.{held_by_actual}
use Rattle.caf_code.specs.Step.{go_of}
use Rattle.caf_code.specs.declared.instr.Instr.{Instr}
use Rattle.caf_code.specs.declared.instr.Instr.TheVariants as instr
use Rattle.caf_code.specs.declared.instr.Role.TheVariants as role
use Rattle.caf_exprgen.specs.Asks.{AllAsk}
use Rattle.caf_exprgen.specs.ExprCode.{expr_code, joined}
use Rattle.caf_exprgen.specs.Words.{CodesLeaveValues}
use Rattle.caf_codegen.specs.StmtCode.{actual_code, call_code, bounds_code, done_code, part_code, parts_code, place_code, place_form, last_code, last_layer, range_code, region_code, section_code, spawn_code, stmt_code, value_code, values_code}
use Rattle.caf_codegen.proofs.Parts.{code_parts, coded_blocks, pieces_of, reads_size}
use Rattle.caf_codegen.proofs.Pieces.{IsStill, all_ask, asks_still, still_front, within_still}

module _ (laws : CodesLeaveValues) where
  pub expr_still : (e : ExprR) (at : ℕ) → IsStill (expr_code e at)
  expr_still e at = within_still (expr_code e at) (laws.within e at)

  part_still : (p : PrintR) (at k : ℕ) → IsStill (part_code p at k)
  part_still (part.Number e) at k = still_front (expr_code e at) _ (expr_still e at)
  part_still (part.Logical e) at k = still_front (expr_code e at) _ (expr_still e at)
  part_still (part.Text t) at k = refl

  line_still : (l : List PrintR) (at k : ℕ) → IsStill (parts_code l at k)
  line_still [] at k = refl
  line_still (p ∷ l) at k = still_front (part_code p at k) _ (part_still p at k)

  call_still : (l : List ActualR) (f : ℕ) → IsStill (call_code f l)
  call_still [] f = refl
  call_still (actual.Value e ∷ l) f = still_front (expr_code e 0 ++ _) _ (still_front (expr_code e 0) _ (expr_still e 0))
  call_still (actual.Scalar o ∷ l) f = refl
  call_still (actual.Local k ∷ l) f = refl
  call_still (actual.Element o i ∷ l) f = still_front (actual_code (actual.Element o i) 0 ++ _) _ (still_front (actual_code (actual.Element o i) 0) _ (still_front (expr_code i 0) _ (expr_still i 0)))

  -- no instruction, or one that is no `go` first
  abbrev IsCalm : List Instr → Type 0
  IsCalm [] = Unit {0}
  IsCalm (i ∷ is) = go_of (Some i) ≡ None

  calm_then : (is js : List Instr) → IsCalm is → IsStill js → IsStill (is ++ js)
  calm_then [] js h more = more
  calm_then (i ∷ is) js h more = h

  calm_both : (is js : List Instr) → IsCalm is → IsCalm js → IsCalm (is ++ js)
  calm_both [] js h more = more
  calm_both (i ∷ is) js h more = h

  calm_still : (is : List Instr) → IsStill is → IsCalm is
  calm_still [] h = tt
  calm_still (i ∷ is) h = h

  expr_calm : (e : ExprR) (at : ℕ) → IsCalm (expr_code e at)
  expr_calm e at = calm_still (expr_code e at) (expr_still e at)

  place_calm : (p : Option (PlaceR ExprR)) (at : ℕ) → IsCalm (place_code p at)
  place_calm None at = tt
  place_calm (Some p) at = expr_calm p.rank at

  range_calm : (r : RangeR) (at : ℕ) → IsCalm (range_code r at)
  range_calm range.All at = tt
  range_calm (range.Cell i) at = expr_calm i at
  range_calm (range.Between i j) at = calm_both (expr_code i at) _ (expr_calm i at) (expr_calm j (at + count i))
  range_calm (range.From i) at = expr_calm i at
  range_calm (range.UpTo j) at = expr_calm j at

  region_still : (r : RegionR) (at : ℕ) → IsStill (region_code r at)
  region_still r at = calm_then (range_code r.range at) _ (range_calm r.range at) (calm_then (place_code r.place (at + count_all (of_range r.range))) _ (place_calm r.place (at + count_all (of_range r.range))) refl)

  section_still : (y : SectionR) (at : ℕ) → IsStill (section_code y at)
  section_still (written.Region r) at = region_still r at
  section_still (written.Pointed c r) at = calm_then (range_code r at) _ (range_calm r at) refl

  done_calm : (e : Option EventR) (at : ℕ) → IsCalm (done_code e at)
  done_calm None at = tt
  done_calm (Some e) at = calm_both (expr_code e.own.index at) _ (expr_calm e.own.index at) (calm_still (place_code e.place (at + count e.own.index) ++ (instr.EventAt e.own.object (place_form e.place) role.Done ∷ [])) (calm_then (place_code e.place (at + count e.own.index)) _ (place_calm e.place (at + count e.own.index)) refl))

  values_calm : (l : List ActualR) (at : ℕ) → IsCalm (values_code l at)
  values_calm [] at = tt
  values_calm (actual.Value e ∷ l) at = calm_both (expr_code e at) _ (expr_calm e at) (values_calm l (at + held_by_actual (actual.Value e)))
  values_calm (actual.Scalar o ∷ l) at = refl
  values_calm (actual.Local k ∷ l) at = refl
  values_calm (actual.Element o i ∷ l) at = calm_both (value_code (actual.Element o i) at) _ (calm_both (expr_code i at) _ (expr_calm i at) refl) (values_calm l (at + held_by_actual (actual.Element o i)))

  spawn_still : (e : Option EventR) (f : ℕ) (l : List ActualR) (p : PlaceR ExprR) → IsStill (spawn_code e f l p)
  spawn_still e f l p =
      let k = 0 + count_all (of_done e) in
      let j = 0 + count_all (of_done e) + sum_by held_by_actual l in
      calm_then (done_code e 0) _ (done_calm e 0) (calm_then (values_code l k) _ (values_calm l k) (still_front (expr_code p.rank j) _ (expr_still p.rank j)))

  last_layer_still : (start : ℕ) (l : StmtR-F StmtR) (a k : ℕ) → IsStill ((last_layer start (coded_blocks l)).code a k)
  last_layer_still start (StmtR-F.Assign line (variable.Scalar o) e) a k = still_front (expr_code e 0) _ (expr_still e 0)
  last_layer_still start (StmtR-F.Assign line (variable.Local n) e) a k = still_front (expr_code e 0) _ (expr_still e 0)
  last_layer_still start (StmtR-F.Assign line (variable.Element o i) e) a k = still_front (expr_code i 0) _ (expr_still i 0)
  last_layer_still start (StmtR-F.Assign line (variable.Coindexed o i p) e) a k = still_front (expr_code i 0) _ (expr_still i 0)
  last_layer_still start (StmtR-F.Assign line (variable.Pointed c i) e) a k = still_front (expr_code i 0) _ (expr_still i 0)
  last_layer_still start (StmtR-F.Print line parts) a k = line_still parts 0 k
  last_layer_still start (StmtR-F.If line e x y) a k = still_front (expr_code e 0) _ (expr_still e 0)
  last_layer_still start (StmtR-F.Do line v first last step x) a k = still_front (bounds_code first last step) _ (still_front (expr_code first 0) _ (expr_still first 0))
  last_layer_still start (StmtR-F.While line e x) a k = still_front (expr_code e 0) _ (expr_still e 0)
  last_layer_still start (StmtR-F.Call line f actuals) a k = call_still actuals f
  last_layer_still start (StmtR-F.Aim line c r) a k = still_front (region_code r 0) _ (region_still r 0)
  last_layer_still start (StmtR-F.Spawn line e f l p) a k = spawn_still e f l p
  last_layer_still start (StmtR-F.Copy line dest source events) a k = still_front (section_code dest 0) _ (section_still dest 0)
  last_layer_still start (StmtR-F.Notify line e) a k = still_front (expr_code e.own.index 0) _ (expr_still e.own.index 0)
  last_layer_still start (StmtR-F.Wait line e) a k = still_front (expr_code e.index 0) _ (expr_still e.index 0)
  last_layer_still start (StmtR-F.Split line t colour key o) a k = still_front (expr_code colour 0) _ (expr_still colour 0)
  last_layer_still start _ a k = refl

  pub last_still : (start : ℕ) (s : StmtR) (a k : ℕ) → IsStill ((last_code start s).code a k)
  last_still start s a k = last_layer_still start (out-StmtR s) a k

  -- from one of its reads on
  pub parts_still : (s : StmtR) (start a k : ℕ) (done left : List (List Instr)) → pieces_of s ≡ done ++ left → IsStill (joined left ++ (last_code start s).code a k)
  parts_still s start a k done left e =
      asks_still (reads_all (expressions s) 0) done left ((last_code start s).code a k) (subst (AllAsk (reads_all (expressions s) 0)) e (all_ask laws (expressions s) 0)) (last_still start s a k)

  pub stmt_still : (s : StmtR) (a k : ℕ) → IsStill ((stmt_code s).code a k)
  stmt_still s a k = subst IsStill (sym (code_parts s a k)) (parts_still s a (a + reads_size s) k [] (pieces_of s) refl)
