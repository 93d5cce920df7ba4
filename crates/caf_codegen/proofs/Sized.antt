-- A statement has as many instructions as its size says, wherever it stands.
use Rattle.std.proofs.Common.{◌≡◌, ℕ, ◌+◌, List, [], ◌∷◌, ◌++◌, map, length, refl, sym, subst, arith, length-append}
use Rattle.caf_program.specs.declared.parts.PrintR.{PrintR}
use Rattle.caf_program.specs.declared.parts.PrintR.TheVariants as part
use Rattle.caf_program.specs.declared.stmt.LoopVariableR.{LoopVariableR}
use Rattle.caf_program.specs.declared.stmt.StmtR.{StmtR}
use Rattle.caf_program.specs.declared.stmt.StmtR.TheOpen.{StmtR-F}
use Rattle.caf_program.specs.declared.stmt.StmtR.TheFolds.{ind-StmtR, fold-roll-StmtR, map-StmtR}
use Rattle.caf_program.specs.declared.stmt.StmtR.TheViews.{roll-StmtR}
use Rattle.caf_treestep.specs.Evaluated.{held_by_part}
use Rattle.caf_code.specs.declared.instr.Instr.{Instr}
use Rattle.caf_code.specs.declared.instr.Instr.TheVariants as instr
use Rattle.caf_code.specs.declared.instr.TeamName.{TeamName}
use Rattle.caf_exprgen.specs.ExprCode.{expr_code, team_name}
use Rattle.caf_codegen.specs.StmtCode.{StmtCode, block, bounds_code, asked_first, codes, do_code, finish_code, if_code, last_layer, part_code, part_text, parts_code, sizes, stmt_code, stmt_layer, store_of, texts_in, turn_code, while_code}

abbrev IsSized : StmtCode → Type 0
IsSized c = (a k : ℕ) → length (c.code a k) ≡ c.size

abbrev Kid : Type 0
Kid = (s : StmtR) × IsSized (stmt_code s)

abbrev kids : List Kid → List StmtCode
kids l = map stmt_code (map (λ e. e.0) l)

sized_all : (l : List Kid) (a k : ℕ) → length (block (kids l) a k) ≡ sizes (kids l)
sized_all [] a k = refl
sized_all (e ∷ l) a k =
    let c = stmt_code e.0 in
    let others = block (kids l) (a + c.size) (k + length c.texts) in
    omega (arith, length-append (c.code a k) others, e.1 a k, sized_all l (a + c.size) (k + length c.texts))

sized_if : (test : List Instr) (x y : List Kid) → IsSized (if_code test (kids x) (kids y))
sized_if test x y a k =
    let first = a + length test + 1 in
    let second = first + sizes (kids x) + 1 in
    let bx = block (kids x) first k in
    let by = block (kids y) second (k + length (texts_in (kids x))) in
    let go = instr.Go (second + sizes (kids y)) in
    omega (arith, length-append test (instr.Test second ∷ (bx ++ (go ∷ by))), length-append bx (go ∷ by), sized_all x first k, sized_all y second (k + length (texts_in (kids x))))

sized_while : (start : ℕ) (test : List Instr) (x : List Kid) → IsSized (while_code start test (kids x))
sized_while start test x a k =
    let first = a + length test + 1 in
    let bx = block (kids x) first k in
    omega (arith, length-append test (instr.Test (first + sizes (kids x) + 1) ∷ (bx ++ (instr.Go start ∷ []))), length-append bx (instr.Go start ∷ []), sized_all x first k)

sized_do : (v : LoopVariableR) (bounds : List Instr) (x : List Kid) → IsSized (do_code v bounds (kids x))
sized_do v bounds x a k =
    let top = a + length bounds + 3 in
    let bx = block (kids x) top k in
    let tail = turn_code v top in
    omega (arith, length-append bounds (instr.Loop ∷ store_of v ∷ instr.Enter (top + sizes (kids x) + 5) ∷ (bx ++ tail)), length-append bx tail, sized_all x top k)

sized_finish : (name : TeamName) (x : List Kid) → IsSized (finish_code name (kids x))
sized_finish name x a k = omega (arith, length-append (block (kids x) (a + 1) k) (instr.Close ∷ []), sized_all x (a + 1) k)

-- the number of a text takes no room
sized_part : (p : PrintR) (at k j : ℕ) → length (part_code p at k) ≡ length (part_code p at j)
sized_part (part.Number e) at k j = refl
sized_part (part.Logical e) at k j = refl
sized_part (part.Text t) at k j = refl

pub sized_parts : (l : List PrintR) (at k j : ℕ) → length (parts_code l at k) ≡ length (parts_code l at j)
sized_parts [] at k j = refl
sized_parts (p ∷ l) at k j =
    let next = at + held_by_part p in
    let more = length (part_text p) in
    omega (arith, length-append (part_code p at k) (parts_code l next (k + more)), length-append (part_code p at j) (parts_code l next (j + more)), sized_part p at k j, sized_parts l next (k + more) (j + more))

-- the statements of its blocks forgotten
abbrev bare : StmtR-F Kid → StmtR-F StmtR
bare = map-StmtR Kid StmtR (λ e. e.0)

abbrev with_codes : StmtR-F Kid → StmtR-F StmtCode
with_codes y = map-StmtR StmtR StmtCode stmt_code (bare y)

-- wherever the statement begins
sized_last : (start : ℕ) (y : StmtR-F Kid) (a k : ℕ) → length ((last_layer start (with_codes y)).code a k) ≡ (last_layer 0 (with_codes y)).size
sized_last start (StmtR-F.Assign line v e) = λ a k. refl
sized_last start (StmtR-F.Call line f actuals) = λ a k. refl
sized_last start (StmtR-F.Print line parts) = λ a k. sized_parts parts 0 k 0
sized_last start (StmtR-F.If line e x y) = sized_if (expr_code e 0) x y
sized_last start (StmtR-F.Do line v first last step x) = sized_do v (bounds_code first last step) x
sized_last start (StmtR-F.While line e x) = sized_while start (expr_code e 0) x
sized_last start (StmtR-F.Finish line t x) = sized_finish (team_name t) x
sized_last start _ = λ a k. refl

sized_layer : (y : StmtR-F Kid) → IsSized (stmt_layer (with_codes y))
sized_layer y a k =
    let front = asked_first (with_codes y) in
    let b = a + length front in
    omega (arith, length-append front ((last_layer a (with_codes y)).code b k), sized_last a y b k)

pub sized : (s : StmtR) (a k : ℕ) → length ((stmt_code s).code a k) ≡ (stmt_code s).size
sized = ind-StmtR (λ s. IsSized (stmt_code s)) (λ x y is.
    let P : StmtR-F StmtR → Type 0 = λ z. IsSized (stmt_code (roll-StmtR z)) in
    let z : StmtR-F StmtR = map-StmtR Kid StmtR (λ e. e.0) y in
    subst P is (subst IsSized (sym (fold-roll-StmtR StmtCode stmt_layer z)) (sized_layer y)))

pub sized_block : (l : List StmtR) (a k : ℕ) → length (block (codes l) a k) ≡ sizes (codes l)
sized_block [] a k = refl
sized_block (s ∷ l) a k =
    let c = stmt_code s in
    let others = block (codes l) (a + c.size) (k + length c.texts) in
    omega (arith, length-append (c.code a k) others, sized s a k, sized_block l (a + c.size) (k + length c.texts))
