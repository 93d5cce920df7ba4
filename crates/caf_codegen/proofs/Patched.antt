-- Jumps that are filled in once it is known where they lead.
use Rattle.std.proofs.Common.{◌≡◌, ℕ, ◌+◌, List, [], ◌∷◌, ◌++◌, length, sym, ap, ◌∙◌, arith, append_assoc, length-append}
use Rattle.std.specs.Prelude.{slice_set}
use Rattle.std.proofs.Math.Seq.{set-append_seam}
use Rattle.caf_program.specs.declared.expr.ExprR.{ExprR}
use Rattle.caf_program.specs.declared.stmt.LoopVariableR.{LoopVariableR}
use Rattle.caf_program.specs.declared.stmt.StmtR.{StmtR}
use Rattle.caf_program.specs.declared.stmt.StmtR.TheVariants.{Do, If, While, outs-Do, outs-If, outs-While}
use Rattle.caf_code.specs.declared.instr.Instr.{Instr}
use Rattle.caf_code.specs.declared.instr.Instr.TheVariants as instr
use Rattle.caf_exprgen.specs.ExprCode.{expr_code}
use Rattle.caf_codegen.specs.StmtCode.{block, bounds_code, codes, do_code, guarded, if_code, last_code, last_layer, sizes, stmt_code, store_of, texts_in, turn_code, while_code}
use Rattle.caf_codegen.proofs.Parts.{coded_blocks}
use Rattle.caf_codegen.proofs.Sized.{sized, sized_block}

pub code_If : (start line : ℕ) (e : ExprR) (x y : List StmtR) → last_code start (If line e x y) ≡ if_code (expr_code e 0) (codes x) (codes y)
code_If start line e x y = ap (λ l. last_layer start (coded_blocks l)) (outs-If line e x y)

code_While : (start line : ℕ) (e : ExprR) (x : List StmtR) → last_code start (While line e x) ≡ while_code start (expr_code e 0) (codes x)
code_While start line e x = ap (λ l. last_layer start (coded_blocks l)) (outs-While line e x)

code_Do : (start line : ℕ) (v : LoopVariableR) (e1 e2 e3 : ExprR) (x : List StmtR) → last_code start (Do line v e1 e2 e3 x) ≡ do_code v (bounds_code e1 e2 e3) (codes x)
code_Do start line v e1 e2 e3 x = ap (λ l. last_layer start (coded_blocks l)) (outs-Do line v e1 e2 e3 x)

-- an instruction in the place of another
filled : (base bx tail c1 c2 c3 : List Instr) (u i : Instr) (n : ℕ) → c1 ≡ base ++ u ∷ [] → c2 ≡ c1 ++ bx → c3 ≡ c2 ++ tail → n ≡ length base → slice_set c3 n i ≡ base ++ i ∷ (bx ++ tail)
filled base bx tail c1 c2 c3 u i n e1 e2 e3 at =
    let all : c3 ≡ ((base ++ u ∷ []) ++ bx) ++ tail = e3 ∙ ap (λ l. l ++ tail) (e2 ∙ ap (λ l. l ++ bx) e1) in
    let flat : ((base ++ u ∷ []) ++ bx) ++ tail ≡ base ++ u ∷ (bx ++ tail) = ap (λ l. l ++ tail) (append_assoc base (u ∷ []) bx) ∙ append_assoc base (u ∷ bx) tail in
    ap (λ n. slice_set c3 n i) at ∙ ap (λ l. slice_set l (length base) i) (all ∙ flat) ∙ set-append_seam base u (bx ++ tail) i

-- a block behind a test
pub guarded_filled : (x : List StmtR) (base c1 c2 c3 : List Instr) (u : Instr) (n next out k : ℕ) → n ≡ length base → c1 ≡ base ++ u ∷ [] → c2 ≡ c1 ++ block (codes x) (length c1) k → c3 ≡ c2 ++ instr.Go next ∷ [] → out ≡ length c3
    → slice_set c3 n (instr.Test out) ≡ base ++ guarded (codes x) next (length base) k
guarded_filled x base c1 c2 c3 u n next out k at e1 e2 e3 len =
    let a = length base in
    let l1 : length c1 ≡ a + 1 = omega (arith, ap length e1, length-append base (u ∷ [])) in
    let ours = block (codes x) (a + 1) k in
    let f2 : c2 ≡ c1 ++ ours = e2 ∙ ap (λ m. c1 ++ block (codes x) m k) l1 in
    let to : out ≡ a + 1 + sizes (codes x) + 1 = omega (arith, len, l1, ap length f2, length-append c1 ours, sized_block x (a + 1) k, ap length e3, length-append c2 (instr.Go next ∷ [])) in
    filled base ours (instr.Go next ∷ []) c1 c2 c3 u (instr.Test out) n e1 f2 e3 at ∙ ap (λ m. base ++ instr.Test m ∷ (ours ++ instr.Go next ∷ [])) to

-- where the jump behind the block stands
pub guarded_go : (x : List StmtR) (base c1 c2 : List Instr) (u : Instr) (go k : ℕ) → c1 ≡ base ++ u ∷ [] → c2 ≡ c1 ++ block (codes x) (length c1) k → go ≡ length c2 → go ≡ length base + 1 + sizes (codes x)
guarded_go x base c1 c2 u go k e1 e2 at = omega (arith, at, ap length e1, length-append base (u ∷ []), ap length e2, length-append c1 (block (codes x) (length c1) k), sized_block x (length c1) k)

-- a choice
pub if_filled : (start line : ℕ) (e : ExprR) (x y : List StmtR) (base c1 c2 c3 : List Instr) (go end k j : ℕ) → c1 ≡ base ++ expr_code e 0 → c2 ≡ c1 ++ guarded (codes x) 0 (length c1) k → go ≡ length c1 + 1 + sizes (codes x)
    → c3 ≡ c2 ++ block (codes y) (length c2) j → j ≡ k + length (texts_in (codes x)) → end ≡ length c3 → slice_set c3 go (instr.Go end) ≡ base ++ (last_code start (If line e x y)).code (length base) k
if_filled start line e x y base c1 c2 c3 go end k j e1 e2 at e3 texts len =
    let X = codes x in
    let Y = codes y in
    let E = expr_code e 0 in
    let a = length base in
    let l1 : length c1 ≡ a + length E = omega (arith, ap length e1, length-append base E) in
    let first = a + length E + 1 in
    let second = first + sizes X + 1 in
    let bx = block X first k in
    let by = block Y second (k + length (texts_in X)) in
    let test = instr.Test second in
    let f2 : c2 ≡ c1 ++ guarded X 0 (a + length E) k = e2 ∙ ap (λ m. c1 ++ guarded X 0 m k) l1 in
    let l2 : length c2 ≡ second = omega (arith, l1, ap length f2, length-append c1 (guarded X 0 (a + length E) k), length-append bx (instr.Go 0 ∷ []), sized_block x first k) in
    let f3 : c3 ≡ c2 ++ by = e3 ∙ ap (λ m. c2 ++ block Y m j) l2 ∙ ap (λ m. c2 ++ block Y second m) texts in
    let to : end ≡ second + sizes Y = omega (arith, len, ap length f3, length-append c2 by, sized_block y second (k + length (texts_in X)), l2) in
    let front = base ++ (E ++ test ∷ bx) in
    let go_at : go ≡ length front = omega (arith, at, l1, length-append base (E ++ test ∷ bx), length-append E (test ∷ bx), sized_block x first k) in
    let flat : ((base ++ E) ++ test ∷ (bx ++ instr.Go 0 ∷ [])) ++ by ≡ front ++ instr.Go 0 ∷ by = simp append_assoc in
    let all : c3 ≡ front ++ instr.Go 0 ∷ by = f3 ∙ ap (λ l. l ++ by) (f2 ∙ ap (λ l. l ++ guarded X 0 (a + length E) k) e1) ∙ flat in
    let back : front ++ instr.Go end ∷ by ≡ base ++ (E ++ test ∷ (bx ++ instr.Go end ∷ by)) = simp append_assoc in
    ap (λ n. slice_set c3 n (instr.Go end)) go_at ∙ ap (λ l. slice_set l (length front) (instr.Go end)) all ∙ set-append_seam front (instr.Go 0) by (instr.Go end)
    ∙ back ∙ ap (λ n. base ++ (E ++ test ∷ (bx ++ instr.Go n ∷ by))) to ∙ ap (λ c. base ++ c.code a k) (sym (code_If start line e x y))

-- a loop by a test
pub while_joined : (line : ℕ) (e : ExprR) (x : List StmtR) (base c1 c2 : List Instr) (start k : ℕ) → c1 ≡ base ++ expr_code e 0 → c2 ≡ c1 ++ guarded (codes x) start (length c1) k → c2 ≡ base ++ (last_code start (While line e x)).code (length base) k
while_joined line e x base c1 c2 start k e1 e2 =
    let E = expr_code e 0 in
    let l1 : length c1 ≡ length base + length E = omega (arith, ap length e1, length-append base E) in
    e2 ∙ ap (λ m. c1 ++ guarded (codes x) start m k) l1 ∙ ap (λ l. l ++ guarded (codes x) start (length base + length E) k) e1
    ∙ append_assoc base E (guarded (codes x) start (length base + length E) k) ∙ ap (λ c. base ++ c.code (length base) k) (sym (code_While start line e x))

-- a loop behind its numbers
pub loop_filled : (x : List StmtR) (v : LoopVariableR) (base c1 c2 c3 c4 c5 : List Instr) (u i : Instr) (n top out k : ℕ) → c1 ≡ base ++ instr.Loop ∷ [] → i ≡ store_of v → c2 ≡ c1 ++ i ∷ [] → n ≡ length c2 → c3 ≡ c2 ++ u ∷ [] → top ≡ length c3
    → c4 ≡ c3 ++ block (codes x) (length c3) k → c5 ≡ c4 ++ turn_code v top → out ≡ length c5 → slice_set c5 n (instr.Enter out) ≡ base ++ (do_code v [] (codes x)).code (length base) k
loop_filled x v base c1 c2 c3 c4 c5 u i n top out k e1 stored e2 at e3 there e4 e5 len =
    let X = codes x in
    let a = length base in
    let l1 : length c1 ≡ a + 1 = omega (arith, ap length e1, length-append base (instr.Loop ∷ [])) in
    let l2 : length c2 ≡ a + 1 + 1 = omega (arith, l1, ap length e2, length-append c1 (i ∷ [])) in
    let t = a + 0 + 3 in
    let l3 : length c3 ≡ t = omega (arith, l2, ap length e3, length-append c2 (u ∷ [])) in
    let ours = block X t k in
    let f4 : c4 ≡ c3 ++ ours = e4 ∙ ap (λ m. c3 ++ block X m k) l3 in
    let f5 : c5 ≡ c4 ++ turn_code v t = e5 ∙ ap (λ m. c4 ++ turn_code v m) (there ∙ l3) in
    let to : out ≡ t + sizes X + 5 = omega (arith, len, ap length f5, length-append c4 (turn_code v t), ap length f4, length-append c3 ours, l3, sized_block x t k) in
    let head : c2 ≡ base ++ (instr.Loop ∷ store_of v ∷ []) = e2 ∙ ap (λ l. l ++ i ∷ []) e1 ∙ append_assoc base (instr.Loop ∷ []) (i ∷ []) ∙ ap (λ j. base ++ (instr.Loop ∷ j ∷ [])) stored in
    filled c2 ours (turn_code v t) c3 c4 c5 u (instr.Enter out) n e3 f4 f5 at ∙ ap (λ l. l ++ instr.Enter out ∷ (ours ++ turn_code v t)) head
    ∙ append_assoc base (instr.Loop ∷ store_of v ∷ []) (instr.Enter out ∷ (ours ++ turn_code v t)) ∙ ap (λ m. base ++ (instr.Loop ∷ store_of v ∷ instr.Enter m ∷ (ours ++ turn_code v t))) to

pub do_joined : (start line : ℕ) (v : LoopVariableR) (e1 e2 e3 : ExprR) (x : List StmtR) (base c1 c2 : List Instr) (k : ℕ) → c1 ≡ base ++ bounds_code e1 e2 e3 → c2 ≡ c1 ++ (do_code v [] (codes x)).code (length c1) k
    → c2 ≡ base ++ (last_code start (Do line v e1 e2 e3 x)).code (length base) k
do_joined start line v e1 e2 e3 x base c1 c2 k f1 f2 =
    let B = bounds_code e1 e2 e3 in
    let X = codes x in
    let top = length base + length B + 3 in
    let l1 : length c1 + 0 + 3 ≡ top = omega (arith, ap length f1, length-append base B) in
    let tail = instr.Loop ∷ store_of v ∷ instr.Enter (top + sizes X + 5) ∷ (block X top k ++ turn_code v top) in
    f2 ∙ ap (λ m. c1 ++ (instr.Loop ∷ store_of v ∷ instr.Enter (m + sizes X + 5) ∷ (block X m k ++ turn_code v m))) l1 ∙ ap (λ l. l ++ tail) f1 ∙ append_assoc base B tail ∙ ap (λ c. base ++ c.code (length base) k) (sym (code_Do start line v e1 e2 e3 x))

-- one more statement of a block
pub block_step : (out next : List Instr) (s : StmtR) (rest : List StmtR) (k j : ℕ) → next ≡ out ++ (stmt_code s).code (length out) k → j ≡ k + length (stmt_code s).texts
    → next ++ block (codes rest) (length next) j ≡ out ++ block (codes (s ∷ rest)) (length out) k
block_step out next s rest k j e texts =
    let c = stmt_code s in
    let here = c.code (length out) k in
    let len : length next ≡ length out + c.size = omega (arith, ap length e, length-append out here, sized s (length out) k) in
    let more = block (codes rest) (length out + c.size) (k + length c.texts) in
    ap (λ n. next ++ block (codes rest) n j) len ∙ ap (λ n. next ++ block (codes rest) (length out + c.size) n) texts ∙ ap (λ l. l ++ more) e ∙ append_assoc out here more
