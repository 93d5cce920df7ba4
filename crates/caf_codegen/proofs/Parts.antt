-- The code of a statement: its reads, and then its last Step.
use Rattle.std.proofs.Common.{◌≡◌, ℕ, ◌+◌, List, ◌++◌, length, refl, sym, ap, ◌∙◌, arith, append_assoc, length-append}
use Rattle.caf_program.specs.Expressions.{expressions, of_form}
use Rattle.caf_program.specs.declared.stmt.StmtR.{StmtR}
use Rattle.caf_program.specs.declared.stmt.StmtR.TheOpen.{StmtR-F}
use Rattle.caf_program.specs.declared.stmt.StmtR.TheFolds.{fold_out-StmtR, map-StmtR}
use Rattle.caf_program.specs.declared.stmt.StmtR.TheViews.{out-StmtR}
use Rattle.caf_code.specs.declared.instr.Instr.{Instr}
use Rattle.caf_exprgen.specs.ExprCode.{joined}
use Rattle.caf_codegen.specs.StmtCode.{StmtCode, asked, asked_first, last_code, last_layer, stmt_code, stmt_layer}
use Rattle.caf_codegen.proofs.Pieces.{asked_joined, pieces}

-- a statement with the code of the statements in its blocks
abbrev pub coded_blocks : StmtR-F StmtR → StmtR-F StmtCode
coded_blocks = map-StmtR StmtR StmtCode stmt_code

abbrev pub pieces_of : StmtR → List (List Instr)
pieces_of s = pieces (expressions s) 0

form_same : (l : StmtR-F StmtR) → asked_first (coded_blocks l) ≡ asked (of_form l) 0
form_same (StmtR-F.Assign line v e) = refl
form_same (StmtR-F.Aim line c r) = refl
form_same (StmtR-F.Print line parts) = refl
form_same (StmtR-F.If line e x y) = refl
form_same (StmtR-F.Do line v first last step x) = refl
form_same (StmtR-F.While line e x) = refl
form_same (StmtR-F.Call line f actuals) = refl
form_same (StmtR-F.Spawn line e f actuals p) = refl
form_same (StmtR-F.Notify line e) = refl
form_same (StmtR-F.Wait line e) = refl
form_same (StmtR-F.Copy line dest source events) = refl
form_same (StmtR-F.Cofence line down) = refl
form_same (StmtR-F.Split line t colour key o) = refl
form_same (StmtR-F.Finish line t x) = refl

front_same : (s : StmtR) → asked_first (coded_blocks (out-StmtR s)) ≡ joined (pieces_of s)
front_same s = form_same (out-StmtR s) ∙ asked_joined (expressions s) 0

-- how many instructions its reads have
abbrev pub reads_size : StmtR → ℕ
reads_size s = length (joined (pieces_of s))

pub code_parts : (s : StmtR) (a k : ℕ) → (stmt_code s).code a k ≡ joined (pieces_of s) ++ (last_code a s).code (a + reads_size s) k
code_parts s a k =
    ap (λ c. c.code a k) (fold_out-StmtR StmtCode stmt_layer s)
    ∙ ap (λ (is : List Instr). is ++ (last_code a s).code (a + length is) k) (front_same s)

pub size_parts : (s : StmtR) → (stmt_code s).size ≡ reads_size s + (last_code 0 s).size
size_parts s = ap (λ c. c.size) (fold_out-StmtR StmtCode stmt_layer s) ∙ ap (λ (is : List Instr). length is + (last_code 0 s).size) (front_same s)

pub texts_same : (s : StmtR) → (stmt_code s).texts ≡ (last_code 0 s).texts
texts_same s = ap (λ c. c.texts) (fold_out-StmtR StmtCode stmt_layer s)

-- the sizes and texts of a last Step, wherever its statement begins
pub size_anywhere : (start : ℕ) (l : StmtR-F StmtCode) → (last_layer start l).size ≡ (last_layer 0 l).size
size_anywhere start (StmtR-F.While line e x) = refl
size_anywhere start (StmtR-F.Assign line v e) = refl
size_anywhere start (StmtR-F.Aim line c r) = refl
size_anywhere start (StmtR-F.Print line parts) = refl
size_anywhere start (StmtR-F.If line e x y) = refl
size_anywhere start (StmtR-F.Do line v e1 e2 e3 x) = refl
size_anywhere start (StmtR-F.Call line f actuals) = refl
size_anywhere start (StmtR-F.Spawn line e f l p) = refl
size_anywhere start (StmtR-F.Notify line e) = refl
size_anywhere start (StmtR-F.Wait line e) = refl
size_anywhere start (StmtR-F.Copy line dest source events) = refl
size_anywhere start (StmtR-F.Cofence line down) = refl
size_anywhere start (StmtR-F.Split line t colour key o) = refl
size_anywhere start (StmtR-F.Finish line t x) = refl

pub texts_anywhere : (start : ℕ) (l : StmtR-F StmtCode) → (last_layer start l).texts ≡ (last_layer 0 l).texts
texts_anywhere start (StmtR-F.While line e x) = refl
texts_anywhere start (StmtR-F.Assign line v e) = refl
texts_anywhere start (StmtR-F.Aim line c r) = refl
texts_anywhere start (StmtR-F.Print line parts) = refl
texts_anywhere start (StmtR-F.If line e x y) = refl
texts_anywhere start (StmtR-F.Do line v e1 e2 e3 x) = refl
texts_anywhere start (StmtR-F.Call line f actuals) = refl
texts_anywhere start (StmtR-F.Spawn line e f l p) = refl
texts_anywhere start (StmtR-F.Notify line e) = refl
texts_anywhere start (StmtR-F.Wait line e) = refl
texts_anywhere start (StmtR-F.Copy line dest source events) = refl
texts_anywhere start (StmtR-F.Cofence line down) = refl
texts_anywhere start (StmtR-F.Split line t colour key o) = refl
texts_anywhere start (StmtR-F.Finish line t x) = refl

-- the reads of a statement, and then its last Step
pub statement_joined : (s : StmtR) (base mid all : List Instr) (start k : ℕ) → start ≡ length base → mid ≡ base ++ asked (expressions s) 0 → all ≡ mid ++ (last_code start s).code (length mid) k → all ≡ base ++ (stmt_code s).code (length base) k
statement_joined s base mid all start k at first second =
    let front = asked (expressions s) 0 in
    let a = length base in
    let len : length mid ≡ a + length front = omega (arith, ap length first, length-append base front) in
    second ∙ ap (λ n. mid ++ (last_code n s).code (length mid) k) at ∙ ap (λ n. mid ++ (last_code a s).code n k) len ∙ ap (λ l. l ++ (last_code a s).code (a + length front) k) first
    ∙ append_assoc base front ((last_code a s).code (a + length front) k) ∙ ap (λ (is : List Instr). base ++ (is ++ (last_code a s).code (a + length is) k)) (asked_joined (expressions s) 0) ∙ ap (λ l. base ++ l) (sym (code_parts s a k))

pub texts_joined : (s : StmtR) (texts all : List (List ℕ)) (start : ℕ) → all ≡ texts ++ (last_code start s).texts → all ≡ texts ++ (stmt_code s).texts
texts_joined s texts all start e = e ∙ ap (λ l. texts ++ l) (texts_anywhere start (coded_blocks (out-StmtR s)) ∙ sym (texts_same s))
