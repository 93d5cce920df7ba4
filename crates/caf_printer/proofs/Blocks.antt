-- Statements are spelled again, up to their lines, by the tokens that they are printed with.
use Rattle.std.proofs.Common.{◌≡◌, ℕ, zero, suc, ◌+◌, ◌≤◌, Bool, true, false, List, [], ◌∷◌, ◌++◌, map, Option, Some, None, ◌⊎◌, inl, inr, refl, ap, sym, ◌∙◌, subst, append_assoc, arith}
use Rattle.std.specs.List.{flat_map}
use Rattle.std.proofs.lemmas.List.{append-nil}
use Rattle.caf_lexer.specs.declared.token.Token.{Token}
use Rattle.caf_lexer.specs.declared.token.What.{What}
use Rattle.caf_lexer.specs.declared.token.What.TheVariants as what
use Rattle.caf_lexer.specs.declared.token.Sign.TheVariants as sign
use Rattle.caf_lexer.specs.declared.token.Word.{Word}
use Rattle.caf_lexer.specs.declared.token.Word.TheVariants as word
use Rattle.caf_tree.specs.declared.expr.Team.{Team}
use Rattle.caf_tree.specs.declared.expr.Team.TheVariants as team
use Rattle.caf_tree.specs.declared.expr.Expr.{Expr}
use Rattle.caf_tree.specs.declared.stmt.Simple.{Simple}
use Rattle.caf_tree.specs.declared.stmt.Simple.TheVariants as s
use Rattle.caf_tree.specs.declared.stmt.Stmt.{Stmt}
use Rattle.caf_tree.specs.declared.stmt.Stmt.TheVariants as stmt
use Rattle.caf_tree.specs.declared.stmt.Stmt.TheOpen.{Stmt-F}
use Rattle.caf_tree.specs.declared.stmt.Stmt.TheFolds.{fold-Stmt, fold-roll-Stmt}
use Rattle.caf_tree.specs.Forms.{Takes, End, Word', Sign', Name, Both, Made, Maybe, Many, Either, ◌▸◌, ◌◂◌, Joined, or_none, InParentheses, Lined}
use Rattle.caf_tree.specs.Expressions.{Inner, Expression, TeamForm, or_world, team_what}
use Rattle.caf_tree.specs.Statements.{SimpleForm, Branches, if_at, EndDo, EndIf, EndFinish, Condition, Rest, BranchesIn, Guarded, Counted, Statement, simple, if_line, if_block, counted, while_true, finish, InnerBlock, InnerBranches, StatementsForm}
use Rattle.caf_tree.specs.Said.{SaidLine, Shown, lines_at, block_at, on_one_line, end_said, with_block, else_one, else_lines, condition_said, statement_layer, shown, statements_said, deeper, if_any, in_parentheses, comma, finish_team, expression_said, simple_said}
use Rattle.caf_tree.specs.Unlined.{unlined_layer, unlined_statement}
use Rattle.caf_printer.proofs.Printable.{Said, whats, Printable, Fine, Each, each_append}
use Rattle.caf_printer.proofs.Told as t
use Rattle.caf_printer.proofs.Told.{Told, told_name, told_both, told_word, told_sign, told_maybe, told_parentheses}
use Rattle.caf_printer.proofs.Expressions.{told_inner, told_expression, told_team, told_world}
use Rattle.caf_printer.proofs.Parts.{told_simple}
use Rattle.caf_printer.proofs.Rows.{IsStart, IsRow, IsLine, ended_row}
use Rattle.caf_printer.proofs.Shows.{Shows, Stands, stands_end, stands_word, stands_joined, shows_told, shows_both, shows_before, shows_after, shows_made, shows_lined, shows_many, IsSome, row_tokens, rows_append}

-- ---- what is said of a statement

abbrev pub statement_tokens : ℕ → Stmt → Said
statement_tokens i st = row_tokens (lines_at i (shown st))

abbrev pub statement_ok : ℕ → Stmt → Type 0
statement_ok i st = i ≤ 40 → Each IsLine (lines_at i (shown st))

abbrev pub block_tokens : ℕ → List Stmt → Said
block_tokens i l = flat_map (statement_tokens i) l

abbrev pub block_ok : ℕ → List Stmt → Type 0
block_ok i l = Each (statement_ok i) l

abbrev pub else_tokens : ℕ → List Stmt → Said
else_tokens i l = row_tokens (else_lines i (map shown l))

abbrev pub else_ok : ℕ → List Stmt → Type 0
else_ok i l = i ≤ 40 → Each IsLine (else_lines i (map shown l))

abbrev pub branch_tokens : ℕ → Branches → Said
branch_tokens i b = condition_said b.0 ++ what.Word word.Then ∷ what.End ∷ (block_tokens (deeper i) b.1.0 ++ else_tokens i b.1.1)

abbrev pub branch_ok : ℕ → Branches → Type 0
branch_ok i b = Each Printable (condition_said b.0) × (block_ok (deeper i) b.1.0 × else_ok i b.1.1)

abbrev pub kept_branches : Branches → Branches
kept_branches b = (b.0, (map unlined_statement b.1.0, map unlined_statement b.1.1))

pub shown-simple : (line : ℕ) (a : Simple) → shown (stmt.Simple line a) ≡ on_one_line (simple_said a)
shown-simple line a = ap shown (sym (stmt.rolls-Simple line a)) ∙ fold-roll-Stmt Shown statement_layer (Stmt-F.Simple line a)

pub shown-line : (line : ℕ) (e : Expr) (inner : ℕ) (a : Simple) → shown (stmt.IfLine line e inner a) ≡ on_one_line (what.Word word.If ∷ condition_said e ++ simple_said a)
shown-line line e inner a = ap shown (sym (stmt.rolls-IfLine line e inner a)) ∙ fold-roll-Stmt Shown statement_layer (Stmt-F.IfLine line e inner a)

abbrev pub then_said : Expr → Said
then_said e = what.Word word.If ∷ condition_said e ++ what.Word word.Then ∷ []

abbrev pub shown_if : Expr → List Stmt → List Stmt → Shown
shown_if e block otherwise = record { first = then_said e; others = λ i. block_at (deeper i) (map shown block) ++ else_lines i (map shown otherwise); is_branching = true }

pub shown-if : (b : ℕ × Branches) → shown (if_at b) ≡ shown_if b.1.0 b.1.1.0 b.1.1.1
shown-if b = ap shown (sym (stmt.rolls-If b.0 b.1.0 b.1.1.0 b.1.1.1)) ∙ fold-roll-Stmt Shown statement_layer (Stmt-F.If b.0 b.1.0 b.1.1.0 b.1.1.1)

abbrev pub counted_said : List ℕ → Expr → Expr → Option Expr → Said
counted_said v first last step = what.Word word.Do ∷ what.Name v ∷ what.Sign sign.Assign ∷ expression_said first ++ comma (expression_said last) ++ if_any (λ e. comma (expression_said e)) step

pub shown-do : (line : ℕ) (v : List ℕ) (first last : Expr) (step : Option Expr) (body : List Stmt) → shown (stmt.Do line v first last step body) ≡ with_block (counted_said v first last step) word.Do (map shown body)
shown-do line v first last step body = ap shown (sym (stmt.rolls-Do line v first last step body)) ∙ fold-roll-Stmt Shown statement_layer (Stmt-F.Do line v first last step body)

pub shown-while : (line : ℕ) (e : Expr) (body : List Stmt) → shown (stmt.While line e body) ≡ with_block (what.Word word.Do ∷ what.Word word.While ∷ condition_said e) word.Do (map shown body)
shown-while line e body = ap shown (sym (stmt.rolls-While line e body)) ∙ fold-roll-Stmt Shown statement_layer (Stmt-F.While line e body)

pub shown-finish : (line : ℕ) (u : Team) (body : List Stmt) → shown (stmt.Finish line u body) ≡ with_block (what.Word word.Finish ∷ finish_team u) word.Finish (map shown body)
shown-finish line u body = ap shown (sym (stmt.rolls-Finish line u body)) ∙ fold-roll-Stmt Shown statement_layer (Stmt-F.Finish line u body)

-- ---- a statement without its lines

pub unlined-simple : (line : ℕ) (a : Simple) → unlined_statement (stmt.Simple line a) ≡ stmt.Simple 0 a
unlined-simple line a = ap unlined_statement (sym (stmt.rolls-Simple line a)) ∙ fold-roll-Stmt Stmt unlined_layer (Stmt-F.Simple line a)

pub unlined-line : (line : ℕ) (e : Expr) (inner : ℕ) (a : Simple) → unlined_statement (stmt.IfLine line e inner a) ≡ stmt.IfLine 0 e 0 a
unlined-line line e inner a = ap unlined_statement (sym (stmt.rolls-IfLine line e inner a)) ∙ fold-roll-Stmt Stmt unlined_layer (Stmt-F.IfLine line e inner a)

pub unlined-if : (b : ℕ × Branches) → unlined_statement (if_at b) ≡ if_at (0, kept_branches b.1)
unlined-if b = ap unlined_statement (sym (stmt.rolls-If b.0 b.1.0 b.1.1.0 b.1.1.1)) ∙ fold-roll-Stmt Stmt unlined_layer (Stmt-F.If b.0 b.1.0 b.1.1.0 b.1.1.1)

pub unlined-do : (line : ℕ) (v : List ℕ) (first last : Expr) (step : Option Expr) (body : List Stmt) → unlined_statement (stmt.Do line v first last step body) ≡ stmt.Do 0 v first last step (map unlined_statement body)
unlined-do line v first last step body = ap unlined_statement (sym (stmt.rolls-Do line v first last step body)) ∙ fold-roll-Stmt Stmt unlined_layer (Stmt-F.Do line v first last step body)

pub unlined-while : (line : ℕ) (e : Expr) (body : List Stmt) → unlined_statement (stmt.While line e body) ≡ stmt.While 0 e (map unlined_statement body)
unlined-while line e body = ap unlined_statement (sym (stmt.rolls-While line e body)) ∙ fold-roll-Stmt Stmt unlined_layer (Stmt-F.While line e body)

pub unlined-finish : (line : ℕ) (u : Team) (body : List Stmt) → unlined_statement (stmt.Finish line u body) ≡ stmt.Finish 0 u (map unlined_statement body)
unlined-finish line u body = ap unlined_statement (sym (stmt.rolls-Finish line u body)) ∙ fold-roll-Stmt Stmt unlined_layer (Stmt-F.Finish line u body)

-- ---- blocks

block_rows : (j : ℕ) (l : List Stmt) → row_tokens (block_at j (map shown l)) ≡ block_tokens j l
block_rows j [] = refl
block_rows j (st ∷ l) = rows_append (lines_at j (shown st)) (block_at j (map shown l)) ∙ ap (λ us. statement_tokens j st ++ us) (block_rows j l)

block_lines : (j : ℕ) (l : List Stmt) → j ≤ 40 → block_ok j l → Each IsLine (block_at j (map shown l))
block_lines j [] fits h = tt
block_lines j (st ∷ l) fits h = each_append IsLine (lines_at j (shown st)) (block_at j (map shown l)) (h.0 fits) (block_lines j l fits h.1)

pub deeper_fits : (i : ℕ) → deeper i ≤ 40
deeper_fits i = omega arith

pub end_line : (w : Word) (i : ℕ) → i ≤ 40 → Each IsLine ((i, end_said w) ∷ [])
end_line w i fits = ((fits, (tt, (tt, tt))), tt)

-- a head, a block and the line that ends it, as the form has them
abbrev pub around : Said → Word → ℕ → List Stmt → Said
around front w i body = ((front ++ what.End ∷ block_tokens (deeper i) body) ++ end_said w) ++ what.End ∷ []

pub block_statement : (front : Said) (w : Word) (i : ℕ) (body : List Stmt) → row_tokens (lines_at i (with_block front w (map shown body))) ≡ around front w i body
block_statement front w i body =
    let b = block_tokens (deeper i) body in
    let l = what.Word word.End ∷ what.Word w ∷ what.End ∷ [] in
    ap (λ us. (front ++ what.End ∷ []) ++ us) (rows_append (block_at (deeper i) (map shown body)) ((i, end_said w) ∷ []) ∙ ap (λ us. us ++ l) (block_rows (deeper i) body))
    ∙ append_assoc front (what.End ∷ []) (b ++ l)
    ∙ sym (append_assoc (front ++ what.End ∷ b) (end_said w) (what.End ∷ []) ∙ append_assoc front (what.End ∷ b) l)

pub block_statement_ok : (front : Said) (w : Word) (i : ℕ) (body : List Stmt) → IsRow front → block_ok (deeper i) body → i ≤ 40 → Each IsLine (lines_at i (with_block front w (map shown body)))
block_statement_ok front w i body h k fits =
    ((fits, h), each_append IsLine (block_at (deeper i) (map shown body)) ((i, end_said w) ∷ []) (block_lines (deeper i) body (deeper_fits i) k) (end_line w i fits))

row_printable : (row : Said) → IsRow row → Each Printable row
row_printable [] h = absurd h
row_printable (what.Name x ∷ ws) h = (h.0, h.1)
row_printable (what.Word w ∷ ws) h = (tt, h.1)
row_printable (what.Number n ∷ ws) h = absurd h.0
row_printable (what.Text content ∷ ws) h = absurd h.0
row_printable (what.Sign z ∷ ws) h = absurd h.0
row_printable (what.End ∷ ws) h = absurd h.0

pub simple_row : (a : Simple) → Each Printable (simple_said a) → IsRow (simple_said a)
simple_row (s.Assign v e) h = (h.0, h.1)
simple_row (s.Aim x c) h = (h.0, h.1)
simple_row (s.Print items) h = (tt, h.1)
simple_row (s.Call f arguments) h = (tt, h.1)
simple_row (s.Spawn event f arguments p) h = (tt, h.1)
simple_row (s.Notify v) h = (tt, h.1)
simple_row (s.Wait v) h = (tt, h.1)
simple_row (s.Copy dest source keys) h = (tt, h.1)
simple_row (s.Cofence fences) h = (tt, h.1)
simple_row (s.Split u colour key new) h = (tt, h.1)

pub simple_some : (a : Simple) → IsSome (simple_said a)
simple_some (s.Assign v e) = tt
simple_some (s.Aim x c) = tt
simple_some (s.Print items) = tt
simple_some (s.Call f arguments) = tt
simple_some (s.Spawn event f arguments p) = tt
simple_some (s.Notify v) = tt
simple_some (s.Wait v) = tt
simple_some (s.Copy dest source keys) = tt
simple_some (s.Cofence fences) = tt
simple_some (s.Split u colour key new) = tt

pub some_more : (xs ys : Said) → IsSome xs → IsSome (xs ++ ys)
some_more [] ys h = absurd h
some_more (x ∷ xs) ys h = tt

-- ---- the branches of an `if`

branch_rows : (i : ℕ) (e : Expr) (block otherwise : List Stmt) → row_tokens (lines_at i (shown_if e block otherwise)) ≡ what.Word word.If ∷ branch_tokens i (e, (block, otherwise))
branch_rows i e block otherwise =
    let c = condition_said e in
    let x = block_tokens (deeper i) block ++ else_tokens i otherwise in
    ap (λ us. (then_said e ++ what.End ∷ []) ++ us)
    (rows_append (block_at (deeper i) (map shown block)) (else_lines i (map shown otherwise)) ∙ ap (λ us. us ++ else_tokens i otherwise) (block_rows (deeper i) block))
    ∙ ap (λ us. what.Word word.If ∷ us) (append_assoc (c ++ what.Word word.Then ∷ []) (what.End ∷ []) x ∙ append_assoc c (what.Word word.Then ∷ []) (what.End ∷ x))

pub if_rows : (i : ℕ) (b : ℕ × Branches) → statement_tokens i (if_at b) ≡ what.Word word.If ∷ branch_tokens i b.1
if_rows i b = ap (λ (z : Shown). row_tokens (lines_at i z)) (shown-if b) ∙ branch_rows i b.1.0 b.1.1.0 b.1.1.1

pub else_if_rows : (i : ℕ) (b : ℕ × Branches) → else_tokens i (if_at b ∷ []) ≡ what.Word word.Else ∷ what.Word word.If ∷ branch_tokens i b.1
else_if_rows i b = ap (λ (z : Shown). row_tokens (else_lines i (z ∷ []))) (shown-if b) ∙ ap (λ us. what.Word word.Else ∷ us) (branch_rows i b.1.0 b.1.1.0 b.1.1.1)

then_row : (e : Expr) → Each Printable (condition_said e) → IsRow (then_said e)
then_row e h = (tt, each_append Printable (condition_said e) (what.Word word.Then ∷ []) h (tt, tt))

branch_lines : (i : ℕ) (e : Expr) (block otherwise : List Stmt) → branch_ok i (e, (block, otherwise)) → i ≤ 40 → Each IsLine (lines_at i (shown_if e block otherwise))
branch_lines i e block otherwise h fits =
    ((fits, then_row e h.0), each_append IsLine (block_at (deeper i) (map shown block)) (else_lines i (map shown otherwise)) (block_lines (deeper i) block (deeper_fits i) h.1.0) (h.1.1 fits))

pub if_ok : (i : ℕ) (b : ℕ × Branches) → branch_ok i b.1 → statement_ok i (if_at b)
if_ok i b h fits = subst (λ (z : Shown). Each IsLine (lines_at i z)) (sym (shown-if b)) (branch_lines i b.1.0 b.1.1.0 b.1.1.1 h fits)

else_one_ok : (i : ℕ) (one : Shown) (branching : Bool) → i ≤ 40 → Each IsLine (lines_at i one) → Each IsLine (lines_at (deeper i) one) → Each IsLine (else_one i one branching)
else_one_ok i one true fits h k = ((fits, (tt, row_printable one.first h.0.1)), h.1)
else_one_ok i one false fits h k = ((fits, (tt, tt)), each_append IsLine (lines_at (deeper i) one) ((i, end_said word.If) ∷ []) k (end_line word.If i fits))

pub else_items_ok : (i : ℕ) (l : List Stmt) → block_ok i l → block_ok (deeper i) l → else_ok i l
else_items_ok i [] h k fits = end_line word.If i fits
else_items_ok i (one ∷ []) h k fits = else_one_ok i (shown one) (shown one).is_branching fits (h.0 fits) (k.0 (deeper_fits i))
else_items_ok i (one ∷ second ∷ more) h k fits =
    ((fits, (tt, tt)), each_append IsLine (block_at (deeper i) (map shown (one ∷ second ∷ more))) ((i, end_said word.If) ∷ []) (block_lines (deeper i) (one ∷ second ∷ more) (deeper_fits i) k) (end_line word.If i fits))

-- an `else` with a block, as the form has it
abbrev pub else_said : ℕ → List Stmt → Said
else_said i l = ((what.Word word.Else ∷ what.End ∷ block_tokens (deeper i) l) ++ end_said word.If) ++ what.End ∷ []

else_part : (i : ℕ) (l : List Stmt) (rows : List SaidLine) → row_tokens rows ≡ block_tokens (deeper i) l → row_tokens ((i, what.Word word.Else ∷ []) ∷ (rows ++ (i, end_said word.If) ∷ [])) ≡ else_said i l
else_part i l rows e = ap (λ us. what.Word word.Else ∷ what.End ∷ us)
    (rows_append rows ((i, end_said word.If) ∷ []) ∙ ap (λ us. us ++ what.Word word.End ∷ what.Word word.If ∷ what.End ∷ []) e ∙ sym (append_assoc (block_tokens (deeper i) l) (end_said word.If) (what.End ∷ [])))

pub else_one_rows : (i : ℕ) (one : Stmt) → (shown one).is_branching ≡ false → else_tokens i (one ∷ []) ≡ else_said i (one ∷ [])
else_one_rows i one apart =
    ap (λ (b : Bool). row_tokens (else_one i (shown one) b)) apart ∙ else_part i (one ∷ []) (lines_at (deeper i) (shown one)) (sym (append-nil (statement_tokens (deeper i) one)))

pub else_more_rows : (i : ℕ) (one second : Stmt) (more : List Stmt) → else_tokens i (one ∷ second ∷ more) ≡ else_said i (one ∷ second ∷ more)
else_more_rows i one second more = else_part i (one ∷ second ∷ more) (block_at (deeper i) (map shown (one ∷ second ∷ more))) (block_rows (deeper i) (one ∷ second ∷ more))
