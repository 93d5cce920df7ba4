-- What is printed of a unit doesn't depend on its lines.
use Rattle.std.proofs.Common.{◌≡◌, ℕ, true, List, [], ◌∷◌, ◌++◌, map, Option, refl, ap, sym, ◌∙◌, subst}
use Rattle.std.specs.List.{flat_map}
use Rattle.caf_lexer.specs.declared.token.What.TheVariants as what
use Rattle.caf_lexer.specs.declared.token.Word.TheVariants as word
use Rattle.caf_tree.specs.declared.expr.Expr.{Expr}
use Rattle.caf_tree.specs.declared.stmt.Stmt.{Stmt}
use Rattle.caf_tree.specs.declared.stmt.Stmt.TheVariants as stmt
use Rattle.caf_tree.specs.declared.stmt.Stmt.TheOpen.{Stmt-F}
use Rattle.caf_tree.specs.declared.stmt.Stmt.TheFolds.{ind-Stmt, fold-roll-Stmt, map-Stmt}
use Rattle.caf_tree.specs.declared.stmt.Stmt.TheViews.{roll-Stmt}
use Rattle.caf_tree.specs.declared.unit.Decl.{Decl}
use Rattle.caf_tree.specs.declared.unit.Decl.TheVariants as decl
use Rattle.caf_tree.specs.declared.unit.Sub.{Sub}
use Rattle.caf_tree.specs.declared.unit.Unit.{Unit as Program}
use Rattle.caf_tree.specs.Said.{SaidLine, Shown, lines_at, block_at, with_block, else_lines, condition_said, finish_team, statement_layer, shown, deeper, end_said, of_word, of_name, perhaps_list, declaration_said, statements_said, body_said, sub_said, subs_said, unit_said}
use Rattle.caf_tree.specs.Unlined.{unlined_layer, unlined_statement, unlined_declaration, unlined_sub, unlined}
use Rattle.caf_printer.proofs.Blocks.{then_said, shown-simple, shown-line, shown-if, counted_said, shown-do, shown-while, shown-finish}

abbrev Agrees : Stmt → Type 0
Agrees st = shown (unlined_statement st) ≡ shown st

abbrev Agreed : Type 0
Agreed = (st : Stmt) × Agrees st

abbrev bare : List Agreed → List Stmt
bare block = map (λ (a : Agreed). a.0) block

block_same : (block : List Agreed) → map shown (map unlined_statement (bare block)) ≡ map shown (bare block)
block_same [] = refl
block_same (a ∷ block) = ap (λ (z : Shown). z ∷ map shown (map unlined_statement (bare block))) a.1 ∙ ap (λ (l : List Shown). shown a.0 ∷ l) (block_same block)

abbrev branches : Expr → List Shown → List Shown → Shown
branches e block otherwise = record { first = then_said e; others = λ i. block_at (deeper i) block ++ else_lines i otherwise; is_branching = true }

layer_same : (y : Stmt-F Agreed) → shown (unlined_layer (map-Stmt Stmt Stmt unlined_statement (map-Stmt Agreed Stmt (λ (a : Agreed). a.0) y))) ≡ statement_layer (map-Stmt Stmt Shown shown (map-Stmt Agreed Stmt (λ (a : Agreed). a.0) y))
layer_same (Stmt-F.Simple line a) = shown-simple 0 a
layer_same (Stmt-F.IfLine line e inner a) = shown-line 0 e 0 a
layer_same (Stmt-F.If line e block otherwise) =
    shown-if (0, (e, (map unlined_statement (bare block), map unlined_statement (bare otherwise))))
    ∙ ap (λ (l : List Shown). branches e l (map shown (map unlined_statement (bare otherwise)))) (block_same block)
    ∙ ap (λ (l : List Shown). branches e (map shown (bare block)) l) (block_same otherwise)
layer_same (Stmt-F.Do line v first last step body) =
    shown-do 0 v first last step (map unlined_statement (bare body)) ∙ ap (λ (l : List Shown). with_block (counted_said v first last step) word.Do l) (block_same body)
layer_same (Stmt-F.While line e body) =
    shown-while 0 e (map unlined_statement (bare body)) ∙ ap (λ (l : List Shown). with_block (what.Word word.Do ∷ what.Word word.While ∷ condition_said e) word.Do l) (block_same body)
layer_same (Stmt-F.Finish line t body) =
    shown-finish 0 t (map unlined_statement (bare body)) ∙ ap (λ (l : List Shown). with_block (what.Word word.Finish ∷ finish_team t) word.Finish l) (block_same body)

statement_same : (st : Stmt) → Agrees st
statement_same = ind-Stmt Agrees (λ x y is.
    let z : Stmt-F Stmt = map-Stmt Agreed Stmt (λ (a : Agreed). a.0) y in
    subst (λ w. Agrees (roll-Stmt w)) is
    (ap shown (fold-roll-Stmt Stmt unlined_layer z) ∙ layer_same y ∙ sym (fold-roll-Stmt Shown statement_layer z)))

statements_same : (i : ℕ) (l : List Stmt) → statements_said i (map unlined_statement l) ≡ statements_said i l
statements_same i [] = refl
statements_same i (st ∷ l) = ap (λ (z : Shown). lines_at i z ++ statements_said i (map unlined_statement l)) (statement_same st) ∙ ap (λ (ls : List SaidLine). lines_at i (shown st) ++ ls) (statements_same i l)

declaration_same : (d : Decl) → declaration_said (unlined_declaration d) ≡ declaration_said d
declaration_same (decl.Parameters line k values) = refl
declaration_same (decl.Copointers line k names) = refl
declaration_same (decl.Dummies line k i names) = refl
declaration_same (decl.Variables line k items) = refl
declaration_same (decl.Events line items) = refl
declaration_same (decl.Teams line names) = refl

abbrev declared : ℕ → List Decl → List SaidLine
declared i l = flat_map (λ (d : Decl). (i, declaration_said d) ∷ []) l

declarations_same : (i : ℕ) (l : List Decl) → declared i (map unlined_declaration l) ≡ declared i l
declarations_same i [] = refl
declarations_same i (d ∷ l) = ap (λ us. (i, us) ∷ declared i (map unlined_declaration l)) (declaration_same d) ∙ ap (λ (ls : List SaidLine). (i, declaration_said d) ∷ ls) (declarations_same i l)

body_same : (i : ℕ) (l : List Decl) (body : List Stmt) → body_said i (map unlined_declaration l) (map unlined_statement body) ≡ body_said i l body
body_same i l body = ap (λ (ls : List SaidLine). ls ++ statements_said i (map unlined_statement body)) (declarations_same i l) ∙ ap (λ (ls : List SaidLine). declared i l ++ ls) (statements_same i body)

-- a subroutine with these lines between its first and its last
abbrev sub_with : Sub → List SaidLine → List SaidLine
sub_with f inner = (deeper 0, what.Word word.Subroutine ∷ what.Name f.name ∷ perhaps_list of_name f.dummies) ∷ inner ++ (deeper 0, end_said word.Subroutine) ∷ []

sub_same : (f : Sub) → sub_said (unlined_sub f) ≡ sub_said f
sub_same f = ap (sub_with f) (body_same (deeper (deeper 0)) f.declarations f.body)

each_same : (l : List Sub) → flat_map sub_said (map unlined_sub l) ≡ flat_map sub_said l
each_same [] = refl
each_same (f ∷ l) = ap (λ (ls : List SaidLine). ls ++ flat_map sub_said (map unlined_sub l)) (sub_same f) ∙ ap (λ (ls : List SaidLine). sub_said f ++ ls) (each_same l)

subs_same : (l : List Sub) → subs_said (map unlined_sub l) ≡ subs_said l
subs_same [] = refl
subs_same (f ∷ l) = ap (λ (ls : List SaidLine). (0, of_word word.Contains) ∷ ls) (each_same (f ∷ l))

-- a unit with these lines between its first and its last
abbrev unit_with : Program → List SaidLine → List SaidLine → List SaidLine
unit_with u body subs = (0, what.Word word.Program ∷ of_name u.name) ∷ body ++ subs ++ (0, end_said word.Program) ∷ []

unit_same : (u : Program) → unit_said (unlined u) ≡ unit_said u
unit_same u = ap (λ (ls : List SaidLine). unit_with u ls (subs_said (map unlined_sub u.subs))) (body_same (deeper 0) u.declarations u.body)
    ∙ ap (λ (ls : List SaidLine). unit_with u (body_said (deeper 0) u.declarations u.body) ls) (subs_same u.subs)

pub same_lines : (u v : Program) → unlined u ≡ unlined v → unit_said u ≡ unit_said v
same_lines u v e = sym (unit_same u) ∙ ap unit_said e ∙ unit_same v
