-- What is printed for a statement, line by line.
use Rattle.std.proofs.Common.{◌≡◌, ℕ, ◌<◌, ◌≤◌, Bool, true, false, List, [], ◌∷◌, ◌++◌, map, length, Option, refl, ap, sym, ◌∙◌, append_assoc, arith}
use Rattle.std.specs.List.{flat_map}
use Rattle.std.proofs.lemmas.List.{append-nil}
use Rattle.caf_lexer.specs.declared.token.What.TheVariants as what
use Rattle.caf_lexer.specs.declared.token.Sign.TheVariants as sign
use Rattle.caf_lexer.specs.declared.token.Word.{Word}
use Rattle.caf_lexer.specs.declared.token.Word.TheVariants as word
use Rattle.caf_tree.specs.declared.expr.Team.{Team}
use Rattle.caf_tree.specs.declared.expr.Expr.{Expr}
use Rattle.caf_tree.specs.declared.stmt.Stmt.{Stmt}
use Rattle.caf_tree.specs.declared.stmt.Stmt.TheVariants as stmt
use Rattle.caf_tree.specs.declared.unit.Decl.{Decl}
use Rattle.caf_tree.specs.declared.unit.Sub.{Sub}
use Rattle.caf_tree.specs.declared.unit.Unit.{Unit as Program}
use Rattle.caf_tree.specs.Said.{Said, SaidLine, Shown, lines_at, block_at, end_said, with_block, else_one, else_lines, condition_said, shown, deeper, if_any, comma, finish_team, expression_said, declaration_said, statements_said, body_said, sub_said, subs_said, perhaps_list, of_name, unit_said}
use Rattle.caf_tree.specs.Text.{Bytes, line_text, unit_text}
use Rattle.caf_printer.proofs.Blocks.{then_said, shown_if, shown-if, counted_said, shown-do, shown-while, shown-finish}

abbrev pub lines_text : List SaidLine → Bytes
lines_text ls = flat_map line_text ls

abbrev pub block_bytes : ℕ → List Stmt → Bytes
block_bytes i block = flat_map (λ (s : Shown). lines_text (lines_at i s)) (map shown block)

pub text_append : (xs ys : List SaidLine) → lines_text (xs ++ ys) ≡ lines_text xs ++ lines_text ys
text_append [] ys = refl
text_append (l ∷ xs) ys = ap (λ z. line_text l ++ z) (text_append xs ys) ∙ sym (append_assoc (line_text l) (lines_text xs) (lines_text ys))

pub text_flat : {A : Type 0} (f : A → List SaidLine) (xs : List A) → lines_text (flat_map f xs) ≡ flat_map (λ x. lines_text (f x)) xs
text_flat f [] = refl
text_flat f (x ∷ xs) = text_append (f x) (flat_map f xs) ∙ ap (λ z. lines_text (f x) ++ z) (text_flat f xs)

block_text : (i : ℕ) (block : List Stmt) → lines_text (block_at i (map shown block)) ≡ block_bytes i block
block_text i block = text_flat (lines_at i) (map shown block)

-- two parts, one behind the other
two_parts : (old one two x y : Bytes) → one ≡ old ++ x → two ≡ one ++ y → two ≡ old ++ (x ++ y)
two_parts old one two x y a b = b ∙ ap (λ z. z ++ y) a ∙ append_assoc old x y

-- a block, and the line that ends it
pub body_text : (old one two : Bytes) (i d : ℕ) (w : Word) (block : List Stmt) → d ≡ deeper i → one ≡ old ++ block_bytes d block → two ≡ one ++ line_text (i, end_said w)
    → two ≡ old ++ lines_text (block_at (deeper i) (map shown block) ++ (i, end_said w) ∷ [])
body_text old one two i d w block e a b =
    two_parts old one two (block_bytes d block) (line_text (i, end_said w)) a b
    ∙ ap (λ (k : ℕ). old ++ (block_bytes k block ++ line_text (i, end_said w))) e
    ∙ ap (λ z. old ++ z) (ap (λ z. z ++ line_text (i, end_said w)) (sym (block_text (deeper i) block))
    ∙ ap (λ z. lines_text (block_at (deeper i) (map shown block)) ++ z) (sym (append-nil (line_text (i, end_said w))))
    ∙ sym (text_append (block_at (deeper i) (map shown block)) ((i, end_said w) ∷ [])))

-- a first line, a block, and the line that ends it
block_layer : (st : Stmt) (front : Said) (w : Word) (body these : List Stmt) (i : ℕ) (old one two : Bytes) → shown st ≡ with_block front w (map shown body) → these ≡ body
    → one ≡ old ++ line_text (i, front) → two ≡ one ++ lines_text (block_at (deeper i) (map shown these) ++ (i, end_said w) ∷ []) → two ≡ old ++ lines_text (lines_at i (shown st))
block_layer st front w body these i old one two is same a b =
    two_parts old one two _ _ a b
    ∙ ap (λ (l : List Stmt). old ++ lines_text (lines_at i (with_block front w (map shown l)))) same
    ∙ ap (λ (z : Shown). old ++ lines_text (lines_at i z)) (sym is)

pub do_layer : (st : Stmt) (line : ℕ) (v u : List ℕ) (first last : Expr) (step : Option Expr) (body these : List Stmt) (i : ℕ) (old one two : Bytes)
    → st ≡ stmt.Do line v first last step body → u ≡ v → these ≡ body → one ≡ old ++ line_text (i, counted_said u first last step)
    → two ≡ one ++ lines_text (block_at (deeper i) (map shown these) ++ (i, end_said word.Do) ∷ []) → two ≡ old ++ lines_text (lines_at i (shown st))
do_layer st line v u first last step body these i old one two is name same a b =
    block_layer st (counted_said v first last step) word.Do body these i old one two (ap shown is ∙ shown-do line v first last step body) same (a ∙ ap (λ (k : List ℕ). old ++ line_text (i, counted_said k first last step)) name) b

pub while_layer : (st : Stmt) (line : ℕ) (e : Expr) (body these : List Stmt) (i : ℕ) (old one two : Bytes)
    → st ≡ stmt.While line e body → these ≡ body → one ≡ old ++ line_text (i, what.Word word.Do ∷ what.Word word.While ∷ condition_said e)
    → two ≡ one ++ lines_text (block_at (deeper i) (map shown these) ++ (i, end_said word.Do) ∷ []) → two ≡ old ++ lines_text (lines_at i (shown st))
while_layer st line e body these i old one two is same a b =
    block_layer st (what.Word word.Do ∷ what.Word word.While ∷ condition_said e) word.Do body these i old one two (ap shown is ∙ shown-while line e body) same a b

pub finish_layer : (st : Stmt) (line : ℕ) (u : Team) (body these : List Stmt) (i : ℕ) (old one two : Bytes)
    → st ≡ stmt.Finish line u body → these ≡ body → one ≡ old ++ line_text (i, what.Word word.Finish ∷ finish_team u)
    → two ≡ one ++ lines_text (block_at (deeper i) (map shown these) ++ (i, end_said word.Finish) ∷ []) → two ≡ old ++ lines_text (lines_at i (shown st))
finish_layer st line u body these i old one two is same a b =
    block_layer st (what.Word word.Finish ∷ finish_team u) word.Finish body these i old one two (ap shown is ∙ shown-finish line u body) same a b

-- the block of an `if`, and its else part
branches_text : (old one two three : Bytes) (i d : ℕ) (x : Bytes) (block these otherwise those : List Stmt) → d ≡ deeper i → these ≡ block → those ≡ otherwise
    → one ≡ old ++ x → two ≡ one ++ block_bytes d these → three ≡ two ++ lines_text (else_lines i (map shown those))
    → three ≡ old ++ (x ++ lines_text (block_at (deeper i) (map shown block) ++ else_lines i (map shown otherwise)))
branches_text old one two three i d x block these otherwise those e same same' a b c =
    two_parts old one three x (block_bytes d these ++ lines_text (else_lines i (map shown those))) a (two_parts one two three _ _ b c)
    ∙ ap (λ z. old ++ (x ++ z))
    (ap (λ (k : ℕ). block_bytes k these ++ lines_text (else_lines i (map shown those))) e
    ∙ ap (λ (l : List Stmt). block_bytes (deeper i) l ++ lines_text (else_lines i (map shown those))) same
    ∙ ap (λ (l : List Stmt). block_bytes (deeper i) block ++ lines_text (else_lines i (map shown l))) same'
    ∙ ap (λ z. z ++ lines_text (else_lines i (map shown otherwise))) (sym (block_text (deeper i) block))
    ∙ sym (text_append (block_at (deeper i) (map shown block)) (else_lines i (map shown otherwise))))

pub if_layer : (st : Stmt) (line : ℕ) (e : Expr) (block these otherwise those : List Stmt) (i d : ℕ) (old one two three : Bytes)
    → st ≡ stmt.If line e block otherwise → d ≡ deeper i → these ≡ block → those ≡ otherwise → one ≡ old ++ line_text (i, then_said e)
    → two ≡ one ++ block_bytes d these → three ≡ two ++ lines_text (else_lines i (map shown those)) → three ≡ old ++ lines_text (lines_at i (shown st))
if_layer st line e block these otherwise those i d old one two three is k same same' a b c =
    branches_text old one two three i d (line_text (i, then_said e)) block these otherwise those k same same' a b c
    ∙ ap (λ (z : Shown). old ++ lines_text (lines_at i z)) (sym (ap shown is ∙ shown-if (line, (e, (block, otherwise)))))

pub else_if_layer : (st : Stmt) (line : ℕ) (e : Expr) (block these otherwise those : List Stmt) (i d : ℕ) (old one two three : Bytes)
    → st ≡ stmt.If line e block otherwise → d ≡ deeper i → these ≡ block → those ≡ otherwise → one ≡ old ++ line_text (i, what.Word word.Else ∷ then_said e)
    → two ≡ one ++ block_bytes d these → three ≡ two ++ lines_text (else_lines i (map shown those)) → three ≡ old ++ lines_text (else_lines i (map shown (st ∷ [])))
else_if_layer st line e block these otherwise those i d old one two three is k same same' a b c =
    branches_text old one two three i d (line_text (i, what.Word word.Else ∷ then_said e)) block these otherwise those k same same' a b c
    ∙ ap (λ (z : Shown). old ++ lines_text (else_lines i (z ∷ []))) (sym (ap shown is ∙ shown-if (line, (e, (block, otherwise)))))

-- the statements of an else part of several, and the line that ends it
pub else_more_layer : (l : List Stmt) → 2 ≤ length l → (i : ℕ) (old one two : Bytes) → one ≡ old ++ line_text (i, what.Word word.Else ∷ [])
    → two ≡ one ++ lines_text (block_at (deeper i) (map shown l) ++ (i, end_said word.If) ∷ []) → two ≡ old ++ lines_text (else_lines i (map shown l))
else_more_layer [] k i old one two a b = absurd (omega arith)
else_more_layer (x ∷ []) k i old one two a b = absurd (omega arith)
else_more_layer (x ∷ y ∷ l) k i old one two a b = two_parts old one two _ _ a b

-- a statement alone in an else part, which is no `if` with a block
pub nested_layer : (st : Stmt) → (shown st).is_branching ≡ false → (i d : ℕ) (old one two three : Bytes) → d ≡ deeper i → one ≡ old ++ line_text (i, what.Word word.Else ∷ [])
    → two ≡ one ++ lines_text (lines_at d (shown st)) → three ≡ two ++ line_text (i, end_said word.If) → three ≡ old ++ lines_text (else_lines i (shown st ∷ []))
nested_layer st plain i d old one two three e a b c =
    two_parts old one three _ _ a (two_parts one two three _ _ b c)
    ∙ ap (λ z. old ++ (line_text (i, what.Word word.Else ∷ []) ++ z))
    (ap (λ (k : ℕ). lines_text (lines_at k (shown st)) ++ line_text (i, end_said word.If)) e
    ∙ ap (λ z. lines_text (lines_at (deeper i) (shown st)) ++ z) (sym (append-nil (line_text (i, end_said word.If))))
    ∙ sym (text_append (lines_at (deeper i) (shown st)) ((i, end_said word.If) ∷ [])))
    ∙ ap (λ (b : Bool). old ++ lines_text (else_one i (shown st) b)) (sym plain)

pub all_layer : (i : ℕ) (l : List Stmt) (old new : Bytes) → new ≡ old ++ block_bytes i l → new ≡ old ++ lines_text (statements_said i l)
all_layer i l old new e = e ∙ ap (λ z. old ++ z) (sym (text_flat (λ (st : Stmt). lines_at i (shown st)) l ∙ flat_shown l))
  where
    flat_shown : (l : List Stmt) → flat_map (λ (st : Stmt). lines_text (lines_at i (shown st))) l ≡ block_bytes i l
    flat_shown [] = refl
    flat_shown (st ∷ l) = ap (λ z. lines_text (lines_at i (shown st)) ++ z) (flat_shown l)

-- declarations, and statements behind them
pub part_layer : (i : ℕ) (declarations : List Decl) (body : List Stmt) (old one two : Bytes) → one ≡ old ++ flat_map (λ (d : Decl). line_text (i, declaration_said d)) declarations
    → two ≡ one ++ lines_text (statements_said i body) → two ≡ old ++ lines_text (body_said i declarations body)
part_layer i declarations body old one two a b =
    two_parts old one two _ _ a b
    ∙ ap (λ z. old ++ z)
    (ap (λ z. z ++ lines_text (statements_said i body)) (each_line declarations)
    ∙ sym (text_append (flat_map (λ (d : Decl). (i, declaration_said d) ∷ []) declarations) (statements_said i body)))
  where
    each_line : (l : List Decl) → flat_map (λ (d : Decl). line_text (i, declaration_said d)) l ≡ lines_text (flat_map (λ (d : Decl). (i, declaration_said d) ∷ []) l)
    each_line [] = refl
    each_line (d ∷ l) = ap (λ z. line_text (i, declaration_said d) ++ z) (each_line l)

-- a first line, lines behind it, and a last line
pub ends_layer : (i : ℕ) (front last : Said) (inner : List SaidLine) (old one two three : Bytes) → one ≡ old ++ line_text (i, front) → two ≡ one ++ lines_text inner
    → three ≡ two ++ line_text (i, last) → three ≡ old ++ lines_text ((i, front) ∷ inner ++ (i, last) ∷ [])
ends_layer i front last inner old one two three a b c =
    two_parts old one three _ _ a (two_parts one two three _ _ b c)
    ∙ ap (λ z. old ++ (line_text (i, front) ++ z)) (ap (λ z. lines_text inner ++ z) (sym (append-nil (line_text (i, last)))) ∙ sym (text_append inner ((i, last) ∷ [])))

pub subs_layer : (l : List Sub) → 0 < length l → (old one two : Bytes) → one ≡ old ++ line_text (0, what.Word word.Contains ∷ []) → two ≡ one ++ flat_map (λ (g : Sub). lines_text (sub_said g)) l
    → two ≡ old ++ lines_text (subs_said l)
subs_layer [] k old one two a b = absurd (omega arith)
subs_layer (f ∷ l) k old one two a b = two_parts old one two _ _ a b ∙ ap (λ z. old ++ (line_text (0, what.Word word.Contains ∷ []) ++ z)) (sym (text_flat sub_said (f ∷ l)))

-- the lines of a subroutine, by its parts
abbrev sub_lines : ℕ → ℕ → List ℕ → List (List ℕ) → List Decl → List Stmt → List SaidLine
sub_lines i j x names ds body = (i, what.Word word.Subroutine ∷ what.Name x ∷ perhaps_list of_name names) ∷ body_said j ds body ++ (i, end_said word.Subroutine) ∷ []

pub sub_layer : (f : Sub) (x : List ℕ) (names : List (List ℕ)) (ds : List Decl) (body : List Stmt) (i j : ℕ) (old one two three : Bytes) → i ≡ deeper 0 → j ≡ deeper i → x ≡ f.name → names ≡ f.dummies → ds ≡ f.declarations → body ≡ f.body
    → one ≡ old ++ line_text (i, what.Word word.Subroutine ∷ what.Name x ∷ perhaps_list of_name names) → two ≡ one ++ lines_text (body_said j ds body) → three ≡ two ++ line_text (i, end_said word.Subroutine)
    → three ≡ old ++ lines_text (sub_said f)
sub_layer f x names ds body i j old one two three ei ej ex en ed eb a b c =
    ends_layer i (what.Word word.Subroutine ∷ what.Name x ∷ perhaps_list of_name names) (end_said word.Subroutine) (body_said j ds body) old one two three a b c
    ∙ ap (λ (k : ℕ). old ++ lines_text (sub_lines i k x names ds body)) ej
    ∙ ap (λ (k : ℕ). old ++ lines_text (sub_lines k (deeper k) x names ds body)) ei
    ∙ ap (λ (y : List ℕ). old ++ lines_text (sub_lines (deeper 0) (deeper (deeper 0)) y names ds body)) ex
    ∙ ap (λ (y : List (List ℕ)). old ++ lines_text (sub_lines (deeper 0) (deeper (deeper 0)) f.name y ds body)) en
    ∙ ap (λ (y : List Decl). old ++ lines_text (sub_lines (deeper 0) (deeper (deeper 0)) f.name f.dummies y body)) ed
    ∙ ap (λ (y : List Stmt). old ++ lines_text (sub_lines (deeper 0) (deeper (deeper 0)) f.name f.dummies f.declarations y)) eb

pub unit_layer : (front last : Said) (body subs : List SaidLine) (old one two three four : Bytes) → one ≡ old ++ line_text (0, front) → two ≡ one ++ lines_text body → three ≡ two ++ lines_text subs
    → four ≡ three ++ line_text (0, last) → four ≡ old ++ lines_text ((0, front) ∷ body ++ subs ++ (0, last) ∷ [])
unit_layer front last body subs old one two three four a b c d =
    ends_layer 0 front last (body ++ subs) old one three four a (two_parts one two three _ _ b c ∙ ap (λ z. one ++ z) (sym (text_append body subs))) d

-- the lines of a unit, by its parts
abbrev unit_lines : ℕ → List ℕ → List Decl → List Stmt → List Sub → List SaidLine
unit_lines i x ds body subs = (0, what.Word word.Program ∷ of_name x) ∷ body_said i ds body ++ subs_said subs ++ (0, end_said word.Program) ∷ []

pub whole_layer : (u : Program) (x : List ℕ) (ds : List Decl) (body : List Stmt) (subs : List Sub) (i : ℕ) (old one two three four : Bytes) → i ≡ deeper 0 → x ≡ u.name → ds ≡ u.declarations → body ≡ u.body → subs ≡ u.subs
    → one ≡ old ++ line_text (0, what.Word word.Program ∷ of_name x) → two ≡ one ++ lines_text (body_said i ds body) → three ≡ two ++ lines_text (subs_said subs) → four ≡ three ++ line_text (0, end_said word.Program)
    → four ≡ old ++ unit_text u
whole_layer u x ds body subs i old one two three four ei ex ed eb es a b c d =
    unit_layer (what.Word word.Program ∷ of_name x) (end_said word.Program) (body_said i ds body) (subs_said subs) old one two three four a b c d
    ∙ ap (λ (k : ℕ). old ++ lines_text (unit_lines k x ds body subs)) ei
    ∙ ap (λ (y : List ℕ). old ++ lines_text (unit_lines (deeper 0) y ds body subs)) ex
    ∙ ap (λ (y : List Decl). old ++ lines_text (unit_lines (deeper 0) u.name y body subs)) ed
    ∙ ap (λ (y : List Stmt). old ++ lines_text (unit_lines (deeper 0) u.name u.declarations y subs)) eb
    ∙ ap (λ (y : List Sub). old ++ lines_text (unit_lines (deeper 0) u.name u.declarations u.body y)) es
