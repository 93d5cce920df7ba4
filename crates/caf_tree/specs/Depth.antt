-- How deep a unit nests: the most blocks, parentheses and brackets that stand open at one place. What leaves no trace,
-- as parentheses around nothing behind the name in a `call`, isn't counted.
use Rattle.std.specs.Prelude.{ℕ, suc, max, Bool, true, false, List, [], ◌∷◌, Option, Some, None}
use Rattle.caf_tree.specs.declared.expr.Operator.{Operator}
use Rattle.caf_tree.specs.declared.expr.Place.{Place}
use Rattle.caf_tree.specs.declared.expr.Variable.{Variable}
use Rattle.caf_tree.specs.declared.expr.Expr.{Expr}
use Rattle.caf_tree.specs.declared.expr.Expr.TheOpen.{Expr-F}
use Rattle.caf_tree.specs.declared.expr.Expr.TheFolds.{fold-Expr}
use Rattle.caf_tree.specs.declared.stmt.Range.{Range}
use Rattle.caf_tree.specs.declared.stmt.Range.TheVariants as range
use Rattle.caf_tree.specs.declared.stmt.Section.{Section}
use Rattle.caf_tree.specs.declared.stmt.OwnEvent.{OwnEvent}
use Rattle.caf_tree.specs.declared.stmt.Printed.{Printed}
use Rattle.caf_tree.specs.declared.stmt.Printed.TheVariants as printed
use Rattle.caf_tree.specs.declared.stmt.Key.{Key}
use Rattle.caf_tree.specs.declared.stmt.Key.TheVariants as key
use Rattle.caf_tree.specs.declared.stmt.Fence.{Fence}
use Rattle.caf_tree.specs.declared.stmt.Simple.{Simple}
use Rattle.caf_tree.specs.declared.stmt.Simple.TheVariants as s
use Rattle.caf_tree.specs.declared.stmt.Stmt.{Stmt}
use Rattle.caf_tree.specs.declared.stmt.Stmt.TheOpen.{Stmt-F}
use Rattle.caf_tree.specs.declared.stmt.Stmt.TheFolds.{fold-Stmt}
use Rattle.caf_tree.specs.declared.unit.Bounds.{Bounds}
use Rattle.caf_tree.specs.declared.unit.Item.{Item}
use Rattle.caf_tree.specs.declared.unit.Decl.{Decl}
use Rattle.caf_tree.specs.declared.unit.Decl.TheVariants as decl
use Rattle.caf_tree.specs.declared.unit.Sub.{Sub}
use Rattle.caf_tree.specs.declared.unit.Unit.{Unit as Program}

-- the greatest of what a function gives
abbrev pub deepest : {A : Type 0} → (A → ℕ) → List A → ℕ
deepest f [] = 0
deepest f (x ∷ others) = max (f x) (deepest f others)

abbrev pub if_any : {A : Type 0} → (A → ℕ) → Option A → ℕ
if_any f None = 0
if_any f (Some x) = f x

-- where parentheses or brackets, or a block, stand round what is so deep
abbrev pub around : ℕ → ℕ
around d = suc d

-- a list within parentheses, or nothing where it is empty
abbrev pub around_list : {A : Type 0} → (A → ℕ) → List A → ℕ
around_list f [] = 0
around_list f (x ∷ others) = around (deepest f (x ∷ others))

-- ---- expressions

abbrev pub place_depth : {A : Type 0} → (A → ℕ) → Place A → ℕ
place_depth f p = around (f p.rank)

abbrev pub variable_depth : {A : Type 0} → (A → ℕ) → Variable A → ℕ
variable_depth f v = max (if_any (λ i. around (f i)) v.subscript) (if_any (place_depth f) v.place)

abbrev pub expression_layer : Expr-F ℕ → ℕ
expression_layer (Expr-F.Number n) = 0
expression_layer (Expr-F.Truth b) = 0
expression_layer (Expr-F.Parenthesized d) = around d
expression_layer (Expr-F.Variable v) = variable_depth (λ d. d) v
expression_layer (Expr-F.Mod a b) = around (max a b)
expression_layer (Expr-F.Abs a) = around a
expression_layer (Expr-F.Min a b others) = around (max (max a b) (deepest (λ d. d) others))
expression_layer (Expr-F.Max a b others) = around (max (max a b) (deepest (λ d. d) others))
expression_layer (Expr-F.TeamRank t) = 1
expression_layer (Expr-F.TeamSize t) = 1
expression_layer (Expr-F.Signed sign a) = a
expression_layer (Expr-F.Chain first more) = max first (deepest (λ (p : Operator × ℕ). p.1) more)
expression_layer (Expr-F.Compare a r b) = max a b
expression_layer (Expr-F.Not a) = a

abbrev pub expression_depth : Expr → ℕ
expression_depth = fold-Expr ℕ expression_layer

-- ---- statements without a block

abbrev pub range_depth : Range → ℕ
range_depth range.Whole = 0
range_depth (range.Element i) = around (expression_depth i)
range_depth (range.Between i j) = around (max (if_any expression_depth i) (if_any expression_depth j))

abbrev pub section_depth : Section → ℕ
section_depth c = max (range_depth c.range) (if_any (place_depth expression_depth) c.place)

abbrev pub own_depth : OwnEvent → ℕ
own_depth v = if_any (λ i. around (expression_depth i)) v.subscript

abbrev pub key_depth : Key → ℕ
key_depth (key.Pre v) = own_depth v
key_depth (key.Srce v) = variable_depth expression_depth v
key_depth (key.Deste v) = variable_depth expression_depth v

abbrev pub printed_depth : Printed → ℕ
printed_depth (printed.Value e) = expression_depth e
printed_depth (printed.Text t) = 0

abbrev pub simple_depth : Simple → ℕ
simple_depth (s.Assign v e) = max (variable_depth expression_depth v) (expression_depth e)
simple_depth (s.Aim x c) = section_depth c
simple_depth (s.Print items) = deepest printed_depth items
simple_depth (s.Call f arguments) = around_list expression_depth arguments
simple_depth (s.Spawn done f arguments p) =
    max (max (if_any (λ v. around (variable_depth expression_depth v)) done) (around_list expression_depth arguments)) (place_depth expression_depth p)
simple_depth (s.Notify v) = around (variable_depth expression_depth v)
simple_depth (s.Wait v) = around (own_depth v)
simple_depth (s.Copy dest source keys) = around (max (max (section_depth dest) (section_depth source)) (deepest key_depth keys))
simple_depth (s.Cofence fences) = around_list (λ _. 0) fences
simple_depth (s.Split t colour key new) = around (max (expression_depth colour) (expression_depth key))

-- ---- statements

-- the parentheses of a condition stand beside the block
abbrev pub statement_layer : Stmt-F ℕ → ℕ
statement_layer (Stmt-F.Simple line a) = simple_depth a
statement_layer (Stmt-F.IfLine line e inner a) = max (around (expression_depth e)) (simple_depth a)
statement_layer (Stmt-F.If line e block otherwise) = around (max (expression_depth e) (max (deepest (λ d. d) block) (deepest (λ d. d) otherwise)))
statement_layer (Stmt-F.Do line v first last step body) =
    max (max (max (expression_depth first) (expression_depth last)) (if_any expression_depth step)) (around (deepest (λ d. d) body))
statement_layer (Stmt-F.While line e body) = around (max (expression_depth e) (deepest (λ d. d) body))
statement_layer (Stmt-F.Finish line t body) = around (deepest (λ d. d) body)

abbrev pub statement_depth : Stmt → ℕ
statement_depth = fold-Stmt ℕ statement_layer

-- ---- declarations and units

abbrev pub bounds_depth : Bounds → ℕ
bounds_depth b = around (max (if_any expression_depth b.lower) (expression_depth b.upper))

abbrev pub shared_depth : Bool → ℕ
shared_depth true = 1
shared_depth false = 0

abbrev pub item_depth : Item → ℕ
item_depth i = max (if_any bounds_depth i.bounds) (shared_depth i.shared)

abbrev pub declaration_depth : Decl → ℕ
declaration_depth (decl.Parameters line k values) = deepest (λ (p : List ℕ × Expr). expression_depth p.1) values
declaration_depth (decl.Copointers line k names) = 1
declaration_depth (decl.Dummies line k i names) = 1
declaration_depth (decl.Variables line k items) = deepest item_depth items
declaration_depth (decl.Events line items) = deepest item_depth items
declaration_depth (decl.Teams line names) = 0

abbrev pub body_depth : List Decl → List Stmt → ℕ
body_depth declarations body = max (deepest declaration_depth declarations) (deepest statement_depth body)

abbrev pub sub_depth : Sub → ℕ
sub_depth f = max (around_list (λ _. 0) f.dummies) (body_depth f.declarations f.body)

abbrev pub depth : Program → ℕ
depth u = max (body_depth u.declarations u.body) (deepest sub_depth u.subs)
