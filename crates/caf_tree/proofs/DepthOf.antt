-- How deep an expression is, by its form.
use Rattle.std.proofs.Common.{◌≡◌, ℕ, zero, suc, max, ◌≤◌, Bool, true, false, List, [], ◌∷◌, Option, Some, None, refl, ap, sym, ◌∙◌, map}
use Rattle.caf_tree.specs.declared.expr.Operator.{Operator}
use Rattle.caf_tree.specs.declared.expr.Relation.{Relation}
use Rattle.caf_tree.specs.declared.expr.FrontSign.{FrontSign}
use Rattle.caf_tree.specs.declared.expr.Team.{Team}
use Rattle.caf_tree.specs.declared.expr.Place.{Place}
use Rattle.caf_tree.specs.declared.expr.Variable.{Variable}
use Rattle.caf_tree.specs.declared.expr.Expr.{Expr}
use Rattle.caf_tree.specs.declared.expr.Expr.TheVariants as e
use Rattle.caf_tree.specs.declared.expr.Expr.TheOpen.{Expr-F}
use Rattle.caf_tree.specs.declared.expr.Expr.TheFolds.{fold-Expr, fold-roll-Expr}
use Rattle.caf_tree.specs.Depth.{deepest, if_any, around, place_depth, variable_depth, expression_layer, expression_depth}

pub deepest_map : {A B : Type 0} (f : B → ℕ) (g : A → B) (xs : List A) → deepest f (map g xs) ≡ deepest (λ x. f (g x)) xs
deepest_map f g [] = refl
deepest_map f g (x ∷ xs) = ap (max (f (g x))) (deepest_map f g xs)

pub number_depth : (n : _) → expression_depth (e.Number n) ≡ 0
number_depth n = ap expression_depth (sym (e.rolls-Number n)) ∙ fold-roll-Expr ℕ expression_layer (Expr-F.Number n)

pub truth_depth : (b : Bool) → expression_depth (e.Truth b) ≡ 0
truth_depth b = ap expression_depth (sym (e.rolls-Truth b)) ∙ fold-roll-Expr ℕ expression_layer (Expr-F.Truth b)

pub parenthesized_depth : (x : Expr) → expression_depth (e.Parenthesized x) ≡ around (expression_depth x)
parenthesized_depth x = ap expression_depth (sym (e.rolls-Parenthesized x)) ∙ fold-roll-Expr ℕ expression_layer (Expr-F.Parenthesized x)

variable_at : (x : List ℕ) (s : Option Expr) (p : Option (Place Expr)) → expression_depth (e.Variable (record { name = x; subscript = s; place = p })) ≡ max (if_any (λ i. around (expression_depth i)) s) (if_any (place_depth expression_depth) p)
variable_at x None None = ap expression_depth (sym (e.rolls-Variable _)) ∙ fold-roll-Expr ℕ expression_layer (Expr-F.Variable (record { name = x; subscript = None; place = None }))
variable_at x None (Some p) = ap expression_depth (sym (e.rolls-Variable _)) ∙ fold-roll-Expr ℕ expression_layer (Expr-F.Variable (record { name = x; subscript = None; place = Some p }))
variable_at x (Some s) None = ap expression_depth (sym (e.rolls-Variable _)) ∙ fold-roll-Expr ℕ expression_layer (Expr-F.Variable (record { name = x; subscript = Some s; place = None }))
variable_at x (Some s) (Some p) = ap expression_depth (sym (e.rolls-Variable _)) ∙ fold-roll-Expr ℕ expression_layer (Expr-F.Variable (record { name = x; subscript = Some s; place = Some p }))

pub variable_is : (v : Variable Expr) → expression_depth (e.Variable v) ≡ variable_depth expression_depth v
variable_is v = variable_at v.name v.subscript v.place

pub remainder_depth : (a b : Expr) → expression_depth (e.Mod a b) ≡ around (max (expression_depth a) (expression_depth b))
remainder_depth a b = ap expression_depth (sym (e.rolls-Mod a b)) ∙ fold-roll-Expr ℕ expression_layer (Expr-F.Mod a b)

pub absolute_depth : (a : Expr) → expression_depth (e.Abs a) ≡ around (expression_depth a)
absolute_depth a = ap expression_depth (sym (e.rolls-Abs a)) ∙ fold-roll-Expr ℕ expression_layer (Expr-F.Abs a)

pub least_depth : (a b : Expr) (others : List Expr) → expression_depth (e.Min a b others) ≡ around (max (max (expression_depth a) (expression_depth b)) (deepest expression_depth others))
least_depth a b others = ap expression_depth (sym (e.rolls-Min a b others)) ∙ fold-roll-Expr ℕ expression_layer (Expr-F.Min a b others)
    ∙ ap (λ n. around (max (max (expression_depth a) (expression_depth b)) n)) (deepest_map (λ d. d) expression_depth others)

pub greatest_depth : (a b : Expr) (others : List Expr) → expression_depth (e.Max a b others) ≡ around (max (max (expression_depth a) (expression_depth b)) (deepest expression_depth others))
greatest_depth a b others = ap expression_depth (sym (e.rolls-Max a b others)) ∙ fold-roll-Expr ℕ expression_layer (Expr-F.Max a b others)
    ∙ ap (λ n. around (max (max (expression_depth a) (expression_depth b)) n)) (deepest_map (λ d. d) expression_depth others)

pub rank_depth : (t : Team) → expression_depth (e.TeamRank t) ≡ 1
rank_depth t = ap expression_depth (sym (e.rolls-TeamRank t)) ∙ fold-roll-Expr ℕ expression_layer (Expr-F.TeamRank t)

pub size_depth : (t : Team) → expression_depth (e.TeamSize t) ≡ 1
size_depth t = ap expression_depth (sym (e.rolls-TeamSize t)) ∙ fold-roll-Expr ℕ expression_layer (Expr-F.TeamSize t)

pub signed_depth : (s : FrontSign) (a : Expr) → expression_depth (e.Signed s a) ≡ expression_depth a
signed_depth s a = ap expression_depth (sym (e.rolls-Signed s a)) ∙ fold-roll-Expr ℕ expression_layer (Expr-F.Signed s a)

pub chain_depth : (a : Expr) (more : List (Operator × Expr)) → expression_depth (e.Chain a more) ≡ max (expression_depth a) (deepest (λ (p : Operator × Expr). expression_depth p.1) more)
chain_depth a more = ap expression_depth (sym (e.rolls-Chain a more)) ∙ fold-roll-Expr ℕ expression_layer (Expr-F.Chain a more)
    ∙ ap (max (expression_depth a)) (deepest_map (λ (p : Operator × ℕ). p.1) _ more)

pub compare_depth : (a : Expr) (r : Relation) (b : Expr) → expression_depth (e.Compare a r b) ≡ max (expression_depth a) (expression_depth b)
compare_depth a r b = ap expression_depth (sym (e.rolls-Compare a r b)) ∙ fold-roll-Expr ℕ expression_layer (Expr-F.Compare a r b)

pub not_depth : (a : Expr) → expression_depth (e.Not a) ≡ expression_depth a
not_depth a = ap expression_depth (sym (e.rolls-Not a)) ∙ fold-roll-Expr ℕ expression_layer (Expr-F.Not a)
