-- The levels that a unit is spelled to are those that it is deep.
use Rattle.std.proofs.Common.{◌≡◌, ℕ, zero, suc, max, ◌≤◌, Bool, true, false, List, [], ◌∷◌, Option, Some, None, refl, ap, sym, ◌∙◌, subst, arith}
use Rattle.caf_lexer.specs.declared.token.Token.{Token}
use Rattle.caf_lexer.specs.declared.token.Sign.TheVariants as sign
use Rattle.caf_lexer.specs.declared.token.Word.{Word}
use Rattle.caf_lexer.specs.declared.token.Word.TheVariants as word
use Rattle.caf_tree.specs.declared.expr.Expr.{Expr}
use Rattle.caf_tree.specs.declared.stmt.Stmt.{Stmt}
use Rattle.caf_tree.specs.declared.unit.ValueKind.{ValueKind}
use Rattle.caf_tree.specs.declared.unit.Intent.{Intent}
use Rattle.caf_tree.specs.declared.unit.Bounds.{Bounds}
use Rattle.caf_tree.specs.declared.unit.Item.{Item}
use Rattle.caf_tree.specs.declared.unit.Decl.{Decl}
use Rattle.caf_tree.specs.declared.unit.Decl.TheVariants as decl
use Rattle.caf_tree.specs.declared.unit.Sub.{Sub}
use Rattle.caf_tree.specs.declared.unit.Unit.{Unit as Program}
use Rattle.caf_tree.specs.Forms.{Mark, Word', Sign', End, Name, ◌⨟◌, Both, Made, Maybe, Many, ◌▸◌, ◌◂◌, Perhaps, Listed, or_none, InParentheses, InBrackets, Lined, Inside}
use Rattle.caf_tree.specs.Expressions.{Expression}
use Rattle.caf_tree.specs.Statements.{StatementsForm, PerhapsList}
use Rattle.caf_tree.specs.Units.{KindForm, IntentForm, bounds_of, is_there, item_of, BoundsIn, MarkIn, ItemForm, ValueForm, PointerForm, KindWith, KindIntent, Declaration, parameters, copointers, dummies, variables, events, teams, ImplicitNone, EndOf, Body, Heading, sub_of, Closed, SubForm, SubsForm, program_of, UnitForm, SpellsWithin, Spells}
use Rattle.caf_tree.specs.Depth.{deepest, if_any, around, around_list, expression_depth, statement_depth, bounds_depth, shared_depth, item_depth, declaration_depth, body_depth, sub_depth, depth}
use Rattle.caf_tree.proofs.Levels.{Levels, levels_flat, levels_both, levels_made, levels_made_of, levels_as, levels_maybe, levels_many, levels_lead, levels_trail, levels_lined, levels_inside, levels_parens, levels_brackets, levels_comma}
use Rattle.caf_tree.proofs.ExpressionLevels.{zero_max, deepest_same, levels_expression}
use Rattle.caf_tree.proofs.SimpleLevels.{levels_listed, perhaps_list_levels}
use Rattle.caf_tree.proofs.StatementLevels.{levels_statements, levels_block, levels_branches}

-- ---- declarations

abbrev within_bounds : Bounds → ℕ
within_bounds b = max (if_any expression_depth b.lower) (expression_depth b.upper)

bounds_levels : (n : ℕ) → Levels BoundsIn within_bounds n
bounds_levels n = levels_made bounds_of _ _ within_bounds n (λ c. refl) (levels_both _ _ _ _ n (levels_maybe _ _ n (levels_trail (Sign' sign.Colon) _ _ n (levels_expression n))) (levels_expression n))

-- a mark within parentheses or brackets
mark_levels : (D : Mark) (n : ℕ) → Levels (λ k. MarkIn D k) (λ _. 1) n
mark_levels D n = levels_inside (λ _. D) (λ _. 0) (λ k. levels_flat D k) n

shared_is : (o : Option (Unit {0})) → shared_depth (is_there o) ≡ if_any (λ _. 1) o
shared_is None = refl
shared_is (Some u) = refl

item_levels : (n : ℕ) → Levels ItemForm item_depth n
item_levels n = levels_made item_of _ _ item_depth n (λ c. ap (λ d. max d (shared_depth c.1)) (zero_max (if_any bounds_depth c.0.1)))
    (levels_both _ _ _ shared_depth n (levels_both _ _ _ (if_any bounds_depth) n (levels_flat Name n) (levels_maybe _ bounds_depth n (levels_parens _ _ n (levels_inside BoundsIn within_bounds bounds_levels n))))
    (levels_made is_there _ _ shared_depth n shared_is (levels_maybe _ _ n (levels_brackets _ _ n (mark_levels (Sign' sign.Asterisk) n)))))

value_levels : (n : ℕ) → Levels ValueForm (λ c. max 0 (expression_depth c.1)) n
value_levels n = levels_both _ _ _ _ n (levels_flat Name n) (levels_lead (Sign' sign.Assign) _ _ n (levels_expression n))

-- a value, and then a mark that may open a level
levels_trail_in : {A : Type 0} (P : ℕ → A → List Token → List Token → Type 0) (D : ℕ → Unit {0} → List Token → List Token → Type 0) (d : A → ℕ) (k : ℕ) (n : ℕ) → Levels P d n → Levels D (λ _. k) n → Levels (λ j. P j ◂ D j) (λ a. max (d a) k) n
levels_trail_in P D d k n g h = record {
  within = λ a ts rest x. let i : d a ≤ n = g.within a ts x.0 x.1 in let j : k ≤ n = h.within tt x.0 rest x.2 in omega arith;
  again = λ m a ts rest x le. (x.0, g.again m a ts x.0 x.1 (omega arith), h.again m tt x.0 rest x.2 (omega arith));
}

pointer_levels : (n : ℕ) → Levels PointerForm (λ _. max 0 1) n
pointer_levels n = levels_trail_in (λ _. Name) _ (λ _. 0) 1 n (levels_flat Name n) (levels_parens _ _ n (mark_levels (Sign' sign.Colon) n))

deepest_one : {A : Type 0} (x : A) (others : List A) → deepest (λ (_ : A). max 0 1) (x ∷ others) ≡ 1
deepest_one x [] = refl
deepest_one x (y ∷ others) = ap (max 1) (deepest_one y others)

deepest_none : {A : Type 0} (xs : List A) → deepest (λ (_ : A). 0) xs ≡ 0
deepest_none [] = refl
deepest_none (x ∷ xs) = ap (max 0) (deepest_none xs)

intent_levels : (n : ℕ) → Levels KindIntent (λ _. max 0 1) n
intent_levels n = levels_both _ _ (λ _. 0) (λ _. 1) n (levels_flat (KindWith word.Intent) n) (levels_parens _ _ n (levels_inside (λ _. IntentForm) (λ _. 0) (λ k. levels_flat IntentForm k) n))

module _ (n : ℕ) where
  parameters_levels : Levels (λ k. Made (λ (p : ℕ × (ValueKind × List (List ℕ × Expr))). decl.Parameters p.0 p.1.0 p.1.1) (Lined (Both (KindWith word.Parameter ◂ Sign' sign.DoubleColon) (Listed (ValueForm k)) ◂ End))) declaration_depth n
  parameters_levels = levels_made _ _ _ declaration_depth n (λ c. deepest_same _ _ (λ p. zero_max (expression_depth p.1)) c.1.1 ∙ zero_max _)
      (levels_lined _ _ n (levels_trail End _ _ n (levels_both _ _ (λ _. 0) _ n (levels_flat (KindWith word.Parameter ◂ Sign' sign.DoubleColon) n) (levels_listed ValueForm _ n (value_levels n)))))

  copointers_levels : Levels (λ k. Made (λ (p : ℕ × (ValueKind × List (List ℕ))). decl.Copointers p.0 p.1.0 p.1.1) (Lined (Both (KindWith word.Copointer ◂ Sign' sign.DoubleColon) (Listed (PointerForm k)) ◂ End))) declaration_depth n
  copointers_levels = levels_made_of _ (λ k. Lined (Both (KindWith word.Copointer ◂ Sign' sign.DoubleColon) (Listed (PointerForm k)) ◂ End)) _ declaration_depth n same
      (levels_lined _ _ n (levels_trail End _ _ n (levels_both _ _ (λ _. 0) _ n (levels_flat (KindWith word.Copointer ◂ Sign' sign.DoubleColon) n) (levels_listed PointerForm _ n (pointer_levels n)))))
    where
      same : (c : ℕ × (ValueKind × List (List ℕ))) (ts rest : List Token) → Lined (Both (KindWith word.Copointer ◂ Sign' sign.DoubleColon) (Listed (PointerForm n)) ◂ End) c ts rest → 1 ≡ max 0 (deepest (λ (_ : List ℕ). max 0 1) c.1.1)
      same c [] rest x = absurd x
      same c (t ∷ ts) rest (l, (b, (a, k, (p, e, v)), d)) = sym (ap (max 0) (ap (deepest (λ (_ : List ℕ). max 0 1)) e ∙ deepest_one p.0 p.1))

  dummies_levels : Levels (λ k. Made (λ (p : ℕ × ((ValueKind × Intent) × List (List ℕ))). decl.Dummies p.0 p.1.0.0 p.1.0.1 p.1.1) (Lined (Both (KindIntent k ◂ Sign' sign.DoubleColon) (Listed Name) ◂ End))) declaration_depth n
  dummies_levels = levels_made _ _ _ declaration_depth n (λ c. refl)
      (levels_lined _ _ n (levels_trail End _ _ n (levels_both _ _ (λ _. 1) (λ _. 0) n (levels_trail (Sign' sign.DoubleColon) _ _ n (intent_levels n)) (levels_flat (Listed Name) n))))

  variables_levels : Levels (λ k. Made (λ (p : ℕ × (ValueKind × List Item)). decl.Variables p.0 p.1.0 p.1.1) (Lined (Both (KindForm ◂ Perhaps (Sign' sign.DoubleColon)) (Listed (ItemForm k)) ◂ End))) declaration_depth n
  variables_levels = levels_made _ _ _ declaration_depth n (λ c. zero_max _)
      (levels_lined _ _ n (levels_trail End _ _ n (levels_both _ _ (λ _. 0) _ n (levels_flat (KindForm ◂ Perhaps (Sign' sign.DoubleColon)) n) (levels_listed ItemForm _ n (item_levels n)))))

  events_levels : Levels (λ k. Made (λ (p : ℕ × List Item). decl.Events p.0 p.1) (Lined (Word' word.Event ▸ (Sign' sign.DoubleColon ▸ Listed (ItemForm k)) ◂ End))) declaration_depth n
  events_levels = levels_made _ _ _ declaration_depth n (λ c. refl)
      (levels_lined _ _ n (levels_lead (Word' word.Event) _ _ n (levels_trail End _ _ n (levels_lead (Sign' sign.DoubleColon) _ _ n (levels_listed ItemForm _ n (item_levels n))))))

  teams_levels : Levels (λ k. Made (λ (p : ℕ × List (List ℕ)). decl.Teams p.0 p.1) (Lined (Word' word.Team ▸ (Sign' sign.DoubleColon ▸ Listed Name) ◂ End))) declaration_depth n
  teams_levels = levels_made _ _ (λ _. 0) declaration_depth n (λ c. refl) (levels_flat (Lined (Word' word.Team ▸ (Sign' sign.DoubleColon ▸ Listed Name) ◂ End)) n)

  declaration_within : (x : Decl) (ts rest : List Token) → Declaration n x ts rest → declaration_depth x ≤ n
  declaration_within x ts rest (parameters c) = parameters_levels.within x ts rest c
  declaration_within x ts rest (copointers c) = copointers_levels.within x ts rest c
  declaration_within x ts rest (dummies c) = dummies_levels.within x ts rest c
  declaration_within x ts rest (variables c) = variables_levels.within x ts rest c
  declaration_within x ts rest (events c) = events_levels.within x ts rest c
  declaration_within x ts rest (teams c) = teams_levels.within x ts rest c

  declaration_again : (m : ℕ) (x : Decl) (ts rest : List Token) → Declaration n x ts rest → declaration_depth x ≤ m → Declaration m x ts rest
  declaration_again m x ts rest (parameters c) le = parameters (parameters_levels.again m x ts rest c le)
  declaration_again m x ts rest (copointers c) le = copointers (copointers_levels.again m x ts rest c le)
  declaration_again m x ts rest (dummies c) le = dummies (dummies_levels.again m x ts rest c le)
  declaration_again m x ts rest (variables c) le = variables (variables_levels.again m x ts rest c le)
  declaration_again m x ts rest (events c) le = events (events_levels.again m x ts rest c le)
  declaration_again m x ts rest (teams c) le = teams (teams_levels.again m x ts rest c le)

  declaration_levels : Levels Declaration declaration_depth n
  declaration_levels = record { within = declaration_within; again = declaration_again }

-- ---- bodies, subroutines and units

body_levels : (n : ℕ) → Levels Body (λ c. body_depth c.0 c.1) n
body_levels n = levels_lead ImplicitNone _ _ n (levels_both _ _ _ _ n (levels_many Declaration declaration_depth n (declaration_levels n)) (levels_statements n (levels_block n) (levels_branches n)))

-- a value, and then a mark that depends on it
levels_closed : {A : Type 0} (D : A → Mark) (P : ℕ → A → List Token → List Token → Type 0) (d : A → ℕ) (n : ℕ) → Levels P d n → Levels (λ k. Closed D (P k)) d n
levels_closed D P d n g = record { within = λ a ts rest x. g.within a ts x.0 x.1; again = λ m a ts rest x le. (x.0, g.again m a ts x.0 x.1 le, x.2) }

heading_levels : (n : ℕ) → Levels Heading (λ c. max 0 (around_list (λ (_ : List ℕ). 0) c.1)) n
heading_levels n = levels_trail End _ _ n (levels_both _ _ (λ _. 0) _ n (levels_flat Name n)
    (perhaps_list_levels (λ _. Listed Name) (λ _. 0) (λ k. levels_as _ (λ _. 0) _ k (λ xs. deepest_none xs) (levels_flat (Listed Name) k)) (λ k a ts rest x. (x.0.0, x.0.1, x.1)) n))

sub_is : (a b : ℕ) → max a b ≡ max (max 0 a) b
sub_is a b = omega arith

sub_levels : (n : ℕ) → Levels SubForm sub_depth n
sub_levels n = levels_made sub_of _ _ sub_depth n (λ c. sub_is _ _)
    (levels_lined _ _ n (levels_lead (Word' word.Subroutine) _ _ n (levels_trail End _ _ n (levels_closed (λ (c : (List ℕ × List (List ℕ)) × (List Decl × List Stmt)). EndOf word.Subroutine word.EndSubroutine c.0.0) (λ k. Both (Heading k) (Body k)) _ n (levels_both _ _ _ _ n (heading_levels n) (body_levels n))))))

subs_is : (o : Option (List Sub)) → deepest sub_depth (or_none o) ≡ if_any (deepest sub_depth) o
subs_is None = refl
subs_is (Some xs) = refl

subs_levels : (n : ℕ) → Levels SubsForm (deepest sub_depth) n
subs_levels n = levels_made or_none _ _ (deepest sub_depth) n subs_is (levels_maybe _ _ n (levels_lead (Word' word.Contains) _ _ n (levels_lead End _ _ n (levels_many _ _ n (sub_levels n)))))

unit_is : (a b : ℕ) → max a b ≡ max (max 0 a) b
unit_is a b = omega arith

pub unit_levels : (n : ℕ) → Levels UnitForm depth n
unit_levels n = levels_made program_of _ _ depth n (λ c. unit_is _ _)
    (levels_lead (Word' word.Program) _ _ n (levels_trail End _ _ n (levels_closed (λ (c : (List ℕ × (List Decl × List Stmt)) × List Sub). EndOf word.Program word.EndProgram c.0.0) (λ k. Both (Both (Name ◂ End) (Body k)) (SubsForm k)) _ n
    (levels_both _ _ _ _ n (levels_both _ _ (λ _. 0) _ n (levels_flat (Name ◂ End) n) (body_levels n)) (subs_levels n)))))

-- Tokens spell a unit within so many levels exactly where they spell it and it is no deeper.
pub within_is : (n : ℕ) (ts : List Token) (u : Program) → SpellsWithin n ts u → Spells ts u × (depth u ≤ n)
within_is n ts u x = ((n, x), (unit_levels n).within u ts [] x)

pub is_within : (n : ℕ) (ts : List Token) (u : Program) → Spells ts u × (depth u ≤ n) → SpellsWithin n ts u
is_within n ts u x = (unit_levels x.0.0).again n u ts [] x.0.1 x.1
