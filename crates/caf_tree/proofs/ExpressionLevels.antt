-- The levels that an expression is spelled to are those that it is deep.
use Rattle.std.proofs.Common.{◌≡◌, ℕ, zero, suc, max, ◌≤◌, Bool, List, [], ◌∷◌, Option, Some, None, inl, inr, refl, ap, sym, ◌∙◌, subst, arith}
use Rattle.caf_lexer.specs.declared.token.Token.{Token}
use Rattle.caf_lexer.specs.declared.token.What.TheVariants as what
use Rattle.caf_lexer.specs.declared.token.Sign.TheVariants as sign
use Rattle.caf_lexer.specs.declared.token.Word.{Word}
use Rattle.caf_lexer.specs.declared.token.Word.TheVariants as word
use Rattle.caf_tree.specs.declared.expr.Operator.{Operator}
use Rattle.caf_tree.specs.declared.expr.Relation.{Relation}
use Rattle.caf_tree.specs.declared.expr.FrontSign.{FrontSign}
use Rattle.caf_tree.specs.declared.expr.Level.{Level}
use Rattle.caf_tree.specs.declared.expr.Level.TheVariants as level
use Rattle.caf_tree.specs.declared.expr.Team.{Team}
use Rattle.caf_tree.specs.declared.expr.Place.{Place}
use Rattle.caf_tree.specs.declared.expr.Variable.{Variable}
use Rattle.caf_tree.specs.declared.expr.Expr.{Expr}
use Rattle.caf_tree.specs.declared.expr.Expr.TheVariants as e
use Rattle.caf_tree.specs.Forms.{Just, Word', Sign', Name, Both, Made, Either, Maybe, Many, ◌▸◌, ◌◂◌, InParentheses, InBrackets, Inside}
use Rattle.caf_tree.specs.Expressions.{truth_sign, or_world, place_of, variable_of, chain_of, compared, OperatorOf, RelationSign, Front, TeamForm, PlaceIn, VariableIn, Two, TwoOrMore, TeamIn, Prim, number, truth, parenthesized, variable, remainder, absolute, least, greatest, rank, size, Chained, Term, FirstTerm, Sum, Rel, AndOp, OrOp, Equ, ExpressionIn, Inner, Expression}
use Rattle.caf_tree.specs.Depth.{deepest, if_any, around, place_depth, variable_depth, expression_depth}
use Rattle.caf_tree.proofs.Levels.{Levels, levels_flat, levels_both, levels_made, levels_either, levels_maybe, levels_many, levels_lead, levels_inside, levels_parens, levels_brackets, levels_comma}
use Rattle.caf_tree.proofs.DepthOf as depth

abbrev inside_depth : Expr → ℕ
inside_depth x = around (expression_depth x)

pub max_zero : (a : ℕ) → a ≡ max a 0
max_zero a = omega arith

pub zero_max : (a : ℕ) → a ≡ max 0 a
zero_max a = omega arith

pub zero_in_max : (a b : ℕ) → max a b ≡ max (max 0 a) b
zero_in_max a b = omega arith

around_max : (a b : ℕ) → around (max a b) ≡ max (around a) (around b)
around_max a b = omega arith

pub deepest_same : {A : Type 0} (f g : A → ℕ) → ((x : A) → f x ≡ g x) → (xs : List A) → deepest f xs ≡ deepest g xs
deepest_same f g h [] = refl
deepest_same f g h (x ∷ xs) = ap (λ n. max n (deepest f xs)) (h x) ∙ ap (max (g x)) (deepest_same f g h xs)

around_deepest : (c : ℕ) (xs : List Expr) → around (max c (deepest expression_depth xs)) ≡ max (around c) (deepest inside_depth xs)
around_deepest c [] = omega arith
around_deepest c (x ∷ xs) =
    let h : around (max (max c (expression_depth x)) (deepest expression_depth xs)) ≡ max (around (max c (expression_depth x))) (deepest inside_depth xs) = around_deepest (max c (expression_depth x)) xs in
    omega arith

chain_is : (a : Expr) (more : List (Operator × Expr)) → expression_depth (chain_of (a, more)) ≡ max (expression_depth a) (deepest (λ (p : Operator × Expr). max 0 (expression_depth p.1)) more)
chain_is a [] = max_zero (expression_depth a)
chain_is a (next ∷ more) = depth.chain_depth a (next ∷ more) ∙ ap (max (expression_depth a)) (deepest_same _ _ (λ p. zero_max (expression_depth p.1)) (next ∷ more))

compared_is : (a : Expr) (o : Option (Relation × Expr)) → expression_depth (compared (a, o)) ≡ max (expression_depth a) (if_any (λ (c : Relation × Expr). max 0 (expression_depth c.1)) o)
compared_is a None = max_zero (expression_depth a)
compared_is a (Some c) = depth.compare_depth a c.0 c.1 ∙ ap (max (expression_depth a)) (zero_max (expression_depth c.1))

module _ (n : ℕ) (g : Levels Inner inside_depth n) where
  pub levels_subscript : Levels (λ k. InParentheses (Inner k)) inside_depth n
  levels_subscript = levels_parens _ _ n g

  pub levels_place : Levels (λ k. PlaceIn (Inner k)) (place_depth expression_depth) n
  levels_place = levels_made place_of _ _ _ n (λ c. max_zero (inside_depth c.0)) (levels_brackets _ _ n (levels_both _ _ _ _ n g (levels_flat _ n)))

  pub levels_variable : Levels (λ k. VariableIn (Inner k)) (variable_depth expression_depth) n
  levels_variable = levels_made variable_of _ _ _ n (λ c. zero_in_max _ _) (levels_both _ _ _ _ n (levels_both _ _ _ _ n (levels_flat Name n) (levels_maybe _ _ n levels_subscript)) (levels_maybe _ _ n levels_place))

  levels_two : Levels (λ k. Two (Inner k)) (λ c. max (inside_depth c.0) (inside_depth c.1)) n
  levels_two = levels_both _ _ _ _ n g (levels_comma _ _ n g)

  levels_more : Levels (λ k. TwoOrMore (Inner k)) (λ c. max (max (inside_depth c.0.0) (inside_depth c.0.1)) (deepest inside_depth c.1)) n
  levels_more = levels_both _ _ _ _ n levels_two (levels_many _ _ n (levels_comma _ _ n g))

  levels_team : Levels (λ k. InParentheses (TeamIn (Inner k) k)) (λ t. 1) n
  levels_team = levels_parens _ _ n (levels_inside (λ _. Made or_world (Maybe TeamForm)) (λ t. 0) (λ k. levels_flat _ k) n)

  more_is : (a b : Expr) (others : List Expr) → around (max (max (expression_depth a) (expression_depth b)) (deepest expression_depth others)) ≡ max (max (inside_depth a) (inside_depth b)) (deepest inside_depth others)
  more_is a b others = around_deepest (max (expression_depth a) (expression_depth b)) others ∙ ap (λ c. max c (deepest inside_depth others)) (around_max (expression_depth a) (expression_depth b))

  number_levels : Levels (λ k. Made e.Number (Just what.Number)) expression_depth n
  number_levels = levels_made e.Number (λ k. Just what.Number) (λ _. 0) expression_depth n depth.number_depth (levels_flat _ n)

  truth_levels : Levels (λ k. Made e.Truth (Just (λ b. what.Sign (truth_sign b)))) expression_depth n
  truth_levels = levels_made e.Truth (λ k. Just (λ b. what.Sign (truth_sign b))) (λ _. 0) expression_depth n depth.truth_depth (levels_flat _ n)

  parenthesized_levels : Levels (λ k. Made e.Parenthesized (InParentheses (Inner k))) expression_depth n
  parenthesized_levels = levels_made e.Parenthesized _ _ expression_depth n depth.parenthesized_depth levels_subscript

  variable_levels : Levels (λ k. Made e.Variable (VariableIn (Inner k))) expression_depth n
  variable_levels = levels_made e.Variable _ _ expression_depth n depth.variable_is levels_variable

  remainder_levels : Levels (λ k. Made (λ (p : Expr × Expr). e.Mod p.0 p.1) (Word' word.Mod ▸ InParentheses (Two (Inner k)))) expression_depth n
  remainder_levels = levels_made _ _ _ expression_depth n (λ c. depth.remainder_depth c.0 c.1 ∙ around_max (expression_depth c.0) (expression_depth c.1)) (levels_lead (Word' word.Mod) _ _ n (levels_parens _ _ n levels_two))

  absolute_levels : Levels (λ k. Made e.Abs (Word' word.Abs ▸ InParentheses (Inner k))) expression_depth n
  absolute_levels = levels_made e.Abs _ _ expression_depth n depth.absolute_depth (levels_lead (Word' word.Abs) _ _ n levels_subscript)

  least_levels : Levels (λ k. Made (λ (p : (Expr × Expr) × List Expr). e.Min p.0.0 p.0.1 p.1) (Word' word.Min ▸ InParentheses (TwoOrMore (Inner k)))) expression_depth n
  least_levels = levels_made _ _ _ expression_depth n (λ c. depth.least_depth c.0.0 c.0.1 c.1 ∙ more_is c.0.0 c.0.1 c.1) (levels_lead (Word' word.Min) _ _ n (levels_parens _ _ n levels_more))

  greatest_levels : Levels (λ k. Made (λ (p : (Expr × Expr) × List Expr). e.Max p.0.0 p.0.1 p.1) (Word' word.Max ▸ InParentheses (TwoOrMore (Inner k)))) expression_depth n
  greatest_levels = levels_made _ _ _ expression_depth n (λ c. depth.greatest_depth c.0.0 c.0.1 c.1 ∙ more_is c.0.0 c.0.1 c.1) (levels_lead (Word' word.Max) _ _ n (levels_parens _ _ n levels_more))

  team_levels : (w : Word) (f : Team → Expr) → ((t : Team) → expression_depth (f t) ≡ 1) → Levels (λ k. Made f (Word' w ▸ InParentheses (TeamIn (Inner k) k))) expression_depth n
  team_levels w f same = levels_made f _ _ expression_depth n same (levels_lead (Word' w) _ _ n levels_team)

  prim_within : (x : Expr) (ts rest : List Token) → Prim (Inner n) n x ts rest → expression_depth x ≤ n
  prim_within x ts rest (number c) = number_levels.within x ts rest c
  prim_within x ts rest (truth c) = truth_levels.within x ts rest c
  prim_within x ts rest (parenthesized c) = parenthesized_levels.within x ts rest c
  prim_within x ts rest (variable c) = variable_levels.within x ts rest c
  prim_within x ts rest (remainder c) = remainder_levels.within x ts rest c
  prim_within x ts rest (absolute c) = absolute_levels.within x ts rest c
  prim_within x ts rest (least c) = least_levels.within x ts rest c
  prim_within x ts rest (greatest c) = greatest_levels.within x ts rest c
  prim_within x ts rest (rank c) = (team_levels word.TeamRank e.TeamRank depth.rank_depth).within x ts rest c
  prim_within x ts rest (size c) = (team_levels word.TeamSize e.TeamSize depth.size_depth).within x ts rest c

  prim_again : (m : ℕ) (x : Expr) (ts rest : List Token) → Prim (Inner n) n x ts rest → expression_depth x ≤ m → Prim (Inner m) m x ts rest
  prim_again m x ts rest (number c) le = number (number_levels.again m x ts rest c le)
  prim_again m x ts rest (truth c) le = truth (truth_levels.again m x ts rest c le)
  prim_again m x ts rest (parenthesized c) le = parenthesized (parenthesized_levels.again m x ts rest c le)
  prim_again m x ts rest (variable c) le = variable (variable_levels.again m x ts rest c le)
  prim_again m x ts rest (remainder c) le = remainder (remainder_levels.again m x ts rest c le)
  prim_again m x ts rest (absolute c) le = absolute (absolute_levels.again m x ts rest c le)
  prim_again m x ts rest (least c) le = least (least_levels.again m x ts rest c le)
  prim_again m x ts rest (greatest c) le = greatest (greatest_levels.again m x ts rest c le)
  prim_again m x ts rest (rank c) le = rank ((team_levels word.TeamRank e.TeamRank depth.rank_depth).again m x ts rest c le)
  prim_again m x ts rest (size c) le = size ((team_levels word.TeamSize e.TeamSize depth.size_depth).again m x ts rest c le)

  levels_prim : Levels (λ k. Prim (Inner k) k) expression_depth n
  levels_prim = record { within = prim_within; again = prim_again }

  levels_chained : (l : Level) (First Next : ℕ → Expr → List Token → List Token → Type 0) → Levels First expression_depth n → Levels Next expression_depth n → Levels (λ k. Chained (Inner k) k l (First k) (Next k)) expression_depth n
  levels_chained l First Next f h = levels_made chain_of _ _ expression_depth n (λ c. chain_is c.0 c.1) (levels_both _ _ _ _ n f (levels_many _ _ n (levels_both _ _ _ _ n (levels_flat (OperatorOf l) n) h)))

  levels_term : Levels (λ k. Term (Inner k) k) expression_depth n
  levels_term = levels_chained level.Products (λ k. Prim (Inner k) k) (λ k. Prim (Inner k) k) levels_prim levels_prim

  levels_first : Levels (λ k. FirstTerm (Inner k) k) expression_depth n
  levels_first = levels_either _ _ _ n
      (levels_made (λ (p : FrontSign × Expr). e.Signed p.0 p.1) _ _ expression_depth n (λ c. depth.signed_depth c.0 c.1 ∙ zero_max (expression_depth c.1)) (levels_both _ _ _ _ n (levels_flat Front n) levels_term)) levels_term

  levels_sum : Levels (λ k. Sum (Inner k) k) expression_depth n
  levels_sum = levels_chained level.Sums (λ k. FirstTerm (Inner k) k) (λ k. Term (Inner k) k) levels_first levels_term

  levels_rel : Levels (λ k. Rel (Inner k) k) expression_depth n
  levels_rel = levels_made compared _ _ expression_depth n (λ c. compared_is c.0 c.1) (levels_both _ _ _ _ n levels_sum (levels_maybe _ _ n (levels_both _ _ _ _ n (levels_flat RelationSign n) levels_sum)))

  levels_and : Levels (λ k. AndOp (Inner k) k) expression_depth n
  levels_and = levels_either _ _ _ n (levels_made e.Not _ _ expression_depth n depth.not_depth (levels_lead (Sign' sign.Not) _ _ n levels_rel)) levels_rel

  levels_or : Levels (λ k. OrOp (Inner k) k) expression_depth n
  levels_or = levels_chained level.Conjunctions (λ k. AndOp (Inner k) k) (λ k. AndOp (Inner k) k) levels_and levels_and

  levels_equ : Levels (λ k. Equ (Inner k) k) expression_depth n
  levels_equ = levels_chained level.Disjunctions (λ k. OrOp (Inner k) k) (λ k. OrOp (Inner k) k) levels_or levels_or

  pub levels_expression_in : Levels Expression expression_depth n
  levels_expression_in = levels_chained level.Equivalences (λ k. Equ (Inner k) k) (λ k. Equ (Inner k) k) levels_equ levels_equ

pub levels_inner : (n : ℕ) → Levels Inner inside_depth n
levels_inner zero = record { within = λ a ts rest x. absurd x; again = λ m a ts rest x le. absurd x }
levels_inner (suc n) =
    let g : Levels Expression expression_depth n = levels_expression_in n (levels_inner n) in
    record {
      within = λ a ts rest x. let k : expression_depth a ≤ n = g.within a ts rest x in omega arith;
      again = again g;
    }
  where
    again : Levels Expression expression_depth n → (m : ℕ) (a : Expr) (ts rest : List Token) → Expression n a ts rest → inside_depth a ≤ m → Inner m a ts rest
    again g zero a ts rest x le = absurd (omega arith)
    again g (suc m) a ts rest x le = g.again m a ts rest x (omega arith)

-- an expression is spelled to its depth, and to each greater one
pub levels_expression : (n : ℕ) → Levels Expression expression_depth n
levels_expression n = levels_expression_in n (levels_inner n)
