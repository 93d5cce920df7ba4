-- Which tokens spell an expression.
use Rattle.std.specs.Prelude.{◌≡◌, ◌⊎◌, ℕ, zero, suc, ℤ, Bool, true, false, List, [], ◌∷◌, Option, Some, None}
use Rattle.caf_lexer.specs.declared.token.Token.{Token}
use Rattle.caf_lexer.specs.declared.token.What.{What}
use Rattle.caf_lexer.specs.declared.token.What.TheVariants as what
use Rattle.caf_lexer.specs.declared.token.Sign.{Sign}
use Rattle.caf_lexer.specs.declared.token.Sign.TheVariants as sign
use Rattle.caf_lexer.specs.declared.token.Word.TheVariants as word
use Rattle.caf_tree.specs.declared.expr.Operator.{Operator}
use Rattle.caf_tree.specs.declared.expr.Operator.TheVariants as operator
use Rattle.caf_tree.specs.declared.expr.Level.{Level}
use Rattle.caf_tree.specs.declared.expr.Level.TheVariants as level
use Rattle.caf_tree.specs.declared.expr.Relation.{Relation}
use Rattle.caf_tree.specs.declared.expr.Relation.TheVariants as relation
use Rattle.caf_tree.specs.declared.expr.FrontSign.{FrontSign}
use Rattle.caf_tree.specs.declared.expr.FrontSign.TheVariants as front
use Rattle.caf_tree.specs.declared.expr.Team.{Team}
use Rattle.caf_tree.specs.declared.expr.Team.TheVariants as team
use Rattle.caf_tree.specs.declared.expr.Place.{Place}
use Rattle.caf_tree.specs.declared.expr.Variable.{Variable}
use Rattle.caf_tree.specs.declared.expr.Expr.{Expr}
use Rattle.caf_tree.specs.declared.expr.Expr.TheVariants as e
use Rattle.caf_tree.specs.Forms.{Form, Mark, ◌⨟◌, Takes, Just, Word', Sign', Name, Both, Made, Such, Either, Maybe, Many, ◌▸◌, ◌◂◌, InParentheses, InBrackets, Inside}

-- ---- operators

-- the level of an operator: those of products bind tightest, then those of sums, then `.and.`, then `.or.`
abbrev pub level_of : Operator → Level
level_of operator.Multiply = level.Products
level_of operator.Divide = level.Products
level_of operator.Add = level.Sums
level_of operator.Subtract = level.Sums
level_of operator.And = level.Conjunctions
level_of operator.Or = level.Disjunctions
level_of operator.Equivalent = level.Equivalences
level_of operator.NotEquivalent = level.Equivalences

abbrev pub operator_sign : Operator → Sign
operator_sign operator.Multiply = sign.Asterisk
operator_sign operator.Divide = sign.Slash
operator_sign operator.Add = sign.Plus
operator_sign operator.Subtract = sign.Minus
operator_sign operator.And = sign.And
operator_sign operator.Or = sign.Or
operator_sign operator.Equivalent = sign.Equivalent
operator_sign operator.NotEquivalent = sign.NotEquivalent

abbrev pub relation_sign : Relation → Sign
relation_sign relation.Equal = sign.Equal
relation_sign relation.NotEqual = sign.NotEqual
relation_sign relation.Less = sign.Less
relation_sign relation.LessEqual = sign.LessEqual
relation_sign relation.Greater = sign.Greater
relation_sign relation.GreaterEqual = sign.GreaterEqual

abbrev pub front_sign : FrontSign → Sign
front_sign front.Plus = sign.Plus
front_sign front.Minus = sign.Minus

abbrev pub truth_sign : Bool → Sign
truth_sign true = sign.True
truth_sign false = sign.False

-- an operator of this level
abbrev pub OperatorOf : Level → Form Operator
OperatorOf l = Such (λ o. level_of o ≡ l) (Just (λ o. what.Sign (operator_sign o)))

-- "==" | "/=" | "<" | "<=" | ">" | ">="
abbrev pub RelationSign : Form Relation
RelationSign = Just (λ r. what.Sign (relation_sign r))

-- "+" | "-"
abbrev pub Front : Form FrontSign
Front = Just (λ s. what.Sign (front_sign s))

-- ---- what is made of the parts

-- a missing team is `team_world`
abbrev pub or_world : Option Team → Team
or_world None = team.World
or_world (Some t) = t

abbrev pub place_of : Expr × Team → Place Expr
place_of p = record { rank = p.0; team = p.1 }

abbrev pub variable_of : (List ℕ × Option Expr) × Option (Place Expr) → Variable Expr
variable_of v = record { name = v.0.0; subscript = v.0.1; place = v.1 }

-- a first operand alone, or with those that follow it
abbrev pub chain_of : Expr × List (Operator × Expr) → Expr
chain_of (first, []) = first
chain_of (first, next ∷ more) = e.Chain first (next ∷ more)

-- one sum alone, or two that are compared
abbrev pub compared : Expr × Option (Relation × Expr) → Expr
compared (first, None) = first
compared (first, Some r) = e.Compare first r.0 r.1

-- ---- the forms

abbrev pub team_what : Team → What
team_what team.World = what.Word word.TeamWorld
team_what (team.Named x) = what.Name x

-- team = name | "team_world"
abbrev pub TeamForm : Form Team
TeamForm = Just team_what

-- R is the form of an expression that stands within parentheses or brackets.
module _ (R : Expr → List Token → List Token → Type 0) where
  -- place = "[" expr ["@" team] "]"
  abbrev pub PlaceIn : Form (Place Expr)
  PlaceIn = Made place_of (InBrackets (Both R (Made or_world (Maybe (Sign' sign.At ▸ TeamForm)))))

  -- var = name ["(" expr ")"] [place], and ev too
  abbrev pub VariableIn : Form (Variable Expr)
  VariableIn = Made variable_of (Both (Both Name (Maybe (InParentheses R))) (Maybe PlaceIn))

  -- expr "," expr
  abbrev pub Two : Form (Expr × Expr)
  Two = Both R (Sign' sign.Comma ▸ R)

  -- expr "," expr {"," expr}
  abbrev pub TwoOrMore : Form ((Expr × Expr) × List Expr)
  TwoOrMore = Both Two (Many (Sign' sign.Comma ▸ R))

  -- [team], where parentheses may be opened
  abbrev pub TeamIn : ℕ → Form Team
  TeamIn n = Inside (λ _. Made or_world (Maybe TeamForm)) n

  -- So many levels of parentheses and brackets may be opened.
  module _ (n : ℕ) where
    -- prim = number | ".true." | ".false." | "(" expr ")" | var
    --       | "mod" "(" expr "," expr ")" | "abs" "(" expr ")"
    --       | ("min" | "max") "(" expr "," expr {"," expr} ")"
    --       | ("team_rank" | "team_size") "(" [team] ")"
    pub data Prim (x : Expr) (ts rest : List Token) : Type 0 where
      number : Made e.Number (Just what.Number) x ts rest → Prim x ts rest
      truth : Made e.Truth (Just (λ b. what.Sign (truth_sign b))) x ts rest → Prim x ts rest
      parenthesized : Made e.Parenthesized (InParentheses R) x ts rest → Prim x ts rest
      variable : Made e.Variable VariableIn x ts rest → Prim x ts rest
      remainder : Made (λ (p : Expr × Expr). e.Mod p.0 p.1) (Word' word.Mod ▸ InParentheses Two) x ts rest → Prim x ts rest
      absolute : Made e.Abs (Word' word.Abs ▸ InParentheses R) x ts rest → Prim x ts rest
      least : Made (λ (p : (Expr × Expr) × List Expr). e.Min p.0.0 p.0.1 p.1) (Word' word.Min ▸ InParentheses TwoOrMore) x ts rest → Prim x ts rest
      greatest : Made (λ (p : (Expr × Expr) × List Expr). e.Max p.0.0 p.0.1 p.1) (Word' word.Max ▸ InParentheses TwoOrMore) x ts rest → Prim x ts rest
      rank : Made e.TeamRank (Word' word.TeamRank ▸ InParentheses (TeamIn n)) x ts rest → Prim x ts rest
      size : Made e.TeamSize (Word' word.TeamSize ▸ InParentheses (TeamIn n)) x ts rest → Prim x ts rest

    -- an operand, and any number of operators of one level, each with an operand
    abbrev pub Chained : Level → Form Expr → Form Expr → Form Expr
    Chained l First Next = Made chain_of (Both First (Many (Both (OperatorOf l) Next)))

    -- term = prim {("*" | "/") prim}
    abbrev pub Term : Form Expr
    Term = Chained level.Products Prim Prim

    -- a front sign applies to the first term alone
    abbrev pub FirstTerm : Form Expr
    FirstTerm = Either (Made (λ (p : FrontSign × Expr). e.Signed p.0 p.1) (Both Front Term)) Term

    -- sum = ["+" | "-"] term {("+" | "-") term}
    abbrev pub Sum : Form Expr
    Sum = Chained level.Sums FirstTerm Term

    -- rel = sum [("==" | "/=" | "<" | "<=" | ">" | ">=") sum]
    abbrev pub Rel : Form Expr
    Rel = Made compared (Both Sum (Maybe (Both RelationSign Sum)))

    -- andop = [".not."] rel
    abbrev pub AndOp : Form Expr
    AndOp = Either (Made e.Not (Sign' sign.Not ▸ Rel)) Rel

    -- orop = andop {".and." andop}
    abbrev pub OrOp : Form Expr
    OrOp = Chained level.Conjunctions AndOp AndOp

    -- equ = orop {".or." orop}
    abbrev pub Equ : Form Expr
    Equ = Chained level.Disjunctions OrOp OrOp

    -- expr = equ {(".eqv." | ".neqv.") equ}
    abbrev pub ExpressionIn : Form Expr
    ExpressionIn = Chained level.Equivalences Equ Equ

-- An expression within parentheses or brackets, of which so many levels may stand open there, these among them.
abbrev pub Inner : ℕ → Expr → List Token → List Token → Type 0
Inner zero x ts rest = ⊥
Inner (suc n) x ts rest = ExpressionIn (Inner n) n x ts rest

-- an expression whose parentheses and brackets nest at most so deep
abbrev pub Expression : ℕ → Form Expr
Expression n = ExpressionIn (Inner n) n

-- The same of a place, and of a variable or event.
abbrev pub PlaceForm : ℕ → Form (Place Expr)
PlaceForm n = PlaceIn (Inner n)

abbrev pub VariableForm : ℕ → Form (Variable Expr)
VariableForm n = VariableIn (Inner n)
