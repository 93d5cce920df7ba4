-- The reader of expressions.
use Rattle.std.specs.Prelude.{ℕ, zero, suc, List, is_some, Err}
use Rattle.caf_lexer.specs.declared.token.What.{What}
use Rattle.caf_lexer.specs.declared.token.What.TheVariants as what
use Rattle.caf_lexer.specs.declared.token.Sign.TheVariants as sign
use Rattle.caf_lexer.specs.declared.token.Word.TheVariants as word
use Rattle.caf_tree.specs.declared.expr.Level.{Level}
use Rattle.caf_tree.specs.declared.expr.Level.TheVariants as level
use Rattle.caf_tree.specs.declared.expr.Operator.{Operator}
use Rattle.caf_tree.specs.declared.expr.Team.{Team}
use Rattle.caf_tree.specs.declared.expr.Place.{Place}
use Rattle.caf_tree.specs.declared.expr.Variable.{Variable}
use Rattle.caf_tree.specs.declared.expr.Expr.{Expr}
use Rattle.caf_tree.specs.declared.expr.Expr.TheVariants as e
use Rattle.caf_tree.specs.Expressions.{or_world, place_of, variable_of, chain_of, compared}
use Rattle.caf_exprparse.specs.Reading.{Syntax, Deep, Reader, optional, many, both, make, lead, inside, either, one, by_next}
use Rattle.caf_exprparse.specs.Told.{is_sign, a_name, a_number, a_truth, an_operator, a_relation, a_front, a_team, sign', word', in_parentheses, in_brackets}

abbrev pub name : Reader (List ℕ)
name = one a_name

abbrev pub team : Reader Team
team = one a_team

abbrev pub perhaps_team : Reader Team
perhaps_team = make or_world (optional team)

abbrev pub at_team : Reader Team
at_team = lead (sign' sign.At) team

-- `inner` reads what stands within parentheses or brackets.
module _ (inner : Reader Expr) where
  unfoldable pub subscript : Reader Expr
  subscript = in_parentheses inner

  unfoldable pub place : Reader (Place Expr)
  place = make place_of (in_brackets (both inner (make or_world (optional at_team))))

  unfoldable pub variable : Reader (Variable Expr)
  variable = make variable_of (both (both name (optional subscript)) (optional place))

  abbrev pub next_one : Reader Expr
  next_one = lead (sign' sign.Comma) inner

  unfoldable pub two : Reader (Expr × Expr)
  two = both inner next_one

  unfoldable pub two_or_more : Reader ((Expr × Expr) × List Expr)
  two_or_more = both two (many next_one)

  -- So many levels of parentheses and brackets may be opened.
  module _ (n : ℕ) where
    unfoldable pub team_in : Reader Team
    team_in = in_parentheses (inside (λ _. perhaps_team) n)

    abbrev pub prim_by : What → Reader Expr
    prim_by (what.Number x) = make e.Number (one a_number)
    prim_by (what.Name x) = make e.Variable variable
    prim_by (what.Sign sign.True) = make e.Truth (one a_truth)
    prim_by (what.Sign sign.False) = make e.Truth (one a_truth)
    prim_by (what.Sign sign.LeftParenthesis) = make e.Parenthesized subscript
    prim_by (what.Word word.Mod) = make (λ p. e.Mod p.0 p.1) (lead (word' word.Mod) (in_parentheses two))
    prim_by (what.Word word.Abs) = make e.Abs (lead (word' word.Abs) subscript)
    prim_by (what.Word word.Min) = make (λ p. e.Min p.0.0 p.0.1 p.1) (lead (word' word.Min) (in_parentheses two_or_more))
    prim_by (what.Word word.Max) = make (λ p. e.Max p.0.0 p.0.1 p.1) (lead (word' word.Max) (in_parentheses two_or_more))
    prim_by (what.Word word.TeamRank) = make e.TeamRank (lead (word' word.TeamRank) team_in)
    prim_by (what.Word word.TeamSize) = make e.TeamSize (lead (word' word.TeamSize) team_in)
    prim_by _ = λ ts. Err Syntax

    unfoldable pub prim : Reader Expr
    prim = by_next prim_by

    abbrev pub operand : Level → Reader Expr → Reader (Operator × Expr)
    operand l next = both (one (an_operator l)) next

    unfoldable pub chained : Level → Reader Expr → Reader Expr → Reader Expr
    chained l first next = make chain_of (both first (many (operand l next)))

    unfoldable pub term : Reader Expr
    term = chained level.Products prim prim

    unfoldable pub first_term : Reader Expr
    first_term = either (λ w. is_some (a_front w)) (make (λ p. e.Signed p.0 p.1) (both (one a_front) term)) term

    unfoldable pub sum : Reader Expr
    sum = chained level.Sums first_term term

    unfoldable pub rel : Reader Expr
    rel = make compared (both sum (optional (both (one a_relation) sum)))

    unfoldable pub and_op : Reader Expr
    and_op = either (λ w. is_some (is_sign sign.Not w)) (make e.Not (lead (sign' sign.Not) rel)) rel

    unfoldable pub or_op : Reader Expr
    or_op = chained level.Conjunctions and_op and_op

    unfoldable pub equ : Reader Expr
    equ = chained level.Disjunctions or_op or_op

    unfoldable pub expression_in : Reader Expr
    expression_in = chained level.Equivalences equ equ

-- an expression within parentheses or brackets, of which so many levels may stand open there, these among them
unfoldable pub inner : ℕ → Reader Expr
inner zero = λ ts. Err Deep
inner (suc n) = expression_in (inner n) n

-- an expression whose parentheses and brackets nest at most so deep
abbrev pub expression : ℕ → Reader Expr
expression n = expression_in (inner n) n
