-- The reader of statements with blocks, declarations and units.
use Rattle.std.specs.Prelude.{ℕ, zero, suc, List, [], ◌∷◌, Option, Some, None, Err, is_some}
use Rattle.caf_lexer.specs.declared.token.What.{What}
use Rattle.caf_lexer.specs.declared.token.What.TheVariants as what
use Rattle.caf_lexer.specs.declared.token.Sign.TheVariants as sign
use Rattle.caf_lexer.specs.declared.token.Word.{Word}
use Rattle.caf_lexer.specs.declared.token.Word.TheVariants as word
use Rattle.caf_tree.specs.declared.expr.Expr.{Expr}
use Rattle.caf_tree.specs.declared.stmt.Simple.{Simple}
use Rattle.caf_tree.specs.declared.stmt.Stmt.{Stmt}
use Rattle.caf_tree.specs.declared.stmt.Stmt.TheVariants as stmt
use Rattle.caf_tree.specs.declared.unit.ValueKind.{ValueKind}
use Rattle.caf_tree.specs.declared.unit.Intent.{Intent}
use Rattle.caf_tree.specs.declared.unit.Intent.TheVariants as intent'
use Rattle.caf_tree.specs.declared.unit.Bounds.{Bounds}
use Rattle.caf_tree.specs.declared.unit.Item.{Item}
use Rattle.caf_tree.specs.declared.unit.Decl.{Decl}
use Rattle.caf_tree.specs.declared.unit.Decl.TheVariants as decl
use Rattle.caf_tree.specs.declared.unit.Sub.{Sub}
use Rattle.caf_tree.specs.declared.unit.Unit.{Unit as Program}
use Rattle.caf_tree.specs.Forms.{or_none}
use Rattle.caf_tree.specs.Expressions.{or_world}
use Rattle.caf_tree.specs.Statements.{Branches, if_at}
use Rattle.caf_tree.specs.Units.{is_there, item_of, sub_of, program_of}
use Rattle.caf_exprparse.specs.Reading.{Syntax, Deep, Reader, optional, many, both, make, lead, trail, inside, either, one, by_some, by_next, third_of}
use Rattle.caf_exprparse.specs.Told.{is_sign, is_word, a_kind, sign', word', end', named, in_parentheses, in_brackets}
use Rattle.caf_exprparse.specs.Reader.{name, team, subscript, inner, expression}
use Rattle.caf_simpleparse.specs.Choices.{perhaps, joined, lined, either_by, closed, next_behind, listed, perhaps_list, second_passes, at_else_if}
use Rattle.caf_simpleparse.specs.Reader.{simple}

-- ---- statements

-- what comes behind a condition, and the statement that they make at a line
abbrev pub Made' : Type 0
Made' = Expr → ℕ → Stmt

abbrev pub with_block : List Stmt × List Stmt → Made'
with_block p = λ e line. if_at (line, (e, p))

abbrev pub with_action : ℕ × Simple → Made'
with_action p = λ e line. stmt.IfLine line e p.0 p.1

abbrev pub if_made : ℕ × (Expr × Made') → Stmt
if_made p = p.1.1 p.1.0 p.0

abbrev pub counted_made : ℕ × (((List ℕ × Expr) × (Expr × Option Expr)) × List Stmt) → Stmt
counted_made p = stmt.Do p.0 p.1.0.0.0 p.1.0.0.1 p.1.0.1.0 p.1.0.1.1 p.1.1

abbrev pub end_do : Reader (Unit {0})
end_do = joined word.End word.Do word.EndDo

abbrev pub end_if : Reader (Unit {0})
end_if = joined word.End word.If word.EndIf

abbrev pub end_finish : Reader (Unit {0})
end_finish = joined word.End word.Finish word.EndFinish

-- `b` reads a block, and `i` what follows `else if`.
module _ (n : ℕ) (b : Reader (List Stmt)) (i : Reader Branches) where
  abbrev pub else_block : Reader (List Stmt)
  else_block = lead (word' word.Else) (lead end' b)

  unfoldable pub else_if : Reader (List Stmt)
  else_if = make (λ p. if_at p ∷ []) (lined (lead (joined word.Else word.If word.ElseIf) i))

  unfoldable pub last_part : Reader (List Stmt)
  last_part = trail (trail (make or_none (optional else_block)) end_if) end'

  unfoldable pub rest : Reader (List Stmt)
  rest = either_by at_else_if else_if last_part

  unfoldable pub then_block : Reader (List Stmt × List Stmt)
  then_block = lead (word' word.Then) (lead end' (both b rest))

  abbrev pub condition : Reader Expr
  condition = subscript (inner n)

  unfoldable pub branches : Reader Branches
  branches = both condition then_block

  unfoldable pub if_tail : Reader Made'
  if_tail = either (λ w. is_some (is_word word.Then w)) (make with_block then_block) (make with_action (trail (lined (simple n)) end'))

  unfoldable pub if_statement : Reader Stmt
  if_statement = make if_made (lined (lead (word' word.If) (both condition if_tail)))

  -- a block behind the end of a line, and the end of its loop
  abbrev pub do_body : Reader (List Stmt)
  do_body = trail (trail (lead end' b) end_do) end'

  abbrev pub counts : Reader ((List ℕ × Expr) × (Expr × Option Expr))
  counts = both (both name (lead (sign' sign.Assign) (expression n))) (next_behind (both (expression n) (optional (next_behind (expression n)))))

  unfoldable pub counted : Reader Stmt
  counted = make counted_made (lined (lead (word' word.Do) (both counts do_body)))

  unfoldable pub while_true : Reader Stmt
  while_true = make (λ p. stmt.While p.0 p.1.0 p.1.1) (lined (lead (word' word.Do) (lead (word' word.While) (trail (trail (both condition (lead end' b)) end_do) end'))))

  unfoldable pub finish : Reader Stmt
  finish = make (λ p. stmt.Finish p.0 p.1.0 p.1.1) (lined (lead (word' word.Finish) (trail (trail (both (make or_world (optional (in_parentheses team))) (lead end' b)) end_finish) end')))

  unfoldable pub line : Reader Stmt
  line = make (λ p. stmt.Simple p.0 p.1) (lined (trail (simple n) end'))

  abbrev pub statement_by : What → Reader Stmt
  statement_by (what.Word word.If) = if_statement
  statement_by (what.Word word.Do) = either_by (second_passes (λ w. is_some (is_word word.While w))) while_true counted
  statement_by (what.Word word.Finish) = finish
  statement_by _ = line

  unfoldable pub statement : Reader Stmt
  statement = by_next statement_by

-- a block inside, and what follows an `else if`
abbrev mutual
  pub inner_block : ℕ → Reader (List Stmt)
  inner_block zero = λ ts. Err Deep
  inner_block (suc n) = many (statement n (inner_block n) (inner_branches n))

  pub inner_branches : ℕ → Reader Branches
  inner_branches zero = λ ts. Err Deep
  inner_branches (suc n) = branches n (inner_block n) (inner_branches n)

abbrev pub statements : ℕ → Reader (List Stmt)
statements n = many (statement n (inner_block n) (inner_branches n))

-- ---- declarations

abbrev pub bounds_of : Expr × Option Expr → Bounds
bounds_of (e, None) = record { lower = None; upper = e }
bounds_of (e, Some f) = record { lower = Some e; upper = f }

abbrev pub kind_with : Word → Reader ValueKind
kind_with w = trail (trail (one a_kind) (sign' sign.Comma)) (word' w)

-- behind `in`
abbrev pub intent_of : Option (Unit {0}) → Intent
intent_of None = intent'.In
intent_of (Some _) = intent'.InOut

unfoldable pub intent : Reader Intent
intent = either (λ w. is_some (is_word word.InOut w)) (make (λ _. intent'.InOut) (word' word.InOut)) (lead (word' word.In) (make intent_of (optional (word' word.Out))))

module _ (n : ℕ) where
  unfoldable pub bounds : Reader Bounds
  bounds = make bounds_of (both (expression n) (optional (lead (sign' sign.Colon) (expression n))))

  abbrev pub value : Reader (List ℕ × Expr)
  value = both name (lead (sign' sign.Assign) (expression n))

  abbrev pub pointer : Reader (List ℕ)
  pointer = trail name (in_parentheses (inside (λ _. sign' sign.Colon) n))

unfoldable pub item : ℕ → Reader Item
item n = make item_of (both (both name (optional (in_parentheses (inside bounds n)))) (make is_there (optional (in_brackets (inside (λ _. sign' sign.Asterisk) n)))))

abbrev pub items : ℕ → Reader (List Item)
items n = listed (item n)

module _ (n : ℕ) where
  unfoldable pub parameters : Reader Decl
  parameters = make (λ p. decl.Parameters p.0 p.1.0 p.1.1) (lined (trail (both (trail (kind_with word.Parameter) (sign' sign.DoubleColon)) (listed (value n))) end'))

  unfoldable pub copointers : Reader Decl
  copointers = make (λ p. decl.Copointers p.0 p.1.0 p.1.1) (lined (trail (both (trail (kind_with word.Copointer) (sign' sign.DoubleColon)) (listed (pointer n))) end'))

  abbrev pub kind_intent : Reader (ValueKind × Intent)
  kind_intent = both (kind_with word.Intent) (in_parentheses (inside (λ _. intent) n))

  unfoldable pub dummies : Reader Decl
  dummies = make (λ p. decl.Dummies p.0 p.1.0.0 p.1.0.1 p.1.1) (lined (trail (both (trail kind_intent (sign' sign.DoubleColon)) (listed name)) end'))

  unfoldable pub variables : Reader Decl
  variables = make (λ p. decl.Variables p.0 p.1.0 p.1.1) (lined (trail (both (trail (one a_kind) (perhaps (sign' sign.DoubleColon))) (items n)) end'))

  unfoldable pub events : Reader Decl
  events = make (λ p. decl.Events p.0 p.1) (lined (lead (word' word.Event) (trail (lead (sign' sign.DoubleColon) (items n)) end')))

  unfoldable pub teams : Reader Decl
  teams = make (λ p. decl.Teams p.0 p.1) (lined (lead (word' word.Team) (trail (lead (sign' sign.DoubleColon) (listed name)) end')))

  -- behind a kind and a comma
  abbrev pub attributed_by : What → Reader Decl
  attributed_by (what.Word word.Parameter) = parameters
  attributed_by (what.Word word.Copointer) = copointers
  attributed_by (what.Word word.Intent) = dummies
  attributed_by _ = λ ts. Err Syntax

  unfoldable pub attributed : Reader Decl
  attributed = λ ts. by_some attributed_by (third_of ts) ts

  unfoldable pub of_kind : Reader Decl
  of_kind = either_by (second_passes (λ w. is_some (is_sign sign.Comma w))) attributed variables

  abbrev pub declaration_by : What → Reader Decl
  declaration_by (what.Word word.Integer) = of_kind
  declaration_by (what.Word word.Logical) = of_kind
  declaration_by (what.Word word.Event) = events
  declaration_by (what.Word word.Team) = teams
  declaration_by _ = λ ts. Err Syntax

  unfoldable pub declaration : Reader Decl
  declaration = by_next declaration_by

-- ---- subroutines and units

unfoldable pub implicit_none : Reader (Unit {0})
implicit_none = perhaps (lead (word' word.Implicit) (lead (word' word.None) end'))

unfoldable pub end_of : Word → Word → List ℕ → Reader (Unit {0})
end_of w together x = either (λ v. is_some (is_word word.End v)) (lead (word' word.End) (perhaps (lead (word' w) (perhaps (named x))))) (lead (word' together) (perhaps (named x)))

unfoldable pub body : ℕ → Reader (List Decl × List Stmt)
body n = make (λ (p : Unit {0} × (List Decl × List Stmt)). p.1) (both implicit_none (both (many (declaration n)) (statements n)))

abbrev pub names : ℕ → Reader (List (List ℕ))
names _ = listed name

unfoldable pub heading : ℕ → Reader (List ℕ × List (List ℕ))
heading n = trail (both name (perhaps_list names n)) end'

unfoldable pub sub : ℕ → Reader Sub
sub n = make sub_of (lined (lead (word' word.Subroutine) (trail (closed (λ (p : (List ℕ × List (List ℕ)) × (List Decl × List Stmt)). end_of word.Subroutine word.EndSubroutine p.0.0) (both (heading n) (body n))) end')))

unfoldable pub subs : ℕ → Reader (List Sub)
subs n = make or_none (optional (lead (word' word.Contains) (lead end' (many (sub n)))))

unfoldable pub unit_in : ℕ → Reader Program
unit_in n = make program_of (lead (word' word.Program) (trail (closed (λ (p : (List ℕ × (List Decl × List Stmt)) × List Sub). end_of word.Program word.EndProgram p.0.0) (both (both (trail name end') (body n)) (subs n))) end'))
