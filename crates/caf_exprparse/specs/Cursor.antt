-- What a call that takes an expression at a cursor answers.
use Rattle.std.specs.Prelude.{ℕ, ◌<◌, ◌≤◌, List, length}
use Rattle.caf_lexer.specs.declared.token.Token.{Token}
use Rattle.caf_tree.specs.declared.expr.Expr.{Expr}
use Rattle.caf_tree.specs.Expressions.{Expression}
use Rattle.caf_exprparse.specs.declared.fault.ParseFault.{ParseFault}
use Rattle.caf_exprparse.specs.declared.fault.ParseFault.TheVariants as fault
use Rattle.caf_exprparse.specs.Ends.{Stops, ends_expression, brackets_ahead}

-- An expression of any depth begins at these tokens, and stands before those.
abbrev pub Begins : Expr → List Token → List Token → Type 0
Begins x ts rest = (n : ℕ) × Expression n x ts rest

-- No expression that so many levels of parentheses and brackets are enough for stands at these tokens before the end
-- of them, or before a token that an expression can't go on with.
abbrev pub NoneWithin : ℕ → List Token → Type 0
NoneWithin n ts = (x : Expr) (rest : List Token) → Expression n x ts rest → Stops ends_expression rest → ⊥

-- Why an expression is refused. For the syntax: no expression of any depth begins here. For the depth: more than these
-- levels are opened before the end of the statement, and none stands here that they are enough for.
abbrev pub WhyRefused : ℕ → List Token → ParseFault → Type 0
WhyRefused n ts (fault.Syntax line) = (x : Expr) (rest : List Token) → Begins x ts rest → ⊥
WhyRefused n ts (fault.Deep line) = (n < brackets_ahead ts) × NoneWithin n ts
WhyRefused n ts fault.Memory = Unit {0}

-- the longest expression that begins at these tokens
abbrev pub IsLongest : List Token → List Token → Type 0
IsLongest ts new = (x : Expr) (rest : List Token) → Begins x ts rest → length new ≤ length rest
