-- A function value that reads expressions within parentheses and brackets.
use Rattle.std.specs.Prelude.{ℕ, Result, List}
use Rattle.std.specs.declared.alloc.Global.{Global}
use denote.Ref.{MutBor}
use Rattle.caf_lexer.specs.declared.token.Token.{Token}
use Rattle.caf_tree.specs.declared.expr.Expr.{Expr}
use Rattle.caf_exprparse.specs.declared.fault.ParseFault.{ParseFault}
use Rattle.caf_exprparse.specs.Reads.{Reads}
use Rattle.caf_exprparse.specs.Reader.{inner}

pub record Nests (depth : ℕ) (pre : Global → MutBor (List Token) → ℕ → Type 0)
    (post : Global → MutBor (List Token) → ℕ → Result Expr ParseFault → MutBor (List Token) → Type 0) : Type 0 where
  pub callable : (alloc : Global) (old : MutBor (List Token)) → pre alloc old depth
  pub reads : (alloc : Global) (old new : MutBor (List Token)) (r : Result Expr ParseFault) → post alloc old depth r new
      → Reads (inner depth old.now) r new.now
