-- What may come behind an expression, and how many parentheses and brackets stand ahead.
use Rattle.std.specs.Prelude.{◌≡◌, ℕ, ◌+◌, nat_lt, Bool, true, false, List, [], ◌∷◌, if◌then◌else◌}
use Rattle.caf_lexer.specs.declared.token.Token.{Token}
use Rattle.caf_lexer.specs.declared.token.What.{What}
use Rattle.caf_lexer.specs.declared.token.What.TheVariants as what
use Rattle.caf_lexer.specs.declared.token.Sign.{Sign}
use Rattle.caf_lexer.specs.declared.token.Sign.TheVariants as sign

-- the tokens begin with one that passes, or are none
abbrev pub Stops : (What → Bool) → List Token → Type 0
Stops S [] = Unit {0}
Stops S (t ∷ ts) = S t.what ≡ true

-- How loosely a token holds to what is before it: `(` and `[` most tightly, then the operators by their levels, with
-- relations between sums and `.and.`, and all other tokens not at all.
abbrev pub looseness_of : Sign → ℕ
looseness_of sign.LeftParenthesis = 0
looseness_of sign.LeftBracket = 0
looseness_of sign.Asterisk = 1
looseness_of sign.Slash = 1
looseness_of sign.Plus = 2
looseness_of sign.Minus = 2
looseness_of sign.Equal = 3
looseness_of sign.NotEqual = 3
looseness_of sign.Less = 3
looseness_of sign.LessEqual = 3
looseness_of sign.Greater = 3
looseness_of sign.GreaterEqual = 3
looseness_of sign.And = 4
looseness_of sign.Or = 5
looseness_of sign.Equivalent = 6
looseness_of sign.NotEquivalent = 6
looseness_of _ = 7

abbrev pub looseness : What → ℕ
looseness (what.Sign s) = looseness_of s
looseness _ = 7

-- looser than this
abbrev pub looser : ℕ → What → Bool
looser l w = nat_lt l (looseness w)

-- no operator, no relation, no `(` and no `[`: an expression can't go on with it
abbrev pub ends_expression : What → Bool
ends_expression = looser 6

-- ---- what is opened ahead

-- the sum of these weights over the tokens before the first that doesn't pass
abbrev pub opened : (What → Bool) → (What → ℕ) → List Token → ℕ
opened T W [] = 0
opened T W (t ∷ ts) = if T t.what then W t.what + opened T W ts else 0

abbrev pub in_statement : What → Bool
in_statement what.End = false
in_statement _ = true

abbrev pub bracket : What → ℕ
bracket (what.Sign sign.LeftParenthesis) = 1
bracket (what.Sign sign.LeftBracket) = 1
bracket _ = 0

-- how many of `(` and `[` stand before the next end of a statement
abbrev pub brackets_ahead : List Token → ℕ
brackets_ahead ts = opened in_statement bracket ts
