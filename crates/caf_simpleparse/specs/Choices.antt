-- Which form the next tokens begin, and readers of it.
use Rattle.std.specs.Prelude.{◌≡◌, ℕ, Bool, true, false, ◌&&◌, ◌||◌, List, [], ◌∷◌, Option, Some, None, Err, is_some, if◌then◌else◌}
use Rattle.caf_lexer.specs.declared.token.Token.{Token}
use Rattle.caf_lexer.specs.declared.token.What.{What}
use Rattle.caf_lexer.specs.declared.token.What.TheVariants as what
use Rattle.caf_lexer.specs.declared.token.Sign.{Sign}
use Rattle.caf_lexer.specs.declared.token.Sign.TheVariants as sign
use Rattle.caf_lexer.specs.declared.token.Word.{Word}
use Rattle.caf_lexer.specs.declared.token.Word.TheVariants as word
use Rattle.caf_tree.specs.Forms.{or_none}
use Rattle.caf_exprparse.specs.Reading.{Syntax, Reader, ◌>>=◌, pure, optional, many, both, make, lead, trail, inside, either, one, ahead, line_at, second_of}
use Rattle.caf_exprparse.specs.Told.{is_sign, is_word, sign', word'}

-- ---- ways to put readers together

-- a mark or nothing
abbrev pub perhaps : Reader (Unit {0}) → Reader (Unit {0})
perhaps d = make (λ _. tt) (optional d)

-- two words, or the one that they make
abbrev pub joined : Word → Word → Word → Reader (Unit {0})
joined first second together = either (λ w. is_some (is_word first w)) (lead (word' first) (word' second)) (word' together)

-- a value, with the line of its first token
abbrev pub lined : {A : Type 0} → Reader A → Reader (ℕ × A)
lined p = λ ts. make (λ a. (line_at ts, a)) p ts

abbrev pub either_by : {A : Type 0} → (List Token → Bool) → Reader A → Reader A → Reader A
either_by test p q = λ ts. if test ts then p ts else q ts

abbrev pub kept : {A : Type 0} → Bool → A → Reader A
kept true a = pure a
kept false a = λ ts. Err Syntax

-- a value that passes a test
abbrev pub such : {A : Type 0} → (A → Bool) → Reader A → Reader A
such test p = p >>= (λ a. kept (test a) a)

-- a value, and then a mark that depends on it
abbrev pub closed : {A : Type 0} → (A → Reader (Unit {0})) → Reader A → Reader A
closed d p = p >>= (λ a. d a >>= (λ _. pure a))

abbrev pub next_behind : {A : Type 0} → Reader A → Reader A
next_behind p = lead (sign' sign.Comma) p

-- one, and any number behind commas
abbrev pub listed : {A : Type 0} → Reader A → Reader (List A)
listed {A} p = make (λ (c : A × List A). c.0 ∷ c.1) (both p (many (next_behind p)))

-- a list within parentheses, or parentheses around nothing
unfoldable pub list_in : {A : Type 0} → (ℕ → Reader (List A)) → ℕ → Reader (List A)
list_in p n = lead (sign' sign.LeftParenthesis) (either (λ w. is_some (is_sign sign.RightParenthesis w)) (make (λ _. []) (sign' sign.RightParenthesis)) (trail (inside p n) (sign' sign.RightParenthesis)))

abbrev pub perhaps_list : {A : Type 0} → (ℕ → Reader (List A)) → ℕ → Reader (List A)
perhaps_list p n = make or_none (optional (list_in p n))

-- ---- tokens further ahead

abbrev pub passes : (What → Bool) → Option What → Bool
passes test None = false
passes test (Some w) = test w

abbrev pub second_passes : (What → Bool) → List Token → Bool
second_passes test ts = passes test (second_of ts)

-- `else if`, in one word or in two
abbrev pub at_else_if : List Token → Bool
at_else_if ts = ahead (λ w. is_some (is_word word.ElseIf w)) ts || (ahead (λ w. is_some (is_word word.Else w)) ts && second_passes (λ w. is_some (is_word word.If w)) ts)
