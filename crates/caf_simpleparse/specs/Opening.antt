-- The tokens that open a level.
use Rattle.std.specs.Prelude.{ℕ, Bool, true, false, List, count_by}
use Rattle.caf_lexer.specs.declared.token.Token.{Token}
use Rattle.caf_lexer.specs.declared.token.What.{What}
use Rattle.caf_lexer.specs.declared.token.What.TheVariants as what
use Rattle.caf_lexer.specs.declared.token.Sign.TheVariants as sign
use Rattle.caf_lexer.specs.declared.token.Word.TheVariants as word
use Rattle.caf_exprparse.specs.Ends.{opened}

-- 1 for `(`, `[`, `then`, `do` and `finish`
abbrev pub opening : What → ℕ
opening (what.Sign sign.LeftParenthesis) = 1
opening (what.Sign sign.LeftBracket) = 1
opening (what.Word word.Then) = 1
opening (what.Word word.Do) = 1
opening (what.Word word.Finish) = 1
opening _ = 0

abbrev pub each : What → Bool
each w = true

-- how many of `(`, `[`, `then`, `do` and `finish` there are
abbrev pub openings : List Token → ℕ
openings ts = opened each opening ts
