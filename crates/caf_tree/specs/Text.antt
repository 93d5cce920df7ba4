-- The text of a unit: one statement a line, with one blank between tokens.
use Rattle.std.specs.Prelude.{◌≡◌, ℕ, ◌+◌, ◌==◌, Bool, nat_lt, List, [], ◌∷◌, ◌++◌, length, map, replicate, count_by, codes, if◌then◌else◌}
use Rattle.std.specs.List.{flat_map}
use Rattle.std.specs.Fmt.{signed_decimal}
use Rattle.caf_lexer.specs.declared.token.What.{What}
use Rattle.caf_lexer.specs.declared.token.What.TheVariants as what
use Rattle.caf_lexer.specs.declared.token.Sign.{Sign}
use Rattle.caf_lexer.specs.declared.token.Sign.TheVariants as sign
use Rattle.caf_lexer.specs.declared.token.Word.{Word}
use Rattle.caf_lexer.specs.declared.token.Word.TheVariants as word
use Rattle.caf_tree.specs.declared.unit.Unit.{Unit as Program}
use Rattle.caf_tree.specs.Said.{Said, SaidLine, unit_said}

abbrev pub Bytes : Type 0
Bytes = List ℕ

-- ---- tokens

abbrev pub word_text : Word → Bytes
word_text word.Program = codes "program"
word_text word.End = codes "end"
word_text word.Contains = codes "contains"
word_text word.Subroutine = codes "subroutine"
word_text word.Implicit = codes "implicit"
word_text word.None = codes "none"
word_text word.Integer = codes "integer"
word_text word.Logical = codes "logical"
word_text word.Event = codes "event"
word_text word.Team = codes "team"
word_text word.Parameter = codes "parameter"
word_text word.Copointer = codes "copointer"
word_text word.Intent = codes "intent"
word_text word.In = codes "in"
word_text word.Out = codes "out"
word_text word.InOut = codes "inout"
word_text word.If = codes "if"
word_text word.Then = codes "then"
word_text word.Else = codes "else"
word_text word.ElseIf = codes "elseif"
word_text word.EndIf = codes "endif"
word_text word.Do = codes "do"
word_text word.While = codes "while"
word_text word.EndDo = codes "enddo"
word_text word.Finish = codes "finish"
word_text word.EndFinish = codes "endfinish"
word_text word.EndProgram = codes "endprogram"
word_text word.EndSubroutine = codes "endsubroutine"
word_text word.Print = codes "print"
word_text word.Call = codes "call"
word_text word.Spawn = codes "spawn"
word_text word.EventNotify = codes "event_notify"
word_text word.EventWait = codes "event_wait"
word_text word.CopyAsync = codes "copy_async"
word_text word.Pre = codes "pre"
word_text word.Srce = codes "srce"
word_text word.Deste = codes "deste"
word_text word.Cofence = codes "cofence"
word_text word.TeamSplit = codes "team_split"
word_text word.TeamWorld = codes "team_world"
word_text word.TeamRank = codes "team_rank"
word_text word.TeamSize = codes "team_size"
word_text word.Mod = codes "mod"
word_text word.Abs = codes "abs"
word_text word.Min = codes "min"
word_text word.Max = codes "max"

-- of the two spellings of a relation the one without letters
abbrev pub sign_text : Sign → Bytes
sign_text sign.True = codes ".true."
sign_text sign.False = codes ".false."
sign_text sign.Not = codes ".not."
sign_text sign.And = codes ".and."
sign_text sign.Or = codes ".or."
sign_text sign.Equivalent = codes ".eqv."
sign_text sign.NotEquivalent = codes ".neqv."
sign_text sign.Equal = codes "=="
sign_text sign.NotEqual = codes "/="
sign_text sign.Less = codes "<"
sign_text sign.LessEqual = codes "<="
sign_text sign.Greater = codes ">"
sign_text sign.GreaterEqual = codes ">="
sign_text sign.Plus = codes "+"
sign_text sign.Minus = codes "-"
sign_text sign.Asterisk = codes "*"
sign_text sign.Slash = codes "/"
sign_text sign.Assign = codes "="
sign_text sign.Arrow = codes "=>"
sign_text sign.LeftParenthesis = codes "("
sign_text sign.RightParenthesis = codes ")"
sign_text sign.LeftBracket = codes "["
sign_text sign.RightBracket = codes "]"
sign_text sign.Comma = codes ","
sign_text sign.Colon = codes ":"
sign_text sign.DoubleColon = codes "::"
sign_text sign.At = codes "@"

-- the quote that needs fewer doublings, and `'` where both need as many
abbrev pub quote_for : Bytes → ℕ
quote_for content = if nat_lt (count_by (λ b. b == 34) content) (count_by (λ b. b == 39) content) then 34 else 39

-- a text with each such quote doubled
abbrev pub doubled : ℕ → Bytes → Bytes
doubled quote content = flat_map (λ b. if b == quote then b ∷ b ∷ [] else b ∷ []) content

abbrev pub quoted : ℕ → Bytes → Bytes
quoted quote content = quote ∷ doubled quote content ++ quote ∷ []

abbrev pub token_text : What → Bytes
token_text (what.Name x) = x
token_text (what.Word w) = word_text w
token_text (what.Number n) = signed_decimal n
token_text (what.Text content) = quoted (quote_for content) content
token_text (what.Sign s) = sign_text s
token_text what.End = codes ";"

-- ---- lines

-- Tokens behind so many bytes of their line, each after one blank. Where a token would carry the line past 130 bytes
-- ` &` ends the line, and the token begins the next in its first column.
abbrev pub after_column : ℕ → List Bytes → Bytes
after_column column [] = []
after_column column (t ∷ others) =
    if nat_lt 130 (column + 1 + length t) then codes " &" ++ 10 ∷ t ++ after_column (length t) others
    else 32 ∷ t ++ after_column (column + 1 + length t) others

abbrev pub tokens_text : ℕ → List Bytes → Bytes
tokens_text indent [] = []
tokens_text indent (t ∷ others) = t ++ after_column (indent + length t) others

abbrev pub line_text : SaidLine → Bytes
line_text l = replicate l.0 32 ++ tokens_text l.0 (map token_text l.1) ++ 10 ∷ []

-- what `print_unit` answers
abbrev pub unit_text : Program → Bytes
unit_text u = flat_map line_text (unit_said u)
