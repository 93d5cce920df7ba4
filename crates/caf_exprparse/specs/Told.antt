-- What one token says.
use Rattle.std.specs.Prelude.{ℕ, ℤ, List, Option, Some, None, Bool, true, false, bytes_eq, codes}
use denote.Enum.Bare.{sameb}
use Rattle.caf_lexer.specs.contracts.token.Sign as signs
use Rattle.caf_lexer.specs.contracts.token.Word as words
use Rattle.caf_lexer.specs.declared.token.What.{What}
use Rattle.caf_lexer.specs.declared.token.What.TheVariants as what
use Rattle.caf_lexer.specs.declared.token.Sign.{Sign}
use Rattle.caf_lexer.specs.declared.token.Sign.TheVariants as sign
use Rattle.caf_lexer.specs.declared.token.Word.{Word}
use Rattle.caf_lexer.specs.declared.token.Word.TheVariants as word
use Rattle.caf_tree.specs.contracts.expr.Level as levels
use Rattle.caf_tree.specs.declared.expr.Level.{Level}
use Rattle.caf_tree.specs.declared.expr.Operator.{Operator}
use Rattle.caf_tree.specs.declared.expr.Operator.TheVariants as operator
use Rattle.caf_tree.specs.declared.expr.Relation.{Relation}
use Rattle.caf_tree.specs.declared.expr.Relation.TheVariants as relation
use Rattle.caf_tree.specs.declared.expr.FrontSign.{FrontSign}
use Rattle.caf_tree.specs.declared.expr.FrontSign.TheVariants as front
use Rattle.caf_tree.specs.declared.expr.Team.{Team}
use Rattle.caf_tree.specs.declared.expr.Team.TheVariants as team
use Rattle.caf_tree.specs.declared.stmt.FenceClass.{FenceClass}
use Rattle.caf_tree.specs.declared.stmt.FenceClass.TheVariants as class
use Rattle.caf_tree.specs.declared.unit.ValueKind.{ValueKind}
use Rattle.caf_tree.specs.declared.unit.ValueKind.TheVariants as kind
use Rattle.caf_tree.specs.Expressions.{level_of}
use Rattle.caf_exprparse.specs.Reading.{Reader, one, lead, trail}

abbrev pub found : Bool → Option (Unit {0})
found true = Some tt
found false = None

abbrev pub is_sign : Sign → What → Option (Unit {0})
is_sign s (what.Sign u) = found (sameb signs.the_type u s)
is_sign s _ = None

abbrev pub is_word : Word → What → Option (Unit {0})
is_word s (what.Word u) = found (sameb words.the_type u s)
is_word s _ = None

abbrev pub a_name : What → Option (List ℕ)
a_name (what.Name x) = Some x
a_name _ = None

abbrev pub a_number : What → Option ℤ
a_number (what.Number n) = Some n
a_number _ = None

abbrev pub a_truth : What → Option Bool
a_truth (what.Sign sign.True) = Some true
a_truth (what.Sign sign.False) = Some false
a_truth _ = None

abbrev pub operator_of : Sign → Option Operator
operator_of sign.Asterisk = Some operator.Multiply
operator_of sign.Slash = Some operator.Divide
operator_of sign.Plus = Some operator.Add
operator_of sign.Minus = Some operator.Subtract
operator_of sign.And = Some operator.And
operator_of sign.Or = Some operator.Or
operator_of sign.Equivalent = Some operator.Equivalent
operator_of sign.NotEquivalent = Some operator.NotEquivalent
operator_of _ = None

abbrev pub chosen : Bool → Operator → Option Operator
chosen true o = Some o
chosen false o = None

abbrev pub at_level : Level → Option Operator → Option Operator
at_level l None = None
at_level l (Some o) = chosen (sameb levels.the_type (level_of o) l) o

abbrev pub an_operator : Level → What → Option Operator
an_operator l (what.Sign s) = at_level l (operator_of s)
an_operator l _ = None

abbrev pub relation_of : Sign → Option Relation
relation_of sign.Equal = Some relation.Equal
relation_of sign.NotEqual = Some relation.NotEqual
relation_of sign.Less = Some relation.Less
relation_of sign.LessEqual = Some relation.LessEqual
relation_of sign.Greater = Some relation.Greater
relation_of sign.GreaterEqual = Some relation.GreaterEqual
relation_of _ = None

abbrev pub a_relation : What → Option Relation
a_relation (what.Sign s) = relation_of s
a_relation _ = None

abbrev pub front_of : Sign → Option FrontSign
front_of sign.Plus = Some front.Plus
front_of sign.Minus = Some front.Minus
front_of _ = None

abbrev pub a_front : What → Option FrontSign
a_front (what.Sign s) = front_of s
a_front _ = None

abbrev pub a_team : What → Option Team
a_team (what.Name x) = Some (team.Named x)
a_team (what.Word word.TeamWorld) = Some team.World
a_team _ = None

abbrev pub is_end : What → Option (Unit {0})
is_end what.End = Some tt
is_end _ = None

-- this name
abbrev pub is_name : List ℕ → What → Option (Unit {0})
is_name x (what.Name y) = found (bytes_eq y x)
is_name x _ = None

abbrev pub a_text : What → Option (List ℕ)
a_text (what.Text x) = Some x
a_text _ = None

abbrev pub a_kind : What → Option ValueKind
a_kind (what.Word word.Integer) = Some kind.Integer
a_kind (what.Word word.Logical) = Some kind.Logical
a_kind _ = None

abbrev pub chosen_class : Bool → Bool → Bool → Option FenceClass
chosen_class true w a = Some class.Read
chosen_class false true a = Some class.Write
chosen_class false false true = Some class.Any
chosen_class false false false = None

abbrev pub a_class : What → Option FenceClass
a_class (what.Name x) = chosen_class (bytes_eq x (codes "read")) (bytes_eq x (codes "write")) (bytes_eq x (codes "any"))
a_class _ = None

abbrev pub sign' : Sign → Reader (Unit {0})
sign' s = one (is_sign s)

abbrev pub word' : Word → Reader (Unit {0})
word' w = one (is_word w)

abbrev pub end' : Reader (Unit {0})
end' = one is_end

abbrev pub named : List ℕ → Reader (Unit {0})
named x = one (is_name x)

abbrev pub in_parentheses : {A : Type 0} → Reader A → Reader A
in_parentheses p = lead (sign' sign.LeftParenthesis) (trail p (sign' sign.RightParenthesis))

abbrev pub in_brackets : {A : Type 0} → Reader A → Reader A
in_brackets p = lead (sign' sign.LeftBracket) (trail p (sign' sign.RightBracket))
