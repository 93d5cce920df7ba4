-- The reader of statements without a block, and of their parts.
use Rattle.std.specs.Prelude.{ℕ, List, Option, Some, None, Err, is_some, codes}
use Rattle.caf_lexer.specs.declared.token.What.{What}
use Rattle.caf_lexer.specs.declared.token.What.TheVariants as what
use Rattle.caf_lexer.specs.declared.token.Sign.TheVariants as sign
use Rattle.caf_lexer.specs.declared.token.Word.TheVariants as word
use Rattle.caf_tree.specs.declared.expr.Team.{Team}
use Rattle.caf_tree.specs.declared.expr.Variable.{Variable}
use Rattle.caf_tree.specs.declared.expr.Expr.{Expr}
use Rattle.caf_tree.specs.declared.stmt.Range.{Range}
use Rattle.caf_tree.specs.declared.stmt.Range.TheVariants as range'
use Rattle.caf_tree.specs.declared.stmt.Section.{Section}
use Rattle.caf_tree.specs.declared.stmt.OwnEvent.{OwnEvent}
use Rattle.caf_tree.specs.declared.stmt.Printed.{Printed}
use Rattle.caf_tree.specs.declared.stmt.Printed.TheVariants as printed'
use Rattle.caf_tree.specs.declared.stmt.Key.{Key}
use Rattle.caf_tree.specs.declared.stmt.Key.TheVariants as key'
use Rattle.caf_tree.specs.declared.stmt.FenceClass.{FenceClass}
use Rattle.caf_tree.specs.declared.stmt.Fence.{Fence}
use Rattle.caf_tree.specs.declared.stmt.Fence.TheVariants as fence'
use Rattle.caf_tree.specs.declared.stmt.Simple.{Simple}
use Rattle.caf_tree.specs.declared.stmt.Simple.TheVariants as s
use Rattle.caf_tree.specs.Forms.{or_none}
use Rattle.caf_tree.specs.Statements.{section_of, own_of, no_two, same_key, same_way}
use Rattle.caf_exprparse.specs.Reading.{Syntax, Reader, optional, many, both, make, lead, inside, either, one, by_next}
use Rattle.caf_exprparse.specs.Told.{is_sign, is_name, a_text, a_class, sign', word', named, in_parentheses}
use Rattle.caf_exprparse.specs.Reader.{name, team, subscript, place, variable, inner, expression}
use Rattle.caf_simpleparse.specs.Choices.{either_by, such, next_behind, listed, list_in, perhaps_list, second_passes}

-- ---- parts of statements

-- behind a first index
abbrev pub range_of : Expr × Option (Option Expr) → Range
range_of (i, None) = range'.Element i
range_of (i, Some j) = range'.Between (Some i) j

module _ (n : ℕ) where
  abbrev pub range_end : Reader (Option Expr)
  range_end = lead (sign' sign.Colon) (optional (expression n))

  unfoldable pub range : Reader Range
  range = either (λ w. is_some (is_sign sign.Colon w)) (make (λ j. range'.Between None j) range_end) (make range_of (both (expression n) (optional range_end)))

  unfoldable pub own : Reader OwnEvent
  own = make own_of (both name (optional (subscript (inner n))))

  unfoldable pub event : Reader (Variable Expr)
  event = variable (inner n)

  unfoldable pub printed : Reader Printed
  printed = either (λ w. is_some (a_text w)) (make printed'.Text (one a_text)) (make printed'.Value (expression n))

unfoldable pub section : ℕ → Reader Section
section n = make section_of (both (both name (optional (in_parentheses (inside range n)))) (optional (place (inner n))))

module _ (n : ℕ) where
  abbrev pub key_by : What → Reader Key
  key_by (what.Word word.Pre) = make key'.Pre (lead (word' word.Pre) (lead (sign' sign.Assign) (own n)))
  key_by (what.Word word.Srce) = make key'.Srce (lead (word' word.Srce) (lead (sign' sign.Assign) (event n)))
  key_by (what.Word word.Deste) = make key'.Deste (lead (word' word.Deste) (lead (sign' sign.Assign) (event n)))
  key_by _ = λ ts. Err Syntax

  unfoldable pub key : Reader Key
  key = by_next key_by

  unfoldable pub copy_in : Reader ((Section × Section) × List Key)
  copy_in = both (both (section n) (next_behind (section n))) (many (next_behind key))

  unfoldable pub split_in : Reader (((Team × Expr) × Expr) × List ℕ)
  split_in = both (both (both team (next_behind (expression n))) (next_behind (expression n))) (next_behind name)

  abbrev pub arguments : Reader (List Expr)
  arguments = listed (expression n)

-- behind `down` or `up`
abbrev pub fence_class : Reader FenceClass
fence_class = lead (sign' sign.Assign) (one a_class)

unfoldable pub fence : Reader Fence
fence = either (λ w. is_some (is_name (codes "down") w)) (make fence'.Down (lead (named (codes "down")) fence_class)) (make fence'.Up (lead (named (codes "up")) fence_class))

abbrev pub fences : ℕ → Reader (List Fence)
fences n = listed fence

-- each way at most once
abbrev pub fences_once : ℕ → Reader (List Fence)
fences_once n = such (no_two same_way) (list_in fences n)

-- ---- statements without a block

module _ (n : ℕ) where
  unfoldable pub assign : Reader Simple
  assign = make (λ p. s.Assign p.0 p.1) (both (variable (inner n)) (lead (sign' sign.Assign) (expression n)))

  unfoldable pub aim : Reader Simple
  aim = make (λ p. s.Aim p.0 p.1) (both name (lead (sign' sign.Arrow) (section n)))

  unfoldable pub print : Reader Simple
  print = make s.Print (lead (word' word.Print) (lead (sign' sign.Asterisk) (many (next_behind (printed n)))))

  unfoldable pub call_named : Reader Simple
  call_named = make (λ p. s.Call p.0 p.1) (both name (perhaps_list arguments n))

  unfoldable pub spawn : Reader Simple
  spawn = make (λ p. s.Spawn p.0.0.0 p.0.0.1 p.0.1 p.1)
      (lead (word' word.Spawn) (both (both (both (optional (in_parentheses (inside event n))) name) (list_in arguments n)) (place (inner n))))

  unfoldable pub notify : Reader Simple
  notify = make s.Notify (lead (word' word.EventNotify) (in_parentheses (inside event n)))

  unfoldable pub wait : Reader Simple
  wait = make s.Wait (lead (word' word.EventWait) (in_parentheses (inside own n)))

  unfoldable pub copy : Reader Simple
  copy = make (λ p. s.Copy p.0.0 p.0.1 p.1) (such (λ p. no_two same_key p.1) (lead (word' word.CopyAsync) (in_parentheses (inside copy_in n))))

  unfoldable pub cofence : Reader Simple
  cofence = make s.Cofence (lead (word' word.Cofence) (make or_none (optional (fences_once n))))

  unfoldable pub split : Reader Simple
  split = make (λ p. s.Split p.0.0.0 p.0.0.1 p.0.1 p.1) (lead (word' word.TeamSplit) (in_parentheses (inside split_in n)))

  -- behind `call`
  abbrev pub called_by : What → Reader Simple
  called_by (what.Name x) = call_named
  called_by (what.Word word.EventNotify) = notify
  called_by (what.Word word.EventWait) = wait
  called_by (what.Word word.CopyAsync) = copy
  called_by (what.Word word.TeamSplit) = split
  called_by _ = λ ts. Err Syntax

  unfoldable pub called : Reader Simple
  called = lead (word' word.Call) (by_next called_by)

  unfoldable pub assign_or_aim : Reader Simple
  assign_or_aim = either_by (second_passes (λ w. is_some (is_sign sign.Arrow w))) aim assign

  abbrev pub simple_by : What → Reader Simple
  simple_by (what.Name x) = assign_or_aim
  simple_by (what.Word word.Print) = print
  simple_by (what.Word word.Call) = called
  simple_by (what.Word word.Spawn) = spawn
  simple_by (what.Word word.EventNotify) = notify
  simple_by (what.Word word.EventWait) = wait
  simple_by (what.Word word.CopyAsync) = copy
  simple_by (what.Word word.Cofence) = cofence
  simple_by (what.Word word.TeamSplit) = split
  simple_by _ = λ ts. Err Syntax

  unfoldable pub simple : Reader Simple
  simple = by_next simple_by
