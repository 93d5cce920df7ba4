-- The tokens that a unit is printed with, line by line.
use Rattle.std.specs.Prelude.{◌≡◌, ℕ, ◌+◌, min, Bool, true, false, List, [], ◌∷◌, ◌++◌, Option, Some, None, codes}
use Rattle.std.specs.List.{flat_map}
use Rattle.caf_lexer.specs.declared.token.What.{What}
use Rattle.caf_lexer.specs.declared.token.What.TheVariants as what
use Rattle.caf_lexer.specs.declared.token.Sign.{Sign}
use Rattle.caf_lexer.specs.declared.token.Sign.TheVariants as sign
use Rattle.caf_lexer.specs.declared.token.Word.{Word}
use Rattle.caf_lexer.specs.declared.token.Word.TheVariants as word
use Rattle.caf_tree.specs.declared.expr.Operator.{Operator}
use Rattle.caf_tree.specs.declared.expr.Team.{Team}
use Rattle.caf_tree.specs.declared.expr.Team.TheVariants as team
use Rattle.caf_tree.specs.declared.expr.Place.{Place}
use Rattle.caf_tree.specs.declared.expr.Variable.{Variable}
use Rattle.caf_tree.specs.declared.expr.Expr.{Expr}
use Rattle.caf_tree.specs.declared.expr.Expr.TheOpen.{Expr-F}
use Rattle.caf_tree.specs.declared.expr.Expr.TheFolds.{fold-Expr}
use Rattle.caf_tree.specs.declared.stmt.Range.{Range}
use Rattle.caf_tree.specs.declared.stmt.Range.TheVariants as range
use Rattle.caf_tree.specs.declared.stmt.Section.{Section}
use Rattle.caf_tree.specs.declared.stmt.OwnEvent.{OwnEvent}
use Rattle.caf_tree.specs.declared.stmt.Printed.{Printed}
use Rattle.caf_tree.specs.declared.stmt.Printed.TheVariants as printed
use Rattle.caf_tree.specs.declared.stmt.Key.{Key}
use Rattle.caf_tree.specs.declared.stmt.Key.TheVariants as key
use Rattle.caf_tree.specs.declared.stmt.FenceClass.{FenceClass}
use Rattle.caf_tree.specs.declared.stmt.Fence.{Fence}
use Rattle.caf_tree.specs.declared.stmt.Fence.TheVariants as fence
use Rattle.caf_tree.specs.declared.stmt.Simple.{Simple}
use Rattle.caf_tree.specs.declared.stmt.Simple.TheVariants as s
use Rattle.caf_tree.specs.declared.stmt.Stmt.{Stmt}
use Rattle.caf_tree.specs.declared.stmt.Stmt.TheOpen.{Stmt-F}
use Rattle.caf_tree.specs.declared.stmt.Stmt.TheFolds.{fold-Stmt}
use Rattle.caf_tree.specs.declared.unit.ValueKind.{ValueKind}
use Rattle.caf_tree.specs.declared.unit.Intent.{Intent}
use Rattle.caf_tree.specs.declared.unit.Intent.TheVariants as intent
use Rattle.caf_tree.specs.declared.unit.Bounds.{Bounds}
use Rattle.caf_tree.specs.declared.unit.Item.{Item}
use Rattle.caf_tree.specs.declared.unit.Decl.{Decl}
use Rattle.caf_tree.specs.declared.unit.Decl.TheVariants as decl
use Rattle.caf_tree.specs.declared.unit.Sub.{Sub}
use Rattle.caf_tree.specs.declared.unit.Unit.{Unit as Program}
use Rattle.caf_tree.specs.Expressions.{operator_sign, relation_sign, front_sign, truth_sign, team_what}
use Rattle.caf_tree.specs.Statements.{class_name}
use Rattle.caf_tree.specs.Units.{kind_word}

abbrev pub Said : Type 0
Said = List What

abbrev pub of_word : Word → Said
of_word w = what.Word w ∷ []

abbrev pub of_sign : Sign → Said
of_sign s = what.Sign s ∷ []

abbrev pub of_name : List ℕ → Said
of_name x = what.Name x ∷ []

-- nothing, or what a function says
abbrev pub if_any : {A : Type 0} → (A → Said) → Option A → Said
if_any f None = []
if_any f (Some x) = f x

-- a sign in front of each
abbrev pub each_after : {A : Type 0} → Sign → (A → Said) → List A → Said
each_after s f items = flat_map (λ x. what.Sign s ∷ f x) items

-- commas between
abbrev pub listed : {A : Type 0} → (A → Said) → List A → Said
listed f [] = []
listed f (x ∷ others) = f x ++ each_after sign.Comma f others

abbrev pub in_parentheses : Said → Said
in_parentheses inner = what.Sign sign.LeftParenthesis ∷ inner ++ of_sign sign.RightParenthesis

abbrev pub in_brackets : Said → Said
in_brackets inner = what.Sign sign.LeftBracket ∷ inner ++ of_sign sign.RightBracket

-- a list within parentheses, or nothing where it is empty
abbrev pub perhaps_list : {A : Type 0} → (A → Said) → List A → Said
perhaps_list f [] = []
perhaps_list f (x ∷ others) = in_parentheses (listed f (x ∷ others))

-- ---- expressions

-- `team_world` isn't printed where a team may be missing
abbrev pub team_after : Said → Team → Said
team_after lead team.World = []
team_after lead (team.Named x) = lead ++ of_name x

abbrev pub finish_team : Team → Said
finish_team team.World = []
finish_team (team.Named x) = in_parentheses (of_name x)

abbrev pub place_said : {A : Type 0} → (A → Said) → Place A → Said
place_said f p = in_brackets (f p.rank ++ team_after (of_sign sign.At) p.team)

abbrev pub variable_said : {A : Type 0} → (A → Said) → Variable A → Said
variable_said f v = of_name v.name ++ if_any (λ i. in_parentheses (f i)) v.subscript ++ if_any (place_said f) v.place

abbrev pub two_or_more : Said → Said → List Said → Said
two_or_more a b others = in_parentheses (listed (λ (e : Said). e) (a ∷ b ∷ others))

abbrev pub expression_layer : Expr-F Said → Said
expression_layer (Expr-F.Number n) = what.Number n ∷ []
expression_layer (Expr-F.Truth b) = of_sign (truth_sign b)
expression_layer (Expr-F.Parenthesized e) = in_parentheses e
expression_layer (Expr-F.Variable v) = variable_said (λ (e : Said). e) v
expression_layer (Expr-F.Mod a b) = what.Word word.Mod ∷ two_or_more a b []
expression_layer (Expr-F.Abs a) = what.Word word.Abs ∷ in_parentheses a
expression_layer (Expr-F.Min a b others) = what.Word word.Min ∷ two_or_more a b others
expression_layer (Expr-F.Max a b others) = what.Word word.Max ∷ two_or_more a b others
expression_layer (Expr-F.TeamRank t) = what.Word word.TeamRank ∷ in_parentheses (team_after [] t)
expression_layer (Expr-F.TeamSize t) = what.Word word.TeamSize ∷ in_parentheses (team_after [] t)
expression_layer (Expr-F.Signed s e) = what.Sign (front_sign s) ∷ e
expression_layer (Expr-F.Chain first more) = first ++ flat_map (λ (p : Operator × Said). what.Sign (operator_sign p.0) ∷ p.1) more
expression_layer (Expr-F.Compare a r b) = a ++ what.Sign (relation_sign r) ∷ b
expression_layer (Expr-F.Not e) = what.Sign sign.Not ∷ e

abbrev pub expression_said : Expr → Said
expression_said = fold-Expr Said expression_layer

-- ---- statements without a block

abbrev pub range_said : Range → Said
range_said range.Whole = []
range_said (range.Element i) = in_parentheses (expression_said i)
range_said (range.Between i j) = in_parentheses (if_any expression_said i ++ what.Sign sign.Colon ∷ if_any expression_said j)

abbrev pub section_said : Section → Said
section_said c = of_name c.name ++ range_said c.range ++ if_any (place_said expression_said) c.place

abbrev pub own_said : OwnEvent → Said
own_said v = of_name v.name ++ if_any (λ i. in_parentheses (expression_said i)) v.subscript

abbrev pub event_said : Variable Expr → Said
event_said v = variable_said expression_said v

abbrev pub key_said : Key → Said
key_said (key.Pre v) = what.Word word.Pre ∷ what.Sign sign.Assign ∷ own_said v
key_said (key.Srce v) = what.Word word.Srce ∷ what.Sign sign.Assign ∷ event_said v
key_said (key.Deste v) = what.Word word.Deste ∷ what.Sign sign.Assign ∷ event_said v

abbrev pub fence_said : Fence → Said
fence_said (fence.Down c) = what.Name (codes "down") ∷ what.Sign sign.Assign ∷ of_name (class_name c)
fence_said (fence.Up c) = what.Name (codes "up") ∷ what.Sign sign.Assign ∷ of_name (class_name c)

abbrev pub printed_said : Printed → Said
printed_said (printed.Value e) = expression_said e
printed_said (printed.Text t) = what.Text t ∷ []

abbrev pub comma : Said → Said
comma said = what.Sign sign.Comma ∷ said

abbrev pub simple_said : Simple → Said
simple_said (s.Assign v e) = event_said v ++ what.Sign sign.Assign ∷ expression_said e
simple_said (s.Aim x c) = what.Name x ∷ what.Sign sign.Arrow ∷ section_said c
simple_said (s.Print items) = what.Word word.Print ∷ what.Sign sign.Asterisk ∷ each_after sign.Comma printed_said items
simple_said (s.Call f arguments) = what.Word word.Call ∷ what.Name f ∷ perhaps_list expression_said arguments
simple_said (s.Spawn done f arguments p) =
    what.Word word.Spawn ∷ if_any (λ v. in_parentheses (event_said v)) done ++ what.Name f ∷ in_parentheses (listed expression_said arguments) ++ place_said expression_said p
simple_said (s.Notify v) = what.Word word.EventNotify ∷ in_parentheses (event_said v)
simple_said (s.Wait v) = what.Word word.EventWait ∷ in_parentheses (own_said v)
simple_said (s.Copy dest source keys) = what.Word word.CopyAsync ∷ in_parentheses (section_said dest ++ comma (section_said source) ++ each_after sign.Comma key_said keys)
simple_said (s.Cofence fences) = what.Word word.Cofence ∷ perhaps_list fence_said fences
simple_said (s.Split t colour key new) =
    what.Word word.TeamSplit ∷ in_parentheses (team_what t ∷ comma (expression_said colour) ++ comma (expression_said key) ++ comma (of_name new))

-- ---- lines

-- a line: how many blanks stand in front of it, and its tokens
abbrev pub SaidLine : Type 0
SaidLine = ℕ × Said

-- the indent of one level more: two blanks, and at most 40 in all
abbrev pub deeper : ℕ → ℕ
deeper indent = min (indent + 2) 40

-- A statement at some indent: the tokens of its first line, the lines behind it, and whether it is an `if` with a block.
pub record Shown : Type 0 where
  pub first : Said
  pub others : ℕ → List SaidLine
  pub is_branching : Bool

abbrev pub lines_at : ℕ → Shown → List SaidLine
lines_at indent s = (indent, s.first) ∷ s.others indent

abbrev pub block_at : ℕ → List Shown → List SaidLine
block_at indent block = flat_map (lines_at indent) block

abbrev pub on_one_line : Said → Shown
on_one_line said = record { first = said; others = λ _. []; is_branching = false }

abbrev pub end_said : Word → Said
end_said w = what.Word word.End ∷ what.Word w ∷ []

-- a block that a line begins and another ends
abbrev pub with_block : Said → Word → List Shown → Shown
with_block said w body = record { first = said; others = λ indent. block_at (deeper indent) body ++ (indent, end_said w) ∷ []; is_branching = false }

-- An `if` with a block that is the whole else part is an `else if`, whose lines end the statement.
abbrev pub else_one : ℕ → Shown → Bool → List SaidLine
else_one indent one true = (indent, what.Word word.Else ∷ one.first) ∷ one.others indent
else_one indent one false = (indent, of_word word.Else) ∷ lines_at (deeper indent) one ++ (indent, end_said word.If) ∷ []

abbrev pub else_lines : ℕ → List Shown → List SaidLine
else_lines indent [] = (indent, end_said word.If) ∷ []
else_lines indent (one ∷ []) = else_one indent one one.is_branching
else_lines indent (one ∷ second ∷ more) = (indent, of_word word.Else) ∷ block_at (deeper indent) (one ∷ second ∷ more) ++ (indent, end_said word.If) ∷ []

abbrev pub condition_said : Expr → Said
condition_said e = in_parentheses (expression_said e)

abbrev pub statement_layer : Stmt-F Shown → Shown
statement_layer (Stmt-F.Simple line a) = on_one_line (simple_said a)
statement_layer (Stmt-F.IfLine line e inner a) = on_one_line (what.Word word.If ∷ condition_said e ++ simple_said a)
statement_layer (Stmt-F.If line e block otherwise) = record {
  first = what.Word word.If ∷ condition_said e ++ of_word word.Then;
  others = λ indent. block_at (deeper indent) block ++ else_lines indent otherwise;
  is_branching = true;
}
statement_layer (Stmt-F.Do line v first last step body) =
    with_block (what.Word word.Do ∷ what.Name v ∷ what.Sign sign.Assign ∷ expression_said first ++ comma (expression_said last) ++ if_any (λ e. comma (expression_said e)) step) word.Do body
statement_layer (Stmt-F.While line e body) = with_block (what.Word word.Do ∷ what.Word word.While ∷ condition_said e) word.Do body
statement_layer (Stmt-F.Finish line t body) = with_block (what.Word word.Finish ∷ finish_team t) word.Finish body

abbrev pub shown : Stmt → Shown
shown = fold-Stmt Shown statement_layer

abbrev pub statements_said : ℕ → List Stmt → List SaidLine
statements_said indent body = flat_map (λ (st : Stmt). lines_at indent (shown st)) body

-- ---- declarations and units

abbrev pub bounds_said : Bounds → Said
bounds_said b = in_parentheses (if_any (λ e. expression_said e ++ of_sign sign.Colon) b.lower ++ expression_said b.upper)

abbrev pub shared_said : Bool → Said
shared_said true = in_brackets (of_sign sign.Asterisk)
shared_said false = []

abbrev pub item_said : Item → Said
item_said i = of_name i.name ++ if_any bounds_said i.bounds ++ shared_said i.shared

abbrev pub intent_word : Intent → Word
intent_word intent.In = word.In
intent_word intent.InOut = word.InOut

-- a kind, what stands behind it, and `::`
abbrev pub kind_said : ValueKind → Said → Said
kind_said k said = what.Word (kind_word k) ∷ said ++ of_sign sign.DoubleColon

-- a parameter and its value
abbrev pub value_said : List ℕ × Expr → Said
value_said p = what.Name p.0 ∷ what.Sign sign.Assign ∷ expression_said p.1

abbrev pub pointer_said : List ℕ → Said
pointer_said x = what.Name x ∷ in_parentheses (of_sign sign.Colon)

abbrev pub declaration_said : Decl → Said
declaration_said (decl.Parameters line k values) = kind_said k (comma (of_word word.Parameter)) ++ listed value_said values
declaration_said (decl.Copointers line k names) = kind_said k (comma (of_word word.Copointer)) ++ listed pointer_said names
declaration_said (decl.Dummies line k i names) = kind_said k (comma (what.Word word.Intent ∷ in_parentheses (of_word (intent_word i)))) ++ listed of_name names
declaration_said (decl.Variables line k items) = kind_said k [] ++ listed item_said items
declaration_said (decl.Events line items) = what.Word word.Event ∷ what.Sign sign.DoubleColon ∷ listed item_said items
declaration_said (decl.Teams line names) = what.Word word.Team ∷ what.Sign sign.DoubleColon ∷ listed of_name names

abbrev pub body_said : ℕ → List Decl → List Stmt → List SaidLine
body_said indent declarations body = flat_map (λ (d : Decl). (indent, declaration_said d) ∷ []) declarations ++ statements_said indent body

abbrev pub sub_said : Sub → List SaidLine
sub_said f = (deeper 0, what.Word word.Subroutine ∷ what.Name f.name ∷ perhaps_list of_name f.dummies) ∷ body_said (deeper (deeper 0)) f.declarations f.body ++ (deeper 0, end_said word.Subroutine) ∷ []

abbrev pub subs_said : List Sub → List SaidLine
subs_said [] = []
subs_said (f ∷ others) = (0, of_word word.Contains) ∷ flat_map sub_said (f ∷ others)

-- the lines of a unit
abbrev pub unit_said : Program → List SaidLine
unit_said u = (0, what.Word word.Program ∷ of_name u.name) ∷ body_said (deeper 0) u.declarations u.body ++ subs_said u.subs ++ (0, end_said word.Program) ∷ []

-- The tokens of a unit, with the ends of its statements. They spell it, up to the lines.
abbrev pub unit_tokens : Program → Said
unit_tokens u = flat_map (λ (l : SaidLine). l.1 ++ what.End ∷ []) (unit_said u)
