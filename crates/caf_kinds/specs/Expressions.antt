-- What an expression means in a part of the program: its kind, and the expression with slots in place of names; or the
-- first rule that it breaks, in written order.
use Rattle.std.specs.Prelude.{ℕ, ℤ, pos, Bool, true, false, ◌&&◌, List, [], ◌∷◌, map, Option, Some, None, unwrap_or, Result, Ok, Err, if◌then◌else◌, codes}
use Rattle.caf_base.specs.declared.arithmetic.BinaryOperator.{BinaryOperator}
use Rattle.caf_base.specs.declared.arithmetic.BinaryOperator.TheVariants as binary
use Rattle.caf_base.specs.declared.arithmetic.UnaryOperator.{UnaryOperator}
use Rattle.caf_base.specs.declared.arithmetic.UnaryOperator.TheVariants as unary
use Rattle.caf_tree.specs.declared.expr.Operator.{Operator}
use Rattle.caf_tree.specs.declared.expr.Operator.TheVariants as operator
use Rattle.caf_tree.specs.declared.expr.Relation.{Relation}
use Rattle.caf_tree.specs.declared.expr.Relation.TheVariants as relation
use Rattle.caf_tree.specs.declared.expr.FrontSign.{FrontSign}
use Rattle.caf_tree.specs.declared.expr.FrontSign.TheVariants as front
use Rattle.caf_tree.specs.declared.expr.Team.{Team}
use Rattle.caf_tree.specs.declared.expr.Team.TheVariants as team
use Rattle.caf_tree.specs.declared.expr.Place.{Place}
use Rattle.caf_tree.specs.declared.expr.Variable.{Variable}
use Rattle.caf_tree.specs.declared.expr.Expr.{Expr}
use Rattle.caf_tree.specs.declared.expr.Expr.TheOpen.{Expr-F}
use Rattle.caf_tree.specs.declared.expr.Expr.TheFolds.{fold-Expr}
use Rattle.caf_program.specs.declared.program.ValueKind.{ValueKind}
use Rattle.caf_program.specs.declared.program.ValueKind.TheVariants.{Integer, Logical}
use Rattle.caf_program.specs.declared.expr.TeamR.{TeamR}
use Rattle.caf_program.specs.declared.expr.TeamR.TheVariants as slot
use Rattle.caf_program.specs.declared.expr.PlaceR.{PlaceR}
use Rattle.caf_program.specs.declared.expr.ExprR.{ExprR}
use Rattle.caf_program.specs.declared.expr.ExprR.TheVariants as R
use Rattle.caf_program.specs.declared.parts.VariableR.{VariableR}
use Rattle.caf_program.specs.declared.parts.VariableR.TheVariants as V
use Rattle.caf_program.specs.Kinds.{operand_kind, result_kind}
use Rattle.caf_declare.specs.declared.fault.Rule.TheVariants as rule
use Rattle.caf_declare.specs.declared.fault.Fault.{Fault}
use Rattle.caf_declare.specs.declared.symbol.Constant.{Constant}
use Rattle.caf_declare.specs.declared.symbol.Constant.TheVariants as constant
use Rattle.caf_declare.specs.declared.symbol.Symbol.{Symbol}
use Rattle.caf_declare.specs.declared.symbol.Symbol.TheVariants as symbol
use Rattle.caf_kinds.specs.declared.scope.Scope.{Scope}
use Rattle.caf_declare.specs.Table.{Name}
use Rattle.caf_declare.specs.Names.{breaks, after}
use Rattle.caf_declare.specs.Operators.{is_kind, kind_of_constant, of_operator, of_relation, spelling, front_spelling, bare_name}
use Rattle.caf_kinds.specs.Names.{look}

-- a parameter stands for its value
abbrev pub of_constant : Constant → ExprR
of_constant (constant.Integer z) = R.Number z
of_constant (constant.Logical b) = R.Truth b

-- ---- operands

-- what an expression says: the name that it is, where it is a bare name, and its kind and what stands for it
pub record Sense : Type 0 where
  pub bare : Option Name
  pub says : Result (ValueKind × ExprR) Fault

-- what has the kind that is wanted
abbrev pub of_kind : ℕ → Name → ValueKind → ValueKind × ExprR → Result ExprR Fault
of_kind line name k t = if is_kind t.0 k then Ok t.1 else Err (breaks rule.WrongKind line name)

-- an operand has the kind that its operator wants; a fault names the operand where it is a bare name, else the operator
abbrev pub operand : ℕ → Name → ValueKind → Sense → Result ExprR Fault
operand line sign k a = after a.says (of_kind line (unwrap_or a.bare sign) k)

-- an operand of an operator
abbrev pub under : ℕ → BinaryOperator → Sense → Result ExprR Fault
under line w a = operand line (spelling w) (operand_kind w) a

-- operators with their operands, from the left: the operators of a chain take operands of one kind
abbrev pub alike : ℕ → BinaryOperator → ValueKind → Result (Unit {0}) Fault
alike line w k = if is_kind (operand_kind w) k then Ok tt else Err (breaks rule.WrongKind line (spelling w))

abbrev pub further : ℕ → ValueKind → BinaryOperator → Sense → Result ExprR Fault
further line k w a = after (alike line w k) (λ _. under line w a)

abbrev pub operands : ℕ → ValueKind → List (Operator × Sense) → Result (List (BinaryOperator × ExprR)) Fault
operands line k [] = Ok []
operands line k (p ∷ others) =
    after (further line k (of_operator p.0) p.1) (λ e. after (operands line k others) (λ more. Ok ((of_operator p.0, e) ∷ more)))

-- operands of one operator that stands once for all of them
abbrev pub listed : ℕ → BinaryOperator → List Sense → Result (List (BinaryOperator × ExprR)) Fault
listed line w [] = Ok []
listed line w (a ∷ others) = after (under line w a) (λ e. after (listed line w others) (λ more. Ok ((w, e) ∷ more)))

-- the operand before those of a chain: it has the kind that the operator behind it wants
abbrev pub leading : ℕ → BinaryOperator → Sense → Result (ValueKind × ExprR) Fault
leading line w a = after (under line w a) (λ e. Ok (result_kind w, e))

abbrev pub first_meant : ℕ → Sense → List (Operator × Sense) → Result (ValueKind × ExprR) Fault
first_meant line a [] = a.says
first_meant line a (p ∷ others) = leading line (of_operator p.0) a

-- a chain of operators of one level
abbrev pub chain : ℕ → Sense → List (Operator × Sense) → Result (ValueKind × ExprR) Fault
chain line a others = after (first_meant line a others) (λ t. after (operands line t.0 others) (λ more. Ok (t.0, R.Chain t.1 more)))

-- an operator with two operands
abbrev pub pair : ℕ → BinaryOperator → Sense → Sense → Result (ValueKind × ExprR) Fault
pair line w a b = after (leading line w a) (λ t. after (under line w b) (λ e. Ok (t.0, R.Chain t.1 ((w, e) ∷ []))))

-- an operator with two operands or more
abbrev pub some : ℕ → BinaryOperator → Sense → Sense → List Sense → Result (ValueKind × ExprR) Fault
some line w a b others = after (leading line w a) (λ t. after (under line w b) (λ e. after (listed line w others) (λ more. Ok (t.0, R.Chain t.1 ((w, e) ∷ more)))))

-- ---- teams, places and variables

-- a team is `team_world`, or a name that names a team
abbrev pub of_team : ℕ → Name → Option Symbol → Result TeamR Fault
of_team line name None = Err (breaks rule.Undeclared line name)
of_team line name (Some (symbol.Team o)) = Ok (slot.Object o)
of_team line name (Some _) = Err (breaks rule.WrongKind line name)

abbrev pub team_meant : Scope → ℕ → Team → Result TeamR Fault
team_meant scope line team.World = Ok slot.World
team_meant scope line (team.Named name) = of_team line name (look scope name)

-- a rank is an integer
abbrev pub place_meant : Scope → ℕ → Name → Place Sense → Result (PlaceR ExprR) Fault
place_meant scope line name p = after (operand line name Integer p.rank) (λ r. after (team_meant scope line p.team) (λ t. Ok (record { rank = r; team = t })))

-- a place stands on coarrays only
abbrev pub coarray : ℕ → Name → Bool → Result (Unit {0}) Fault
coarray line name true = Ok tt
coarray line name false = Err (breaks rule.NotCoarray line name)

-- a scalar has no subscript
abbrev pub scalar_as : Scope → ℕ → Name → ValueKind → ℕ → Bool → Option Sense → Option (Place Sense) → Result (ValueKind × VariableR) Fault
scalar_as scope line name k o shared None None = Ok (k, V.Scalar o)
scalar_as scope line name k o shared None (Some p) =
    after (coarray line name shared) (λ _. after (place_meant scope line name p) (λ q. Ok (k, V.Coindexed o (R.Number (pos 1)) q)))
scalar_as scope line name k o shared (Some i) p = Err (breaks rule.WrongKind line name)

-- an array has one
abbrev pub array_as : Scope → ℕ → Name → ValueKind → ℕ → Bool → Option Sense → Option (Place Sense) → Result (ValueKind × VariableR) Fault
array_as scope line name k o shared None p = Err (breaks rule.WrongKind line name)
array_as scope line name k o shared (Some i) None = after (operand line name Integer i) (λ x. Ok (k, V.Element o x))
array_as scope line name k o shared (Some i) (Some p) =
    after (operand line name Integer i) (λ x. after (coarray line name shared) (λ _. after (place_meant scope line name p) (λ q. Ok (k, V.Coindexed o x q))))

-- a copointer has one, and no place
abbrev pub element_pointed : ℕ → Name → ValueKind → ℕ → ExprR → Option (Place Sense) → Result (ValueKind × VariableR) Fault
element_pointed line name k c x None = Ok (k, V.Pointed c x)
element_pointed line name k c x (Some p) = Err (breaks rule.WrongKind line name)

abbrev pub pointed_as : ℕ → Name → ValueKind → ℕ → Option Sense → Option (Place Sense) → Result (ValueKind × VariableR) Fault
pointed_as line name k c None p = Err (breaks rule.WrongKind line name)
pointed_as line name k c (Some i) p = after (operand line name Integer i) (λ x. element_pointed line name k c x p)

-- a dummy or local is a scalar and no coarray
abbrev pub local_as : ℕ → Name → ValueKind → ℕ → Option Sense → Option (Place Sense) → Result (ValueKind × VariableR) Fault
local_as line name k c None None = Ok (k, V.Local c)
local_as line name k c None (Some p) = Err (breaks rule.NotCoarray line name)
local_as line name k c (Some i) p = Err (breaks rule.WrongKind line name)

-- a parameter isn't written, and is no coarray
abbrev pub parameter_as : ℕ → Name → Option Sense → Option (Place Sense) → Result (ValueKind × VariableR) Fault
parameter_as line name None None = Err (breaks rule.ReadOnly line name)
parameter_as line name None (Some p) = Err (breaks rule.NotCoarray line name)
parameter_as line name (Some i) p = Err (breaks rule.WrongKind line name)

-- a variable that is no parameter
abbrev pub variable_as : Scope → ℕ → Name → Option Symbol → Option Sense → Option (Place Sense) → Result (ValueKind × VariableR) Fault
variable_as scope line name None i p = Err (breaks rule.Undeclared line name)
variable_as scope line name (Some (symbol.Scalar k o shared)) i p = scalar_as scope line name k o shared i p
variable_as scope line name (Some (symbol.Array k o shared)) i p = array_as scope line name k o shared i p
variable_as scope line name (Some (symbol.Copointer k c)) i p = pointed_as line name k c i p
variable_as scope line name (Some (symbol.Local k c writable)) i p = local_as line name k c i p
variable_as scope line name (Some (symbol.Constant c)) i p = parameter_as line name i p
variable_as scope line name (Some _) i p = Err (breaks rule.WrongKind line name)

-- the value of a variable
abbrev pub of_variable : VariableR → ExprR
of_variable (V.Scalar o) = R.Scalar o
of_variable (V.Local c) = R.Local c
of_variable (V.Element o i) = R.Element o i
of_variable (V.Coindexed o i p) = R.Coindexed o i p
of_variable (V.Pointed c i) = R.Pointed c i

abbrev pub value_of_variable : ValueKind × VariableR → Result (ValueKind × ExprR) Fault
value_of_variable t = Ok (t.0, of_variable t.1)

-- a name in an expression: a parameter, or a variable
abbrev pub value_as : Scope → ℕ → Name → Option Symbol → Option Sense → Option (Place Sense) → Result (ValueKind × ExprR) Fault
value_as scope line name (Some (symbol.Constant c)) None None = Ok (kind_of_constant c, of_constant c)
value_as scope line name s i p = after (variable_as scope line name s i p) value_of_variable

-- ---- expressions

abbrev pub unary_of : UnaryOperator → ValueKind → ExprR → Result (ValueKind × ExprR) Fault
unary_of w k e = Ok (k, R.Unary w e)

-- a front `+` leaves no trace
abbrev pub signed : FrontSign → ExprR → Result (ValueKind × ExprR) Fault
signed front.Plus e = Ok (Integer, e)
signed front.Minus e = unary_of unary.Negate Integer e

abbrev pub says_layer : Scope → ℕ → Expr-F Sense → Result (ValueKind × ExprR) Fault
says_layer scope line (Expr-F.Number n) = Ok (Integer, R.Number n)
says_layer scope line (Expr-F.Truth b) = Ok (Logical, R.Truth b)
says_layer scope line (Expr-F.Parenthesized a) = a.says
says_layer scope line (Expr-F.Variable v) = value_as scope line v.name (look scope v.name) v.subscript v.place
says_layer scope line (Expr-F.Mod a b) = pair line binary.Modulo a b
says_layer scope line (Expr-F.Abs a) = after (operand line (codes "abs") Integer a) (unary_of unary.Absolute Integer)
says_layer scope line (Expr-F.Min a b others) = some line binary.Minimum a b others
says_layer scope line (Expr-F.Max a b others) = some line binary.Maximum a b others
says_layer scope line (Expr-F.TeamRank t) = after (team_meant scope line t) (λ x. Ok (Integer, R.Rank x))
says_layer scope line (Expr-F.TeamSize t) = after (team_meant scope line t) (λ x. Ok (Integer, R.Size x))
says_layer scope line (Expr-F.Signed sign a) = after (operand line (front_spelling sign) Integer a) (signed sign)
says_layer scope line (Expr-F.Chain a others) = chain line a others
says_layer scope line (Expr-F.Compare a r b) = pair line (of_relation r) a b
says_layer scope line (Expr-F.Not a) = after (operand line (codes ".not.") Logical a) (unary_of unary.Not Logical)

abbrev pub bare_layer : Expr-F Sense → Option Name
bare_layer (Expr-F.Variable v) = bare_name v.name v.subscript v.place
bare_layer e = None

abbrev pub layer : Scope → ℕ → Expr-F Sense → Sense
layer scope line e = record { bare = bare_layer e; says = says_layer scope line e }

-- what an expression of a statement on a line says
abbrev pub sense : Scope → ℕ → Expr → Sense
sense scope line = fold-Expr Sense (layer scope line)

-- what the parts of a variable say
abbrev pub if_said : Scope → ℕ → Option Expr → Option Sense
if_said scope line None = None
if_said scope line (Some e) = Some (sense scope line e)

abbrev pub place_said : Scope → ℕ → Option (Place Expr) → Option (Place Sense)
place_said scope line None = None
place_said scope line (Some p) = Some (record { rank = sense scope line p.rank; team = p.team })
