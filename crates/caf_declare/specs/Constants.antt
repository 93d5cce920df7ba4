-- The values of parameters and bounds: made of numbers, truth values, earlier parameters, parentheses and operators, with
-- a value and no trap. A fault of the value names the declared item.
use Rattle.std.specs.Prelude.{ℕ, ℤ, List, [], ◌∷◌, Option, Some, None, is_some, unwrap_or, Result, Ok, Err, if◌then◌else◌, codes}
use Rattle.caf_base.specs.declared.arithmetic.BinaryOperator.{BinaryOperator}
use Rattle.caf_base.specs.declared.arithmetic.UnaryOperator.TheVariants as unary
use Rattle.caf_base.specs.Arithmetic.{Answer, of_one, of_two, truth_of, is_true}
use Rattle.caf_tree.specs.declared.expr.Operator.{Operator}
use Rattle.caf_tree.specs.declared.expr.FrontSign.{FrontSign}
use Rattle.caf_tree.specs.declared.expr.FrontSign.TheVariants as front
use Rattle.caf_tree.specs.declared.expr.Place.{Place}
use Rattle.caf_tree.specs.declared.expr.Expr.{Expr}
use Rattle.caf_tree.specs.declared.expr.Expr.TheOpen.{Expr-F}
use Rattle.caf_tree.specs.declared.expr.Expr.TheFolds.{fold-Expr}
use Rattle.caf_program.specs.declared.program.ValueKind.{ValueKind}
use Rattle.caf_program.specs.declared.program.ValueKind.TheVariants.{Integer, Logical}
use Rattle.caf_program.specs.Kinds.{operand_kind, result_kind}
use Rattle.caf_declare.specs.declared.fault.Rule.TheVariants as rule
use Rattle.caf_declare.specs.declared.fault.Fault.{Fault}
use Rattle.caf_declare.specs.declared.symbol.Constant.{Constant}
use Rattle.caf_declare.specs.declared.symbol.Constant.TheVariants as constant
use Rattle.caf_declare.specs.declared.symbol.Symbol.{Symbol}
use Rattle.caf_declare.specs.declared.symbol.Symbol.TheVariants as symbol
use Rattle.caf_declare.specs.declared.symbol.Taken.{Taken}
use Rattle.caf_declare.specs.declared.constant.Declaring.{Declaring}
use Rattle.caf_declare.specs.Table.{Name, Names, found}
use Rattle.caf_declare.specs.Names.{breaks, after, otherwise}
use Rattle.caf_declare.specs.Operators.{is_kind, kind_of_constant, of_operator, of_relation, spelling, front_spelling, bare_name}

-- what names stand for while a part is declared
abbrev pub Known : Type 0
Known = Name → Option Symbol

-- the names that a part declares, each with what it says of a dummy
abbrev pub Heads : Type 0
Heads = List (Name × Option Taken)

-- a name is one that the part declared so far, or one of the main program that no name of the part hides
abbrev pub known : Names → Heads → Names → Known
known own heads main name = otherwise (found own name) (if is_some (found heads name) then None else found main name)

abbrev pub known_in : Declaring → Known
known_in d = known d.own.now d.heads.now d.main.now

-- what an expression is worth: the name that it is, where it is a bare name, and its value
pub record Worth : Type 0 where
  pub bare : Option Name
  pub worth : Result Constant Fault

-- a value as a number: 1 and 0 stand for the truth values
abbrev pub number_of : Constant → ℤ
number_of (constant.Integer z) = z
number_of (constant.Logical b) = truth_of b

abbrev pub constant_of : ValueKind → ℤ → Constant
constant_of Integer z = constant.Integer z
constant_of Logical z = constant.Logical (is_true z)

-- a value without a trap
abbrev pub untrapped : ℕ → Name → ValueKind → Answer → Result Constant Fault
untrapped line item k (Ok z) = Ok (constant_of k z)
untrapped line item k (Err trap) = Err (breaks rule.BadConstant line item)

-- an operand has the kind that its operator wants
abbrev pub constant_kind : ℕ → Name → ValueKind → Constant → Result Constant Fault
constant_kind line name k c = if is_kind (kind_of_constant c) k then Ok c else Err (breaks rule.WrongKind line name)

abbrev pub constant_operand : ℕ → Name → ValueKind → Worth → Result Constant Fault
constant_operand line sign k a = after a.worth (constant_kind line (unwrap_or a.bare sign) k)

-- an operand of an operator
abbrev pub under_worth : ℕ → BinaryOperator → Worth → Result Constant Fault
under_worth line w a = constant_operand line (spelling w) (operand_kind w) a

-- what an operator gives
abbrev pub applied : ℕ → Name → BinaryOperator → Constant → Constant → Result Constant Fault
applied line item w c d = untrapped line item (result_kind w) (of_two w (number_of c) (number_of d))

-- the values of operators with their operands, from the left
abbrev pub one_more_worth : ℕ → Name → BinaryOperator → Constant → Worth → Result Constant Fault
one_more_worth line item w c a = after (constant_kind line (spelling w) (operand_kind w) c) (λ first. after (under_worth line w a) (λ second. applied line item w first second))

abbrev pub chained : ℕ → Name → Constant → List (Operator × Worth) → Result Constant Fault
chained line item c [] = Ok c
chained line item c (p ∷ others) = after (one_more_worth line item (of_operator p.0) c p.1) (λ d. chained line item d others)

abbrev pub first_worth : ℕ → Worth → List (Operator × Worth) → Result Constant Fault
first_worth line a [] = a.worth
first_worth line a (p ∷ others) = under_worth line (of_operator p.0) a

abbrev pub compared : ℕ → Name → BinaryOperator → Worth → Worth → Result Constant Fault
compared line item w a b = after (under_worth line w a) (λ c. after (under_worth line w b) (λ d. applied line item w c d))

abbrev pub signed_worth : ℕ → Name → FrontSign → Constant → Result Constant Fault
signed_worth line item front.Plus c = Ok c
signed_worth line item front.Minus c = untrapped line item Integer (of_one unary.Negate (number_of c))

-- a name is that of an earlier parameter
abbrev pub earlier : ℕ → Name → Option Symbol → Result Constant Fault
earlier line item (Some (symbol.Constant c)) = Ok c
earlier line item s = Err (breaks rule.BadConstant line item)

abbrev pub named_worth : Known → ℕ → Name → Name → Option Worth → Option (Place Worth) → Result Constant Fault
named_worth names line item name None None = earlier line item (names name)
named_worth names line item name i p = Err (breaks rule.BadConstant line item)

abbrev pub worth_layer : Known → ℕ → Name → Expr-F Worth → Result Constant Fault
worth_layer names line item (Expr-F.Number n) = Ok (constant.Integer n)
worth_layer names line item (Expr-F.Truth b) = Ok (constant.Logical b)
worth_layer names line item (Expr-F.Parenthesized a) = a.worth
worth_layer names line item (Expr-F.Variable v) = named_worth names line item v.name v.subscript v.place
worth_layer names line item (Expr-F.Signed sign a) = after (constant_operand line (front_spelling sign) Integer a) (signed_worth line item sign)
worth_layer names line item (Expr-F.Chain a others) = after (first_worth line a others) (λ c. chained line item c others)
worth_layer names line item (Expr-F.Compare a r b) = compared line item (of_relation r) a b
worth_layer names line item (Expr-F.Not a) = after (constant_operand line (codes ".not.") Logical a) (λ c. untrapped line item Logical (of_one unary.Not (number_of c)))
worth_layer names line item e = Err (breaks rule.BadConstant line item)

abbrev pub worth_bare : Expr-F Worth → Option Name
worth_bare (Expr-F.Variable v) = bare_name v.name v.subscript v.place
worth_bare e = None

-- the value of an expression in the declaration of an item on a line
abbrev pub worth_of : Known → ℕ → Name → Expr → Worth
worth_of names line item = fold-Expr Worth (λ e. record { bare = worth_bare e; worth = worth_layer names line item e })

-- the value has the kind that is wanted; a fault names a bare name, else the item
abbrev pub value_of : Known → ℕ → Name → ValueKind → Expr → Result Constant Fault
value_of names line item k e = constant_operand line item k (worth_of names line item e)
