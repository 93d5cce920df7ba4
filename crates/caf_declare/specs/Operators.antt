-- Operators as they are written, their spellings, and kinds.
use Rattle.std.specs.Prelude.{Bool, true, false, Option, Some, None, codes}
use Rattle.caf_base.specs.declared.arithmetic.BinaryOperator.{BinaryOperator}
use Rattle.caf_base.specs.declared.arithmetic.BinaryOperator.TheVariants as binary
use Rattle.caf_tree.specs.declared.expr.Operator.{Operator}
use Rattle.caf_tree.specs.declared.expr.Operator.TheVariants as operator
use Rattle.caf_tree.specs.declared.expr.Relation.{Relation}
use Rattle.caf_tree.specs.declared.expr.Relation.TheVariants as relation
use Rattle.caf_tree.specs.declared.expr.FrontSign.{FrontSign}
use Rattle.caf_tree.specs.declared.expr.FrontSign.TheVariants as front
use Rattle.caf_tree.specs.declared.expr.Place.{Place}
use Rattle.caf_tree.specs.declared.unit.ValueKind.{ValueKind as Written}
use Rattle.caf_tree.specs.declared.unit.ValueKind.TheVariants as written
use Rattle.caf_program.specs.declared.program.ValueKind.{ValueKind}
use Rattle.caf_program.specs.declared.program.ValueKind.TheVariants.{Integer, Logical}
use Rattle.caf_declare.specs.declared.symbol.Constant.{Constant}
use Rattle.caf_declare.specs.declared.symbol.Constant.TheVariants as constant
use Rattle.caf_declare.specs.Table.{Name}

-- whether two kinds are one
abbrev pub is_kind : ValueKind → ValueKind → Bool
is_kind Integer Integer = true
is_kind Logical Logical = true
is_kind _ _ = false

abbrev pub kind_meant : Written → ValueKind
kind_meant written.Integer = Integer
kind_meant written.Logical = Logical

abbrev pub kind_of_constant : Constant → ValueKind
kind_of_constant (constant.Integer z) = Integer
kind_of_constant (constant.Logical b) = Logical

abbrev pub of_operator : Operator → BinaryOperator
of_operator operator.Multiply = binary.Multiply
of_operator operator.Divide = binary.Divide
of_operator operator.Add = binary.Add
of_operator operator.Subtract = binary.Subtract
of_operator operator.And = binary.And
of_operator operator.Or = binary.Or
of_operator operator.Equivalent = binary.Equivalent
of_operator operator.NotEquivalent = binary.NotEquivalent

abbrev pub of_relation : Relation → BinaryOperator
of_relation relation.Equal = binary.Equal
of_relation relation.NotEqual = binary.NotEqual
of_relation relation.Less = binary.Less
of_relation relation.LessEqual = binary.LessEqual
of_relation relation.Greater = binary.Greater
of_relation relation.GreaterEqual = binary.GreaterEqual

-- how an operator is spelled
abbrev pub spelling : BinaryOperator → Name
spelling binary.Add = codes "+"
spelling binary.Subtract = codes "-"
spelling binary.Multiply = codes "*"
spelling binary.Divide = codes "/"
spelling binary.Modulo = codes "mod"
spelling binary.Minimum = codes "min"
spelling binary.Maximum = codes "max"
spelling binary.Equal = codes "=="
spelling binary.NotEqual = codes "/="
spelling binary.Less = codes "<"
spelling binary.LessEqual = codes "<="
spelling binary.Greater = codes ">"
spelling binary.GreaterEqual = codes ">="
spelling binary.And = codes ".and."
spelling binary.Or = codes ".or."
spelling binary.Equivalent = codes ".eqv."
spelling binary.NotEquivalent = codes ".neqv."

abbrev pub front_spelling : FrontSign → Name
front_spelling front.Plus = codes "+"
front_spelling front.Minus = codes "-"

-- the name that a variable is, where nothing stands behind it
abbrev pub bare_name : {A : Type 0} → Name → Option A → Option (Place A) → Option Name
bare_name name None None = Some name
bare_name name i p = None
