-- The kind of an expression: none where a slot is out of range or of a wrong kind, or an operand, a subscript or a
-- rank has a wrong kind.
use Rattle.std.specs.Prelude.{Bool, true, false, ◌&&◌, List, [], ◌∷◌, Option, Some, None, pos, slice_get, nat_eq}
use Rattle.caf_base.specs.declared.object.Object.{Object}
use Rattle.caf_base.specs.declared.object.Kind.{Kind}
use Rattle.caf_base.specs.declared.object.Kind.TheVariants as kind
use Rattle.caf_base.specs.declared.arithmetic.BinaryOperator.{BinaryOperator}
use Rattle.caf_base.specs.declared.arithmetic.BinaryOperator.TheVariants as operator
use Rattle.caf_base.specs.declared.arithmetic.UnaryOperator.{UnaryOperator}
use Rattle.caf_base.specs.declared.arithmetic.UnaryOperator.TheVariants as unary
use Rattle.caf_base.specs.Arithmetic.{is_equal}
use Rattle.caf_program.specs.declared.expr.TeamR.{TeamR}
use Rattle.caf_program.specs.declared.expr.TeamR.TheVariants as team
use Rattle.caf_program.specs.declared.expr.ExprR.{ExprR}
use Rattle.caf_program.specs.declared.expr.ExprR.TheOpen.{ExprR-F}
use Rattle.caf_program.specs.declared.expr.ExprR.TheFolds.{fold-ExprR}
use Rattle.caf_program.specs.declared.program.ValueKind.{ValueKind}
use Rattle.caf_program.specs.declared.program.ValueKind.TheVariants.{Integer, Logical}
use Rattle.caf_program.specs.declared.program.SubR.{SubR}

-- a cell of a frame: its kind, and whether it may be written, as all may but those of `intent(in)` dummies
pub record FrameCell : Type 0 where
  pub kind : ValueKind
  pub writable : Bool

-- what the slots of a part of the program may name: the objects, the cells of its frame, and the subroutines
pub record Scope : Type 0 where
  pub objects : List Object
  pub cells : List FrameCell
  pub subs : List SubR

-- whether an expression has the kind
abbrev pub has_kind : ValueKind → Option ValueKind → Bool
has_kind Integer (Some Integer) = true
has_kind Logical (Some Logical) = true
has_kind _ _ = false

abbrev pub is_integer : Option ValueKind → Bool
is_integer = has_kind Integer

abbrev pub is_logical : Option ValueKind → Bool
is_logical = has_kind Logical

-- whether two have one kind
abbrev pub agree_in_kind : Option ValueKind → Option ValueKind → Bool
agree_in_kind None b = false
agree_in_kind (Some k) b = has_kind k b

-- the kind, if the test holds
abbrev pub provided : Bool → Option ValueKind → Option ValueKind
provided true k = k
provided false k = None

-- the kind of an object's elements, if they are numbers or truth values
abbrev pub element_kind : Kind → Option ValueKind
element_kind kind.Integer = Some Integer
element_kind kind.Logical = Some Logical
element_kind _ = None

-- the kind of the elements that a copointer aims at
abbrev pub aimed_kind : Kind → Option ValueKind
aimed_kind kind.CoInteger = Some Integer
aimed_kind kind.CoLogical = Some Logical
aimed_kind _ = None

abbrev pub is_event : Kind → Bool
is_event kind.Event = true
is_event _ = false

abbrev pub is_team : Kind → Bool
is_team kind.Team = true
is_team _ = false

-- whether the object has one element, at index 1
abbrev pub is_scalar : Object → Bool
is_scalar o = is_equal o.lower (pos 1) && nat_eq o.extent 1

abbrev pub object_kind : Option Object → Option ValueKind
object_kind None = None
object_kind (Some o) = element_kind o.kind

abbrev pub scalar_kind : Option Object → Option ValueKind
scalar_kind None = None
scalar_kind (Some o) = provided (is_scalar o) (element_kind o.kind)

abbrev pub coarray_kind : Option Object → Option ValueKind
coarray_kind None = None
coarray_kind (Some o) = provided o.shared (element_kind o.kind)

abbrev pub copointer_kind : Option Object → Option ValueKind
copointer_kind None = None
copointer_kind (Some o) = aimed_kind o.kind

abbrev pub holds_team : Option Object → Bool
holds_team None = false
holds_team (Some o) = is_team o.kind

abbrev pub holds_event : Option Object → Bool
holds_event None = false
holds_event (Some o) = is_event o.kind

abbrev pub is_coarray : Option Object → Bool
is_coarray None = false
is_coarray (Some o) = o.shared

abbrev pub cell_kind : Option FrameCell → Option ValueKind
cell_kind None = None
cell_kind (Some c) = Some c.kind

abbrev pub is_writable : Option FrameCell → Bool
is_writable None = false
is_writable (Some c) = c.writable

-- whether the slot of a team holds one
abbrev pub names_team : Scope → TeamR → Bool
names_team s team.World = true
names_team s (team.Object o) = holds_team (slice_get s.objects o)

-- operands of arithmetic and of relations are integers, those of logical operators logicals
abbrev pub operand_kind : BinaryOperator → ValueKind
operand_kind operator.And = Logical
operand_kind operator.Or = Logical
operand_kind operator.Equivalent = Logical
operand_kind operator.NotEquivalent = Logical
operand_kind _ = Integer

-- arithmetic gives an integer, a relation or a logical operator a logical
abbrev pub result_kind : BinaryOperator → ValueKind
result_kind operator.Add = Integer
result_kind operator.Subtract = Integer
result_kind operator.Multiply = Integer
result_kind operator.Divide = Integer
result_kind operator.Modulo = Integer
result_kind operator.Minimum = Integer
result_kind operator.Maximum = Integer
result_kind _ = Logical

abbrev pub unary_kind : UnaryOperator → ValueKind
unary_kind unary.Negate = Integer
unary_kind unary.Absolute = Integer
unary_kind unary.Not = Logical

abbrev pub chain_kind : Option ValueKind → List (BinaryOperator × Option ValueKind) → Option ValueKind
chain_kind k [] = k
chain_kind k (p ∷ rest) = chain_kind (provided (has_kind (operand_kind p.0) k && has_kind (operand_kind p.0) p.1) (Some (result_kind p.0))) rest

abbrev pub kind_layer : Scope → ExprR-F (Option ValueKind) → Option ValueKind
kind_layer s (ExprR-F.Number n) = Some Integer
kind_layer s (ExprR-F.Truth b) = Some Logical
kind_layer s (ExprR-F.Scalar o) = scalar_kind (slice_get s.objects o)
kind_layer s (ExprR-F.Local k) = cell_kind (slice_get s.cells k)
kind_layer s (ExprR-F.Element o i) = provided (is_integer i) (object_kind (slice_get s.objects o))
kind_layer s (ExprR-F.Coindexed o i p) = provided (is_integer i && is_integer p.rank && names_team s p.team) (coarray_kind (slice_get s.objects o))
kind_layer s (ExprR-F.Pointed c i) = provided (is_integer i) (copointer_kind (slice_get s.objects c))
kind_layer s (ExprR-F.Unary w a) = provided (has_kind (unary_kind w) a) (Some (unary_kind w))
kind_layer s (ExprR-F.Chain a rest) = chain_kind a rest
kind_layer s (ExprR-F.Rank t) = provided (names_team s t) (Some Integer)
kind_layer s (ExprR-F.Size t) = provided (names_team s t) (Some Integer)

-- the kind of an expression
abbrev pub kind_of : Scope → ExprR → Option ValueKind
kind_of s = fold-ExprR (Option ValueKind) (kind_layer s)
