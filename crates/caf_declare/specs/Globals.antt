-- What the declarations of the main program declare: its names with what they stand for, and its objects; or the first rule
-- that they break, in written order.
use Rattle.std.specs.Prelude.{ℕ, ℤ, pos, ◌+◌, ◌-ℤ◌, ◌+ℤ◌, Bool, true, false, List, [], ◌∷◌, ◌++◌, length, Option, Some, None, is_some, Result, Ok, Err, if◌then◌else◌, nat_le}
use Rattle.caf_base.specs.Arithmetic.{at_least_none, fits}
use Rattle.caf_base.specs.declared.object.Object.{Object}
use Rattle.caf_base.specs.declared.object.Kind.{Kind}
use Rattle.caf_base.specs.declared.object.Kind.TheVariants as kind
use Rattle.caf_tree.specs.declared.expr.Expr.{Expr}
use Rattle.caf_tree.specs.declared.unit.Bounds.{Bounds}
use Rattle.caf_tree.specs.declared.unit.Item.{Item}
use Rattle.caf_tree.specs.declared.unit.Decl.{Decl}
use Rattle.caf_tree.specs.declared.unit.Decl.TheVariants as decl
use Rattle.caf_program.specs.declared.program.ValueKind.{ValueKind}
use Rattle.caf_program.specs.declared.program.ValueKind.TheVariants.{Integer, Logical}
use Rattle.caf_declare.specs.declared.fault.Rule.TheVariants as rule
use Rattle.caf_declare.specs.declared.fault.Fault.{Fault}
use Rattle.caf_declare.specs.declared.symbol.Symbol.{Symbol}
use Rattle.caf_declare.specs.declared.symbol.Symbol.TheVariants as symbol
use Rattle.caf_declare.specs.declared.constant.Declaring.{Declaring}
use Rattle.caf_declare.specs.declared.globals.Globals.{Globals}
use Rattle.caf_declare.specs.declared.globals.Shape.{Shape}
use Rattle.caf_declare.specs.Table.{Name, Names}
use Rattle.caf_declare.specs.Names.{breaks, after, unused, declared, refused}
use Rattle.caf_declare.specs.Operators.{kind_meant}
use Rattle.caf_declare.specs.Constants.{Known, known, known_in, number_of, value_of}

-- what is declared one after another
abbrev pub all_in_turn : {A S : Type 0} → (A → S → Result S Fault) → List A → S → Result S Fault
all_in_turn go [] s = Ok s
all_in_turn go (a ∷ others) s = after (go a s) (all_in_turn go others)

abbrev pub no_globals : Globals
no_globals = record { names = []; objects = []; labels = []; cells = 0 }

abbrev pub object_of : Shape → Object
object_of s = record { kind = s.kind; lower = s.lower; extent = s.extent; shared = s.shared }

-- one object more: each element, and each scalar of any kind, is one cell, and there are at most 65,536
abbrev pub with_object : ℕ → Name → Shape → Globals → Names → Result Globals Fault
with_object line name s m names =
    if nat_le (m.cells + s.extent) 65536
    then Ok (record { names = names; objects = m.objects ++ object_of s ∷ []; labels = m.labels ++ name ∷ []; cells = m.cells + s.extent })
    else Err (breaks rule.TooManyCells line name)

abbrev pub declare_object : ℕ → Name → Symbol → Shape → Globals → Result Globals Fault
declare_object line name symbol s m = after (declared line m.names name symbol) (with_object line name s m)

-- a bound is a number of 64 bits
abbrev pub bounded : ℕ → Name → ℤ → Result ℤ Fault
bounded line item z = if fits z then Ok z else Err (breaks rule.BadConstant line item)

-- the bounds of an array are integers; a missing lower bound is 1
abbrev pub bound : Known → ℕ → Name → Expr → Result ℤ Fault
bound names line item e = after (value_of names line item Integer e) (λ c. bounded line item (number_of c))

abbrev pub lower_bound : Known → ℕ → Name → Option Expr → Result ℤ Fault
lower_bound names line item None = Ok (pos 1)
lower_bound names line item (Some e) = bound names line item e

-- an array has the elements from its lower to its upper bound, none where that is smaller; what isn't an array is one
-- element at index 1
abbrev pub span : Known → ℕ → Name → Option Bounds → Result (ℤ × ℕ) Fault
span names line item None = Ok (pos 1, 1)
span names line item (Some b) =
    after (lower_bound names line item b.lower) (λ l. after (bound names line item b.upper) (λ u. Ok (l, at_least_none (u -ℤ l +ℤ pos 1))))

abbrev pub value_object : ValueKind → Kind
value_object Integer = kind.Integer
value_object Logical = kind.Logical

abbrev pub copointer_object : ValueKind → Kind
copointer_object Integer = kind.CoInteger
copointer_object Logical = kind.CoLogical

abbrev pub value_symbol : ValueKind → ℕ → Bool → Bool → Symbol
value_symbol k o shared true = symbol.Array k o shared
value_symbol k o shared false = symbol.Scalar k o shared

-- what names stand for while the main program is declared
abbrev pub so_far : Globals → Known
so_far m = known m.names [] []

-- the name of an item is declared once, and then its bounds are reckoned
abbrev pub item_span : ℕ → Item → Globals → Result (ℤ × ℕ) Fault
item_span line i m = after (unused line m.names i.name) (λ _. span (so_far m) line i.name i.bounds)

abbrev pub declare_variable : ℕ → ValueKind → Item → Globals → Result Globals Fault
declare_variable line k i m =
    after (item_span line i m) (λ s.
    declare_object line i.name (value_symbol k (length m.objects) i.shared (is_some i.bounds)) (record { kind = value_object k; lower = s.0; extent = s.1; shared = i.shared }) m)

abbrev pub declare_event : ℕ → Item → Globals → Result Globals Fault
declare_event line i m =
    after (item_span line i m) (λ s.
    declare_object line i.name (symbol.Event (length m.objects) (is_some i.bounds) i.shared) (record { kind = kind.Event; lower = s.0; extent = s.1; shared = i.shared }) m)

-- one element at index 1 of this image alone
abbrev pub alone : Kind → Shape
alone k = record { kind = k; lower = pos 1; extent = 1; shared = false }

abbrev pub declare_copointer : ℕ → ValueKind → Name → Globals → Result Globals Fault
declare_copointer line k name m = declare_object line name (symbol.Copointer k (length m.objects)) (alone (copointer_object k)) m

abbrev pub declare_team : ℕ → Name → Globals → Result Globals Fault
declare_team line name m = declare_object line name (symbol.Team (length m.objects)) (alone kind.Team) m

-- a parameter's name is declared once, and its value has its kind
abbrev pub parameter : Names → Known → ℕ → Name → ValueKind → Expr → Result Symbol Fault
parameter own earlier line name k e = after (unused line own name) (λ _. after (value_of earlier line name k e) (λ c. Ok (symbol.Constant c)))

abbrev pub parameter_symbol : Declaring → ValueKind → Expr → Result Symbol Fault
parameter_symbol d = parameter d.own.now (known_in d) d.line d.item.now

abbrev pub main_parameter : ℕ → ValueKind → Name → Expr → Globals → Result Symbol Fault
main_parameter line k name e m = parameter m.names (so_far m) line name k e

-- a parameter takes no cell
abbrev pub declare_parameter : ℕ → ValueKind → Name × Expr → Globals → Result Globals Fault
declare_parameter line k p m =
    after (main_parameter line k p.0 p.1 m) (λ s.
    after (declared line m.names p.0 s) (λ names. Ok (record { names = names; objects = m.objects; labels = m.labels; cells = m.cells })))

-- a declaration of the main program, no name of which has an intent
abbrev pub declare : Decl → Globals → Result Globals Fault
declare (decl.Parameters line k values) m = all_in_turn (declare_parameter line (kind_meant k)) values m
declare (decl.Copointers line k names) m = all_in_turn (declare_copointer line (kind_meant k)) names m
declare (decl.Dummies line k i names) m = after (refused line names) (λ _. Ok m)
declare (decl.Variables line k items) m = all_in_turn (declare_variable line (kind_meant k)) items m
declare (decl.Events line items) m = all_in_turn (declare_event line) items m
declare (decl.Teams line names) m = all_in_turn (declare_team line) names m

-- what the declarations of the main program declare
abbrev pub globals_of : List Decl → Result Globals Fault
globals_of declarations = all_in_turn declare declarations no_globals
