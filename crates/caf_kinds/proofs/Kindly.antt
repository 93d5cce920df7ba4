-- What an expression means has its kind, in the program with slots.
use Rattle.std.proofs.Common.{◌≡◌, ◌∙◌, ℕ, Bool, true, false, List, [], ◌∷◌, map, Option, Some, None, unwrap_or, Result, Ok, Err, refl, sym, ap, subst, slice_get, ℤ, pos, codes}
use Rattle.std.specs.Prelude.{◌&&◌}
use Rattle.caf_base.specs.declared.arithmetic.BinaryOperator.{BinaryOperator}
use Rattle.caf_base.specs.declared.arithmetic.BinaryOperator.TheVariants as binary
use Rattle.caf_base.specs.declared.arithmetic.UnaryOperator.{UnaryOperator}
use Rattle.caf_base.specs.declared.arithmetic.UnaryOperator.TheVariants as unary
use Rattle.caf_tree.specs.declared.expr.Operator.{Operator}
use Rattle.caf_tree.specs.declared.expr.Operator.TheVariants as operator
use Rattle.caf_tree.specs.declared.expr.Relation.{Relation}
use Rattle.caf_tree.specs.declared.expr.Relation.TheVariants as relation
use Rattle.caf_tree.specs.declared.expr.FrontSign.{FrontSign}
use Rattle.caf_tree.specs.declared.expr.FrontSign.TheVariants as front
use Rattle.caf_tree.specs.declared.expr.Place.{Place}
use Rattle.caf_tree.specs.declared.expr.Variable.{Variable}
use Rattle.caf_tree.specs.declared.expr.Team.{Team}
use Rattle.caf_tree.specs.declared.expr.Team.TheVariants as team
use Rattle.caf_tree.specs.declared.expr.Expr.{Expr}
use Rattle.caf_tree.specs.declared.expr.Expr.TheOpen.{Expr-F}
use Rattle.caf_tree.specs.declared.expr.Expr.TheViews.{roll-Expr}
use Rattle.caf_tree.specs.declared.expr.Expr.TheFolds.{ind-Expr, fold-roll-Expr, map-Expr}
use Rattle.caf_program.specs.declared.program.ValueKind.{ValueKind}
use Rattle.caf_program.specs.declared.program.ValueKind.TheVariants.{Integer, Logical}
use Rattle.caf_program.specs.declared.expr.TeamR.{TeamR}
use Rattle.caf_program.specs.declared.expr.TeamR.TheVariants as slot
use Rattle.caf_program.specs.declared.expr.PlaceR.{PlaceR}
use Rattle.caf_program.specs.declared.expr.ExprR.{ExprR}
use Rattle.caf_program.specs.declared.expr.ExprR.TheVariants as R
use Rattle.caf_program.specs.declared.expr.ExprR.TheVariants.{rolls-Number, rolls-Truth, rolls-Scalar, rolls-Local, rolls-Element, rolls-Coindexed, rolls-Pointed, rolls-Unary, rolls-Chain, rolls-Rank, rolls-Size}
use Rattle.caf_program.specs.declared.expr.ExprR.TheOpen.{ExprR-F}
use Rattle.caf_program.specs.declared.expr.ExprR.TheFolds.{fold-roll-ExprR}
use Rattle.caf_program.specs.declared.parts.VariableR.{VariableR}
use Rattle.caf_program.specs.declared.parts.VariableR.TheVariants as V
use Rattle.caf_program.specs.declared.stmt.LoopVariableR.{LoopVariableR}
use Rattle.caf_program.specs.declared.stmt.LoopVariableR.TheVariants as counter
use Rattle.caf_program.specs.Kinds.{Scope as Slots, has_kind, is_integer, provided, object_kind, scalar_kind, coarray_kind, copointer_kind, cell_kind, names_team, operand_kind, result_kind, unary_kind, chain_kind, kind_layer, kind_of}
use Rattle.caf_program.specs.Rules.{fits_place, variable_kind}
use Rattle.caf_declare.specs.declared.fault.Rule.TheVariants as rule
use Rattle.caf_declare.specs.declared.fault.Fault.{Fault}
use Rattle.caf_declare.specs.declared.symbol.Constant.{Constant}
use Rattle.caf_declare.specs.declared.symbol.Constant.TheVariants as constant
use Rattle.caf_declare.specs.declared.symbol.Symbol.{Symbol}
use Rattle.caf_declare.specs.declared.symbol.Symbol.TheVariants as symbol
use Rattle.caf_declare.specs.Table.{Name}
use Rattle.caf_declare.specs.Names.{breaks, after}
use Rattle.caf_declare.specs.Globals.{value_object, copointer_object}
use Rattle.caf_declare.specs.Operators.{is_kind, kind_of_constant, of_operator, of_relation, spelling, front_spelling}
use Rattle.caf_kinds.specs.declared.scope.Scope.{Scope}
use Rattle.caf_kinds.specs.Names.{look}
use Rattle.caf_kinds.specs.Expressions.{Sense, layer, sense, of_constant, of_kind, operand, under, alike, further, operands, listed, leading, first_meant, chain, pair, some, of_team, team_meant, place_meant, coarray, scalar_as, array_as, element_pointed, pointed_as, local_as, parameter_as, variable_as, of_variable, value_of_variable, value_as, unary_of, signed, if_said, place_said}
use Rattle.caf_kinds.proofs.Went.{went, held, fine, same_value, no_value}
use Rattle.caf_kinds.proofs.Looked.{Opt}
use Rattle.caf_kinds.proofs.Stands.{World, Stands, IsObject, IsCell, object_of_kind, scalar_of_kind, coarray_of_kind, copointer_of, team_of, cell_of_kind}

-- ---- kinds and tests

pub has_own : (k : ValueKind) → has_kind k (Some k) ≡ true
has_own Integer = refl
has_own Logical = refl

pub has : (k : ValueKind) (o : Option ValueKind) → o ≡ Some k → has_kind k o ≡ true
has k o e = ap (has_kind k) e ∙ has_own k

pub same_kind : (a b : ValueKind) → is_kind a b ≡ true → a ≡ b
same_kind Integer Integer h = refl
same_kind Logical Logical h = refl
same_kind Integer Logical h = absurd (cc)
same_kind Logical Integer h = absurd (cc)

pub both : (a b : Bool) → a ≡ true → b ≡ true → (a && b) ≡ true
both true true h k = refl
both true false h k = k
both false b h k = h

three : (a b c : Bool) → (a && b && c) ≡ (a && (b && c))
three true b c = refl
three false b c = refl

pub given : (b : Bool) (o : Option ValueKind) (k : ValueKind) → b ≡ true → o ≡ Some k → provided b o ≡ Some k
given true o k h e = e
given false o k h e = absurd (cc)

pub provided_parts : (b : Bool) (o : Option ValueKind) (k : ValueKind) → provided b o ≡ Some k → (b ≡ true) × (o ≡ Some k)
provided_parts true o k h = (refl, h)
provided_parts false o k h = absurd (cc)

-- ---- the kinds of forms

module _ (s : Slots) where
  abbrev Layer : ExprR-F (Option ValueKind) → Option ValueKind
  Layer = kind_layer s

  pub kind_number : (n : ℤ) → kind_of s (R.Number n) ≡ Some Integer
  kind_number n = ap (kind_of s) (sym (rolls-Number n)) ∙ fold-roll-ExprR (Option ValueKind) Layer (ExprR-F.Number n)

  pub kind_truth : (b : Bool) → kind_of s (R.Truth b) ≡ Some Logical
  kind_truth b = ap (kind_of s) (sym (rolls-Truth b)) ∙ fold-roll-ExprR (Option ValueKind) Layer (ExprR-F.Truth b)

  pub kind_scalar : (o : ℕ) → kind_of s (R.Scalar o) ≡ scalar_kind (slice_get s.objects o)
  kind_scalar o = ap (kind_of s) (sym (rolls-Scalar o)) ∙ fold-roll-ExprR (Option ValueKind) Layer (ExprR-F.Scalar o)

  pub kind_local : (c : ℕ) → kind_of s (R.Local c) ≡ cell_kind (slice_get s.cells c)
  kind_local c = ap (kind_of s) (sym (rolls-Local c)) ∙ fold-roll-ExprR (Option ValueKind) Layer (ExprR-F.Local c)

  pub kind_element : (o : ℕ) (i : ExprR) → kind_of s (R.Element o i) ≡ provided (is_integer (kind_of s i)) (object_kind (slice_get s.objects o))
  kind_element o i = ap (kind_of s) (sym (rolls-Element o i)) ∙ fold-roll-ExprR (Option ValueKind) Layer (ExprR-F.Element o i)

  pub kind_coindexed : (o : ℕ) (i : ExprR) (p : PlaceR ExprR) →
      kind_of s (R.Coindexed o i p) ≡ provided (is_integer (kind_of s i) && is_integer (kind_of s p.rank) && names_team s p.team) (coarray_kind (slice_get s.objects o))
  kind_coindexed o i p = ap (kind_of s) (sym (rolls-Coindexed o i p)) ∙ fold-roll-ExprR (Option ValueKind) Layer (ExprR-F.Coindexed o i p)

  pub kind_pointed : (c : ℕ) (i : ExprR) → kind_of s (R.Pointed c i) ≡ provided (is_integer (kind_of s i)) (copointer_kind (slice_get s.objects c))
  kind_pointed c i = ap (kind_of s) (sym (rolls-Pointed c i)) ∙ fold-roll-ExprR (Option ValueKind) Layer (ExprR-F.Pointed c i)

  pub kind_unary : (w : UnaryOperator) (e : ExprR) → kind_of s (R.Unary w e) ≡ provided (has_kind (unary_kind w) (kind_of s e)) (Some (unary_kind w))
  kind_unary w e = ap (kind_of s) (sym (rolls-Unary w e)) ∙ fold-roll-ExprR (Option ValueKind) Layer (ExprR-F.Unary w e)

  pub kind_chain : (a : ExprR) (others : List (BinaryOperator × ExprR)) → kind_of s (R.Chain a others) ≡ chain_kind (kind_of s a) (map (λ p. (p.0, kind_of s p.1)) others)
  kind_chain a others = ap (kind_of s) (sym (rolls-Chain a others)) ∙ fold-roll-ExprR (Option ValueKind) Layer (ExprR-F.Chain a others)

  pub kind_rank : (t : TeamR) → kind_of s (R.Rank t) ≡ provided (names_team s t) (Some Integer)
  kind_rank t = ap (kind_of s) (sym (rolls-Rank t)) ∙ fold-roll-ExprR (Option ValueKind) Layer (ExprR-F.Rank t)

  pub kind_size : (t : TeamR) → kind_of s (R.Size t) ≡ provided (names_team s t) (Some Integer)
  kind_size t = ap (kind_of s) (sym (rolls-Size t)) ∙ fold-roll-ExprR (Option ValueKind) Layer (ExprR-F.Size t)

  -- a variable's value has its kind
  pub kind_of_value : (v : VariableR) → kind_of s (of_variable v) ≡ variable_kind s v
  kind_of_value (V.Scalar o) = kind_scalar o
  kind_of_value (V.Local c) = kind_local c
  kind_of_value (V.Element o i) = kind_element o i
  kind_of_value (V.Coindexed o i p) =
      kind_coindexed o i p ∙ ap (λ b. provided b (coarray_kind (slice_get s.objects o))) (three (is_integer (kind_of s i)) (is_integer (kind_of s p.rank)) (names_team s p.team))
  kind_of_value (V.Pointed c i) = kind_pointed c i

-- ---- operators

-- the operators of a chain give what they take
alike_operator : (p : Operator) → result_kind (of_operator p) ≡ operand_kind (of_operator p)
alike_operator operator.Multiply = refl
alike_operator operator.Divide = refl
alike_operator operator.Add = refl
alike_operator operator.Subtract = refl
alike_operator operator.And = refl
alike_operator operator.Or = refl
alike_operator operator.Equivalent = refl
alike_operator operator.NotEquivalent = refl

abbrev place_of : ExprR → TeamR → PlaceR ExprR
place_of r t = record { rank = r; team = t }

-- which slot a variable writes
abbrev pub slot_of : VariableR → Option LoopVariableR
slot_of (V.Scalar o) = Some (counter.Scalar o)
slot_of (V.Local c) = Some (counter.Local c)
slot_of (V.Element o i) = Some (counter.Scalar o)
slot_of (V.Coindexed o i p) = Some (counter.Scalar o)
slot_of (V.Pointed c i) = None

-- which slot a name stands for
abbrev pub slot_named : Symbol → Option LoopVariableR
slot_named (symbol.Scalar k o shared) = Some (counter.Scalar o)
slot_named (symbol.Array k o shared) = Some (counter.Scalar o)
slot_named (symbol.Local k c writable) = Some (counter.Local c)
slot_named _ = None

module _ (w : World) (scope : Scope) where
  -- an expression has the kind that it says
  abbrev pub IsKindly : Sense → Type 0
  IsKindly m = (t : ValueKind × ExprR) → m.says ≡ Ok t → kind_of w.scope t.1 ≡ Some t.0

  abbrev pub IfKindly : Option Sense → Type 0
  IfKindly None = Unit {0}
  IfKindly (Some m) = IsKindly m

  abbrev pub IsPlaceKindly : Option (Place Sense) → Type 0
  IsPlaceKindly None = Unit {0}
  IsPlaceKindly (Some p) = IsKindly p.rank

  pub operand_kindly : (line : ℕ) (sign : Name) (k : ValueKind) (m : Sense) (x : ExprR) → IsKindly m → operand line sign k m ≡ Ok x → kind_of w.scope x ≡ Some k
  operand_kindly line sign k m x kindly h =
      let g = went _ _ x h in
      let t = held (is_kind g.value.0 k) g.value.1 x _ g.goes in
      subst (λ e. kind_of w.scope e ≡ Some k) t.1 (kindly g.value g.is ∙ ap Some (same_kind g.value.0 k t.0))

  pub integer_kindly : (line : ℕ) (sign : Name) (m : Sense) (x : ExprR) → IsKindly m → operand line sign Integer m ≡ Ok x → is_integer (kind_of w.scope x) ≡ true
  integer_kindly line sign m x kindly h = has Integer (kind_of w.scope x) (operand_kindly line sign Integer m x kindly h)

  under_kindly : (line : ℕ) (op : BinaryOperator) (m : Sense) (x : ExprR) → IsKindly m → under line op m ≡ Ok x → kind_of w.scope x ≡ Some (operand_kind op)
  under_kindly line op m x kindly h = operand_kindly line (spelling op) (operand_kind op) m x kindly h

  -- ---- teams and places

  named_team : (line : ℕ) (name : Name) (o : Option Symbol) (t : TeamR) → Opt (Stands w) name o → of_team line name o ≡ Ok t → names_team w.scope t ≡ true
  named_team line name (Some (symbol.Team o)) t stands h =
      subst (λ x. names_team w.scope x ≡ true) (same_value (slot.Object o) t h) (team_of w.scope.objects w.labels name o false true stands)
  named_team line name None t stands h = no_value _ t h
  named_team line name (Some (symbol.Constant _)) t stands h = no_value _ t h
  named_team line name (Some (symbol.Local _ _ _)) t stands h = no_value _ t h
  named_team line name (Some (symbol.Scalar _ _ _)) t stands h = no_value _ t h
  named_team line name (Some (symbol.Array _ _ _)) t stands h = no_value _ t h
  named_team line name (Some (symbol.Copointer _ _)) t stands h = no_value _ t h
  named_team line name (Some (symbol.Event _ _ _)) t stands h = no_value _ t h
  named_team line name (Some (symbol.Subroutine _)) t stands h = no_value _ t h

  shared_place : (line : ℕ) (name : Name) (shared : Bool) (u : Unit {0}) → coarray line name shared ≡ Ok u → shared ≡ true
  shared_place line name true u h = refl
  shared_place line name false u h = no_value _ u h

  module _ (stands : (name : Name) → Opt (Stands w) name (look scope name)) where
    pub team_kindly : (line : ℕ) (t : Team) (x : TeamR) → team_meant scope line t ≡ Ok x → names_team w.scope x ≡ true
    team_kindly line team.World x h = subst (λ t. names_team w.scope t ≡ true) (same_value slot.World x h) refl
    team_kindly line (team.Named name) x h = named_team line name (look scope name) x (stands name) h

    pub place_kindly : (line : ℕ) (name : Name) (p : Place Sense) (q : PlaceR ExprR) → IsKindly p.rank → place_meant scope line name p ≡ Ok q → fits_place w.scope q ≡ true
    place_kindly line name p q kindly h =
        let f = went _ _ q h in
        let g = went _ _ q f.goes in
        subst (λ (x : PlaceR ExprR). fits_place w.scope x ≡ true) (same_value (place_of f.value g.value) q g.goes)
        (both (is_integer (kind_of w.scope f.value)) (names_team w.scope g.value) (integer_kindly line name p.rank f.value kindly f.is) (team_kindly line p.team g.value g.is))

    -- ---- variables

    -- a variable has its kind, and the slot of its name
    abbrev pub IsGood : Symbol → ValueKind × VariableR → Type 0
    IsGood s t = (variable_kind w.scope t.1 ≡ Some t.0) × (slot_of t.1 ≡ slot_named s)

    good : (s : Symbol) (a t : ValueKind × VariableR) → fine a ≡ Ok t → IsGood s a → IsGood s t
    good s a t h g = subst (IsGood s) (same_value a t h) g

    abbrev IsHere : Name → ValueKind → ℕ → Bool → Bool → Type 0
    IsHere name k o shared single = IsObject w.scope.objects w.labels name o (value_object k) shared single

    coindexed_good : (name : Name) (k : ValueKind) (o : ℕ) (shared single : Bool) (x : ExprR) (q : PlaceR ExprR) →
        IsHere name k o shared single → shared ≡ true → is_integer (kind_of w.scope x) ≡ true → fits_place w.scope q ≡ true → variable_kind w.scope (V.Coindexed o x q) ≡ Some k
    coindexed_good name k o shared single x q h e i f =
        given (is_integer (kind_of w.scope x) && fits_place w.scope q) (coarray_kind (slice_get w.scope.objects o)) k (both (is_integer (kind_of w.scope x)) (fits_place w.scope q) i f)
        (coarray_of_kind w.scope.objects w.labels name o k single (subst (λ b. IsHere name k o b single) e h))

    one_integer : is_integer (kind_of w.scope (R.Number (pos 1))) ≡ true
    one_integer = has Integer (kind_of w.scope (R.Number (pos 1))) (kind_number w.scope (pos 1))

    scalar_good : (line : ℕ) (name : Name) (k : ValueKind) (o : ℕ) (shared : Bool) (i : Option Sense) (p : Option (Place Sense)) (t : ValueKind × VariableR) →
        IsHere name k o shared true → IfKindly i → IsPlaceKindly p → scalar_as scope line name k o shared i p ≡ Ok t → IsGood (symbol.Scalar k o shared) t
    scalar_good line name k o shared None None t here ki kp h = good (symbol.Scalar k o shared) (k, V.Scalar o) t h (scalar_of_kind w.scope.objects w.labels name o k shared here, refl)
    scalar_good line name k o shared None (Some p) t here ki kp h =
        let f = went _ _ t h in
        let g = went _ _ t f.goes in
        good (symbol.Scalar k o shared) (k, V.Coindexed o (R.Number (pos 1)) g.value) t g.goes
        (coindexed_good name k o shared true (R.Number (pos 1)) g.value here (shared_place line name shared f.value f.is) one_integer (place_kindly line name p g.value kp g.is), refl)
    scalar_good line name k o shared (Some i) p t here ki kp h = no_value _ t h

    array_good : (line : ℕ) (name : Name) (k : ValueKind) (o : ℕ) (shared : Bool) (i : Option Sense) (p : Option (Place Sense)) (t : ValueKind × VariableR) →
        IsHere name k o shared false → IfKindly i → IsPlaceKindly p → array_as scope line name k o shared i p ≡ Ok t → IsGood (symbol.Array k o shared) t
    array_good line name k o shared None p t here ki kp h = no_value _ t h
    array_good line name k o shared (Some i) None t here ki kp h =
        let f = went _ _ t h in
        good (symbol.Array k o shared) (k, V.Element o f.value) t f.goes
        (given (is_integer (kind_of w.scope f.value)) (object_kind (slice_get w.scope.objects o)) k (integer_kindly line name i f.value ki f.is) (object_of_kind w.scope.objects w.labels name o k shared false here), refl)
    array_good line name k o shared (Some i) (Some p) t here ki kp h =
        let e = went _ _ t h in
        let f = went _ _ t e.goes in
        let g = went _ _ t f.goes in
        good (symbol.Array k o shared) (k, V.Coindexed o e.value g.value) t g.goes
        (coindexed_good name k o shared false e.value g.value here (shared_place line name shared f.value f.is) (integer_kindly line name i e.value ki e.is) (place_kindly line name p g.value kp g.is), refl)

    pointed_good : (line : ℕ) (name : Name) (k : ValueKind) (c : ℕ) (i : Option Sense) (p : Option (Place Sense)) (t : ValueKind × VariableR) →
        IsObject w.scope.objects w.labels name c (copointer_object k) false true → IfKindly i → pointed_as line name k c i p ≡ Ok t → IsGood (symbol.Copointer k c) t
    pointed_good line name k c None p t here ki h = no_value _ t h
    pointed_good line name k c (Some i) (Some p) t here ki h =
        let f = went (operand line name Integer i) (λ x. element_pointed line name k c x (Some p)) t h in
        no_value _ t f.goes
    pointed_good line name k c (Some i) None t here ki h =
        let f = went _ _ t h in
        good (symbol.Copointer k c) (k, V.Pointed c f.value) t f.goes
        (given (is_integer (kind_of w.scope f.value)) (copointer_kind (slice_get w.scope.objects c)) k (integer_kindly line name i f.value ki f.is) (copointer_of w.scope.objects w.labels name c k false true here), refl)

    local_good : (line : ℕ) (name : Name) (k : ValueKind) (c : ℕ) (writable : Bool) (i : Option Sense) (p : Option (Place Sense)) (t : ValueKind × VariableR) →
        IsCell w.scope.cells w.cell_labels name c k writable → local_as line name k c i p ≡ Ok t → IsGood (symbol.Local k c writable) t
    local_good line name k c writable None None t here h = good (symbol.Local k c writable) (k, V.Local c) t h (cell_of_kind w.scope.cells w.cell_labels name c k writable here, refl)
    local_good line name k c writable None (Some p) t here h = no_value _ t h
    local_good line name k c writable (Some i) p t here h = no_value _ t h

    parameter_none : {C : Type 0} (line : ℕ) (name : Name) (i : Option Sense) (p : Option (Place Sense)) (t : ValueKind × VariableR) → parameter_as line name i p ≡ Ok t → C
    parameter_none line name None None t h = no_value _ t h
    parameter_none line name None (Some p) t h = no_value _ t h
    parameter_none line name (Some i) p t h = no_value _ t h

    -- what a name stands for where it is a variable
    abbrev pub IsGoodIf : Option Symbol → ValueKind × VariableR → Type 0
    IsGoodIf None t = ⊥
    IsGoodIf (Some s) t = IsGood s t

    pub variable_good : (line : ℕ) (name : Name) (o : Option Symbol) (i : Option Sense) (p : Option (Place Sense)) (t : ValueKind × VariableR) →
        Opt (Stands w) name o → IfKindly i → IsPlaceKindly p → variable_as scope line name o i p ≡ Ok t → IsGoodIf o t
    variable_good line name None i p t st ki kp h = no_value _ t h
    variable_good line name (Some (symbol.Scalar k o shared)) i p t st ki kp h = scalar_good line name k o shared i p t st ki kp h
    variable_good line name (Some (symbol.Array k o shared)) i p t st ki kp h = array_good line name k o shared i p t st ki kp h
    variable_good line name (Some (symbol.Copointer k c)) i p t st ki kp h = pointed_good line name k c i p t st ki h
    variable_good line name (Some (symbol.Local k c writable)) i p t st ki kp h = local_good line name k c writable i p t st h
    variable_good line name (Some (symbol.Constant c)) i p t st ki kp h = parameter_none line name i p t h
    variable_good line name (Some (symbol.Event _ _ _)) i p t st ki kp h = no_value _ t h
    variable_good line name (Some (symbol.Team _)) i p t st ki kp h = no_value _ t h
    variable_good line name (Some (symbol.Subroutine _)) i p t st ki kp h = no_value _ t h

    kind_good : (o : Option Symbol) (t : ValueKind × VariableR) → IsGoodIf o t → variable_kind w.scope t.1 ≡ Some t.0
    kind_good None t g = absurd g
    kind_good (Some s) t g = g.0

    constant_kindly : (c : Constant) → kind_of w.scope (of_constant c) ≡ Some (kind_of_constant c)
    constant_kindly (constant.Integer z) = kind_number w.scope z
    constant_kindly (constant.Logical b) = kind_truth w.scope b

    abbrev HasKind : ValueKind × ExprR → Type 0
    HasKind t = kind_of w.scope t.1 ≡ Some t.0

    has_kind_by : (a t : ValueKind × ExprR) → fine a ≡ Ok t → HasKind a → HasKind t
    has_kind_by a t h g = subst HasKind (same_value a t h) g

    by_variable : (line : ℕ) (name : Name) (o : Option Symbol) (i : Option Sense) (p : Option (Place Sense)) (t : ValueKind × ExprR) →
        Opt (Stands w) name o → IfKindly i → IsPlaceKindly p → after (variable_as scope line name o i p) value_of_variable ≡ Ok t → HasKind t
    by_variable line name o i p t st ki kp h =
        let f = went _ _ t h in
        has_kind_by (f.value.0, of_variable f.value.1) t f.goes
        (kind_of_value w.scope f.value.1 ∙ kind_good o f.value (variable_good line name o i p f.value st ki kp f.is))

    value_kindly : (line : ℕ) (name : Name) (o : Option Symbol) (i : Option Sense) (p : Option (Place Sense)) (t : ValueKind × ExprR) →
        Opt (Stands w) name o → IfKindly i → IsPlaceKindly p → value_as scope line name o i p ≡ Ok t → HasKind t
    value_kindly line name (Some (symbol.Constant c)) None None t st ki kp h = has_kind_by (kind_of_constant c, of_constant c) t h (constant_kindly c)
    value_kindly line name (Some (symbol.Constant c)) None (Some p) t st ki kp h = by_variable line name (Some (symbol.Constant c)) None (Some p) t st ki kp h
    value_kindly line name (Some (symbol.Constant c)) (Some i) p t st ki kp h = by_variable line name (Some (symbol.Constant c)) (Some i) p t st ki kp h
    value_kindly line name None i p t st ki kp h = by_variable line name None i p t st ki kp h
    value_kindly line name (Some (symbol.Local k c b)) i p t st ki kp h = by_variable line name (Some (symbol.Local k c b)) i p t st ki kp h
    value_kindly line name (Some (symbol.Scalar k c b)) i p t st ki kp h = by_variable line name (Some (symbol.Scalar k c b)) i p t st ki kp h
    value_kindly line name (Some (symbol.Array k c b)) i p t st ki kp h = by_variable line name (Some (symbol.Array k c b)) i p t st ki kp h
    value_kindly line name (Some (symbol.Copointer k c)) i p t st ki kp h = by_variable line name (Some (symbol.Copointer k c)) i p t st ki kp h
    value_kindly line name (Some (symbol.Event k c b)) i p t st ki kp h = by_variable line name (Some (symbol.Event k c b)) i p t st ki kp h
    value_kindly line name (Some (symbol.Team c)) i p t st ki kp h = by_variable line name (Some (symbol.Team c)) i p t st ki kp h
    value_kindly line name (Some (symbol.Subroutine c)) i p t st ki kp h = by_variable line name (Some (symbol.Subroutine c)) i p t st ki kp h

    -- ---- operators

    abbrev kinds : List (BinaryOperator × ExprR) → List (BinaryOperator × Option ValueKind)
    kinds = map (λ p. (p.0, kind_of w.scope p.1))

    -- an operator more, of which all before has the kind that it takes
    one_kind : (op : BinaryOperator) (o : Option ValueKind) (e : ExprR) (others : List (BinaryOperator × Option ValueKind)) (k : ValueKind) →
        o ≡ Some (operand_kind op) → kind_of w.scope e ≡ Some (operand_kind op) → chain_kind (Some (result_kind op)) others ≡ Some k → chain_kind o ((op, kind_of w.scope e) ∷ others) ≡ Some k
    one_kind op o e others k ho he more =
        subst (λ q. chain_kind q others ≡ Some k)
        (sym (given (has_kind (operand_kind op) o && has_kind (operand_kind op) (kind_of w.scope e)) (Some (result_kind op)) (result_kind op)
        (both (has_kind (operand_kind op) o) (has_kind (operand_kind op) (kind_of w.scope e)) (has (operand_kind op) o ho) (has (operand_kind op) (kind_of w.scope e) he)) refl)) more

    leading_kindly : (line : ℕ) (op : BinaryOperator) (m : Sense) (t : ValueKind × ExprR) → IsKindly m → leading line op m ≡ Ok t → (t.0 ≡ result_kind op) × (kind_of w.scope t.1 ≡ Some (operand_kind op))
    leading_kindly line op m t kindly h =
        let f = went _ _ t h in
        subst (λ (x : ValueKind × ExprR). (x.0 ≡ result_kind op) × (kind_of w.scope x.1 ≡ Some (operand_kind op))) (same_value (result_kind op, f.value) t f.goes)
        (refl, under_kindly line op m f.value kindly f.is)

    pair_kindly : (line : ℕ) (op : BinaryOperator) (a b : Sense) (t : ValueKind × ExprR) → IsKindly a → IsKindly b → pair line op a b ≡ Ok t → HasKind t
    pair_kindly line op a b t ka kb h =
        let f = went _ _ t h in
        let g = went _ _ t f.goes in
        let first = leading_kindly line op a f.value ka f.is in
        has_kind_by (f.value.0, R.Chain f.value.1 ((op, g.value) ∷ [])) t g.goes
        (kind_chain w.scope f.value.1 ((op, g.value) ∷ [])
        ∙ one_kind op (kind_of w.scope f.value.1) g.value [] (result_kind op) first.1 (under_kindly line op b g.value kb g.is) refl
        ∙ ap Some (sym first.0))

    abbrev AllKindly : List Sense → Type 0
    AllKindly [] = Unit {0}
    AllKindly (m ∷ others) = IsKindly m × AllKindly others

    -- an operator that gives what it takes
    abbrev IsAlike : BinaryOperator → Type 0
    IsAlike op = result_kind op ≡ operand_kind op

    listed_kindly : (line : ℕ) (op : BinaryOperator) (ms : List Sense) (xs : List (BinaryOperator × ExprR)) (o : Option ValueKind) →
        IsAlike op → AllKindly ms → o ≡ Some (operand_kind op) → listed line op ms ≡ Ok xs → chain_kind o (kinds xs) ≡ Some (operand_kind op)
    listed_kindly line op [] xs o alike all ho h = subst (λ (ys : List (BinaryOperator × ExprR)). chain_kind o (kinds ys) ≡ Some (operand_kind op)) (same_value [] xs h) ho
    listed_kindly line op (m ∷ others) xs o alike all ho h =
        let f = went _ _ xs h in
        let g = went _ _ xs f.goes in
        subst (λ (ys : List (BinaryOperator × ExprR)). chain_kind o (kinds ys) ≡ Some (operand_kind op)) (same_value ((op, f.value) ∷ g.value) xs g.goes)
        (one_kind op o f.value (kinds g.value) (operand_kind op) ho (under_kindly line op m f.value all.0 f.is)
        (listed_kindly line op others g.value (Some (result_kind op)) alike all.1 (ap Some alike) g.is))

    some_kindly : (line : ℕ) (op : BinaryOperator) (a b : Sense) (others : List Sense) (t : ValueKind × ExprR) → IsAlike op → IsKindly a → IsKindly b → AllKindly others → some line op a b others ≡ Ok t → HasKind t
    some_kindly line op a b others t alike ka kb all h =
        let f = went _ _ t h in
        let g = went _ _ t f.goes in
        let e = went _ _ t g.goes in
        let first = leading_kindly line op a f.value ka f.is in
        has_kind_by (f.value.0, R.Chain f.value.1 ((op, g.value) ∷ e.value)) t e.goes
        (kind_chain w.scope f.value.1 ((op, g.value) ∷ e.value)
        ∙ one_kind op (kind_of w.scope f.value.1) g.value (kinds e.value) (operand_kind op) first.1 (under_kindly line op b g.value kb g.is)
        (listed_kindly line op others e.value (Some (result_kind op)) alike all (ap Some alike) e.is)
        ∙ ap Some (sym alike) ∙ ap Some (sym first.0))

    abbrev AllPairsKindly : List (Operator × Sense) → Type 0
    AllPairsKindly [] = Unit {0}
    AllPairsKindly (p ∷ others) = IsKindly p.1 × AllPairsKindly others

    alike_kind : (line : ℕ) (op : BinaryOperator) (k : ValueKind) (u : Unit {0}) → alike line op k ≡ Ok u → operand_kind op ≡ k
    alike_kind line op k u h = same_kind (operand_kind op) k (held (is_kind (operand_kind op) k) tt u _ h).0

    operands_kindly : (line : ℕ) (k : ValueKind) (ps : List (Operator × Sense)) (xs : List (BinaryOperator × ExprR)) (o : Option ValueKind) →
        AllPairsKindly ps → o ≡ Some k → operands line k ps ≡ Ok xs → chain_kind o (kinds xs) ≡ Some k
    operands_kindly line k [] xs o all ho h = subst (λ (ys : List (BinaryOperator × ExprR)). chain_kind o (kinds ys) ≡ Some k) (same_value [] xs h) ho
    operands_kindly line k (p ∷ others) xs o all ho h =
        let op : BinaryOperator = of_operator p.0 in
        let f = went _ _ xs h in
        let g = went _ _ xs f.goes in
        let d = went _ _ f.value f.is in
        let e : operand_kind op ≡ k = alike_kind line op k d.value d.is in
        subst (λ (ys : List (BinaryOperator × ExprR)). chain_kind o (kinds ys) ≡ Some k) (same_value ((op, f.value) ∷ g.value) xs g.goes)
        (one_kind op o f.value (kinds g.value) k (ho ∙ ap Some (sym e)) (under_kindly line op p.1 f.value all.0 d.goes)
        (operands_kindly line k others g.value (Some (result_kind op)) all.1 (ap Some (alike_operator p.0 ∙ e)) g.is))

    chain_kindly : (line : ℕ) (a : Sense) (ps : List (Operator × Sense)) (t : ValueKind × ExprR) → IsKindly a → AllPairsKindly ps → chain line a ps ≡ Ok t → HasKind t
    chain_kindly line a ps t ka all h =
        let f = went _ _ t h in
        let g = went _ _ t f.goes in
        has_kind_by (f.value.0, R.Chain f.value.1 g.value) t g.goes
        (kind_chain w.scope f.value.1 g.value ∙ operands_kindly line f.value.0 ps g.value (kind_of w.scope f.value.1) all (first ps f.value f.is) g.is)
      where
        first : (ps : List (Operator × Sense)) (x : ValueKind × ExprR) → first_meant line a ps ≡ Ok x → kind_of w.scope x.1 ≡ Some x.0
        first [] x e = ka x e
        first (p ∷ others) x e =
            let l = leading_kindly line (of_operator p.0) a x ka e in
            l.1 ∙ ap Some (sym (alike_operator p.0)) ∙ ap Some (sym l.0)

    unary_kindly : (line : ℕ) (sign : Name) (op : UnaryOperator) (m : Sense) (t : ValueKind × ExprR) → IsKindly m → after (operand line sign (unary_kind op) m) (unary_of op (unary_kind op)) ≡ Ok t → HasKind t
    unary_kindly line sign op m t kindly h =
        let f = went _ _ t h in
        has_kind_by (unary_kind op, R.Unary op f.value) t f.goes
        (kind_unary w.scope op f.value ∙ given (has_kind (unary_kind op) (kind_of w.scope f.value)) (Some (unary_kind op)) (unary_kind op)
        (has (unary_kind op) (kind_of w.scope f.value) (operand_kindly line sign (unary_kind op) m f.value kindly f.is)) refl)

    signed_kindly : (line : ℕ) (sign : FrontSign) (m : Sense) (t : ValueKind × ExprR) → IsKindly m → after (operand line (front_spelling sign) Integer m) (signed sign) ≡ Ok t → HasKind t
    signed_kindly line front.Plus m t kindly h =
        let f = went _ _ t h in
        has_kind_by (Integer, f.value) t f.goes (operand_kindly line (front_spelling front.Plus) Integer m f.value kindly f.is)
    signed_kindly line front.Minus m t kindly h = unary_kindly line (front_spelling front.Minus) unary.Negate m t kindly h

    rank_kindly : (line : ℕ) (x : Team) (t : ValueKind × ExprR) → after (team_meant scope line x) (λ y. fine (Integer, R.Rank y)) ≡ Ok t → HasKind t
    rank_kindly line x t h =
        let f = went _ _ t h in
        has_kind_by (Integer, R.Rank f.value) t f.goes (kind_rank w.scope f.value ∙ given (names_team w.scope f.value) (Some Integer) Integer (team_kindly line x f.value f.is) refl)

    size_kindly : (line : ℕ) (x : Team) (t : ValueKind × ExprR) → after (team_meant scope line x) (λ y. fine (Integer, R.Size y)) ≡ Ok t → HasKind t
    size_kindly line x t h =
        let f = went _ _ t h in
        has_kind_by (Integer, R.Size f.value) t f.goes (kind_size w.scope f.value ∙ given (names_team w.scope f.value) (Some Integer) Integer (team_kindly line x f.value f.is) refl)

    -- ---- the induction

    abbrev Kid : Type 0
    Kid = (e : Expr) × ((line : ℕ) → IsKindly (sense scope line e))

    abbrev senses : ℕ → List Kid → List Sense
    senses line xs = map (sense scope line) (map (λ (x : Kid). x.0) xs)

    all_kindly : (line : ℕ) (xs : List Kid) → AllKindly (senses line xs)
    all_kindly line [] = tt
    all_kindly line (x ∷ xs) = (x.1 line, all_kindly line xs)

    abbrev pairs : ℕ → List (Operator × Kid) → List (Operator × Sense)
    pairs line xs = map (λ (p : Operator × Expr). (p.0, sense scope line p.1)) (map (λ (p : Operator × Kid). (p.0, p.1.0)) xs)

    pairs_kindly : (line : ℕ) (xs : List (Operator × Kid)) → AllPairsKindly (pairs line xs)
    pairs_kindly line [] = tt
    pairs_kindly line (x ∷ xs) = (x.1.1 line, pairs_kindly line xs)

    abbrev IsLayerKindly : ℕ → Expr-F Kid → Type 0
    IsLayerKindly line y = IsKindly (layer scope line (map-Expr Expr Sense (sense scope line) (map-Expr Kid Expr (λ x. x.0) y)))

    kindly_layer : (line : ℕ) (y : Expr-F Kid) → IsLayerKindly line y
    kindly_layer line (Expr-F.Number n) t h = has_kind_by (Integer, R.Number n) t h (kind_number w.scope n)
    kindly_layer line (Expr-F.Truth b) t h = has_kind_by (Logical, R.Truth b) t h (kind_truth w.scope b)
    kindly_layer line (Expr-F.Parenthesized a) t h = a.1 line t h
    kindly_layer line (Expr-F.Variable v) t h = variable_layer v.name v.subscript v.place t h
      where
        variable_layer : (name : Name) (i : Option Kid) (p : Option (Place Kid)) (t : ValueKind × ExprR) →
            (layer scope line (map-Expr Expr Sense (sense scope line) (map-Expr Kid Expr (λ x. x.0) (Expr-F.Variable (record { name = name; subscript = i; place = p }))))).says ≡ Ok t → HasKind t
        variable_layer name None None t h = value_kindly line name (look scope name) None None t (stands name) tt tt h
        variable_layer name (Some i) None t h = value_kindly line name (look scope name) (Some (sense scope line i.0)) None t (stands name) (i.1 line) tt h
        variable_layer name None (Some p) t h = value_kindly line name (look scope name) None (Some (record { rank = sense scope line p.rank.0; team = p.team })) t (stands name) tt (p.rank.1 line) h
        variable_layer name (Some i) (Some p) t h = value_kindly line name (look scope name) (Some (sense scope line i.0)) (Some (record { rank = sense scope line p.rank.0; team = p.team })) t (stands name) (i.1 line) (p.rank.1 line) h
    kindly_layer line (Expr-F.Mod a b) t h = pair_kindly line binary.Modulo (sense scope line a.0) (sense scope line b.0) t (a.1 line) (b.1 line) h
    kindly_layer line (Expr-F.Abs a) t h = unary_kindly line (codes "abs") unary.Absolute (sense scope line a.0) t (a.1 line) h
    kindly_layer line (Expr-F.Min a b xs) t h = some_kindly line binary.Minimum (sense scope line a.0) (sense scope line b.0) (senses line xs) t refl (a.1 line) (b.1 line) (all_kindly line xs) h
    kindly_layer line (Expr-F.Max a b xs) t h = some_kindly line binary.Maximum (sense scope line a.0) (sense scope line b.0) (senses line xs) t refl (a.1 line) (b.1 line) (all_kindly line xs) h
    kindly_layer line (Expr-F.TeamRank x) t h = rank_kindly line x t h
    kindly_layer line (Expr-F.TeamSize x) t h = size_kindly line x t h
    kindly_layer line (Expr-F.Signed sign a) t h = signed_kindly line sign (sense scope line a.0) t (a.1 line) h
    kindly_layer line (Expr-F.Chain a xs) t h = chain_kindly line (sense scope line a.0) (pairs line xs) t (a.1 line) (pairs_kindly line xs) h
    kindly_layer line (Expr-F.Compare a r b) t h = pair_kindly line (of_relation r) (sense scope line a.0) (sense scope line b.0) t (a.1 line) (b.1 line) h
    kindly_layer line (Expr-F.Not a) t h = unary_kindly line (codes ".not.") unary.Not (sense scope line a.0) t (a.1 line) h

    -- what an expression means has its kind
    pub kindly : (e : Expr) (line : ℕ) → IsKindly (sense scope line e)
    kindly = ind-Expr (λ e. (line : ℕ) → IsKindly (sense scope line e)) (λ x y is.
        let P : Expr-F Expr → Type 0 = λ z. (line : ℕ) → IsKindly (sense scope line (roll-Expr z)) in
        let z : Expr-F Expr = map-Expr Kid Expr (λ x. x.0) y in
        subst P is (λ line. subst IsKindly (sym (fold-roll-Expr Sense (layer scope line) z)) (kindly_layer line y)))

    pub wanted_kindly : (line : ℕ) (name : Name) (k : ValueKind) (e : Expr) (x : ExprR) → operand line name k (sense scope line e) ≡ Ok x → kind_of w.scope x ≡ Some k
    wanted_kindly line name k e x h = operand_kindly line name k (sense scope line e) x (kindly e line) h

    pub wanted_has : (line : ℕ) (name : Name) (k : ValueKind) (e : Expr) (x : ExprR) → operand line name k (sense scope line e) ≡ Ok x → has_kind k (kind_of w.scope x) ≡ true
    wanted_has line name k e x h = has k (kind_of w.scope x) (wanted_kindly line name k e x h)

    -- the parts of a variable
    pub if_kindly : (line : ℕ) (i : Option Expr) → IfKindly (if_said scope line i)
    if_kindly line None = tt
    if_kindly line (Some e) = kindly e line

    pub if_place_kindly : (line : ℕ) (p : Option (Place Expr)) → IsPlaceKindly (place_said scope line p)
    if_place_kindly line None = tt
    if_place_kindly line (Some p) = kindly p.rank line
