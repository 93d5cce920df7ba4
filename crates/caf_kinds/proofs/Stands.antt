-- What a name stands for is there, in the program with slots.
use Rattle.std.proofs.Common.{◌≡◌, ◌∙◌, ℕ, Bool, true, false, List, [], ◌∷◌, map, Option, Some, None, refl, sym, ap, subst, slice_get}
use Rattle.caf_base.specs.declared.object.Object.{Object}
use Rattle.caf_base.specs.declared.object.Kind.{Kind}
use Rattle.caf_base.specs.declared.object.Kind.TheVariants as kind
use Rattle.caf_program.specs.declared.program.ValueKind.{ValueKind}
use Rattle.caf_program.specs.declared.program.ValueKind.TheVariants.{Integer, Logical}
use Rattle.caf_program.specs.declared.program.DummyR.{DummyR}
use Rattle.caf_program.specs.declared.program.SubR.{SubR}
use Rattle.caf_program.specs.Kinds.{Scope, FrameCell, provided, element_kind, aimed_kind, is_scalar, object_kind, scalar_kind, coarray_kind, copointer_kind, holds_team, holds_event, is_coarray, cell_kind, is_writable, is_event, is_team}
use Rattle.caf_declare.specs.declared.symbol.Symbol.{Symbol}
use Rattle.caf_declare.specs.declared.symbol.Symbol.TheVariants as symbol
use Rattle.caf_declare.specs.declared.symbol.Taken.{Taken}
use Rattle.caf_declare.specs.Table.{Name}
use Rattle.caf_declare.specs.Globals.{value_object, copointer_object}
use Rattle.caf_kinds.specs.Statements.{or_none}

-- the object at a place has the kind, is shared as is said, is a scalar where it stands alone, and the name is its own
pub record IsObject (objects : List Object) (labels : List Name) (name : Name) (o : ℕ) (k : Kind) (shared single : Bool) : Type 0 where
  pub object : Object
  pub is : slice_get objects o ≡ Some object
  pub kind_is : object.kind ≡ k
  pub shared_is : object.shared ≡ shared
  pub single_is : single ≡ true → is_scalar object ≡ true
  pub label : slice_get labels o ≡ Some name

-- the frame cell at a place, and its name
pub record IsCell (cells : List FrameCell) (labels : List Name) (name : Name) (c : ℕ) (k : ValueKind) (writable : Bool) : Type 0 where
  pub is : slice_get cells c ≡ Some (record { kind = k; writable = writable })
  pub label : slice_get labels c ≡ Some name

-- what a subroutine takes for a dummy
abbrev pub taken_of : DummyR → Option Taken
taken_of d = Some (record { kind = d.kind; intent = d.intent })

-- the subroutine at a place, with the dummies that are asked for
pub record IsSub (subs : List SubR) (signatures : List (List (Option Taken))) (f : ℕ) : Type 0 where
  pub sub : SubR
  pub is : slice_get subs f ≡ Some sub
  pub asked : or_none (slice_get signatures f) ≡ map taken_of sub.dummies

-- what is around: the scope, the names of its objects and cells, and what its subroutines take for their dummies
pub record World : Type 0 where
  pub scope : Scope
  pub labels : List Name
  pub cell_labels : List Name
  pub signatures : List (List (Option Taken))

abbrev pub Stands : World → Name → Symbol → Type 0
Stands w name (symbol.Constant c) = Unit {0}
Stands w name (symbol.Local k c writable) = IsCell w.scope.cells w.cell_labels name c k writable
Stands w name (symbol.Scalar k o shared) = IsObject w.scope.objects w.labels name o (value_object k) shared true
Stands w name (symbol.Array k o shared) = IsObject w.scope.objects w.labels name o (value_object k) shared false
Stands w name (symbol.Copointer k o) = IsObject w.scope.objects w.labels name o (copointer_object k) false true
Stands w name (symbol.Event o array shared) = IsObject w.scope.objects w.labels name o kind.Event shared false
Stands w name (symbol.Team o) = IsObject w.scope.objects w.labels name o kind.Team false true
Stands w name (symbol.Subroutine f) = IsSub w.scope.subs w.signatures f

element_value : (k : ValueKind) → element_kind (value_object k) ≡ Some k
element_value Integer = refl
element_value Logical = refl

aimed_value : (k : ValueKind) → aimed_kind (copointer_object k) ≡ Some k
aimed_value Integer = refl
aimed_value Logical = refl

module _ (objects : List Object) (labels : List Name) (name : Name) (o : ℕ) where
  pub object_of_kind : (k : ValueKind) (shared single : Bool) → IsObject objects labels name o (value_object k) shared single → object_kind (slice_get objects o) ≡ Some k
  object_of_kind k shared single h = ap object_kind h.is ∙ ap element_kind h.kind_is ∙ element_value k

  pub scalar_of_kind : (k : ValueKind) (shared : Bool) → IsObject objects labels name o (value_object k) shared true → scalar_kind (slice_get objects o) ≡ Some k
  scalar_of_kind k shared h =
      ap scalar_kind h.is ∙ ap (λ b. provided b (element_kind h.object.kind)) (h.single_is refl) ∙ ap element_kind h.kind_is ∙ element_value k

  pub coarray_of_kind : (k : ValueKind) (single : Bool) → IsObject objects labels name o (value_object k) true single → coarray_kind (slice_get objects o) ≡ Some k
  coarray_of_kind k single h =
      ap coarray_kind h.is ∙ ap (λ b. provided b (element_kind h.object.kind)) h.shared_is ∙ ap element_kind h.kind_is ∙ element_value k

  pub shared_of : (k : Kind) (shared single : Bool) → IsObject objects labels name o k shared single → is_coarray (slice_get objects o) ≡ shared
  shared_of k shared single h = ap is_coarray h.is ∙ h.shared_is

  pub copointer_of : (k : ValueKind) (shared single : Bool) → IsObject objects labels name o (copointer_object k) shared single → copointer_kind (slice_get objects o) ≡ Some k
  copointer_of k shared single h = ap copointer_kind h.is ∙ ap aimed_kind h.kind_is ∙ aimed_value k

  pub event_of : (shared single : Bool) → IsObject objects labels name o kind.Event shared single → holds_event (slice_get objects o) ≡ true
  event_of shared single h = ap holds_event h.is ∙ ap is_event h.kind_is

  pub team_of : (shared single : Bool) → IsObject objects labels name o kind.Team shared single → holds_team (slice_get objects o) ≡ true
  team_of shared single h = ap holds_team h.is ∙ ap is_team h.kind_is

pub cell_of_kind : (cells : List FrameCell) (labels : List Name) (name : Name) (c : ℕ) (k : ValueKind) (writable : Bool) → IsCell cells labels name c k writable → cell_kind (slice_get cells c) ≡ Some k
cell_of_kind cells labels name c k writable h = ap cell_kind h.is

pub cell_written : (cells : List FrameCell) (labels : List Name) (name : Name) (c : ℕ) (k : ValueKind) (writable : Bool) → IsCell cells labels name c k writable → is_writable (slice_get cells c) ≡ writable
cell_written cells labels name c k writable h = ap is_writable h.is
