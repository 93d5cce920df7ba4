-- What the kind of an expression says of the slots that its instructions name.
use Rattle.std.proofs.Common.{◌≡◌, ℕ, ◌<◌, true, false, List, Option, Some, None, length, refl, sym, subst}
use Rattle.std.specs.Prelude.{◌&&◌, Bool, nat_lt, slice_get}
use Rattle.std.proofs.lemmas.Bool.{lt-ltb}
use Rattle.std.proofs.lemmas.Option.{slice_get_within}
use Rattle.caf_base.specs.declared.object.Kind.{Kind}
use Rattle.caf_base.specs.declared.object.Kind.TheVariants as kind
use Rattle.caf_base.specs.declared.object.Object.{Object}
use Rattle.caf_program.specs.Kinds.{FrameCell, Scope, aimed_kind, cell_kind, coarray_kind, copointer_kind, element_kind, holds_team, is_scalar, is_team, names_team, object_kind, provided, scalar_kind}
use Rattle.caf_program.specs.declared.expr.TeamR.{TeamR}
use Rattle.caf_program.specs.declared.expr.TeamR.TheVariants as team
use Rattle.caf_program.specs.declared.program.ValueKind.{ValueKind}
use Rattle.caf_code.specs.Rules.{is_copointer, is_copointer_kind, is_data, is_data_kind, is_team_kind, names_place, names_team as names_team_of, of_kind}
use Rattle.caf_code.specs.Shapes.{Part, cells_of}
use Rattle.caf_code.specs.declared.listing.Listing.{Listing}
use Rattle.caf_exprgen.specs.ExprCode.{team_name, team_place}
use Rattle.caf_exprgen.specs.Straight.{Serves}

-- what `provided` says where it gives a kind
pub provided_test : (b : Bool) (o : Option ValueKind) (k : ValueKind) → provided b o ≡ Some k → b ≡ true
provided_test true o k e = refl
provided_test false o k e = let h : None ≡ Some k = e in absurd (cc)

pub provided_kind : (b : Bool) (o : Option ValueKind) (k : ValueKind) → provided b o ≡ Some k → o ≡ Some k
provided_kind true o k e = e
provided_kind false o k e = let h : None ≡ Some k = e in absurd (cc)

pub first_true : (a b : Bool) → (a && b) ≡ true → a ≡ true
first_true true b e = refl
first_true false b e = e

pub second_true : (a b : Bool) → (a && b) ≡ true → b ≡ true
second_true true b e = e
second_true false b e = let h : false ≡ true = e in absurd (cc)

data_kind : (x : Kind) (k : ValueKind) → element_kind x ≡ Some k → is_data_kind x ≡ true
data_kind kind.Integer k e = refl
data_kind kind.Logical k e = refl
data_kind _ k e = let h : None ≡ Some k = e in absurd (cc)

data_object : (o : Option Object) (k : ValueKind) → object_kind o ≡ Some k → of_kind is_data_kind o ≡ true
data_object None k e = let h : None ≡ Some k = e in absurd (cc)
data_object (Some o) k e = data_kind o.kind k e

data_scalar : (o : Option Object) (k : ValueKind) → scalar_kind o ≡ Some k → of_kind is_data_kind o ≡ true
data_scalar None k e = let h : None ≡ Some k = e in absurd (cc)
data_scalar (Some o) k e = data_kind o.kind k (provided_kind (is_scalar o) (element_kind o.kind) k e)

team_kind : (x : Kind) → is_team x ≡ true → is_team_kind x ≡ true
team_kind kind.Team e = refl
team_kind _ e = let h : false ≡ true = e in absurd (cc)

team_object : (o : Option Object) → holds_team o ≡ true → of_kind is_team_kind o ≡ true
team_object None e = e
team_object (Some o) e = team_kind o.kind e

pub element_data : (code : Listing) (p : Part) (s : Scope) (o : ℕ) (k : ValueKind) → Serves code p s → object_kind (slice_get s.objects o) ≡ Some k → is_data code o ≡ true
element_data code p s o k serves e = subst (λ xs. of_kind is_data_kind (slice_get xs o) ≡ true) (sym serves.objects) (data_object (slice_get s.objects o) k e)

pub scalar_data : (code : Listing) (p : Part) (s : Scope) (o : ℕ) (k : ValueKind) → Serves code p s → scalar_kind (slice_get s.objects o) ≡ Some k → is_data code o ≡ true
scalar_data code p s o k serves e = subst (λ xs. of_kind is_data_kind (slice_get xs o) ≡ true) (sym serves.objects) (data_scalar (slice_get s.objects o) k e)

pub team_named : (code : Listing) (p : Part) (s : Scope) (x : TeamR) → Serves code p s → names_team s x ≡ true → names_team_of code (team_name x) ≡ true
team_named code p s team.World serves e = refl
team_named code p s (team.Object o) serves e = subst (λ xs. of_kind is_team_kind (slice_get xs o) ≡ true) (sym serves.objects) (team_object (slice_get s.objects o) e)

is_below : (cells : List FrameCell) (n : ℕ) (o : Option FrameCell) (k : ValueKind) → slice_get cells n ≡ o → cell_kind o ≡ Some k → n < length cells
is_below cells n None k e f = let h : None ≡ Some k = f in absurd (cc)
is_below cells n (Some c) k e f = slice_get_within cells n c e

pub cell_there : (code : Listing) (p : Part) (s : Scope) (n : ℕ) (k : ValueKind) → Serves code p s → cell_kind (slice_get s.cells n) ≡ Some k → nat_lt n (cells_of code p) ≡ true
cell_there code p s n k serves e = subst (λ x. nat_lt n x ≡ true) (sym serves.cells) (lt-ltb n (length s.cells) (is_below s.cells n (slice_get s.cells n) k refl e))

pub both_true : (a b : Bool) → a ≡ true → b ≡ true → (a && b) ≡ true
both_true true b e f = f
both_true false b e f = e

coarray_object : (o : Option Object) (k : ValueKind) → coarray_kind o ≡ Some k → of_kind is_data_kind o ≡ true
coarray_object None k e = let h : None ≡ Some k = e in absurd (cc)
coarray_object (Some o) k e = data_kind o.kind k (provided_kind o.shared (element_kind o.kind) k e)

pub coarray_data : (code : Listing) (p : Part) (s : Scope) (o : ℕ) (k : ValueKind) → Serves code p s → coarray_kind (slice_get s.objects o) ≡ Some k → is_data code o ≡ true
coarray_data code p s o k serves e = subst (λ xs. of_kind is_data_kind (slice_get xs o) ≡ true) (sym serves.objects) (coarray_object (slice_get s.objects o) k e)

aimed : (x : Kind) (k : ValueKind) → aimed_kind x ≡ Some k → is_copointer_kind x ≡ true
aimed kind.CoInteger k e = refl
aimed kind.CoLogical k e = refl
aimed _ k e = let h : None ≡ Some k = e in absurd (cc)

copointer_object : (o : Option Object) (k : ValueKind) → copointer_kind o ≡ Some k → of_kind is_copointer_kind o ≡ true
copointer_object None k e = let h : None ≡ Some k = e in absurd (cc)
copointer_object (Some o) k e = aimed o.kind k e

pub copointer_named : (code : Listing) (p : Part) (s : Scope) (c : ℕ) (k : ValueKind) → Serves code p s → copointer_kind (slice_get s.objects c) ≡ Some k → is_copointer code c ≡ true
copointer_named code p s c k serves e = subst (λ xs. of_kind is_copointer_kind (slice_get xs c) ≡ true) (sym serves.objects) (copointer_object (slice_get s.objects c) k e)

pub place_named : (code : Listing) (p : Part) (s : Scope) (x : TeamR) → Serves code p s → names_team s x ≡ true → names_place code (team_place x) ≡ true
place_named code p s team.World serves e = refl
place_named code p s (team.Object o) serves e = subst (λ xs. of_kind is_team_kind (slice_get xs o) ≡ true) (sym serves.objects) (team_object (slice_get s.objects o) e)
