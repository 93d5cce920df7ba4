-- What the main program declares: its objects are declared within the limits, and its names stand for them.
use Rattle.std.proofs.Common.{◌≡◌, ◌∙◌, ℕ, ◌+◌, ◌≤◌, ℤ, pos, negsuc, ◌+ℤ◌, ◌-ℤ◌, ◌≤ℤ◌, Bool, true, false, List, [], ◌∷◌, ◌++◌, length, Option, Some, None, is_some, Result, Ok, Err, refl, sym, ap, subst, slice_get, arith, length-append, if◌then◌else◌}
use Rattle.std.specs.Prelude.{◌&&◌, ◌^◌, ◌-◌, not, nat_le, nat_lt, int_le, sum_by}
use Rattle.std.specs.List.{list_all}
use Rattle.std.proofs.lemmas.Bool.{leb-true, ltb-true}
use Rattle.std.proofs.lemmas.Int.{ints}
use Rattle.std.proofs.lemmas.List.Sums.{sum_by-append, sum_by-cons}
use Rattle.std.proofs.lemmas.List.Folds.{list_all-append}
use Rattle.caf_base.specs.Arithmetic.{at_least_none, fits}
use Rattle.caf_base.specs.declared.object.Object.{Object}
use Rattle.caf_base.specs.declared.object.Kind.{Kind}
use Rattle.caf_base.specs.declared.object.Kind.TheVariants as kind
use Rattle.caf_tree.specs.declared.expr.Expr.{Expr}
use Rattle.caf_tree.specs.declared.unit.Bounds.{Bounds}
use Rattle.caf_tree.specs.declared.unit.Item.{Item}
use Rattle.caf_tree.specs.declared.unit.Decl.{Decl}
use Rattle.caf_tree.specs.declared.unit.Decl.TheVariants as decl
use Rattle.caf_program.specs.declared.program.ValueKind.{ValueKind}
use Rattle.caf_program.specs.declared.program.ValueKind.TheVariants.{Integer, Logical}
use Rattle.caf_program.specs.Kinds.{is_scalar}
use Rattle.caf_program.specs.Accepted.{is_declared, may_have_elements}
use Rattle.caf_declare.specs.declared.fault.Fault.{Fault}
use Rattle.caf_declare.specs.declared.symbol.Constant.{Constant}
use Rattle.caf_declare.specs.declared.symbol.Symbol.{Symbol}
use Rattle.caf_declare.specs.declared.symbol.Symbol.TheVariants as symbol
use Rattle.caf_declare.specs.declared.globals.Globals.{Globals}
use Rattle.caf_declare.specs.declared.globals.Shape.{Shape}
use Rattle.caf_declare.specs.Table.{Name, Names, found}
use Rattle.caf_declare.specs.Names.{after, unused, declared, refused}
use Rattle.caf_declare.specs.Operators.{kind_meant}
use Rattle.caf_declare.specs.Constants.{Known, number_of, value_of}
use Rattle.caf_declare.specs.Globals.{all_in_turn, no_globals, object_of, with_object, declare_object, bounded, bound, lower_bound, span, value_object, copointer_object, value_symbol, so_far, item_span, declare_variable, declare_event, alone, declare_copointer, declare_team, parameter, main_parameter, declare_parameter, declare, globals_of}
use Rattle.caf_kinds.proofs.Went.{went, held, unheld, fine, same_value, no_value}
use Rattle.caf_kinds.proofs.Looked.{Opt, Holds, holds_none, holds_more, holds_weaker, get_front, get_last}
use Rattle.caf_kinds.proofs.Stands.{World, Stands, IsObject, IsCell, IsSub}
use Rattle.caf_kinds.proofs.Kindly.{both}

abbrev globals_with : Names → List Object → List Name → ℕ → Globals
globals_with names objects labels cells = record { names = names; objects = objects; labels = labels; cells = cells }

-- what holds is kept by declaring one after another
pub turn_kept : {A S : Type 0} (P : S → Type 0) (go : A → S → Result S Fault) → ((a : A) (s t : S) → P s → go a s ≡ Ok t → P t) →
    (xs : List A) (s t : S) → P s → all_in_turn go xs s ≡ Ok t → P t
turn_kept P go step [] s t p h = subst P (same_value s t h) p
turn_kept P go step (x ∷ xs) s t p h =
    let f = went _ _ t h in
    turn_kept P go step xs f.value t (step x s f.value p f.is) f.goes

-- the world of the objects alone
abbrev pub objects_world : List Object → List Name → World
objects_world objects labels = record { scope = record { objects = objects; cells = []; subs = [] }; labels = labels; cell_labels = []; signatures = [] }

pub record AreObjects (m : Globals) : Type 0 where
  pub named : length m.labels ≡ length m.objects
  pub declared_all : list_all is_declared m.objects ≡ true
  pub counted : m.cells ≡ sum_by (λ (o : Object). o.extent) m.objects
  pub few : m.cells ≤ 65536
  pub standing : Holds (Stands (objects_world m.objects m.labels)) m.names

object_more : (objects : List Object) (labels : List Name) (x : Object) (n name : Name) (o : ℕ) (k : Kind) (shared single : Bool) →
    IsObject objects labels name o k shared single → IsObject (objects ++ x ∷ []) (labels ++ n ∷ []) name o k shared single
object_more objects labels x n name o k shared single h = record {
  object = h.object;
  is = get_front objects (x ∷ []) o h.object h.is;
  kind_is = h.kind_is;
  shared_is = h.shared_is;
  single_is = h.single_is;
  label = get_front labels (n ∷ []) o name h.label;
}

-- names stand for the same where one object more is declared
stands_more : (objects : List Object) (labels : List Name) (x : Object) (n name : Name) (s : Symbol) → Stands (objects_world objects labels) name s → Stands (objects_world (objects ++ x ∷ []) (labels ++ n ∷ [])) name s
stands_more objects labels x n name (symbol.Constant c) h = tt
stands_more objects labels x n name (symbol.Local k c b) h = h
stands_more objects labels x n name (symbol.Scalar k o b) h = object_more objects labels x n name o (value_object k) b true h
stands_more objects labels x n name (symbol.Array k o b) h = object_more objects labels x n name o (value_object k) b false h
stands_more objects labels x n name (symbol.Copointer k o) h = object_more objects labels x n name o (copointer_object k) false true h
stands_more objects labels x n name (symbol.Event o a b) h = object_more objects labels x n name o kind.Event b false h
stands_more objects labels x n name (symbol.Team o) h = object_more objects labels x n name o kind.Team false true h
stands_more objects labels x n name (symbol.Subroutine f) h = h

-- one object more
abbrev behind : Globals → Name → Shape → World
behind m name s = objects_world (m.objects ++ object_of s ∷ []) (m.labels ++ name ∷ [])

one_true : (b : Bool) → b ≡ true → (b && true) ≡ true
one_true b h = both b true h refl

declared_names : (line : ℕ) (names others : Names) (name : Name) (s : Symbol) → declared line names name s ≡ Ok others → names ++ (name, s) ∷ [] ≡ others
declared_names line names others name s h = (unheld (is_some (found names name)) (names ++ (name, s) ∷ []) others _ h).1

grown : (m : Globals) (name : Name) (y : Symbol) (s : Shape) → AreObjects m → is_declared (object_of s) ≡ true → Stands (behind m name s) name y → m.cells + s.extent ≤ 65536 →
    AreObjects (globals_with (m.names ++ (name, y) ∷ []) (m.objects ++ object_of s ∷ []) (m.labels ++ name ∷ []) (m.cells + s.extent))
grown m name y s all fit st few =
    let x : Object = object_of s in
    let ext : Object → ℕ = λ (o : Object). o.extent in
    record {
      named = omega (arith, length-append m.labels (name ∷ []), length-append m.objects (x ∷ []), all.named);
      declared_all = list_all-append is_declared m.objects (x ∷ []) ∙ both (list_all is_declared m.objects) (list_all is_declared (x ∷ [])) all.declared_all (one_true (is_declared x) fit);
      counted = more_cells m.objects x m.cells all.counted;
      few = few;
      standing = holds_more (Stands (behind m name s)) m.names name y
          (holds_weaker (Stands (objects_world m.objects m.labels)) (Stands (behind m name s)) m.names (λ n z h. stands_more m.objects m.labels x name n z h) all.standing) st;
    }
  where
    more_cells : (os : List Object) (x : Object) (n : ℕ) → n ≡ sum_by (λ (o : Object). o.extent) os → n + x.extent ≡ sum_by (λ (o : Object). o.extent) (os ++ x ∷ [])
    more_cells os x n e = omega (arith, e, sum_by-append (λ (o : Object). o.extent) os (x ∷ []), sum_by-cons (λ (o : Object). o.extent) x [])

object_kept : (line : ℕ) (name : Name) (y : Symbol) (s : Shape) (m t : Globals) → AreObjects m → is_declared (object_of s) ≡ true → Stands (behind m name s) name y → declare_object line name y s m ≡ Ok t → AreObjects t
object_kept line name y s m t all fit st h =
    let f = went _ _ t h in
    let names : m.names ++ (name, y) ∷ [] ≡ f.value = declared_names line m.names f.value name y f.is in
    let g = held (nat_le (m.cells + s.extent) 65536) (globals_with f.value (m.objects ++ object_of s ∷ []) (m.labels ++ name ∷ []) (m.cells + s.extent)) t _ f.goes in
    subst AreObjects g.1
    (subst (λ (n : Names). AreObjects (globals_with n (m.objects ++ object_of s ∷ []) (m.labels ++ name ∷ []) (m.cells + s.extent))) names
    (grown m name y s all fit st (leb-true (m.cells + s.extent) 65536 g.0)))

-- the object that is declared, under its name
pub newest : (m : Globals) (name : Name) (s : Shape) (single : Bool) → AreObjects m → (single ≡ true → is_scalar (object_of s) ≡ true) →
    IsObject (m.objects ++ object_of s ∷ []) (m.labels ++ name ∷ []) name (length m.objects) s.kind s.shared single
newest m name s single all alone_is = record {
  object = object_of s;
  is = get_last m.objects (object_of s);
  kind_is = refl;
  shared_is = refl;
  single_is = alone_is;
  label = subst (λ n. slice_get (m.labels ++ name ∷ []) n ≡ Some name) all.named (get_last m.labels name);
}

-- ---- bounds

below : (z : ℤ) → fits z ≡ true → z ≤ℤ pos (2 ^ 63 - 1)
below (pos n) h = let lt = ltb-true n (2 ^ 63) h in omega (arith, ints)
below (negsuc n) h = omega (arith, ints)

of_le : (a b : ℤ) → a ≤ℤ b → int_le a b ≡ true
of_le a b e = grind (arith, e)

ends : (l u z : ℤ) → u -ℤ l +ℤ pos 1 ≡ z → l ≤ℤ pos (2 ^ 63 - 1) → u ≤ℤ pos (2 ^ 63 - 1) → (l +ℤ pos (at_least_none z)) ≤ℤ pos (2 ^ 63)
ends l u (pos n) e hl hu = omega (arith, ints)
ends l u (negsuc n) e hl hu = omega (arith, ints)

bounded_below : (line : ℕ) (item : Name) (z t : ℤ) → bounded line item z ≡ Ok t → t ≤ℤ pos (2 ^ 63 - 1)
bounded_below line item z t h =
    let g = held (fits z) z t _ h in
    subst (λ x. x ≤ℤ pos (2 ^ 63 - 1)) g.1 (below z g.0)

bound_below : (names : Known) (line : ℕ) (item : Name) (e : Expr) (z : ℤ) → bound names line item e ≡ Ok z → z ≤ℤ pos (2 ^ 63 - 1)
bound_below names line item e z h =
    let f = went (value_of names line item Integer e) (λ c. bounded line item (number_of c)) z h in
    bounded_below line item (number_of f.value) z f.goes

lower_below : (names : Known) (line : ℕ) (item : Name) (e : Option Expr) (z : ℤ) → lower_bound names line item e ≡ Ok z → z ≤ℤ pos (2 ^ 63 - 1)
lower_below names line item None z h = subst (λ x. x ≤ℤ pos (2 ^ 63 - 1)) (same_value (pos 1) z h) (omega (arith, ints))
lower_below names line item (Some e) z h = bound_below names line item e z h

-- the last index is one of 64 bits
abbrev EndsWell : ℤ × ℕ → Type 0
EndsWell s = int_le (s.0 +ℤ pos s.1) (pos (2 ^ 63)) ≡ true

span_ends : (names : Known) (line : ℕ) (item : Name) (b : Option Bounds) (s : ℤ × ℕ) → span names line item b ≡ Ok s → EndsWell s
span_ends names line item None s h = subst EndsWell (same_value (pos 1, 1) s h) refl
span_ends names line item (Some b) s h =
    let f = went _ _ s h in
    let g = went _ _ s f.goes in
    let z : ℤ = g.value -ℤ f.value +ℤ pos 1 in
    subst EndsWell (same_value (f.value, at_least_none z) s g.goes)
    (of_le (f.value +ℤ pos (at_least_none z)) (pos (2 ^ 63)) (ends f.value g.value z refl (lower_below names line item b.lower f.value f.is) (bound_below names line item b.upper g.value g.is)))

span_single : (names : Known) (line : ℕ) (item : Name) (s : ℤ × ℕ) (k : Kind) (shared : Bool) → span names line item None ≡ Ok s → is_scalar (record { kind = k; lower = s.0; extent = s.1; shared = shared }) ≡ true
span_single names line item s k shared h = subst (λ (x : ℤ × ℕ). is_scalar (record { kind = k; lower = x.0; extent = x.1; shared = shared }) ≡ true) (same_value (pos 1, 1) s h) refl

-- an object of the kind may have elements
elements_declared : (s : ℤ × ℕ) (k : Kind) (shared : Bool) → may_have_elements k ≡ true → EndsWell s → is_declared (record { kind = k; lower = s.0; extent = s.1; shared = shared }) ≡ true
elements_declared s k shared e h =
    both (int_le (s.0 +ℤ pos s.1) (pos (2 ^ 63))) (if may_have_elements k then true else (is_scalar (record { kind = k; lower = s.0; extent = s.1; shared = shared }) && not shared)) h
    (subst (λ b. (if b then true else (is_scalar (record { kind = k; lower = s.0; extent = s.1; shared = shared }) && not shared)) ≡ true) (sym e) refl)

value_elements : (k : ValueKind) → may_have_elements (value_object k) ≡ true
value_elements Integer = refl
value_elements Logical = refl

-- ---- the forms of declarations

variable_stands : (line : ℕ) (k : ValueKind) (name : Name) (shared : Bool) (m : Globals) (b : Option Bounds) (s : ℤ × ℕ) → AreObjects m → span (so_far m) line name b ≡ Ok s →
    Stands (behind m name (record { kind = value_object k; lower = s.0; extent = s.1; shared = shared })) name (value_symbol k (length m.objects) shared (is_some b))
variable_stands line k name shared m None s all h =
    newest m name (record { kind = value_object k; lower = s.0; extent = s.1; shared = shared }) true all (λ _. span_single (so_far m) line name s (value_object k) shared h)
variable_stands line k name shared m (Some b) s all h =
    newest m name (record { kind = value_object k; lower = s.0; extent = s.1; shared = shared }) false all (λ e. absurd (cc))

variable_kept : (line : ℕ) (k : ValueKind) (i : Item) (m t : Globals) → AreObjects m → declare_variable line k i m ≡ Ok t → AreObjects t
variable_kept line k i m t all h =
    let f = went _ _ t h in
    let g = went (unused line m.names i.name) (λ _. span (so_far m) line i.name i.bounds) f.value f.is in
    object_kept line i.name (value_symbol k (length m.objects) i.shared (is_some i.bounds)) (record { kind = value_object k; lower = f.value.0; extent = f.value.1; shared = i.shared }) m t all
    (elements_declared f.value (value_object k) i.shared (value_elements k) (span_ends (so_far m) line i.name i.bounds f.value g.goes))
    (variable_stands line k i.name i.shared m i.bounds f.value all g.goes) f.goes

event_kept : (line : ℕ) (i : Item) (m t : Globals) → AreObjects m → declare_event line i m ≡ Ok t → AreObjects t
event_kept line i m t all h =
    let f = went _ _ t h in
    let g = went (unused line m.names i.name) (λ _. span (so_far m) line i.name i.bounds) f.value f.is in
    object_kept line i.name (symbol.Event (length m.objects) (is_some i.bounds) i.shared) (record { kind = kind.Event; lower = f.value.0; extent = f.value.1; shared = i.shared }) m t all
    (elements_declared f.value kind.Event i.shared refl (span_ends (so_far m) line i.name i.bounds f.value g.goes))
    (newest m i.name (record { kind = kind.Event; lower = f.value.0; extent = f.value.1; shared = i.shared }) false all (λ e. absurd (cc))) f.goes

alone_declared : (k : ValueKind) → is_declared (object_of (alone (copointer_object k))) ≡ true
alone_declared Integer = refl
alone_declared Logical = refl

copointer_kept : (line : ℕ) (k : ValueKind) (name : Name) (m t : Globals) → AreObjects m → declare_copointer line k name m ≡ Ok t → AreObjects t
copointer_kept line k name m t all h =
    object_kept line name (symbol.Copointer k (length m.objects)) (alone (copointer_object k)) m t all (alone_declared k) (newest m name (alone (copointer_object k)) true all (λ _. refl)) h

team_kept : (line : ℕ) (name : Name) (m t : Globals) → AreObjects m → declare_team line name m ≡ Ok t → AreObjects t
team_kept line name m t all h = object_kept line name (symbol.Team (length m.objects)) (alone kind.Team) m t all refl (newest m name (alone kind.Team) true all (λ _. refl)) h

-- a parameter stands for its value
pub parameter_constant : (own : Names) (earlier : Known) (line : ℕ) (name : Name) (k : ValueKind) (e : Expr) (s : Symbol) → parameter own earlier line name k e ≡ Ok s → (c : Constant) × (symbol.Constant c ≡ s)
parameter_constant own earlier line name k e s h =
    let f = went (unused line own name) (λ _. after (value_of earlier line name k e) (λ c. fine (symbol.Constant c))) s h in
    let g = went (value_of earlier line name k e) (λ c. fine (symbol.Constant c)) s f.goes in
    (g.value, same_value (symbol.Constant g.value) s g.goes)

parameter_kept : (line : ℕ) (k : ValueKind) (p : Name × Expr) (m t : Globals) → AreObjects m → declare_parameter line k p m ≡ Ok t → AreObjects t
parameter_kept line k p m t all h =
    let f = went _ _ t h in
    let g = went _ _ t f.goes in
    let c = parameter_constant m.names (so_far m) line p.0 k p.1 f.value f.is in
    let names : m.names ++ (p.0, f.value) ∷ [] ≡ g.value = declared_names line m.names g.value p.0 f.value g.is in
    subst AreObjects (same_value (globals_with g.value m.objects m.labels m.cells) t g.goes) (record {
      named = all.named;
      declared_all = all.declared_all;
      counted = all.counted;
      few = all.few;
      standing = subst (Holds (Stands (objects_world m.objects m.labels))) names
          (holds_more (Stands (objects_world m.objects m.labels)) m.names p.0 f.value all.standing (subst (Stands (objects_world m.objects m.labels) p.0) c.1 tt));
    })

declaration_kept : (d : Decl) (m t : Globals) → AreObjects m → declare d m ≡ Ok t → AreObjects t
declaration_kept (decl.Parameters line k values) m t all h = turn_kept AreObjects (declare_parameter line (kind_meant k)) (parameter_kept line (kind_meant k)) values m t all h
declaration_kept (decl.Copointers line k names) m t all h = turn_kept AreObjects (declare_copointer line (kind_meant k)) (copointer_kept line (kind_meant k)) names m t all h
declaration_kept (decl.Dummies line k i names) m t all h =
    let f = went (refused line names) (λ _. fine m) t h in
    subst AreObjects (same_value m t f.goes) all
declaration_kept (decl.Variables line k items) m t all h = turn_kept AreObjects (declare_variable line (kind_meant k)) (variable_kept line (kind_meant k)) items m t all h
declaration_kept (decl.Events line items) m t all h = turn_kept AreObjects (declare_event line) (event_kept line) items m t all h
declaration_kept (decl.Teams line names) m t all h = turn_kept AreObjects (declare_team line) (team_kept line) names m t all h

pub globals_kept : (ds : List Decl) (m : Globals) → globals_of ds ≡ Ok m → AreObjects m
globals_kept ds m h = turn_kept AreObjects declare declaration_kept ds no_globals m (record { named = refl; declared_all = refl; counted = refl; few = omega arith; standing = holds_none (Stands (objects_world [] [])) }) h
