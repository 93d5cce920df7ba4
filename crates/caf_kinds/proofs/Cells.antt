-- What a subroutine declares: the cells of its dummies and locals, and names that stand for them.
use Rattle.std.proofs.Common.{◌≡◌, ◌∙◌, ℕ, zero, suc, ◌+◌, ◌≤◌, ◌<◌, Bool, true, false, List, [], ◌∷◌, ◌++◌, map, length, get_or, Option, Some, None, is_some, Result, Ok, Err, refl, sym, ap, subst, slice_get, arith, length-append, append_assoc, if◌then◌else◌, bytes_eq}
use Rattle.std.specs.Prelude.{not, nat_lt, position, ◌||◌}
use Rattle.std.specs.Option.{option_map}
use Rattle.std.proofs.lemmas.Bool.{ltb-true}
use Rattle.std.proofs.lemmas.Option.{slice_get-map, slice_get-get_or}
use Rattle.std.proofs.lemmas.List.{map-append, length-map}
use Rattle.std.proofs.lemmas.List.Quantifiers.{position-Some}
use Rattle.caf_tree.specs.declared.expr.Expr.{Expr}
use Rattle.caf_tree.specs.declared.unit.Item.{Item}
use Rattle.caf_tree.specs.declared.unit.Decl.{Decl}
use Rattle.caf_tree.specs.declared.unit.Decl.TheVariants as decl
use Rattle.caf_program.specs.declared.program.ValueKind.{ValueKind}
use Rattle.caf_program.specs.declared.program.Intent.{Intent}
use Rattle.caf_program.specs.declared.program.Intent.TheVariants.{In, InOut}
use Rattle.caf_program.specs.declared.program.DummyR.{DummyR}
use Rattle.caf_program.specs.Kinds.{FrameCell}
use Rattle.caf_program.specs.Ships.{is_in}
use Rattle.caf_program.specs.Accepted.{cell_of}
use Rattle.caf_declare.specs.declared.fault.Fault.{Fault}
use Rattle.caf_declare.specs.declared.symbol.Symbol.{Symbol}
use Rattle.caf_declare.specs.declared.symbol.Symbol.TheVariants as symbol
use Rattle.caf_declare.specs.declared.symbol.Taken.{Taken}
use Rattle.caf_declare.specs.declared.frame.Frame.{Frame}
use Rattle.caf_declare.specs.Table.{Name, Names, found}
use Rattle.caf_declare.specs.Names.{after, among, declared, refused}
use Rattle.caf_declare.specs.Operators.{kind_meant}
use Rattle.caf_declare.specs.Constants.{Heads, known}
use Rattle.caf_declare.specs.Globals.{all_in_turn, parameter}
use Rattle.caf_declare.specs.Frames.{or_none, signature, listed_dummy, listed_behind, listed, dummy_meant, dummies_meant, no_frame, is_writable, with_name, dummy_at, declare_dummy, no_dummy, plain, with_local, declare_local, own_parameter, declare_own_parameter, refused_items, declare_in, frame_of}
use Rattle.caf_kinds.proofs.Went.{went, held, unheld, fine, same_value, no_value}
use Rattle.caf_kinds.proofs.Looked.{Opt, Holds, holds_none, holds_more, holds_weaker, get_front, get_last, same_name}
use Rattle.caf_kinds.proofs.Stands.{World, Stands, IsObject, IsCell, IsSub, taken_of}
use Rattle.caf_kinds.proofs.Objects.{turn_kept, parameter_constant}

abbrev framed : Names → List ValueKind → Frame
framed names locals = record { names = names; locals = locals }

-- ---- the dummies

abbrev of_taken : Name → Taken → DummyR
of_taken name t = record { name = name; kind = t.kind; intent = t.intent }

-- the first dummy, and those behind it
record AreDummies (line : ℕ) (heads : Heads) (name : Name) (others : List Name) (ds : List DummyR) : Type 0 where
  dummy : DummyR
  rest : List DummyR
  first_is : dummy_meant line name (or_none (found heads name)) ≡ Ok dummy
  rest_is : dummies_meant line heads others ≡ Ok rest
  all_are : dummy ∷ rest ≡ ds

apart : (line : ℕ) (heads : Heads) (name : Name) (others : List Name) (ds : List DummyR) → dummies_meant line heads (name ∷ others) ≡ Ok ds → AreDummies line heads name others ds
apart line heads name others ds h =
    let f = went _ _ ds h in
    let g = went _ _ ds f.goes in
    record { dummy = f.value; rest = g.value; first_is = f.is; rest_is = g.is; all_are = same_value (f.value ∷ g.value) ds g.goes }

pub as_many : (line : ℕ) (heads : Heads) (header : List Name) (ds : List DummyR) → dummies_meant line heads header ≡ Ok ds → length ds ≡ length header
as_many line heads [] ds h = ap length (sym (same_value [] ds h))
as_many line heads (n ∷ others) ds h =
    let a = apart line heads n others ds h in
    ap length (sym a.all_are) ∙ ap suc (as_many line heads others a.rest a.rest_is)

one_dummy : (line : ℕ) (name : Name) (o : Option Taken) (d : DummyR) → dummy_meant line name o ≡ Ok d → (o ≡ taken_of d) × (d.name ≡ name)
one_dummy line name (Some t) d h =
    let is : of_taken name t ≡ d = same_value (of_taken name t) d h in
    (ap taken_of is, sym (ap (λ (x : DummyR). x.name) is))
one_dummy line name None d h = no_value _ d h

-- what is asked of a subroutine's dummies is what they are
pub signed : (line : ℕ) (heads : Heads) (header : List Name) (ds : List DummyR) → dummies_meant line heads header ≡ Ok ds → signature heads header ≡ map taken_of ds
signed line heads [] ds h = ap (map taken_of) (same_value [] ds h)
signed line heads (n ∷ others) ds h =
    let a = apart line heads n others ds h in
    ap (λ (x : Option Taken). x ∷ signature heads others) (one_dummy line n (or_none (found heads n)) a.dummy a.first_is).0
    ∙ ap (λ (xs : List (Option Taken)). taken_of a.dummy ∷ xs) (signed line heads others a.rest a.rest_is)
    ∙ ap (map taken_of) a.all_are

writable_cell : (i : Intent) → not (is_in i) ≡ is_writable i
writable_cell In = refl
writable_cell InOut = refl

abbrev cell_with : ValueKind → Bool → FrameCell
cell_with k b = record { kind = k; writable = b }

abbrev cell_for : Taken → FrameCell
cell_for t = cell_with t.kind (is_writable t.intent)

cell_is : (name : Name) (t : Taken) → cell_of (of_taken name t) ≡ cell_for t
cell_is name t = ap (cell_with t.kind) (writable_cell t.intent)

one_cell : (line : ℕ) (name : Name) (t : Taken) (d : DummyR) → dummy_meant line name (Some t) ≡ Ok d → cell_of d ≡ cell_for t
one_cell line name t d h = ap cell_of (sym (same_value (of_taken name t) d h)) ∙ cell_is name t

-- the cell of a dummy at its place
dummy_cell : (line : ℕ) (heads : Heads) (header : List Name) (ds : List DummyR) (at : ℕ) (name : Name) (t : Taken) →
    dummies_meant line heads header ≡ Ok ds → slice_get header at ≡ Some name → or_none (found heads name) ≡ Some t → slice_get (map cell_of ds) at ≡ Some (cell_for t)
dummy_cell line heads [] ds at name t h here is = absurd (cc)
dummy_cell line heads (n ∷ others) ds zero name t h here is =
    let a = apart line heads n others ds h in
    let same : n ≡ name = some_same n name here in
    let taken : or_none (found heads n) ≡ Some t = ap (λ x. or_none (found heads x)) same ∙ is in
    subst (λ (xs : List DummyR). slice_get (map cell_of xs) 0 ≡ Some (cell_for t)) a.all_are
    (ap Some (one_cell line n t a.dummy (subst (λ o. dummy_meant line n o ≡ Ok a.dummy) taken a.first_is)))
  where
    some_same : (a b : Name) → Some a ≡ Some b → a ≡ b
    some_same a b e = cc
dummy_cell line heads (n ∷ others) ds (suc at) name t h here is =
    let a = apart line heads n others ds h in
    subst (λ (xs : List DummyR). slice_get (map cell_of xs) (suc at) ≡ Some (cell_for t)) a.all_are (dummy_cell line heads others a.rest at name t a.rest_is here is)

inner : (a b c : Bool) (f g e : Fault) (u : Unit {0}) → (if a then Err f else (if b then Err g else (if c then Ok tt else Err e))) ≡ Ok u → c ≡ true
inner false false true f g e u h = refl
inner true b c f g e u h = no_value f u h
inner false true c f g e u h = no_value g u h
inner false false false f g e u h = no_value e u h

few_behind : (line : ℕ) (heads : Heads) (before header : List Name) (u : Unit {0}) → listed_behind line heads before header ≡ Ok u → length before ≤ 64 → length before + length header ≤ 64
few_behind line heads before [] u h few = omega (arith, few)
few_behind line heads before (n ∷ others) u h few =
    let f = went _ _ u h in
    let less : nat_lt (length before) 64 ≡ true = inner (among before n) (not (is_some (found heads n))) (nat_lt (length before) 64) _ _ _ f.value f.is in
    let lt : length before < 64 = ltb-true (length before) 64 less in
    let more : length (before ++ n ∷ []) ≡ length before + 1 = length-append before (n ∷ []) in
    let rest : length (before ++ n ∷ []) + length others ≤ 64 = few_behind line heads (before ++ n ∷ []) others u f.goes (omega (arith, lt, more)) in
    omega (arith, rest, more)

pub few_dummies : (line : ℕ) (heads : Heads) (header : List Name) (u : Unit {0}) → listed line heads header ≡ Ok u → length header ≤ 64
few_dummies line heads header u h = let few = few_behind line heads [] header u h (omega arith) in omega (arith, few)

-- ---- the frame

abbrev pub local_cell : ValueKind → FrameCell
local_cell k = record { kind = k; writable = true }

abbrev pub cells_for : List DummyR → List ValueKind → List FrameCell
cells_for ds locals = map cell_of ds ++ map local_cell locals

abbrev pub cells_world : List FrameCell → List Name → World
cells_world cells labels = record { scope = record { objects = []; cells = cells; subs = [] }; labels = []; cell_labels = labels; signatures = [] }

cell_more : (cells : List FrameCell) (labels : List Name) (x : FrameCell) (n name : Name) (s : Symbol) → Stands (cells_world cells labels) name s → Stands (cells_world (cells ++ x ∷ []) (labels ++ n ∷ [])) name s
cell_more cells labels x n name (symbol.Local k c b) h = record { is = get_front cells (x ∷ []) c (record { kind = k; writable = b }) h.is; label = get_front labels (n ∷ []) c name h.label }
cell_more cells labels x n name (symbol.Constant c) h = tt
cell_more cells labels x n name (symbol.Scalar k o b) h = h
cell_more cells labels x n name (symbol.Array k o b) h = h
cell_more cells labels x n name (symbol.Copointer k o) h = h
cell_more cells labels x n name (symbol.Event o a b) h = h
cell_more cells labels x n name (symbol.Team o) h = h
cell_more cells labels x n name (symbol.Subroutine f) h = h

declared_names : (line : ℕ) (names others : Names) (name : Name) (s : Symbol) → declared line names name s ≡ Ok others → names ++ (name, s) ∷ [] ≡ others
declared_names line names others name s h = (unheld (is_some (found names name)) (names ++ (name, s) ∷ []) others _ h).1

named_frame : (line : ℕ) (name : Name) (s : Symbol) (f g : Frame) → with_name line name s f ≡ Ok g → framed (f.names ++ (name, s) ∷ []) f.locals ≡ g
named_frame line name s f g h =
    let a = went _ _ g h in
    ap (λ (n : Names). framed n f.locals) (declared_names line f.names a.value name s a.is) ∙ same_value (framed a.value f.locals) g a.goes

module _ (line : ℕ) (heads : Heads) (header : List Name) (ds : List DummyR) (meant : dummies_meant line heads header ≡ Ok ds) where
  pub record AreCells (f : Frame) : Type 0 where
    pub few : length header + length f.locals ≤ 64
    pub local_names : List Name
    pub named : length local_names ≡ length f.locals
    pub standing : Holds (Stands (cells_world (cells_for ds f.locals) (header ++ local_names))) f.names

  -- one name more, which stands for what is there
  name_more : (l : ℕ) (name : Name) (s : Symbol) (f g : Frame) (all : AreCells f) → Stands (cells_world (cells_for ds f.locals) (header ++ all.local_names)) name s → with_name l name s f ≡ Ok g → AreCells g
  name_more l name s f g all st h =
      subst AreCells (named_frame l name s f g h) (record {
        few = all.few;
        local_names = all.local_names;
        named = all.named;
        standing = holds_more (Stands (cells_world (cells_for ds f.locals) (header ++ all.local_names))) f.names name s all.standing st;
      })

  place_name : (name : Name) (at : ℕ) → position (bytes_eq name) header ≡ Some at → slice_get header at ≡ Some name
  place_name name at e =
      let f = position-Some (bytes_eq name) header at [] e in
      slice_get-get_or header at [] f.0 ∙ ap Some (sym (same_name name (get_or header at []) f.1))

  dummy_kept : (l : ℕ) (name : Name) (f g : Frame) → AreCells f → declare_dummy l header heads name f ≡ Ok g → AreCells g
  dummy_kept l name f g all h = by (position (bytes_eq name) header) (or_none (found heads name)) refl refl h
    where
      by : (p : Option ℕ) (o : Option Taken) → position (bytes_eq name) header ≡ p → or_none (found heads name) ≡ o → dummy_at l name p o f ≡ Ok g → AreCells g
      by (Some at) (Some t) ep eo h =
          let here : slice_get header at ≡ Some name = place_name name at ep in
          name_more l name (symbol.Local t.kind at (is_writable t.intent)) f g all (record {
            is = get_front (map cell_of ds) (map local_cell f.locals) at (cell_for t) (dummy_cell line heads header ds at name t meant here eo);
            label = get_front header all.local_names at name here;
          }) h
      by (Some at) None ep eo h = no_value _ g h
      by None o ep eo h = no_value _ g h

  local_kept : (l : ℕ) (k : ValueKind) (i : Item) (f g : Frame) → AreCells f → declare_local l header k i f ≡ Ok g → AreCells g
  local_kept l k i f g all h =
      let s : Symbol = symbol.Local k (length header + length f.locals) true in
      let a = went (with_name l i.name s f) (λ x. after (no_dummy l header i.name) (λ _. after (plain l i) (λ _. with_local l (length header) k i.name x))) g h in
      let b = went (no_dummy l header i.name) (λ _. after (plain l i) (λ _. with_local l (length header) k i.name a.value)) g a.goes in
      let c = went (plain l i) (λ _. with_local l (length header) k i.name a.value) g b.goes in
      let one : framed (f.names ++ (i.name, s) ∷ []) f.locals ≡ a.value = named_frame l i.name s f a.value a.is in
      let last = held (nat_lt (length header + length a.value.locals) 64) (framed a.value.names (a.value.locals ++ k ∷ [])) g _ c.goes in
      let same : framed (f.names ++ (i.name, s) ∷ []) (f.locals ++ k ∷ []) ≡ g = ap (λ (x : Frame). framed x.names (x.locals ++ k ∷ [])) one ∙ last.1 in
      let less : length header + length f.locals < 64 = ltb-true (length header + length f.locals) 64 (subst (λ (x : Frame). nat_lt (length header + length x.locals) 64 ≡ true) (sym one) last.0) in
      subst AreCells same (grown f k i.name all less)
    where
      grown : (f : Frame) (k : ValueKind) (name : Name) → AreCells f → length header + length f.locals < 64 → AreCells (framed (f.names ++ (name, symbol.Local k (length header + length f.locals) true) ∷ []) (f.locals ++ k ∷ []))
      grown f k name all less =
          let cells : List FrameCell = cells_for ds f.locals in
          let labels : List Name = header ++ all.local_names in
          let more_cells : cells_for ds (f.locals ++ k ∷ []) ≡ cells ++ local_cell k ∷ [] =
          ap (λ xs. map cell_of ds ++ xs) (map-append local_cell f.locals (k ∷ [])) ∙ sym (append_assoc (map cell_of ds) (map local_cell f.locals) (local_cell k ∷ [])) in
          let more_labels : header ++ (all.local_names ++ name ∷ []) ≡ labels ++ name ∷ [] = sym (append_assoc header all.local_names (name ∷ [])) in
          let size : length cells ≡ length header + length f.locals =
          length-append (map cell_of ds) (map local_cell f.locals) ∙ ap (λ n. n + length (map local_cell f.locals)) (length-map ds cell_of ∙ as_many line heads header ds meant) ∙ ap (λ n. length header + n) (length-map f.locals local_cell) in
          let label_size : length labels ≡ length header + length f.locals = length-append header all.local_names ∙ ap (λ n. length header + n) all.named in
          let s : Symbol = symbol.Local k (length header + length f.locals) true in
          let w : World = cells_world (cells ++ local_cell k ∷ []) (labels ++ name ∷ []) in
          let st : Stands w name s = record {
            is = subst (λ n. slice_get (cells ++ local_cell k ∷ []) n ≡ Some (local_cell k)) size (get_last cells (local_cell k));
            label = subst (λ n. slice_get (labels ++ name ∷ []) n ≡ Some name) label_size (get_last labels name);
          } in
          let all_stand : Holds (Stands w) (f.names ++ (name, s) ∷ []) =
          holds_more (Stands w) f.names name s (holds_weaker (Stands (cells_world cells labels)) (Stands w) f.names (λ n z h. cell_more cells labels (local_cell k) name n z h) all.standing) st in
          record {
            few = omega (arith, less, length-append f.locals (k ∷ []));
            local_names = all.local_names ++ name ∷ [];
            named = omega (arith, length-append all.local_names (name ∷ []), length-append f.locals (k ∷ []), all.named);
            standing = subst (λ (x : List FrameCell). Holds (Stands (cells_world x (header ++ (all.local_names ++ name ∷ [])))) (f.names ++ (name, s) ∷ [])) (sym more_cells)
                (subst (λ (y : List Name). Holds (Stands (cells_world (cells ++ local_cell k ∷ []) y)) (f.names ++ (name, s) ∷ [])) (sym more_labels) all_stand);
          }

  parameter_kept : (main : Names) (l : ℕ) (k : ValueKind) (p : Name × Expr) (f g : Frame) → AreCells f → declare_own_parameter l header heads main k p f ≡ Ok g → AreCells g
  parameter_kept main l k p f g all h =
      let a = went _ _ g h in
      let b = went (no_dummy l header p.0) (λ _. parameter f.names (known f.names heads main) l p.0 k p.1) a.value a.is in
      let c = parameter_constant f.names (known f.names heads main) l p.0 k p.1 a.value b.goes in
      name_more l p.0 a.value f g all (subst (Stands (cells_world (cells_for ds f.locals) (header ++ all.local_names)) p.0) c.1 tt) a.goes

  same_frame : {A : Type 0} (m : Result A Fault) (f g : Frame) → AreCells f → after m (λ _. fine f) ≡ Ok g → AreCells g
  same_frame m f g all h =
      let a = went m (λ _. fine f) g h in
      subst AreCells (same_value f g a.goes) all

  declaration_kept : (main : Names) (d : Decl) (f g : Frame) → AreCells f → declare_in header heads main d f ≡ Ok g → AreCells g
  declaration_kept main (decl.Parameters l k values) f g all h = turn_kept AreCells (declare_own_parameter l header heads main (kind_meant k)) (parameter_kept main l (kind_meant k)) values f g all h
  declaration_kept main (decl.Dummies l k i names) f g all h = turn_kept AreCells (declare_dummy l header heads) (dummy_kept l) names f g all h
  declaration_kept main (decl.Variables l k items) f g all h = turn_kept AreCells (declare_local l header (kind_meant k)) (local_kept l (kind_meant k)) items f g all h
  declaration_kept main (decl.Copointers l k names) f g all h = same_frame (refused l names) f g all h
  declaration_kept main (decl.Events l items) f g all h = same_frame (refused_items l items) f g all h
  declaration_kept main (decl.Teams l names) f g all h = same_frame (refused l names) f g all h

  pub frame_kept : (main : Names) (declarations : List Decl) (g : Frame) → length header ≤ 64 → frame_of header heads main declarations ≡ Ok g → AreCells g
  frame_kept main declarations g few h =
      turn_kept AreCells (declare_in header heads main) (declaration_kept main) declarations no_frame g
      (record { few = omega (arith, few); local_names = []; named = refl; standing = holds_none (Stands (cells_world (cells_for ds []) (header ++ []))) }) h
