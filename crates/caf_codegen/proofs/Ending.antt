-- The last Step of a statement that keeps the rules keeps those of a code, where the values that it uses are held.
use Rattle.caf_program.specs.declared.program.Intent.TheVariants.{In, InOut}
use Rattle.caf_program.specs.declared.parts.ActualR.TheVariants as actual
use Rattle.caf_code.specs.declared.instr.OutForm.TheVariants as out
use Rattle.caf_code.specs.declared.listing.SubCode.{SubCode}
use Rattle.caf_program.specs.declared.parts.ActualR.{ActualR}
use Rattle.caf_program.specs.declared.program.SubR.{SubR}
use Rattle.caf_program.specs.declared.program.Intent.{Intent}
use Rattle.caf_program.specs.declared.program.DummyR.{DummyR}
use Rattle.caf_program.specs.Ships.{is_in}
use Rattle.std.proofs.lemmas.List.{length-map}
use Rattle.caf_codegen.specs.Compiled.{copied_dummies}
use Rattle.std.proofs.Common.{◌≡◌, ℕ, suc, ◌+◌, ◌<◌, ◌≤◌, true, false, List, [], ◌∷◌, ◌++◌, map, length, Option, Some, None, refl, sym, ap, ◌∙◌, subst, append-nil, append_assoc, arith, zero}
use Rattle.std.specs.Prelude.{Bool, ◌&&◌, nat_lt, slice_get, sum_by, nat_eq, not}
use Rattle.std.specs.List.{flat_map, list_all}
use Rattle.std.proofs.lemmas.Bool.{lt-ltb, eq-eqb}
use Rattle.std.proofs.lemmas.Option.{slice_get_within}
use Rattle.caf_base.specs.declared.object.Kind.{Kind}
use Rattle.caf_base.specs.declared.object.Kind.TheVariants as kind
use Rattle.caf_base.specs.declared.object.Object.{Object}
use Rattle.caf_program.specs.Expressions.{count_all, of_actual, of_part, of_variable, of_copy_event, of_done, of_event, of_place, of_range, of_region, of_section}
use Rattle.caf_program.specs.Kinds.{FrameCell, Scope, agree_in_kind, aimed_kind, cell_kind, coarray_kind, copointer_kind, element_kind, has_kind, holds_event, holds_team, is_coarray, is_event as holds_events, is_integer, is_scalar, is_team as holds_teams, kind_of, names_team, object_kind, provided, scalar_kind}
use Rattle.caf_program.specs.Rules.{Loops, fits_copy_event, fits_done, fits_event, fits_on, fits_own_event, fits_part, fits_place, fits_range, once_each, region_kind, section_kind, free_cell, free_object, variable_kind, fit_dummies, fits_dummy, fits_sub}
use Rattle.caf_program.specs.Value.{count}
use Rattle.caf_program.specs.declared.expr.ExprR.{ExprR}
use Rattle.caf_program.specs.declared.expr.PlaceR.{PlaceR}
use Rattle.caf_program.specs.declared.expr.TeamR.{TeamR}
use Rattle.caf_program.specs.declared.expr.TeamR.TheVariants as team
use Rattle.caf_program.specs.declared.parts.CopyEventR.{CopyEventR}
use Rattle.caf_program.specs.declared.parts.CopyEventR.TheVariants as timed
use Rattle.caf_program.specs.declared.parts.EventR.{EventR}
use Rattle.caf_program.specs.declared.parts.OwnEventR.{OwnEventR}
use Rattle.caf_program.specs.declared.parts.PrintR.{PrintR}
use Rattle.caf_program.specs.declared.parts.PrintR.TheVariants as part
use Rattle.caf_program.specs.declared.parts.RangeR.{RangeR}
use Rattle.caf_program.specs.declared.parts.RangeR.TheVariants as range
use Rattle.caf_program.specs.declared.parts.RegionR.{RegionR}
use Rattle.caf_program.specs.declared.parts.SectionR.{SectionR}
use Rattle.caf_program.specs.declared.parts.SectionR.TheVariants as written
use Rattle.caf_program.specs.declared.parts.VariableR.{VariableR}
use Rattle.caf_program.specs.declared.parts.VariableR.TheVariants as variable
use Rattle.caf_program.specs.declared.program.ValueKind.{ValueKind}
use Rattle.caf_program.specs.declared.program.ValueKind.TheVariants.{Integer, Logical}
use Rattle.caf_treestep.specs.Evaluated.{held_by_actual, held_by_copy_event, held_by_part}
use Rattle.caf_code.specs.Rules.{has_operands, is_copointer, is_copointer_kind, is_data, is_data_kind, is_event, is_event_kind, is_sub, is_team, is_team_kind, names_place, names_team as operand_team, of_kind}
use Rattle.caf_code.specs.Shapes.{IsEvent, IsSection, Part, Shape, Sort, cells_of, is_copy, is_ship, lists_sort, next_shape, numbers, with_rank, only_if, copied_count, copied_in, dummies_in, marks, then_shape, with_height, without, pops}
use Rattle.caf_code.specs.declared.instr.CellUse.TheVariants as cell
use Rattle.caf_code.specs.declared.instr.ElementForm.TheVariants as element
use Rattle.caf_code.specs.declared.instr.EventUse.TheVariants as event
use Rattle.caf_code.specs.declared.instr.Instr.{Instr}
use Rattle.caf_code.specs.declared.instr.Instr.TheVariants as instr
use Rattle.caf_code.specs.declared.instr.PlaceForm.{PlaceForm}
use Rattle.caf_code.specs.declared.instr.PlaceForm.TheVariants as place
use Rattle.caf_code.specs.declared.instr.Printed.TheVariants as printed
use Rattle.caf_code.specs.declared.instr.Reach.TheVariants as reach
use Rattle.caf_code.specs.declared.instr.Role.{Role}
use Rattle.caf_code.specs.declared.instr.Role.TheVariants as role
use Rattle.caf_code.specs.declared.instr.SectionForm.TheVariants as section
use Rattle.caf_code.specs.declared.instr.SectionUse.TheVariants as purpose
use Rattle.caf_code.specs.declared.listing.Listing.{Listing}
use Rattle.caf_exprgen.specs.ExprCode.{expr_code, team_name, team_place}
use Rattle.caf_exprgen.specs.Straight.{Serves, is_inner, with_operand}
use Rattle.caf_exprgen.specs.Words.{CodesLeaveValues}
use Rattle.caf_codegen.proofs.Fits.{both_true}
use Rattle.caf_codegen.specs.StmtCode.{StandsAt, aim_code, assign_code, copy_code, copy_event_code, copy_events_code, done_code, event_at_code, notify_code, part_code, part_text, part_texts, parts_code, place_code, place_form, range_code, range_form, region_code, role_of, section_code, spawn_code, split_code, value_code, values_code, wait_code, actual_code, actuals_code, call_code}
use Rattle.caf_codegen.proofs.Places.{stands_back, stands_front}
use Rattle.caf_codegen.proofs.Runs.{Entry, Piece, inner_piece, piece_none, piece_seq, straight_piece}
use Rattle.caf_codegen.proofs.Counts.{count_actuals, count_append}
use Rattle.caf_codegen.proofs.Held.{all_of_within, marked_piece, plain, waiting}
use Rattle.caf_codegen.proofs.Kinded.{agree_some, has_some, provided_kind}
use Rattle.caf_codegen.proofs.Timed.{copy_sorts, sorts_of}
use Rattle.caf_codegen.proofs.Both.{first_true, second_true}

-- what the kinds say of the slots that statements name
data_kind : (x : Kind) (k : ValueKind) → element_kind x ≡ Some k → is_data_kind x ≡ true
data_kind kind.Integer k e = refl
data_kind kind.Logical k e = refl
data_kind _ k e = let h : None ≡ Some k = e in absurd (cc)

data_object : (o : Option Object) (k : ValueKind) → object_kind o ≡ Some k → of_kind is_data_kind o ≡ true
data_object None k e = let h : None ≡ Some k = e in absurd (cc)
data_object (Some o) k e = data_kind o.kind k e

data_scalar : (o : Option Object) (k : ValueKind) → scalar_kind o ≡ Some k → of_kind is_data_kind o ≡ true
data_scalar None k e = let h : None ≡ Some k = e in absurd (cc)
data_scalar (Some o) k e = data_kind o.kind k (provided_kind (is_scalar o) (element_kind o.kind) k e).1

data_coarray : (o : Option Object) (k : ValueKind) → coarray_kind o ≡ Some k → of_kind is_data_kind o ≡ true
data_coarray None k e = let h : None ≡ Some k = e in absurd (cc)
data_coarray (Some o) k e = data_kind o.kind k (provided_kind o.shared (element_kind o.kind) k e).1

below_cells : (cells : List FrameCell) (n : ℕ) (o : Option FrameCell) (k : ValueKind) → slice_get cells n ≡ o → cell_kind o ≡ Some k → n < length cells
below_cells cells n None k e f = let h : None ≡ Some k = f in absurd (cc)
below_cells cells n (Some c) k e f = slice_get_within cells n c e

if_allowed : (b : Bool) (x : Option Shape) → b ≡ true → only_if b x ≡ x
if_allowed true x e = refl
if_allowed false x e = let f : false ≡ true = e in absurd (cc)

event_kind : (x : Kind) → holds_events x ≡ true → is_event_kind x ≡ true
event_kind kind.Event e = refl
event_kind _ e = let h : false ≡ true = e in absurd (cc)

event_object : (o : Option Object) → holds_event o ≡ true → of_kind is_event_kind o ≡ true
event_object None e = e
event_object (Some o) e = event_kind o.kind e

team_kind : (x : Kind) → holds_teams x ≡ true → is_team_kind x ≡ true
team_kind kind.Team e = refl
team_kind _ e = let h : false ≡ true = e in absurd (cc)

team_object : (o : Option Object) → holds_team o ≡ true → of_kind is_team_kind o ≡ true
team_object None e = e
team_object (Some o) e = team_kind o.kind e

copointer_kind_there : (x : Kind) (k : ValueKind) → aimed_kind x ≡ Some k → is_copointer_kind x ≡ true
copointer_kind_there kind.CoInteger k e = refl
copointer_kind_there kind.CoLogical k e = refl
copointer_kind_there _ k e = let h : None ≡ Some k = e in absurd (cc)

copointer_object : (o : Option Object) (k : ValueKind) → copointer_kind o ≡ Some k → of_kind is_copointer_kind o ≡ true
copointer_object None k e = let h : None ≡ Some k = e in absurd (cc)
copointer_object (Some o) k e = copointer_kind_there o.kind k e

-- within a statement: operands, and what is listed
abbrev asking : ℕ → ℕ → ℕ → ℕ → List Sort → Shape
asking v l f n xs = record { stack = n; held = v; loops = l; listed = xs; outs = 0; finishes = f }

abbrev done_sorts : Option EventR → List Sort
done_sorts None = []
done_sorts (Some e) = IsEvent role.Done ∷ []

done_ship : (e : Option EventR) → is_ship (done_sorts e) ≡ true
done_ship None = refl
done_ship (Some e) = refl

-- a rank is one operand more
rank_more : (t : TeamR) (n : ℕ) → suc n ≡ with_rank (team_place t) n
rank_more team.World n = refl
rank_more (team.Object o) n = refl

-- each subroutine has an entry with its dummies
abbrev pub SubsListed : Listing → List SubR → Type 0
SubsListed code subs = (at : ℕ) (f : SubR) → slice_get subs at ≡ Some f → (x : SubCode) × (slice_get code.subs at ≡ Some x) × (x.dummies ≡ copied_dummies f)

-- between the actuals of a call: operands and places for copy out
abbrev counted : ℕ → ℕ → ℕ → ℕ → ℕ → Shape
counted v l f n k = record { stack = n; held = v; loops = l; listed = []; outs = k; finishes = f }

abbrev copies_with : Intent → ℕ → ℕ
copies_with In k = k
copies_with InOut k = suc k

copies_more : (i : Intent) (bs : List Bool) (k : ℕ) → copied_count bs + copies_with i k ≡ copied_count (not (is_in i) ∷ bs) + k
copies_more In bs k = refl
copies_more InOut bs k = omega arith

without_all : (n : ℕ) → without n n ≡ Some 0
without_all zero = refl
without_all (suc n) = without_all n

module _ (laws : CodesLeaveValues) (code : Listing) (all : List Entry) (p : Part) (s : Scope) (serves : Serves code p s) (listed : SubsListed code s.subs) where
  pub scalar_there : (o : ℕ) (k : ValueKind) → scalar_kind (slice_get s.objects o) ≡ Some k → is_data code o ≡ true
  scalar_there o k e = subst (λ xs. of_kind is_data_kind (slice_get xs o) ≡ true) (sym serves.objects) (data_scalar (slice_get s.objects o) k e)

  element_there : (o : ℕ) (k : ValueKind) → object_kind (slice_get s.objects o) ≡ Some k → is_data code o ≡ true
  element_there o k e = subst (λ xs. of_kind is_data_kind (slice_get xs o) ≡ true) (sym serves.objects) (data_object (slice_get s.objects o) k e)

  pub cell_there : (n : ℕ) (k : ValueKind) → cell_kind (slice_get s.cells n) ≡ Some k → nat_lt n (cells_of code p) ≡ true
  cell_there n k e = subst (λ x. nat_lt n x ≡ true) (sym serves.cells) (lt-ltb n (length s.cells) (below_cells s.cells n (slice_get s.cells n) k refl e))

  -- the value of an expression of the kind
  pub value_piece : (e : ExprR) (held a : ℕ) (k : ValueKind) (h : Shape) → kind_of s e ≡ Some k → held + count e ≤ h.held → Piece code all p true true (expr_code e held) a h (with_operand h)
  value_piece e held a k h kind le = straight_piece code all p (expr_code e held) a h (with_operand h) (all_of_within (expr_code e held) (laws.within e held)) (laws.puts e held code p s k h serves kind le)

  -- the end of a Step
  next_piece : (a v l f : ℕ) → Piece code all p false true (instr.Next ∷ []) a (waiting v l f) (plain l f)
  next_piece a v l f = marked_piece code all p instr.Next a (waiting v l f) (plain l f) refl refl refl refl refl refl refl refl

  line_piece : (a v l f : ℕ) → Piece code all p false true (instr.Line ∷ []) a (waiting v l f) (plain l f)
  line_piece a v l f = marked_piece code all p instr.Line a (waiting v l f) (plain l f) refl refl refl refl refl refl refl refl

  store_piece : (i : Instr) (a v l f : ℕ) → is_inner i ≡ true → has_operands code i ≡ true → next_shape code p i (with_operand (waiting v l f)) ≡ Some (waiting v l f) → Piece code all p false true (i ∷ instr.Next ∷ []) a (with_operand (waiting v l f)) (plain l f)
  store_piece i a v l f inner operands next = piece_seq code all p false true true (i ∷ []) (instr.Next ∷ []) a (a + 1) (with_operand (waiting v l f)) (waiting v l f) (plain l f) refl (inner_piece code all p i a (with_operand (waiting v l f)) (waiting v l f) inner operands next) (next_piece (a + 1) v l f)

  pub set_shape : (n v l f : ℕ) → nat_lt n (cells_of code p) ≡ true → next_shape code p (instr.Cell cell.Set n) (with_operand (waiting v l f)) ≡ Some (waiting v l f)
  set_shape n v l f below = if_allowed (nat_lt n (cells_of code p)) (Some (waiting v l f)) below

  pub get_shape : (n v l f : ℕ) → nat_lt n (cells_of code p) ≡ true → next_shape code p (instr.Cell cell.Get n) (waiting v l f) ≡ Some (with_operand (waiting v l f))
  get_shape n v l f below = if_allowed (nat_lt n (cells_of code p)) (Some (with_operand (waiting v l f))) below

  -- an assignment
  assign_scalar : (o : ℕ) (e : ExprR) (a v l f : ℕ) → count_all (e ∷ []) ≤ v → agree_in_kind (scalar_kind (slice_get s.objects o)) (kind_of s e) ≡ true → Piece code all p false true (assign_code (variable.Scalar o) e) a (waiting v l f) (plain l f)
  assign_scalar o e a v l f le agree =
      let kinds = agree_some (scalar_kind (slice_get s.objects o)) (kind_of s e) agree in
      piece_seq code all p false true true (expr_code e 0) _ a (a + length (expr_code e 0)) (waiting v l f) (with_operand (waiting v l f)) (plain l f) refl
      (value_piece e 0 a kinds.1.0 (waiting v l f) kinds.1.1 (omega (arith, le)))
      (store_piece (instr.Store reach.Scalar o) (a + length (expr_code e 0)) v l f refl (scalar_there o kinds.0.0 kinds.0.1) refl)

  assign_local : (n : ℕ) (e : ExprR) (a v l f : ℕ) → count_all (e ∷ []) ≤ v → agree_in_kind (cell_kind (slice_get s.cells n)) (kind_of s e) ≡ true → Piece code all p false true (assign_code (variable.Local n) e) a (waiting v l f) (plain l f)
  assign_local n e a v l f le agree =
      let kinds = agree_some (cell_kind (slice_get s.cells n)) (kind_of s e) agree in
      piece_seq code all p false true true (expr_code e 0) _ a (a + length (expr_code e 0)) (waiting v l f) (with_operand (waiting v l f)) (plain l f) refl
      (value_piece e 0 a kinds.1.0 (waiting v l f) kinds.1.1 (omega (arith, le)))
      (store_piece (instr.Cell cell.Set n) (a + length (expr_code e 0)) v l f refl refl (set_shape n v l f (cell_there n kinds.0.0 kinds.0.1)))

  assign_element : (o : ℕ) (i e : ExprR) (a v l f : ℕ) → count_all (i ∷ e ∷ []) ≤ v → agree_in_kind (provided (is_integer (kind_of s i)) (object_kind (slice_get s.objects o))) (kind_of s e) ≡ true
      → Piece code all p false true (assign_code (variable.Element o i) e) a (waiting v l f) (plain l f)
  assign_element o i e a v l f le agree =
      let k = 0 + count_all (i ∷ []) in
      let kinds = agree_some (provided (is_integer (kind_of s i)) (object_kind (slice_get s.objects o))) (kind_of s e) agree in
      let both = provided_kind (is_integer (kind_of s i)) (object_kind (slice_get s.objects o)) kinds.0.0 kinds.0.1 in
      let index = has_some Integer (kind_of s i) both.0 in
      let b = a + length (expr_code i 0) in
      let c = b + length (expr_code e k) in
      let h1 = with_operand (waiting v l f) in
      let h2 = with_operand h1 in
      piece_seq code all p false true true (expr_code i 0) _ a b (waiting v l f) h1 (plain l f) refl
      (value_piece i 0 a index.0 (waiting v l f) index.1 (omega (arith, le)))
      (piece_seq code all p false true true (expr_code e k) _ b c h1 h2 (plain l f) refl
      (value_piece e k b kinds.1.0 h1 kinds.1.1 (omega (arith, le)))
      (piece_seq code all p false true true (instr.Store reach.Element o ∷ []) (instr.Next ∷ []) c (c + 1) h2 (waiting v l f) (plain l f) refl
      (inner_piece code all p (instr.Store reach.Element o) c h2 (waiting v l f) refl (element_there o kinds.0.0 both.1) refl) (next_piece (c + 1) v l f)))

  coarray_there : (o : ℕ) (k : ValueKind) → coarray_kind (slice_get s.objects o) ≡ Some k → is_data code o ≡ true
  coarray_there o k e = subst (λ xs. of_kind is_data_kind (slice_get xs o) ≡ true) (sym serves.objects) (data_coarray (slice_get s.objects o) k e)

  event_there : (o : ℕ) → holds_event (slice_get s.objects o) ≡ true → is_event code o ≡ true
  event_there o e = subst (λ xs. of_kind is_event_kind (slice_get xs o) ≡ true) (sym serves.objects) (event_object (slice_get s.objects o) e)

  team_there : (o : ℕ) → holds_team (slice_get s.objects o) ≡ true → is_team code o ≡ true
  team_there o e = subst (λ xs. of_kind is_team_kind (slice_get xs o) ≡ true) (sym serves.objects) (team_object (slice_get s.objects o) e)

  pub team_named : (t : TeamR) → names_team s t ≡ true → operand_team code (team_name t) ≡ true
  team_named team.World e = refl
  team_named (team.Object o) e = team_there o e

  place_named : (t : TeamR) → names_team s t ≡ true → names_place code (team_place t) ≡ true
  place_named team.World e = refl
  place_named (team.Object o) e = team_there o e

  -- what the rules say of a place on an object
  place_fits : (o : ℕ) (q : Option (PlaceR ExprR)) → fits_on s o q ≡ true → names_place code (place_form q) ≡ true
  place_fits o None e = refl
  place_fits o (Some q) e =
      place_named q.team (second_true (is_integer (kind_of s q.rank)) (names_team s q.team) (second_true (is_coarray (slice_get s.objects o)) (is_integer (kind_of s q.rank) && names_team s q.team) e))

  -- the shape with a rank more, where there is a place
  abbrev with_place : Option (PlaceR ExprR) → Shape → Shape
  with_place q h = record h { stack = with_rank (place_form q) h.stack }

  place_piece : (o : ℕ) (q : Option (PlaceR ExprR)) (at a : ℕ) (h : Shape) → fits_on s o q ≡ true → at + count_all (of_place q) ≤ h.held → Piece code all p true true (place_code q at) a h (with_place q h)
  place_piece o None at a h fits le = piece_none code all p true a h
  place_piece o (Some q) at a h fits le =
      let fits' = second_true (is_coarray (slice_get s.objects o)) (is_integer (kind_of s q.rank) && names_team s q.team) fits in
      let rank = has_some Integer (kind_of s q.rank) (first_true (is_integer (kind_of s q.rank)) (names_team s q.team) fits') in
      let piece = value_piece q.rank at a rank.0 h rank.1 (omega (arith, le)) in
      subst (λ n. Piece code all p true true (expr_code q.rank at) a h (record h { stack = n })) (rank_more q.team h.stack) piece

  -- a wait for an event
  pub wait_piece : (e : OwnEventR) (a v l f : ℕ) → count_all (e.index ∷ []) ≤ v → fits_own_event s e ≡ true → Piece code all p false true (wait_code e) a (waiting v l f) (plain l f)
  wait_piece e a v l f le fits =
      let h = with_operand (waiting v l f) in
      let i = instr.Event (event.Wait e.object) in
      let b = a + length (expr_code e.index 0) in
      let kind = has_some Integer (kind_of s e.index) (second_true (holds_event (slice_get s.objects e.object)) (is_integer (kind_of s e.index)) fits) in
      piece_seq code all p false true true (expr_code e.index 0) (i ∷ []) a b (waiting v l f) h (plain l f) refl (value_piece e.index 0 a kind.0 (waiting v l f) kind.1 (omega (arith, le)))
      (marked_piece code all p i b h (plain l f) refl refl refl (event_there e.object (first_true (holds_event (slice_get s.objects e.object)) (is_integer (kind_of s e.index)) fits)) refl refl refl refl)

  -- a notice
  notify_shape : (o : ℕ) (q : PlaceForm) (v l f : ℕ) → next_shape code p (instr.Event (event.Notify o q)) (record (waiting v l f) { stack = with_rank q 1 }) ≡ Some (plain l f)
  notify_shape o place.Own v l f = refl
  notify_shape o place.World v l f = refl
  notify_shape o (place.Of t) v l f = refl

  pub notify_piece : (e : EventR) (a v l f : ℕ) → count_all (of_event e) ≤ v → fits_event s e ≡ true → Piece code all p false true (notify_code e) a (waiting v l f) (plain l f)
  notify_piece e a v l f le fits =
      let o = e.own.object in
      let k = 0 + count e.own.index in
      let I = expr_code e.own.index 0 in
      let P = place_code e.place k in
      let i = instr.Event (event.Notify o (place_form e.place)) in
      let b = a + length I in
      let c = b + length P in
      let h1 = with_operand (waiting v l f) in
      let h2 = with_place e.place h1 in
      let own = first_true (fits_own_event s e.own) (fits_on s o e.place) fits in
      let on = second_true (fits_own_event s e.own) (fits_on s o e.place) fits in
      let kind = has_some Integer (kind_of s e.own.index) (second_true (holds_event (slice_get s.objects o)) (is_integer (kind_of s e.own.index)) own) in
      let operands = both_true (is_event code o) (names_place code (place_form e.place)) (event_there o (first_true (holds_event (slice_get s.objects o)) (is_integer (kind_of s e.own.index)) own)) (place_fits o e.place on) in
      piece_seq code all p false true true I (P ++ i ∷ []) a b (waiting v l f) h1 (plain l f) refl (value_piece e.own.index 0 a kind.0 (waiting v l f) kind.1 (omega (arith, le)))
      (piece_seq code all p false true true P (i ∷ []) b c h1 h2 (plain l f) refl (place_piece o e.place k b h1 on (omega (arith, le)))
      (marked_piece code all p i c h2 (plain l f) refl refl refl operands refl refl refl (notify_shape o (place_form e.place) v l f)))

  -- an event that is listed
  event_shape : (o : ℕ) (q : PlaceForm) (r : Role) (v l f n : ℕ) (xs : List Sort) → next_shape code p (instr.EventAt o q r) (asking v l f (with_rank q (suc n)) xs) ≡ Some (asking v l f n (xs ++ IsEvent r ∷ []))
  event_shape o place.Own r v l f n xs = refl
  event_shape o place.World r v l f n xs = refl
  event_shape o (place.Of t) r v l f n xs = refl

  event_piece : (e : EventR) (r : Role) (at a v l f n : ℕ) (xs : List Sort) → at + count_all (of_event e) ≤ v → fits_event s e ≡ true → Piece code all p true true (event_at_code e r at) a (asking v l f n xs) (asking v l f n (xs ++ IsEvent r ∷ []))
  event_piece e r at a v l f n xs le fits =
      let o = e.own.object in
      let k = at + count e.own.index in
      let I = expr_code e.own.index at in
      let P = place_code e.place k in
      let i = instr.EventAt o (place_form e.place) r in
      let b = a + length I in
      let c = b + length P in
      let h = asking v l f n xs in
      let h1 = with_operand h in
      let h2 = with_place e.place h1 in
      let h3 = asking v l f n (xs ++ IsEvent r ∷ []) in
      let own = first_true (fits_own_event s e.own) (fits_on s o e.place) fits in
      let on = second_true (fits_own_event s e.own) (fits_on s o e.place) fits in
      let kind = has_some Integer (kind_of s e.own.index) (second_true (holds_event (slice_get s.objects o)) (is_integer (kind_of s e.own.index)) own) in
      let operands = both_true (is_event code o) (names_place code (place_form e.place)) (event_there o (first_true (holds_event (slice_get s.objects o)) (is_integer (kind_of s e.own.index)) own)) (place_fits o e.place on) in
      piece_seq code all p true true true I (P ++ i ∷ []) a b h h1 h3 refl (value_piece e.own.index at a kind.0 h kind.1 (omega (arith, le)))
      (piece_seq code all p true true true P (i ∷ []) b c h1 h2 h3 refl (place_piece o e.place k b h1 on (omega (arith, le)))
      (inner_piece code all p i c h2 h3 refl operands (event_shape o (place_form e.place) r v l f n xs)))

  done_piece : (e : Option EventR) (at a v l f : ℕ) → at + count_all (of_done e) ≤ v → fits_done s e ≡ true → Piece code all p true true (done_code e at) a (waiting v l f) (asking v l f 0 (done_sorts e))
  done_piece None at a v l f le fits = piece_none code all p true a (waiting v l f)
  done_piece (Some e) at a v l f le fits = event_piece e role.Done at a v l f 0 [] le fits

  -- a value that is shipped
  shipped_piece : (loops : Loops) (kind : ValueKind) (i : Intent) (x : ActualR) (at a v l f n : ℕ) (xs : List Sort) → at + count_all (of_actual x) ≤ v → fits_dummy s loops kind i x ≡ true → Piece code all p true true (value_code x at) a (asking v l f n xs) (asking v l f (suc n) xs)
  shipped_piece loops kind In (actual.Value e) at a v l f n xs le fits = let is = has_some kind (kind_of s e) fits in value_piece e at a is.0 (asking v l f n xs) is.1 (omega (arith, le))
  shipped_piece loops kind In (actual.Scalar o) at a v l f n xs le fits = let h : false ≡ true = fits in absurd (cc)
  shipped_piece loops kind In (actual.Local j) at a v l f n xs le fits = let h : false ≡ true = fits in absurd (cc)
  shipped_piece loops kind In (actual.Element o i) at a v l f n xs le fits = let h : false ≡ true = fits in absurd (cc)
  shipped_piece loops kind InOut (actual.Value e) at a v l f n xs le fits = let h : false ≡ true = fits in absurd (cc)
  shipped_piece loops kind InOut (actual.Scalar o) at a v l f n xs le fits =
      let is = has_some kind (scalar_kind (slice_get s.objects o)) (first_true (has_kind kind (scalar_kind (slice_get s.objects o))) (free_object loops o) fits) in
      inner_piece code all p (instr.Load reach.Scalar o) a (asking v l f n xs) (asking v l f (suc n) xs) refl (scalar_there o is.0 is.1) refl
  shipped_piece loops kind InOut (actual.Local j) at a v l f n xs le fits =
      let is = has_some kind (cell_kind (slice_get s.cells j)) (first_true (has_kind kind (cell_kind (slice_get s.cells j))) (free_cell s loops j) fits) in
      inner_piece code all p (instr.Cell cell.Get j) a (asking v l f n xs) (asking v l f (suc n) xs) refl refl (if_allowed (nat_lt j (cells_of code p)) (Some (asking v l f (suc n) xs)) (cell_there j is.0 is.1))
  shipped_piece loops kind InOut (actual.Element o i) at a v l f n xs le fits =
      let kind_o = object_kind (slice_get s.objects o) in
      let both = first_true (has_kind kind kind_o && is_integer (kind_of s i)) (free_object loops o) fits in
      let is = has_some kind kind_o (first_true (has_kind kind kind_o) (is_integer (kind_of s i)) both) in
      let index = has_some Integer (kind_of s i) (second_true (has_kind kind kind_o) (is_integer (kind_of s i)) both) in
      let E = expr_code i at in
      let h = asking v l f n xs in
      let h1 = asking v l f (suc n) xs in
      piece_seq code all p true true true E (instr.Load reach.Element o ∷ []) a (a + length E) h h1 h1 refl (value_piece i at a index.0 h index.1 (omega (arith, le)))
      (inner_piece code all p (instr.Load reach.Element o) (a + length E) h1 h1 refl (element_there o is.0 is.1) refl)

  values_piece : (loops : Loops) (ds : List DummyR) (ys : List ActualR) (at a v l f n : ℕ) (xs : List Sort) → at + count_all (flat_map of_actual ys) ≤ v → fit_dummies s loops ds ys ≡ true
      → Piece code all p true true (values_code ys at) a (asking v l f n xs) (asking v l f (length ds + n) xs)
  values_piece loops [] [] at a v l f n xs le fits = let n' : n ≡ 0 + n = omega arith in subst (λ i. Piece code all p true true [] a (asking v l f n xs) (asking v l f i xs)) n' (piece_none code all p true a (asking v l f n xs))
  values_piece loops [] (y ∷ ys) at a v l f n xs le fits = let h : false ≡ true = fits in absurd (cc)
  values_piece loops (d ∷ ds) [] at a v l f n xs le fits = let h : false ≡ true = fits in absurd (cc)
  values_piece loops (d ∷ ds) (y ∷ ys) at a v l f n xs le fits =
      let here = value_code y at in
      let next = at + held_by_actual y in
      let parts = count_append (of_actual y) (flat_map of_actual ys) in
      let one = shipped_piece loops d.kind d.intent y at a v l f n xs (omega (arith, parts, le)) (first_true (fits_dummy s loops d.kind d.intent y) (fit_dummies s loops ds ys) fits) in
      let more = values_piece loops ds ys next (a + length here) v l f (suc n) xs (omega (arith, parts, le)) (second_true (fits_dummy s loops d.kind d.intent y) (fit_dummies s loops ds ys) fits) in
      let n' : length ds + suc n ≡ suc (length ds) + n = omega arith in
      subst (λ i. Piece code all p true true (here ++ values_code ys next) a (asking v l f n xs) (asking v l f i xs)) n'
      (piece_seq code all p true true true here (values_code ys next) a (a + length here) (asking v l f n xs) (asking v l f (suc n) xs) (asking v l f (length ds + suc n) xs) refl one more)

  -- a ship
  ship_taken : (q : PlaceForm) (v l f n : ℕ) (xs : List Sort) → then_shape (pops (with_rank q n) (asking v l f (with_rank q n) xs)) marks ≡ Some (plain l f)
  ship_taken place.Own v l f n xs = ap (λ o. then_shape (with_height o (asking v l f n xs)) marks) (without_all n)
  ship_taken place.World v l f n xs = ap (λ o. then_shape (with_height o (asking v l f (suc n) xs)) marks) (without_all n)
  ship_taken (place.Of t) v l f n xs = ap (λ o. then_shape (with_height o (asking v l f (suc n) xs)) marks) (without_all n)

  ship_shape : (i : ℕ) (g : SubR) (x : SubCode) (q : PlaceForm) (e : Option EventR) (v l f : ℕ) → slice_get code.subs i ≡ Some x → x.dummies ≡ copied_dummies g → next_shape code p (instr.Spawn i q) (asking v l f (with_rank q (length g.dummies)) (done_sorts e)) ≡ Some (plain l f)
  ship_shape i g x q e v l f at dummies =
      let h = asking v l f (with_rank q (length g.dummies)) (done_sorts e) in
      let n : dummies_in (slice_get code.subs i) ≡ length g.dummies = ap dummies_in at ∙ ap length dummies ∙ length-map g.dummies (λ (d : DummyR). not (is_in d.intent)) in
      if_allowed (is_ship (done_sorts e)) (then_shape (pops (with_rank q (dummies_in (slice_get code.subs i))) h) marks) (done_ship e) ∙ ap (λ k. then_shape (pops (with_rank q k) h) marks) n ∙ ship_taken q v l f (length g.dummies) (done_sorts e)

  pub spawn_piece : (loops : Loops) (e : Option EventR) (i : ℕ) (ys : List ActualR) (q : PlaceR ExprR) (o : Option SubR) (a v l f : ℕ) → slice_get s.subs i ≡ o → count_all (of_done e ++ flat_map of_actual ys ++ (q.rank ∷ [])) ≤ v
      → fits_done s e ≡ true → fits_sub s loops o ys ≡ true → fits_place s q ≡ true → Piece code all p false true (spawn_code e i ys q) a (waiting v l f) (plain l f)
  spawn_piece loops e i ys q None a v l f at le fits_e fits_ys fits_q = let h : false ≡ true = fits_ys in absurd (cc)
  spawn_piece loops e i ys q (Some g) a v l f at le fits_e fits_ys fits_q =
      let x = listed i g at in
      let form = team_place q.team in
      let sum = count_append (of_done e ++ flat_map of_actual ys) (q.rank ∷ []) in
      let sum' = count_append (of_done e) (flat_map of_actual ys) in
      let values_held = count_actuals ys in
      let k = 0 + count_all (of_done e) in
      let j = 0 + count_all (of_done e) + sum_by held_by_actual ys in
      let D = done_code e 0 in
      let V = values_code ys k in
      let R = expr_code q.rank j in
      let last = instr.Spawn i form in
      let b = a + length D in
      let c = b + length V in
      let d = c + length R in
      let n = length g.dummies in
      let xs = done_sorts e in
      let h1 = asking v l f 0 xs in
      let h2 = asking v l f n xs in
      let h3 = asking v l f (with_rank form n) xs in
      let n' : n + 0 ≡ n = omega arith in
      let rank = has_some Integer (kind_of s q.rank) (first_true (is_integer (kind_of s q.rank)) (names_team s q.team) fits_q) in
      let values = subst (λ m. Piece code all p true true V b h1 (asking v l f m xs)) n' (values_piece loops g.dummies ys k b v l f 0 xs (omega (arith, le, sum, sum')) fits_ys) in
      let value = subst (λ m. Piece code all p true true R c h2 (asking v l f m xs)) (rank_more q.team n) (value_piece q.rank j c rank.0 h2 rank.1 (omega (arith, le, sum, sum', values_held))) in
      let operands = both_true (is_sub code i) (names_place code form) (lt-ltb i (length code.subs) (slice_get_within code.subs i x.0 x.1)) (place_named q.team (second_true (is_integer (kind_of s q.rank)) (names_team s q.team) fits_q)) in
      piece_seq code all p false true true D (V ++ (R ++ last ∷ [])) a b (waiting v l f) h1 (plain l f) refl (done_piece e 0 a v l f (omega (arith, le, sum, sum')) fits_e)
      (piece_seq code all p false true true V (R ++ last ∷ []) b c h1 h2 (plain l f) refl values
      (piece_seq code all p false true true R (last ∷ []) c d h2 h3 (plain l f) refl value
      (marked_piece code all p last d h3 (plain l f) refl refl refl operands refl refl refl (ship_shape i g x.0 form e v l f x.1 x.2))))

  -- a section that is listed
  range_piece : (r : RangeR) (at a v l f : ℕ) (xs : List Sort) → at + count_all (of_range r) ≤ v → fits_range s r ≡ true → Piece code all p true true (range_code r at) a (asking v l f 0 xs) (asking v l f (numbers (range_form r)) xs)
  range_piece range.All at a v l f xs le fits = piece_none code all p true a (asking v l f 0 xs)
  range_piece (range.Cell i) at a v l f xs le fits = let is = has_some Integer (kind_of s i) (first_true (is_integer (kind_of s i)) true fits) in value_piece i at a is.0 (asking v l f 0 xs) is.1 (omega (arith, le))
  range_piece (range.Between i j) at a v l f xs le fits =
      let is_i = has_some Integer (kind_of s i) (first_true (is_integer (kind_of s i)) (is_integer (kind_of s j) && true) fits) in
      let is_j = has_some Integer (kind_of s j) (first_true (is_integer (kind_of s j)) true (second_true (is_integer (kind_of s i)) (is_integer (kind_of s j) && true) fits)) in
      let k = at + count i in
      let b = a + length (expr_code i at) in
      piece_seq code all p true true true (expr_code i at) (expr_code j k) a b (asking v l f 0 xs) (asking v l f 1 xs) (asking v l f 2 xs) refl (value_piece i at a is_i.0 (asking v l f 0 xs) is_i.1 (omega (arith, le)))
      (value_piece j k b is_j.0 (asking v l f 1 xs) is_j.1 (omega (arith, le)))
  range_piece (range.From i) at a v l f xs le fits = let is = has_some Integer (kind_of s i) (first_true (is_integer (kind_of s i)) true fits) in value_piece i at a is.0 (asking v l f 0 xs) is.1 (omega (arith, le))
  range_piece (range.UpTo j) at a v l f xs le fits = let is = has_some Integer (kind_of s j) (first_true (is_integer (kind_of s j)) true fits) in value_piece j at a is.0 (asking v l f 0 xs) is.1 (omega (arith, le))

  section_taken : (q : PlaceForm) (v l f n : ℕ) (xs : List Sort) → then_shape (pops (with_rank q n) (asking v l f (with_rank q n) xs)) (lists_sort IsSection) ≡ Some (asking v l f 0 (xs ++ IsSection ∷ []))
  section_taken place.Own v l f n xs = ap (λ o. then_shape (with_height o (asking v l f n xs)) (lists_sort IsSection)) (without_all n)
  section_taken place.World v l f n xs = ap (λ o. then_shape (with_height o (asking v l f (suc n) xs)) (lists_sort IsSection)) (without_all n)
  section_taken (place.Of t) v l f n xs = ap (λ o. then_shape (with_height o (asking v l f (suc n) xs)) (lists_sort IsSection)) (without_all n)

  region_piece : (r : RegionR) (k : ValueKind) (at a v l f : ℕ) (xs : List Sort) → at + count_all (of_region r) ≤ v → region_kind s r ≡ Some k → Piece code all p true true (region_code r at) a (asking v l f 0 xs) (asking v l f 0 (xs ++ IsSection ∷ []))
  region_piece r k at a v l f xs le kind =
      let o = r.object in
      let form = range_form r.range in
      let q = place_form r.place in
      let j = at + count_all (of_range r.range) in
      let R = range_code r.range at in
      let P = place_code r.place j in
      let i = instr.Section (section.Region o form q) in
      let b = a + length R in
      let c = b + length P in
      let h = asking v l f 0 xs in
      let h1 = asking v l f (numbers form) xs in
      let h2 = with_place r.place h1 in
      let h3 = asking v l f 0 (xs ++ IsSection ∷ []) in
      let parts = count_append (of_range r.range) (of_place r.place) in
      let fits = provided_kind (fits_range s r.range && fits_on s o r.place) (object_kind (slice_get s.objects o)) k kind in
      let on = second_true (fits_range s r.range) (fits_on s o r.place) fits.0 in
      let operands = both_true (is_data code o) (names_place code q) (element_there o k fits.1) (place_fits o r.place on) in
      piece_seq code all p true true true R (P ++ i ∷ []) a b h h1 h3 refl (range_piece r.range at a v l f xs (omega (arith, parts, le)) (first_true (fits_range s r.range) (fits_on s o r.place) fits.0))
      (piece_seq code all p true true true P (i ∷ []) b c h1 h2 h3 refl (place_piece o r.place j b h1 on (omega (arith, parts, le)))
      (inner_piece code all p i c h2 h3 refl operands (section_taken q v l f (numbers form) xs)))

  copointer_there : (c : ℕ) (k : ValueKind) → copointer_kind (slice_get s.objects c) ≡ Some k → is_copointer code c ≡ true
  copointer_there c k e = subst (λ xs. of_kind is_copointer_kind (slice_get xs c) ≡ true) (sym serves.objects) (copointer_object (slice_get s.objects c) k e)

  section_piece : (y : SectionR) (k : ValueKind) (at a v l f : ℕ) (xs : List Sort) → at + count_all (of_section y) ≤ v → section_kind s y ≡ Some k → Piece code all p true true (section_code y at) a (asking v l f 0 xs) (asking v l f 0 (xs ++ IsSection ∷ []))
  section_piece (written.Region r) k at a v l f xs le kind = region_piece r k at a v l f xs le kind
  section_piece (written.Pointed c r) k at a v l f xs le kind =
      let form = range_form r in
      let R = range_code r at in
      let i = instr.Section (section.Pointed c form) in
      let b = a + length R in
      let h = asking v l f 0 xs in
      let h1 = asking v l f (numbers form) xs in
      let h2 = asking v l f 0 (xs ++ IsSection ∷ []) in
      let fits = provided_kind (fits_range s r) (copointer_kind (slice_get s.objects c)) k kind in
      piece_seq code all p true true true R (i ∷ []) a b h h1 h2 refl (range_piece r at a v l f xs le fits.0) (inner_piece code all p i b h1 h2 refl (copointer_there c k fits.1) (section_taken place.Own v l f (numbers form) xs))

  -- the events of a copy
  timed_piece : (e : CopyEventR) (at a v l f : ℕ) (xs : List Sort) → at + count_all (of_copy_event e) ≤ v → fits_copy_event s e ≡ true → Piece code all p true true (copy_event_code e at) a (asking v l f 0 xs) (asking v l f 0 (xs ++ IsEvent (role_of e) ∷ []))
  timed_piece (timed.Pre e) at a v l f xs le fits =
      let I = expr_code e.index at in
      let i = instr.EventAt e.object place.Own role.Pre in
      let h = asking v l f 0 xs in
      let h1 = asking v l f 1 xs in
      let h2 = asking v l f 0 (xs ++ IsEvent role.Pre ∷ []) in
      let kind = has_some Integer (kind_of s e.index) (second_true (holds_event (slice_get s.objects e.object)) (is_integer (kind_of s e.index)) fits) in
      let there = event_there e.object (first_true (holds_event (slice_get s.objects e.object)) (is_integer (kind_of s e.index)) fits) in
      piece_seq code all p true true true I (i ∷ []) a (a + length I) h h1 h2 refl (value_piece e.index at a kind.0 h kind.1 (omega (arith, le)))
      (inner_piece code all p i (a + length I) h1 h2 refl (both_true (is_event code e.object) true there refl) refl)
  timed_piece (timed.Srce e) at a v l f xs le fits = event_piece e role.Srce at a v l f 0 xs le fits
  timed_piece (timed.Deste e) at a v l f xs le fits = event_piece e role.Deste at a v l f 0 xs le fits

  timed_pieces : (es : List CopyEventR) (at a v l f : ℕ) (xs : List Sort) → at + count_all (flat_map of_copy_event es) ≤ v → list_all (fits_copy_event s) es ≡ true → Piece code all p true true (copy_events_code es at) a (asking v l f 0 xs) (asking v l f 0 (xs ++ sorts_of es))
  timed_pieces [] at a v l f xs le fits = subst (λ ys. Piece code all p true true [] a (asking v l f 0 xs) (asking v l f 0 ys)) (sym (append-nil xs)) (piece_none code all p true a (asking v l f 0 xs))
  timed_pieces (e ∷ es) at a v l f xs le fits =
      let here = copy_event_code e at in
      let next = at + held_by_copy_event e in
      let one = xs ++ IsEvent (role_of e) ∷ [] in
      let parts = count_append (of_copy_event e) (flat_map of_copy_event es) in
      subst (λ ys. Piece code all p true true (here ++ copy_events_code es next) a (asking v l f 0 xs) (asking v l f 0 ys)) (append_assoc xs (IsEvent (role_of e) ∷ []) (sorts_of es))
      (piece_seq code all p true true true here (copy_events_code es next) a (a + length here) (asking v l f 0 xs) (asking v l f 0 one) (asking v l f 0 (one ++ sorts_of es)) refl
      (timed_piece e at a v l f xs (omega (arith, parts, le)) (first_true (fits_copy_event s e) (list_all (fits_copy_event s) es) fits))
      (timed_pieces es next (a + length here) v l f one (omega (arith, parts, le)) (second_true (fits_copy_event s e) (list_all (fits_copy_event s) es) fits)))

  -- a copy
  pub copy_piece : (dest source : SectionR) (es : List CopyEventR) (a v l f : ℕ) → count_all (of_section dest ++ of_section source ++ flat_map of_copy_event es) ≤ v → once_each es ≡ true → agree_in_kind (section_kind s dest) (section_kind s source) ≡ true → list_all (fits_copy_event s) es ≡ true → Piece code all p false true (copy_code dest source es) a (waiting v l f) (plain l f)
  copy_piece dest source es a v l f le once agree fits =
      let sum = count_append (of_section dest ++ of_section source) (flat_map of_copy_event es) in
      let sum' = count_append (of_section dest) (of_section source) in
      let kinds = agree_some (section_kind s dest) (section_kind s source) agree in
      let k = 0 + count_all (of_section dest) in
      let j = 0 + count_all (of_section dest) + count_all (of_section source) in
      let D = section_code dest 0 in
      let Y = section_code source k in
      let E = copy_events_code es j in
      let last = instr.Use purpose.Copy in
      let b = a + length D in
      let c = b + length Y in
      let d = c + length E in
      let h1 = asking v l f 0 (IsSection ∷ []) in
      let h2 = asking v l f 0 (IsSection ∷ IsSection ∷ []) in
      let h3 = asking v l f 0 (IsSection ∷ IsSection ∷ sorts_of es) in
      piece_seq code all p false true true D (Y ++ (E ++ last ∷ [])) a b (waiting v l f) h1 (plain l f) refl (section_piece dest kinds.0.0 0 a v l f [] (omega (arith, le, sum, sum')) kinds.0.1)
      (piece_seq code all p false true true Y (E ++ last ∷ []) b c h1 h2 (plain l f) refl (section_piece source kinds.1.0 k b v l f (IsSection ∷ []) (omega (arith, le, sum, sum')) kinds.1.1)
      (piece_seq code all p false true true E (last ∷ []) c d h2 h3 (plain l f) refl (timed_pieces es j c v l f (IsSection ∷ IsSection ∷ []) (omega (arith, le, sum, sum')) fits)
      (marked_piece code all p last d h3 (plain l f) refl refl refl refl refl refl refl (if_allowed (is_copy (IsSection ∷ IsSection ∷ sorts_of es)) (Some (plain l f)) (copy_sorts es once)))))

  -- a blocking write
  put_shape : (o : ℕ) (q : PlaceForm) (v l f : ℕ) → next_shape code p (instr.Put (element.Coindexed o q)) (asking v l f (suc (with_rank q 1)) []) ≡ Some (plain l f)
  put_shape o place.Own v l f = refl
  put_shape o place.World v l f = refl
  put_shape o (place.Of t) v l f = refl

  coindexed_piece : (o : ℕ) (i : ExprR) (q : PlaceR ExprR) (e : ExprR) (a v l f : ℕ) → count_all (i ∷ q.rank ∷ e ∷ []) ≤ v → agree_in_kind (variable_kind s (variable.Coindexed o i q)) (kind_of s e) ≡ true → Piece code all p false true (assign_code (variable.Coindexed o i q) e) a (waiting v l f) (plain l f)
  coindexed_piece o i q e a v l f le agree =
      let kind_o = coarray_kind (slice_get s.objects o) in
      let form = team_place q.team in
      let k = 0 + count i in
      let j = 0 + count i + count q.rank in
      let I = expr_code i 0 in
      let R = expr_code q.rank k in
      let E = expr_code e j in
      let last = instr.Put (element.Coindexed o form) in
      let b = a + length I in
      let c = b + length R in
      let d = c + length E in
      let h1 = asking v l f 1 [] in
      let h2 = asking v l f (with_rank form 1) [] in
      let h3 = asking v l f (suc (with_rank form 1)) [] in
      let kinds = agree_some (variable_kind s (variable.Coindexed o i q)) (kind_of s e) agree in
      let fits = provided_kind (is_integer (kind_of s i) && fits_place s q) kind_o kinds.0.0 kinds.0.1 in
      let index = has_some Integer (kind_of s i) (first_true (is_integer (kind_of s i)) (fits_place s q) fits.0) in
      let fits_q = second_true (is_integer (kind_of s i)) (fits_place s q) fits.0 in
      let rank = has_some Integer (kind_of s q.rank) (first_true (is_integer (kind_of s q.rank)) (names_team s q.team) fits_q) in
      let of_rank = subst (λ n. Piece code all p true true R b h1 (asking v l f n [])) (rank_more q.team 1) (value_piece q.rank k b rank.0 h1 rank.1 (omega (arith, le))) in
      let operands = both_true (is_data code o) (names_place code form) (coarray_there o kinds.0.0 fits.1) (place_named q.team (second_true (is_integer (kind_of s q.rank)) (names_team s q.team) fits_q)) in
      piece_seq code all p false true true I (R ++ (E ++ last ∷ [])) a b (waiting v l f) h1 (plain l f) refl (value_piece i 0 a index.0 (waiting v l f) index.1 (omega (arith, le)))
      (piece_seq code all p false true true R (E ++ last ∷ []) b c h1 h2 (plain l f) refl of_rank
      (piece_seq code all p false true true E (last ∷ []) c d h2 h3 (plain l f) refl (value_piece e j c kinds.1.0 h2 kinds.1.1 (omega (arith, le)))
      (marked_piece code all p last d h3 (plain l f) refl refl refl operands refl refl refl (put_shape o form v l f))))

  pointed_piece : (c : ℕ) (i e : ExprR) (a v l f : ℕ) → count_all (i ∷ e ∷ []) ≤ v → agree_in_kind (variable_kind s (variable.Pointed c i)) (kind_of s e) ≡ true → Piece code all p false true (assign_code (variable.Pointed c i) e) a (waiting v l f) (plain l f)
  pointed_piece c i e a v l f le agree =
      let kind_c = copointer_kind (slice_get s.objects c) in
      let k = 0 + count i in
      let I = expr_code i 0 in
      let E = expr_code e k in
      let last = instr.Put (element.Pointed c) in
      let b = a + length I in
      let d = b + length E in
      let h1 = asking v l f 1 [] in
      let h2 = asking v l f 2 [] in
      let kinds = agree_some (variable_kind s (variable.Pointed c i)) (kind_of s e) agree in
      let fits = provided_kind (is_integer (kind_of s i)) kind_c kinds.0.0 kinds.0.1 in
      let index = has_some Integer (kind_of s i) fits.0 in
      piece_seq code all p false true true I (E ++ last ∷ []) a b (waiting v l f) h1 (plain l f) refl (value_piece i 0 a index.0 (waiting v l f) index.1 (omega (arith, le)))
      (piece_seq code all p false true true E (last ∷ []) b d h1 h2 (plain l f) refl (value_piece e k b kinds.1.0 h1 kinds.1.1 (omega (arith, le)))
      (marked_piece code all p last d h2 (plain l f) refl refl refl (copointer_there c kinds.0.0 fits.1) refl refl refl refl))

  -- a copointer is aimed
  pub aim_piece : (c : ℕ) (r : RegionR) (a v l f : ℕ) → count_all (of_region r) ≤ v → agree_in_kind (copointer_kind (slice_get s.objects c)) (region_kind s r) ≡ true → Piece code all p false true (aim_code c r) a (waiting v l f) (plain l f)
  aim_piece c r a v l f le agree =
      let kinds = agree_some (copointer_kind (slice_get s.objects c)) (region_kind s r) agree in
      let b = a + length (region_code r 0) in
      let h = asking v l f 0 (IsSection ∷ []) in
      piece_seq code all p false true true (region_code r 0) (instr.Use (purpose.Aim c) ∷ []) a b (waiting v l f) h (plain l f) refl (region_piece r kinds.1.0 0 a v l f [] (omega (arith, le)) kinds.1.1)
      (marked_piece code all p (instr.Use (purpose.Aim c)) b h (plain l f) refl refl refl (copointer_there c kinds.0.0 kinds.0.1) refl refl refl refl)

  -- a split
  pub split_piece : (t : TeamR) (colour key : ExprR) (o a v l f : ℕ) → count_all (colour ∷ key ∷ []) ≤ v → names_team s t ≡ true → is_integer (kind_of s colour) ≡ true → is_integer (kind_of s key) ≡ true → holds_team (slice_get s.objects o) ≡ true
      → Piece code all p false true (split_code t colour key o) a (waiting v l f) (plain l f)
  split_piece t colour key o a v l f le named is_colour is_key new =
      let j = 0 + count colour in
      let C = expr_code colour 0 in
      let K = expr_code key j in
      let i = instr.Split (team_name t) o in
      let b = a + length C in
      let c = b + length K in
      let h1 = with_operand (waiting v l f) in
      let h2 = with_operand h1 in
      let of_colour = has_some Integer (kind_of s colour) is_colour in
      let of_key = has_some Integer (kind_of s key) is_key in
      piece_seq code all p false true true C (K ++ i ∷ []) a b (waiting v l f) h1 (plain l f) refl (value_piece colour 0 a of_colour.0 (waiting v l f) of_colour.1 (omega (arith, le)))
      (piece_seq code all p false true true K (i ∷ []) b c h1 h2 (plain l f) refl (value_piece key j b of_key.0 h1 of_key.1 (omega (arith, le)))
      (marked_piece code all p i c h2 (plain l f) refl refl refl (both_true (operand_team code (team_name t)) (is_team code o) (team_named t named) (team_there o new)) refl refl refl refl))

  -- a printed line
  part_piece : (x : PrintR) (at k a v l f : ℕ) → at + count_all (of_part x) ≤ v → fits_part s x ≡ true → StandsAt code.texts k (part_text x) → Piece code all p true true (part_code x at k) a (waiting v l f) (waiting v l f)
  part_piece (part.Number e) at k a v l f le fits texts =
      let h = with_operand (waiting v l f) in
      let b = a + length (expr_code e at) in
      let kind = has_some Integer (kind_of s e) fits in
      piece_seq code all p true true true (expr_code e at) (instr.Print printed.Number ∷ []) a b (waiting v l f) h (waiting v l f) refl (value_piece e at a kind.0 (waiting v l f) kind.1 (omega (arith, le)))
      (inner_piece code all p (instr.Print printed.Number) b h (waiting v l f) refl refl refl)
  part_piece (part.Logical e) at k a v l f le fits texts =
      let h = with_operand (waiting v l f) in
      let b = a + length (expr_code e at) in
      let kind = has_some Logical (kind_of s e) fits in
      piece_seq code all p true true true (expr_code e at) (instr.Print printed.Logical ∷ []) a b (waiting v l f) h (waiting v l f) refl (value_piece e at a kind.0 (waiting v l f) kind.1 (omega (arith, le)))
      (inner_piece code all p (instr.Print printed.Logical) b h (waiting v l f) refl refl refl)
  part_piece (part.Text t) at k a v l f le fits texts =
      inner_piece code all p (instr.Print (printed.Text k)) a (waiting v l f) (waiting v l f) refl (lt-ltb k (length code.texts) (slice_get_within code.texts k t texts.0)) refl

  pub parts_piece : (parts : List PrintR) (at k a v l f : ℕ) → at + count_all (flat_map of_part parts) ≤ v → list_all (fits_part s) parts ≡ true → StandsAt code.texts k (part_texts parts)
      → Piece code all p false true (parts_code parts at k) a (waiting v l f) (plain l f)
  parts_piece [] at k a v l f le fits texts = line_piece a v l f
  parts_piece (x ∷ parts) at k a v l f le fits texts =
      let here = part_code x at k in
      let b = a + length here in
      let sum = count_append (of_part x) (flat_map of_part parts) in
      piece_seq code all p false true true here _ a b (waiting v l f) (waiting v l f) (plain l f) refl
      (part_piece x at k a v l f (omega (arith, le, sum)) (first_true (fits_part s x) (list_all (fits_part s) parts) fits) (stands_front code.texts k (part_text x) (part_texts parts) texts))
      (parts_piece parts (at + held_by_part x) (k + length (part_text x)) b v l f (omega (arith, le, sum))
      (second_true (fits_part s x) (list_all (fits_part s) parts) fits) (stands_back code.texts k (part_text x) (part_texts parts) texts))

  -- an actual puts its value onto the stack, and a place for a dummy that is copied out
  actual_piece : (loops : Loops) (kind : ValueKind) (i : Intent) (x : ActualR) (at a v l f n k : ℕ) → at + count_all (of_actual x) ≤ v → fits_dummy s loops kind i x ≡ true
      → Piece code all p true true (actual_code x at) a (counted v l f n k) (counted v l f (suc n) (copies_with i k))
  actual_piece loops kind In (actual.Value e) at a v l f n k le fits =
      let is = has_some kind (kind_of s e) fits in
      value_piece e at a is.0 (counted v l f n k) is.1 (omega (arith, le))
  actual_piece loops kind In (actual.Scalar o) at a v l f n k le fits = let h : false ≡ true = fits in absurd (cc)
  actual_piece loops kind In (actual.Local j) at a v l f n k le fits = let h : false ≡ true = fits in absurd (cc)
  actual_piece loops kind In (actual.Element o i) at a v l f n k le fits = let h : false ≡ true = fits in absurd (cc)
  actual_piece loops kind InOut (actual.Value e) at a v l f n k le fits = let h : false ≡ true = fits in absurd (cc)
  actual_piece loops kind InOut (actual.Scalar o) at a v l f n k le fits =
      let is = has_some kind (scalar_kind (slice_get s.objects o)) (first_true (has_kind kind (scalar_kind (slice_get s.objects o))) (free_object loops o) fits) in
      let data_ = scalar_there o is.0 is.1 in
      piece_seq code all p true true true (instr.Load reach.Scalar o ∷ []) (instr.Out (out.Scalar o) ∷ []) a (a + 1) (counted v l f n k) (counted v l f (suc n) k) (counted v l f (suc n) (suc k)) refl
      (inner_piece code all p (instr.Load reach.Scalar o) a (counted v l f n k) (counted v l f (suc n) k) refl data_ refl) (inner_piece code all p (instr.Out (out.Scalar o)) (a + 1) (counted v l f (suc n) k) (counted v l f (suc n) (suc k)) refl data_ refl)
  actual_piece loops kind InOut (actual.Local j) at a v l f n k le fits =
      let is = has_some kind (cell_kind (slice_get s.cells j)) (first_true (has_kind kind (cell_kind (slice_get s.cells j))) (free_cell s loops j) fits) in
      let below = cell_there j is.0 is.1 in
      piece_seq code all p true true true (instr.Cell cell.Get j ∷ []) (instr.Out (out.Local j) ∷ []) a (a + 1) (counted v l f n k) (counted v l f (suc n) k) (counted v l f (suc n) (suc k)) refl
      (inner_piece code all p (instr.Cell cell.Get j) a (counted v l f n k) (counted v l f (suc n) k) refl refl (if_allowed (nat_lt j (cells_of code p)) (Some (counted v l f (suc n) k)) below))
      (inner_piece code all p (instr.Out (out.Local j)) (a + 1) (counted v l f (suc n) k) (counted v l f (suc n) (suc k)) refl refl (if_allowed (nat_lt j (cells_of code p)) (Some (counted v l f (suc n) (suc k))) below))
  actual_piece loops kind InOut (actual.Element o i) at a v l f n k le fits =
      let kind_o = object_kind (slice_get s.objects o) in
      let both = first_true (has_kind kind kind_o && is_integer (kind_of s i)) (free_object loops o) fits in
      let is = has_some kind kind_o (first_true (has_kind kind kind_o) (is_integer (kind_of s i)) both) in
      let index = has_some Integer (kind_of s i) (second_true (has_kind kind kind_o) (is_integer (kind_of s i)) both) in
      let data_ = element_there o is.0 is.1 in
      let E = expr_code i at in
      let b = a + length E in
      let c = b + 1 + length E in
      let h = counted v l f n k in
      let h1 = counted v l f (suc n) k in
      let h2 = counted v l f (suc (suc n)) k in
      let h3 = counted v l f (suc n) (suc k) in
      piece_seq code all p true true true E (instr.Load reach.Element o ∷ (E ++ (instr.Out (out.Element o) ∷ []))) a b h h1 h3 refl (value_piece i at a index.0 h index.1 (omega (arith, le)))
      (piece_seq code all p true true true (instr.Load reach.Element o ∷ []) (E ++ (instr.Out (out.Element o) ∷ [])) b (b + 1) h1 h1 h3 refl (inner_piece code all p (instr.Load reach.Element o) b h1 h1 refl data_ refl)
      (piece_seq code all p true true true E (instr.Out (out.Element o) ∷ []) (b + 1) c h1 h2 h3 refl (value_piece i at (b + 1) index.0 h1 index.1 (omega (arith, le)))
      (inner_piece code all p (instr.Out (out.Element o)) c h2 h3 refl data_ refl)))

  actuals_piece : (loops : Loops) (ds : List DummyR) (xs : List ActualR) (at a v l f n k : ℕ) → at + count_all (flat_map of_actual xs) ≤ v → fit_dummies s loops ds xs ≡ true
      → Piece code all p true true (actuals_code xs at) a (counted v l f n k) (counted v l f (length ds + n) (copied_count (map (λ (d : DummyR). not (is_in d.intent)) ds) + k))
  actuals_piece loops [] [] at a v l f n k le fits =
      let n' : n ≡ 0 + n = omega arith in
      let k' : k ≡ 0 + k = omega arith in
      subst (λ i. Piece code all p true true [] a (counted v l f n k) (counted v l f i (0 + k))) n' (subst (λ j. Piece code all p true true [] a (counted v l f n k) (counted v l f n j)) k' (piece_none code all p true a (counted v l f n k)))
  actuals_piece loops [] (x ∷ xs) at a v l f n k le fits = let h : false ≡ true = fits in absurd (cc)
  actuals_piece loops (d ∷ ds) [] at a v l f n k le fits = let h : false ≡ true = fits in absurd (cc)
  actuals_piece loops (d ∷ ds) (x ∷ xs) at a v l f n k le fits =
      let bs = map (λ (d : DummyR). not (is_in d.intent)) ds in
      let here = actual_code x at in
      let next = at + held_by_actual x in
      let sum = count_append (of_actual x) (flat_map of_actual xs) in
      let one = actual_piece loops d.kind d.intent x at a v l f n k (omega (arith, le, sum)) (first_true (fits_dummy s loops d.kind d.intent x) (fit_dummies s loops ds xs) fits) in
      let more = actuals_piece loops ds xs next (a + length here) v l f (suc n) (copies_with d.intent k) (omega (arith, le, sum)) (second_true (fits_dummy s loops d.kind d.intent x) (fit_dummies s loops ds xs) fits) in
      let whole = actuals_code (x ∷ xs) at in
      let n' : length ds + suc n ≡ suc (length ds) + n = omega arith in
      subst (λ i. Piece code all p true true whole a (counted v l f n k) (counted v l f i (copied_count (not (is_in d.intent) ∷ bs) + k))) n'
      (subst (λ j. Piece code all p true true whole a (counted v l f n k) (counted v l f (length ds + suc n) j)) (copies_more d.intent bs k)
      (piece_seq code all p true true true here (actuals_code xs next) a (a + length here) (counted v l f n k) (counted v l f (suc n) (copies_with d.intent k)) (counted v l f (length ds + suc n) (copied_count bs + copies_with d.intent k)) refl one more))

  -- the call itself takes its operands and places
  call_shape : (i : ℕ) (g : SubR) (x : SubCode) (v l f : ℕ) → slice_get code.subs i ≡ Some x → x.dummies ≡ copied_dummies g → next_shape code p (instr.Call i) (counted v l f (length g.dummies) (copied_count (copied_dummies g))) ≡ Some (plain l f)
  call_shape i g x v l f at dummies =
      let n = length g.dummies in
      let c = copied_count (copied_dummies g) in
      let h = counted v l f n c in
      let then_marks : Shape → Option Shape = λ k. marks (record k { outs = 0 }) in
      let of_list : List Bool → Option Shape = λ bs. only_if (nat_eq c (copied_count bs)) (then_shape (with_height (without (length bs) n) h) then_marks) in
      let all_taken : without (length (copied_dummies g)) n ≡ Some 0 = ap (λ m. without m n) (length-map g.dummies (λ (d : DummyR). not (is_in d.intent))) ∙ without_all n in
      ap (λ o. only_if (nat_eq c (copied_in o)) (then_shape (pops (dummies_in o) h) then_marks)) at ∙ ap of_list dummies
      ∙ if_allowed (nat_eq c c) (then_shape (with_height (without (length (copied_dummies g)) n) h) then_marks) (eq-eqb c c refl) ∙ ap (λ o. then_shape (with_height o h) then_marks) all_taken

  call_piece : (i : ℕ) (g : SubR) (x : SubCode) (a v l f : ℕ) → slice_get code.subs i ≡ Some x → x.dummies ≡ copied_dummies g → Piece code all p false true (instr.Call i ∷ []) a (counted v l f (length g.dummies) (copied_count (copied_dummies g))) (plain l f)
  call_piece i g x a v l f at dummies =
      let h = counted v l f (length g.dummies) (copied_count (copied_dummies g)) in
      let there = lt-ltb i (length code.subs) (slice_get_within code.subs i x at) in
      marked_piece code all p (instr.Call i) a h (plain l f) refl refl refl there refl refl refl (call_shape i g x v l f at dummies)

  pub whole_call : (loops : Loops) (i : ℕ) (o : Option SubR) (xs : List ActualR) (a v l f : ℕ) → slice_get s.subs i ≡ o → count_all (flat_map of_actual xs) ≤ v → fits_sub s loops o xs ≡ true → Piece code all p false true (call_code i xs) a (waiting v l f) (plain l f)
  whole_call loops i None xs a v l f at le fits = let h : false ≡ true = fits in absurd (cc)
  whole_call loops i (Some g) xs a v l f at le fits =
      let x = listed i g at in
      let c = copied_count (copied_dummies g) in
      let n' : length g.dummies + 0 ≡ length g.dummies = omega arith in
      let k' : c + 0 ≡ c = omega arith in
      let b = a + length (actuals_code xs 0) in
      let args = actuals_piece loops g.dummies xs 0 a v l f 0 0 (omega (arith, le)) fits in
      let args' = subst (λ n. Piece code all p true true (actuals_code xs 0) a (waiting v l f) (counted v l f n c)) n' (subst (λ k. Piece code all p true true (actuals_code xs 0) a (waiting v l f) (counted v l f (length g.dummies + 0) k)) k' args) in
      piece_seq code all p false true true (actuals_code xs 0) (instr.Call i ∷ []) a b (waiting v l f) (counted v l f (length g.dummies) c) (plain l f) refl args' (call_piece i g x.0 b v l f x.1 x.2)

  -- an assignment to any variable
  pub assign_piece : (x : VariableR) (e : ExprR) (a v l f : ℕ) → count_all (of_variable x ++ (e ∷ [])) ≤ v → agree_in_kind (variable_kind s x) (kind_of s e) ≡ true → Piece code all p false true (assign_code x e) a (waiting v l f) (plain l f)
  assign_piece (variable.Scalar o) e a v l f le agree = assign_scalar o e a v l f le agree
  assign_piece (variable.Local n) e a v l f le agree = assign_local n e a v l f le agree
  assign_piece (variable.Element o i) e a v l f le agree = assign_element o i e a v l f le agree
  assign_piece (variable.Coindexed o i q) e a v l f le agree = coindexed_piece o i q e a v l f le agree
  assign_piece (variable.Pointed c i) e a v l f le agree = pointed_piece c i e a v l f le agree
