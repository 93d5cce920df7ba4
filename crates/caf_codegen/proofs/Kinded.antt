-- Each expression of a statement that keeps the rules has a kind.
use Rattle.std.proofs.Common.{◌≡◌, ℕ, true, false, List, [], ◌∷◌, ◌++◌, Option, Some, None, refl}
use Rattle.std.specs.Prelude.{Bool, ◌&&◌, slice_get}
use Rattle.std.specs.List.{flat_map, list_all}
use Rattle.caf_program.specs.Expressions.{of_actual, of_copy_event, of_done, of_event, of_form, of_part, of_place, of_range, of_region, of_section, of_variable}
use Rattle.caf_program.specs.Kinds.{Scope, agree_in_kind, coarray_kind, copointer_kind, has_kind, holds_event, holds_team, is_coarray, is_integer, is_logical, kind_of, names_team, object_kind, provided}
use Rattle.caf_program.specs.Rules.{Keeps, Loops, all_keep, fit_dummies, fits_copy_event, fits_done, fits_dummy, fits_event, fits_on, fits_own_event, fits_part, fits_place, fits_range, fits_sub, free_object, may_assign, may_count, once_each, region_kind, rule_layer, section_kind, variable_kind}
use Rattle.caf_program.specs.declared.expr.ExprR.{ExprR}
use Rattle.caf_program.specs.declared.expr.PlaceR.{PlaceR}
use Rattle.caf_program.specs.declared.parts.ActualR.{ActualR}
use Rattle.caf_program.specs.declared.parts.ActualR.TheVariants as actual
use Rattle.caf_program.specs.declared.parts.CopyEventR.{CopyEventR}
use Rattle.caf_program.specs.declared.parts.CopyEventR.TheVariants as timed
use Rattle.caf_program.specs.declared.parts.EventR.{EventR}
use Rattle.caf_program.specs.declared.parts.OwnEventR.{OwnEventR}
use Rattle.caf_program.specs.declared.parts.PrintR.{PrintR}
use Rattle.caf_program.specs.declared.parts.PrintR.TheVariants as part
use Rattle.caf_program.specs.declared.parts.RegionR.{RegionR}
use Rattle.caf_program.specs.declared.parts.SectionR.{SectionR}
use Rattle.caf_program.specs.declared.parts.SectionR.TheVariants as written
use Rattle.caf_program.specs.declared.parts.VariableR.{VariableR}
use Rattle.caf_program.specs.declared.parts.VariableR.TheVariants as variable
use Rattle.caf_program.specs.declared.program.DummyR.{DummyR}
use Rattle.caf_program.specs.declared.program.Intent.{Intent}
use Rattle.caf_program.specs.declared.program.Intent.TheVariants.{In, InOut}
use Rattle.caf_program.specs.declared.program.SubR.{SubR}
use Rattle.caf_program.specs.declared.program.ValueKind.{ValueKind}
use Rattle.caf_program.specs.declared.program.ValueKind.TheVariants.{Integer, Logical}
use Rattle.caf_program.specs.declared.stmt.StmtR.TheOpen.{StmtR-F}
use Rattle.caf_codegen.proofs.Both.{first_true, second_true}

-- what the kinds say of the slots that statements name
pub provided_kind : (b : Bool) (o : Option ValueKind) (k : ValueKind) → provided b o ≡ Some k → (b ≡ true) × (o ≡ Some k)
provided_kind true o k e = (refl, e)
provided_kind false o k e = let h : None ≡ Some k = e in absurd (cc)

pub has_some : (w : ValueKind) (o : Option ValueKind) → has_kind w o ≡ true → (k : ValueKind) × (o ≡ Some k)
has_some Integer (Some Integer) e = (Integer, refl)
has_some Logical (Some Logical) e = (Logical, refl)
has_some _ _ e = let h : false ≡ true = e in absurd (cc)

pub agree_some : (a b : Option ValueKind) → agree_in_kind a b ≡ true → ((k : ValueKind) × (a ≡ Some k)) × ((k : ValueKind) × (b ≡ Some k))
agree_some None b e = let h : false ≡ true = e in absurd (cc)
agree_some (Some k) b e = ((k, refl), has_some k b e)

abbrev pub IsKinded : Scope → ExprR → Type 0
IsKinded s e = (k : ValueKind) × (kind_of s e ≡ Some k)

-- each of these expressions has a kind
abbrev pub AreKinded : Scope → List ExprR → Type 0
AreKinded s [] = Unit {0}
AreKinded s (e ∷ es) = IsKinded s e × AreKinded s es

module _ (s : Scope) where
  kinded_append : (es fs : List ExprR) → AreKinded s es → AreKinded s fs → AreKinded s (es ++ fs)
  kinded_append [] fs h g = g
  kinded_append (e ∷ es) fs h g = (h.0, kinded_append es fs h.1 g)

  integer : (e : ExprR) → is_integer (kind_of s e) ≡ true → IsKinded s e
  integer e h = has_some Integer (kind_of s e) h

  integers : (es : List ExprR) → list_all (λ e. is_integer (kind_of s e)) es ≡ true → AreKinded s es
  integers [] h = tt
  integers (e ∷ es) h =
      let more = list_all (λ e. is_integer (kind_of s e)) es in
      (integer e (first_true (is_integer (kind_of s e)) more h), integers es (second_true (is_integer (kind_of s e)) more h))

  rank_kinded : (q : PlaceR ExprR) → fits_place s q ≡ true → IsKinded s q.rank
  rank_kinded q h = integer q.rank (first_true (is_integer (kind_of s q.rank)) (names_team s q.team) h)

  place_kinded : (o : ℕ) (q : Option (PlaceR ExprR)) → fits_on s o q ≡ true → AreKinded s (of_place q)
  place_kinded o None h = tt
  place_kinded o (Some q) h = (rank_kinded q (second_true (is_coarray (slice_get s.objects o)) (fits_place s q) h), tt)

  own_kinded : (e : OwnEventR) → fits_own_event s e ≡ true → IsKinded s e.index
  own_kinded e h = integer e.index (second_true (holds_event (slice_get s.objects e.object)) (is_integer (kind_of s e.index)) h)

  event_kinded : (e : EventR) → fits_event s e ≡ true → AreKinded s (of_event e)
  event_kinded e h =
      let own = fits_own_event s e.own in
      let on = fits_on s e.own.object e.place in
      (own_kinded e.own (first_true own on h), place_kinded e.own.object e.place (second_true own on h))

  done_kinded : (e : Option EventR) → fits_done s e ≡ true → AreKinded s (of_done e)
  done_kinded None h = tt
  done_kinded (Some e) h = event_kinded e h

  region_kinded : (r : RegionR) (k : ValueKind) → region_kind s r ≡ Some k → AreKinded s (of_region r)
  region_kinded r k h =
      let range = fits_range s r.range in
      let on = fits_on s r.object r.place in
      let fits = provided_kind (range && on) (object_kind (slice_get s.objects r.object)) k h in
      kinded_append (of_range r.range) (of_place r.place) (integers (of_range r.range) (first_true range on fits.0)) (place_kinded r.object r.place (second_true range on fits.0))

  section_kinded : (y : SectionR) (k : ValueKind) → section_kind s y ≡ Some k → AreKinded s (of_section y)
  section_kinded (written.Region r) k h = region_kinded r k h
  section_kinded (written.Pointed c r) k h = integers (of_range r) (provided_kind (fits_range s r) (copointer_kind (slice_get s.objects c)) k h).0

  timed_kinded : (e : CopyEventR) → fits_copy_event s e ≡ true → AreKinded s (of_copy_event e)
  timed_kinded (timed.Pre e) h = (own_kinded e h, tt)
  timed_kinded (timed.Srce e) h = event_kinded e h
  timed_kinded (timed.Deste e) h = event_kinded e h

  all_timed_kinded : (es : List CopyEventR) → list_all (fits_copy_event s) es ≡ true → AreKinded s (flat_map of_copy_event es)
  all_timed_kinded [] h = tt
  all_timed_kinded (e ∷ es) h =
      let here = fits_copy_event s e in
      let more = list_all (fits_copy_event s) es in
      kinded_append (of_copy_event e) (flat_map of_copy_event es) (timed_kinded e (first_true here more h)) (all_timed_kinded es (second_true here more h))

  actual_kinded : (loops : Loops) (kind : ValueKind) (i : Intent) (x : ActualR) → fits_dummy s loops kind i x ≡ true → AreKinded s (of_actual x)
  actual_kinded loops kind In (actual.Value e) h = (has_some kind (kind_of s e) h, tt)
  actual_kinded loops kind InOut (actual.Value e) h = let f : false ≡ true = h in absurd (cc)
  actual_kinded loops kind i (actual.Scalar o) h = tt
  actual_kinded loops kind i (actual.Local j) h = tt
  actual_kinded loops kind In (actual.Element o i) h = let f : false ≡ true = h in absurd (cc)
  actual_kinded loops kind InOut (actual.Element o i) h =
      let has = has_kind kind (object_kind (slice_get s.objects o)) in
      (integer i (second_true has (is_integer (kind_of s i)) (first_true (has && is_integer (kind_of s i)) (free_object loops o) h)), tt)

  actuals_kinded : (loops : Loops) (ds : List DummyR) (ys : List ActualR) → fit_dummies s loops ds ys ≡ true → AreKinded s (flat_map of_actual ys)
  actuals_kinded loops [] [] h = tt
  actuals_kinded loops [] (y ∷ ys) h = let f : false ≡ true = h in absurd (cc)
  actuals_kinded loops (d ∷ ds) [] h = let f : false ≡ true = h in absurd (cc)
  actuals_kinded loops (d ∷ ds) (y ∷ ys) h =
      let here = fits_dummy s loops d.kind d.intent y in
      let more = fit_dummies s loops ds ys in
      kinded_append (of_actual y) (flat_map of_actual ys) (actual_kinded loops d.kind d.intent y (first_true here more h)) (actuals_kinded loops ds ys (second_true here more h))

  called_kinded : (loops : Loops) (o : Option SubR) (ys : List ActualR) → fits_sub s loops o ys ≡ true → AreKinded s (flat_map of_actual ys)
  called_kinded loops None ys h = let f : false ≡ true = h in absurd (cc)
  called_kinded loops (Some g) ys h = actuals_kinded loops g.dummies ys h

  part_kinded : (x : PrintR) → fits_part s x ≡ true → AreKinded s (of_part x)
  part_kinded (part.Number e) h = (integer e h, tt)
  part_kinded (part.Logical e) h = (has_some Logical (kind_of s e) h, tt)
  part_kinded (part.Text t) h = tt

  parts_kinded : (l : List PrintR) → list_all (fits_part s) l ≡ true → AreKinded s (flat_map of_part l)
  parts_kinded [] h = tt
  parts_kinded (x ∷ l) h =
      let here = fits_part s x in
      let more = list_all (fits_part s) l in
      kinded_append (of_part x) (flat_map of_part l) (part_kinded x (first_true here more h)) (parts_kinded l (second_true here more h))

  variable_kinded : (v : VariableR) (k : ValueKind) → variable_kind s v ≡ Some k → AreKinded s (of_variable v)
  variable_kinded (variable.Scalar o) k h = tt
  variable_kinded (variable.Local n) k h = tt
  variable_kinded (variable.Element o i) k h = (integer i (provided_kind (is_integer (kind_of s i)) (object_kind (slice_get s.objects o)) k h).0, tt)
  variable_kinded (variable.Coindexed o i q) k h =
      let fits = provided_kind (is_integer (kind_of s i) && fits_place s q) (coarray_kind (slice_get s.objects o)) k h in
      (integer i (first_true (is_integer (kind_of s i)) (fits_place s q) fits.0), (rank_kinded q (second_true (is_integer (kind_of s i)) (fits_place s q) fits.0), tt))
  variable_kinded (variable.Pointed c i) k h = (integer i (provided_kind (is_integer (kind_of s i)) (copointer_kind (slice_get s.objects c)) k h).0, tt)

  -- the expressions of any statement
  pub kinded : (y : StmtR-F Keeps) (loops : Loops) → rule_layer s y loops ≡ true → AreKinded s (of_form y)
  kinded (StmtR-F.Assign line v e) loops h =
      let kinds = agree_some (variable_kind s v) (kind_of s e) (first_true (agree_in_kind (variable_kind s v) (kind_of s e)) (may_assign s loops v) h) in
      kinded_append (of_variable v) (e ∷ []) (variable_kinded v kinds.0.0 kinds.0.1) (kinds.1, tt)
  kinded (StmtR-F.Print line parts) loops h = parts_kinded parts h
  kinded (StmtR-F.If line e x y) loops h =
      let test = is_logical (kind_of s e) in
      (has_some Logical (kind_of s e) (first_true test (all_keep x loops) (first_true (test && all_keep x loops) (all_keep y loops) h)), tt)
  kinded (StmtR-F.Do line v e1 e2 e3 x) loops h =
      let counts = may_count s loops v in
      let i1 = is_integer (kind_of s e1) in
      let i2 = is_integer (kind_of s e2) in
      let i3 = is_integer (kind_of s e3) in
      let h3 = first_true (counts && i1 && i2 && i3) (all_keep x (v ∷ loops)) h in
      let h2 = first_true (counts && i1 && i2) i3 h3 in
      let h1 = first_true (counts && i1) i2 h2 in
      (integer e1 (second_true counts i1 h1), (integer e2 (second_true (counts && i1) i2 h2), (integer e3 (second_true (counts && i1 && i2) i3 h3), tt)))
  kinded (StmtR-F.While line e x) loops h = (has_some Logical (kind_of s e) (first_true (is_logical (kind_of s e)) (all_keep x loops) h), tt)
  kinded (StmtR-F.Call line i ys) loops h = called_kinded loops (slice_get s.subs i) ys h
  kinded (StmtR-F.Aim line c r) loops h =
      let agree = agree_in_kind (copointer_kind (slice_get s.objects c)) (region_kind s r) in
      let kinds = agree_some (copointer_kind (slice_get s.objects c)) (region_kind s r) (first_true agree (is_coarray (slice_get s.objects r.object)) h) in
      region_kinded r kinds.1.0 kinds.1.1
  kinded (StmtR-F.Spawn line e i ys q) loops h =
      let event = fits_done s e in
      let called = fits_sub s loops (slice_get s.subs i) ys in
      let both = first_true (event && called) (fits_place s q) h in
      let rank = rank_kinded q (second_true (event && called) (fits_place s q) h) in
      let values = called_kinded loops (slice_get s.subs i) ys (second_true event called both) in
      kinded_append (of_done e ++ flat_map of_actual ys) (q.rank ∷ []) (kinded_append (of_done e) (flat_map of_actual ys) (done_kinded e (first_true event called both)) values) (rank, tt)
  kinded (StmtR-F.Notify line e) loops h = event_kinded e h
  kinded (StmtR-F.Wait line e) loops h = (own_kinded e h, tt)
  kinded (StmtR-F.Copy line dest source es) loops h =
      let agree = agree_in_kind (section_kind s dest) (section_kind s source) in
      let timed = list_all (fits_copy_event s) es in
      let both = first_true (agree && timed) (once_each es) h in
      let kinds = agree_some (section_kind s dest) (section_kind s source) (first_true agree timed both) in
      kinded_append (of_section dest ++ of_section source) (flat_map of_copy_event es)
      (kinded_append (of_section dest) (of_section source) (section_kinded dest kinds.0.0 kinds.0.1) (section_kinded source kinds.1.0 kinds.1.1)) (all_timed_kinded es (second_true agree timed both))
  kinded (StmtR-F.Cofence line down) loops h = tt
  kinded (StmtR-F.Split line t colour key o) loops h =
      let named = names_team s t in
      let c = is_integer (kind_of s colour) in
      let k = is_integer (kind_of s key) in
      let h2 = first_true (named && c && k) (holds_team (slice_get s.objects o)) h in
      (integer colour (second_true named c (first_true (named && c) k h2)), (integer key (second_true (named && c) k h2), tt))
  kinded (StmtR-F.Finish line t x) loops h = tt
