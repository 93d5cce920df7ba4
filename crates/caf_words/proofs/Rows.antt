-- What stands in the rows of matches after values were added.
use Rattle.std.proofs.Common.{◌≡◌, ◌∙◌, sym, ap, subst, refl, ℕ, Bool, true, false, not, cond, List, [], ◌∷◌, ◌++◌, Option, Some, None, is_some, find, unwrap_or, option_map, option_and_then, slice_get, arith}
use Rattle.std.specs.Str.{bytes_eq}
use Rattle.std.specs.List.{list_any}
use Rattle.std.proofs.lemmas.Slice.Eq.{bytes_eq-Decides}
use Rattle.std.proofs.lemmas.Grind.{common_steps}
use Rattle.clap.specs.Walk.{Row, Text, all_of, at_row, first_of, has_row, more_values, with_values, without}
use Rattle.clap.specs.declared.builder.value_parser.Reading.{Reading}
use Rattle.clap.specs.declared.parser.matches.ValueSource.{ValueSource}

abbrev found : Text → List Row → Option Row
found id rows = find (λ (r : Row). bytes_eq r.id id) rows

abbrev values_at : Option Row → Option (List Text)
values_at = option_map (λ (r : Row). r.values)

-- ---- the row of the same name

same_id : (id : Text) → bytes_eq id id ≡ true
same_id id = (bytes_eq-Decides id id).1 refl

added-go : (id : Text) (how : Reading) (s : ValueSource) (vs : List Text) (r : Row) (rest : List Row) (b : Bool) → bytes_eq r.id id ≡ b
    → values_at (found id rest) ≡ values_at (found id rest)
    → values_at (found id (with_values id how s vs rest)) ≡ Some (unwrap_or (values_at (found id rest)) [] ++ vs)
    → values_at (found id (with_values id how s vs (r ∷ rest))) ≡ Some (unwrap_or (values_at (found id (r ∷ rest))) [] ++ vs)
added-go id how s vs r rest true e _ ih = rw (e, e) refl
added-go id how s vs r rest false e _ ih = rw (e, e) ih

pub values_added : (id : Text) (how : Reading) (s : ValueSource) (vs : List Text) (rows : List Row)
    → all_of id (with_values id how s vs rows) ≡ Some (unwrap_or (all_of id rows) [] ++ vs)
values_added id how s vs [] = rw (same_id id) refl
values_added id how s vs (r ∷ rest) = added-go id how s vs r rest (bytes_eq r.id id) refl refl (values_added id how s vs rest)

-- ---- the rows of other names

not_both : (id other : Text) (r : Row) → bytes_eq r.id id ≡ true → bytes_eq id other ≡ false → bytes_eq r.id other ≡ false
not_both id other r e differs = rw ((bytes_eq-Decides r.id id).0 e) differs

kept-go : (id other : Text) (how : Reading) (s : ValueSource) (vs : List Text) (r : Row) (rest : List Row) (b c : Bool)
    → bytes_eq r.id id ≡ b → bytes_eq r.id other ≡ c → bytes_eq id other ≡ false
    → values_at (found other (with_values id how s vs rest)) ≡ values_at (found other rest)
    → values_at (found other (with_values id how s vs (r ∷ rest))) ≡ values_at (found other (r ∷ rest))
kept-go id other how s vs r rest true c e f differs ih = let g = not_both id other r e differs in simp (e, g) refl
kept-go id other how s vs r rest false true e f differs ih = simp (e, f) refl
kept-go id other how s vs r rest false false e f differs ih = simp (e, f) ih

pub values_kept : (id other : Text) (how : Reading) (s : ValueSource) (vs : List Text) (rows : List Row) → bytes_eq id other ≡ false
    → all_of other (with_values id how s vs rows) ≡ all_of other rows
values_kept id other how s vs [] differs = rw differs refl
values_kept id other how s vs (r ∷ rest) differs =
    kept-go id other how s vs r rest (bytes_eq r.id id) (bytes_eq r.id other) refl refl differs (values_kept id other how s vs rest differs)

-- ---- names without a row

row-go : (id : Text) (r : Row) (rest : List Row) (b : Bool) → bytes_eq r.id id ≡ b → has_row id rest ≡ is_some (values_at (found id rest))
    → has_row id (r ∷ rest) ≡ is_some (values_at (found id (r ∷ rest)))
row-go id r rest true e ih = simp e refl
row-go id r rest false e ih = simp e ih

pub row_is_there : (id : Text) (rows : List Row) → has_row id rows ≡ is_some (all_of id rows)
row_is_there id [] = refl
row_is_there id (r ∷ rest) = row-go id r rest (bytes_eq r.id id) refl (row_is_there id rest)

without-go : (id : Text) (r : Row) (rest : List Row) (b : Bool) → bytes_eq r.id id ≡ b
    → (values_at (found id rest) ≡ None → without id rest ≡ rest)
    → values_at (found id (r ∷ rest)) ≡ None → without id (r ∷ rest) ≡ r ∷ rest
without-go id r rest true e ih none = let bad : Some r.values ≡ None = rw e at none in cc
without-go id r rest false e ih none = rw e (ap (λ rows. r ∷ rows) (ih (rw e at none)))

pub without_none : (id : Text) (rows : List Row) → all_of id rows ≡ None → without id rows ≡ rows
without_none id [] none = refl
without_none id (r ∷ rest) none = without-go id r rest (bytes_eq r.id id) refl (without_none id rest) none

first-go : (o : Option Row) → option_and_then (λ (r : Row). slice_get r.values 0) o ≡ option_and_then (λ (vs : List Text). slice_get vs 0) (values_at o)
first-go None = refl
first-go (Some r) = refl

pub first_is : (id : Text) (rows : List Row) → first_of id rows ≡ option_and_then (λ (vs : List Text). slice_get vs 0) (all_of id rows)
first_is id rows = first-go (found id rows)
