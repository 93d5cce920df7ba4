-- What is read through writes that aren't made yet.
use Rattle.std.proofs.Common.{◌≡◌, ◌≢◌, ℕ, ◌<◌, Bool, true, false, ◌&&◌, cond, List, [], ◌∷◌, length, get_or, Option, Some, None, Ok, Err, IsSomeAnd, refl, ap, sym, ◌∙◌, subst, arith, ℤ, pos, unwrap_or, nat_eq}
use Rattle.std.specs.Prelude.{slice_get, slice_set, slice_index_or}
use Rattle.std.specs.List.{find}
use Rattle.std.specs.Option.{option_map}
use Rattle.std.proofs.lemmas.Bool.{eqb-true}
use Rattle.std.proofs.lemmas.Int.{ints}
use Rattle.std.proofs.lemmas.List.{get_or-set_other, length-set}
use Rattle.std.proofs.lemmas.Grind.{get_or-set_at}
use Rattle.caf_base.specs.Arithmetic.{Answer, is_equal}
use Rattle.caf_base.specs.Element.{element_at, element_of, has_index, offset_of}
use Rattle.caf_base.specs.declared.trap.Trap.TheVariants as trap
use Rattle.caf_base.specs.declared.object.Object.{Object}
use Rattle.caf_vm.specs.declared.draft.CellWrite.{CellWrite}
use Rattle.caf_vm.specs.declared.draft.Write.{Write}
use Rattle.caf_vm.specs.Draft.{cells_after, is_of_cell, is_of_element, or_latest, latest_cell, latest_element, put_in, written_cells}

apart : (a b : ℕ) → nat_eq a b ≡ false → a ≢ b
apart a b e = λ same. grind (arith, e, same)

-- the number that was put there latest stands for the element, where the element is there
out : (latest : Option ℤ) → let t : Answer = Err trap.Index in t ≡ or_latest latest t
out None = refl
out (Some z) = refl

inside : (latest : Option ℤ) (z : ℤ) → let n : Answer = Ok (unwrap_or latest z) in n ≡ or_latest latest (Ok z)
inside None z = refl
inside (Some y) z = refl

pub length_cells_after : (ws : List CellWrite) (cells : List ℤ) → length (cells_after ws cells) ≡ length cells
length_cells_after [] cells = refl
length_cells_after (w ∷ ws) cells = length-set (cells_after ws cells) w.cell w.value ∙ length_cells_after ws cells

-- one write, and then what the earlier ones left
cell_first : (w : CellWrite) (ws : List CellWrite) (cells here : List ℤ) (k : ℕ) → k < length here → get_or here k (pos 0) ≡ unwrap_or (latest_cell k ws) (get_or cells k (pos 0)) → get_or (slice_set here w.cell w.value) k (pos 0) ≡ unwrap_or (latest_cell k (w ∷ ws)) (get_or cells k (pos 0))
cell_first w ws cells here k h before = go (nat_eq w.cell k) refl
  where
    go : (b : Bool) → nat_eq w.cell k ≡ b → get_or (slice_set here w.cell w.value) k (pos 0) ≡ unwrap_or (option_map (λ (v : CellWrite). v.value) (cond b (Some w) (find (is_of_cell k) ws))) (get_or cells k (pos 0))
    go true e = get_or-set_at here w.cell k w.value (pos 0) (sym (eqb-true w.cell k e)) (subst (λ n. n < length here) (sym (eqb-true w.cell k e)) h)
    go false e = get_or-set_other here w.cell k w.value (pos 0) (λ same. apart w.cell k e (sym same)) ∙ before

-- a cell as the writes leave it
pub cell_after : (ws : List CellWrite) (cells : List ℤ) (k : ℕ) → k < length cells → get_or (cells_after ws cells) k (pos 0) ≡ unwrap_or (latest_cell k ws) (get_or cells k (pos 0))
cell_after [] cells k h = refl
cell_after (w ∷ ws) cells k h =
    cell_first w ws cells (cells_after ws cells) k (omega (arith, length_cells_after ws cells)) (cell_after ws cells k h)

offset_within : (o : Object) (i : ℤ) → has_index o i ≡ true → offset_of o i < o.extent
offset_within o i h = grind (arith, ints)

offset_apart : (o : Object) (i j : ℤ) → has_index o i ≡ true → has_index o j ≡ true → is_equal i j ≡ false → offset_of o j ≢ offset_of o i
offset_apart o i j h k e = λ same. grind (arith, ints)

index_same : (i j : ℤ) → is_equal i j ≡ true → i ≡ j
index_same i j e = grind (arith, ints)

-- an object's row is there, with as many cells as its extent
pub record IsRow (o : Object) (object : ℕ) (cells : List (List ℤ)) : Type 0 where
  pub there : object < length cells
  pub long : length (slice_index_or cells object []) ≡ o.extent

-- the element as the cells have it
abbrev pub element_in : Object → ℕ → ℤ → List (List ℤ) → ℤ
element_in o object index cells = slice_index_or (slice_index_or cells object []) (offset_of o index) (pos 0)

-- a write into another object
put_other : (found : Option Object) (w : Write) (object : ℕ) (cells : List (List ℤ)) → object ≢ w.object → slice_index_or (put_in found w cells) object [] ≡ slice_index_or cells object []
put_other None w object cells ne = refl
put_other (Some p) w object cells ne = go (has_index p w.index)
  where
    go : (b : Bool) → slice_index_or (cond b (slice_set cells w.object (slice_set (slice_index_or cells w.object []) (offset_of p w.index) w.value)) cells) object [] ≡ slice_index_or cells object []
    go true = get_or-set_other cells w.object object _ [] ne
    go false = refl

length-put_in : (found : Option Object) (w : Write) (cells : List (List ℤ)) → length (put_in found w cells) ≡ length cells
length-put_in None w cells = refl
length-put_in (Some p) w cells = go (has_index p w.index)
  where
    go : (b : Bool) → length (cond b (slice_set cells w.object (slice_set (slice_index_or cells w.object []) (offset_of p w.index) w.value)) cells) ≡ length cells
    go true = length-set cells w.object _
    go false = refl

row_put : (found : Option Object) (w : Write) (object : ℕ) (cells : List (List ℤ)) → object < length cells → length (slice_index_or (put_in found w cells) object []) ≡ length (slice_index_or cells object [])
row_put None w object cells h = refl
row_put (Some p) w object cells h = go (has_index p w.index) (nat_eq w.object object) refl
  where
    there : List ℤ
    there = slice_set (slice_index_or cells w.object []) (offset_of p w.index) w.value

    go : (b c : Bool) → nat_eq w.object object ≡ c → length (slice_index_or (cond b (slice_set cells w.object (slice_set (slice_index_or cells w.object []) (offset_of p w.index) w.value)) cells) object []) ≡ length (slice_index_or cells object [])
    go false c e = refl
    go true true e =
        let same = eqb-true w.object object e in
        ap length (get_or-set_at cells w.object object (slice_set (slice_index_or cells w.object []) (offset_of p w.index) w.value) [] (sym same) (subst (λ n. n < length cells) (sym same) h)) ∙ length-set (slice_index_or cells w.object []) (offset_of p w.index) w.value ∙ ap (λ n. length (slice_index_or cells n [])) same
    go true false e =
        ap length (get_or-set_other cells w.object object (slice_set (slice_index_or cells w.object []) (offset_of p w.index) w.value) [] (λ same. apart w.object object e (sym same)))

row_after : (objects : List Object) (o : Object) (object : ℕ) (ws : List Write) (cells : List (List ℤ)) → IsRow o object cells → IsRow o object (written_cells objects ws cells)
row_after objects o object [] cells row = row
row_after objects o object (w ∷ ws) cells row =
    let before = row_after objects o object ws cells row in
    let here = written_cells objects ws cells in
    record {
      there = omega (arith, length-put_in (slice_get objects w.object) w here, before.there);
      long = row_put (slice_get objects w.object) w object here before.there ∙ before.long;
    }

-- a write into the object itself
put_same : (o : Object) (w : Write) (object : ℕ) (index : ℤ) (cells : List (List ℤ)) (before : ℤ) (b : Bool) → w.object ≡ object → has_index o index ≡ true → IsRow o object cells → element_in o object index cells ≡ before → is_equal w.index index ≡ b → element_in o object index (put_in (Some o) w cells) ≡ cond b w.value before
put_same o w object index cells before true at has row e same =
    let there = slice_set (slice_index_or cells w.object []) (offset_of o w.index) w.value in
    let i : w.index ≡ index = index_same w.index index same in
    let here : has_index o w.index ≡ true = ap (has_index o) i ∙ has in
    let inside = offset_within o index has in
    ap (λ b. element_in o object index (cond b (slice_set cells w.object there) cells)) here
    ∙ ap (λ r. slice_index_or r (offset_of o index) (pos 0)) (get_or-set_at cells w.object object there [] (sym at) (subst (λ n. n < length cells) (sym at) row.there))
    ∙ get_or-set_at (slice_index_or cells w.object []) (offset_of o w.index) (offset_of o index) w.value (pos 0) (ap (offset_of o) (sym i)) (subst (λ n. offset_of o w.index < length (slice_index_or cells n [])) (sym at) (omega (arith, row.long, ap (offset_of o) i)))
put_same o w object index cells before false at has row e same = go (has_index o w.index) refl
  where
    go : (b : Bool) → has_index o w.index ≡ b → element_in o object index (cond b (slice_set cells w.object (slice_set (slice_index_or cells w.object []) (offset_of o w.index) w.value)) cells) ≡ before
    go false h = e
    go true h =
        let there = slice_set (slice_index_or cells w.object []) (offset_of o w.index) w.value in
        ap (λ r. slice_index_or r (offset_of o index) (pos 0)) (get_or-set_at cells w.object object there [] (sym at) (subst (λ n. n < length cells) (sym at) row.there))
        ∙ get_or-set_other (slice_index_or cells w.object []) (offset_of o w.index) (offset_of o index) w.value (pos 0) (offset_apart o w.index index h has same)
        ∙ ap (λ n. slice_index_or (slice_index_or cells n []) (offset_of o index) (pos 0)) at ∙ e

element_first : (objects : List Object) (o : Object) (w : Write) (ws : List Write) (object : ℕ) (index : ℤ) (cells : List (List ℤ)) (before : ℤ) → slice_get objects object ≡ Some o → has_index o index ≡ true → IsRow o object cells → element_in o object index cells ≡ unwrap_or (latest_element object index ws) before → element_in o object index (put_in (slice_get objects w.object) w cells) ≡ unwrap_or (latest_element object index (w ∷ ws)) before
element_first objects o w ws object index cells before found has row e = go (nat_eq w.object object) (is_equal w.index index) refl refl
  where
    go : (a b : Bool) → nat_eq w.object object ≡ a → is_equal w.index index ≡ b → element_in o object index (put_in (slice_get objects w.object) w cells) ≡ unwrap_or (option_map (λ (v : Write). v.value) (cond (a && b) (Some w) (find (is_of_element object index) ws))) before
    go false b at same =
        ap (λ r. slice_index_or r (offset_of o index) (pos 0)) (put_other (slice_get objects w.object) w object cells (λ n. apart w.object object at (sym n))) ∙ e
    go true true at same =
        let n = eqb-true w.object object at in
        ap (λ f. element_in o object index (put_in f w cells)) (ap (slice_get objects) n ∙ found) ∙ put_same o w object index cells _ true n has row e same
    go true false at same =
        let n = eqb-true w.object object at in
        ap (λ f. element_in o object index (put_in f w cells)) (ap (slice_get objects) n ∙ found) ∙ put_same o w object index cells _ false n has row e same

-- an element as the writes leave it
pub element_after : (objects : List Object) (o : Object) (ws : List Write) (object : ℕ) (index : ℤ) (cells : List (List ℤ)) → slice_get objects object ≡ Some o → has_index o index ≡ true → IsRow o object cells → element_in o object index (written_cells objects ws cells) ≡ unwrap_or (latest_element object index ws) (element_in o object index cells)
element_after objects o [] object index cells found has row = refl
element_after objects o (w ∷ ws) object index cells found has row =
    element_first objects o w ws object index (written_cells objects ws cells) _ found has (row_after objects o object ws cells row) (element_after objects o ws object index cells found has row)

-- the same, with the test of the bounds
pub read_after : (objects : List Object) (ws : List Write) (object : ℕ) (index : ℤ) (cells : List (List ℤ)) → IsSomeAnd (slice_get objects object) (λ (o : Object). (object < length cells) × (length (slice_index_or cells object []) ≡ o.extent)) → element_of objects (written_cells objects ws cells) object index ≡ or_latest (latest_element object index ws) (element_of objects cells object index)
read_after objects ws object index cells row = go (slice_get objects object) refl row
  where
    go : (f : Option Object) → slice_get objects object ≡ f → IsSomeAnd f (λ (o : Object). (object < length cells) × (length (slice_index_or cells object []) ≡ o.extent)) → element_at f (slice_index_or (written_cells objects ws cells) object []) index ≡ or_latest (latest_element object index ws) (element_at f (slice_index_or cells object []) index)
    go None e h = absurd h
    go (Some o) e h = inner (has_index o index) refl
      where
        inner : (b : Bool) → has_index o index ≡ b → cond b (Ok (element_in o object index (written_cells objects ws cells))) (Err trap.Index) ≡ or_latest (latest_element object index ws) (cond b (Ok (element_in o object index cells)) (Err trap.Index))
        inner false n = out (latest_element object index ws)
        inner true n = ap Ok (element_after objects o ws object index cells e n (record { there = h.0; long = h.1 })) ∙ inside (latest_element object index ws) (element_in o object index cells)
