-- Which memories are sized.
use Rattle.std.proofs.Common.{◌≡◌, ℕ, zero, suc, ◌+◌, ◌<◌, List, [], ◌∷◌, ◌++◌, length, get_or, map, take, Option, Some, None, IsSomeAnd, refl, ap, sym, ◌∙◌, arith, ℤ, pos, true, add-one}
use Rattle.std.specs.Prelude.{slice_get, slice_set, slice_index_or}
use Rattle.std.proofs.lemmas.List.{length-map, length-replicate, length-set}
use Rattle.std.proofs.lemmas.List as lists
use Rattle.std.proofs.lemmas.Option.{get_or_from_slice_get, slice_get_within}
use Rattle.std.proofs.Math.ListN.{get_or-map}
use Rattle.std.proofs.Math.Seq.{map-set_same}
use Rattle.caf_base.specs.declared.object.Object.{Object}
use Rattle.caf_base.specs.declared.object.Kind.{Kind}
use Rattle.caf_base.specs.declared.object.Kind.TheVariants as kind
use Rattle.caf_base.specs.ImageMemory.{ImageMemory}
use Rattle.caf_base.specs.Start.{start_cells, start_posts, start_memory}
use Rattle.caf_memory.specs.Bounds.{HasCells, has_cells}
use Rattle.caf_memory.specs.Sized.{HasRow, IsSized, cells_due, posts_due}

map_same_suc : {A B : Type 0} (b : B) (xs : List A) (i : ℕ) → i < length xs → map (λ (x : A). b) (take (suc i) xs) ≡ map (λ (x : A). b) (take i xs) ++ b ∷ []
map_same_suc b [] i h = absurd (omega arith)
map_same_suc b (x ∷ xs) zero h = refl
map_same_suc b (x ∷ xs) (suc i) h = ap (λ ys. b ∷ ys) (map_same_suc b xs i (omega arith))

-- one more element of a list, all seen as the same
pub map_same_more : {A B : Type 0} (b : B) (xs : List A) (i : ℕ) → i < length xs → map (λ (x : A). b) (take (i + 1) xs) ≡ map (λ (x : A). b) (take i xs) ++ b ∷ []
map_same_more b xs i h = rw add-one (map_same_suc b xs i h)

start_cells_due : (k : Kind) (n : ℕ) → length (start_cells k n) ≡ cells_due k n
start_cells_due kind.Integer n = length-replicate n (pos 0)
start_cells_due kind.Logical n = length-replicate n (pos 0)
start_cells_due kind.Event n = refl
start_cells_due kind.Team n = refl
start_cells_due kind.CoInteger n = refl
start_cells_due kind.CoLogical n = refl

start_posts_due : (k : Kind) (n : ℕ) → length (start_posts k n) ≡ posts_due k n
start_posts_due kind.Integer n = refl
start_posts_due kind.Logical n = refl
start_posts_due kind.Event n = length-replicate n 0
start_posts_due kind.Team n = refl
start_posts_due kind.CoInteger n = refl
start_posts_due kind.CoLogical n = refl

map_due : {A B : Type 0} (f : A → B) (size : B → ℕ) (due : A → ℕ) → ((x : A) → size (f x) ≡ due x) → (xs : List A) → map size (map f xs) ≡ map due xs
map_due f size due each [] = refl
map_due f size due each (x ∷ xs) = cc (each x, map_due f size due each xs)

-- an image begins with a sized memory
pub sized_start : (objects : List Object) (images image : ℕ) → IsSized (start_memory objects images image)
sized_start objects images image = record {
  cells = map_due (λ (o : Object). start_cells o.kind o.extent) (λ (row : List ℤ). length row) (λ (o : Object). cells_due o.kind o.extent) (λ o. start_cells_due o.kind o.extent) objects;
  posts = map_due (λ (o : Object). start_posts o.kind o.extent) (λ (row : List ℕ). length row) (λ (o : Object). posts_due o.kind o.extent) (λ o. start_posts_due o.kind o.extent) objects;
  teams = length-map objects _;
  copointers = length-map objects _;
  lines = omega arith;
}

-- a row is replaced by one of its length
pub map_length-set : {A : Type 0} (rows : List (List A)) (k : ℕ) (row : List A) → length row ≡ length (slice_index_or rows k []) → map (λ (r : List A). length r) (slice_set rows k row) ≡ map (λ (r : List A). length r) rows
map_length-set {A} rows k row same = map-set_same (λ (r : List A). length r) rows k row [] same

-- an element of a row is replaced
pub map_length-set_in : {A : Type 0} (rows : List (List A)) (k i : ℕ) (x : A) → map (λ (r : List A). length r) (slice_set rows k (slice_set (slice_index_or rows k []) i x)) ≡ map (λ (r : List A). length r) rows
map_length-set_in rows k i x =
    map_length-set rows k (slice_set (slice_index_or rows k []) i x) (length-set (slice_index_or rows k []) i x)

-- two lists that agree by two views agree at a place
agree_at : {A B : Type 0} (f : A → ℕ) (g : B → ℕ) (xs : List A) (ys : List B) (k : ℕ) (y : B) (d : A) → map f xs ≡ map g ys → slice_get ys k ≡ Some y → (k < length xs) × (f (get_or xs k d) ≡ g y)
agree_at f g xs ys k y d same e =
    let h : k < length ys = slice_get_within ys k y e in
    let long : length xs ≡ length ys = sym (length-map xs f) ∙ ap length same ∙ length-map ys g in
    (omega arith, sym (get_or-map f xs k d) ∙ ap (λ ns. get_or ns k (f d)) same ∙ lists.get_or-map g ys k y (f d) h ∙ ap g (get_or_from_slice_get ys k y y e))

has_cells-due : (k : Kind) (n : ℕ) → has_cells k ≡ true → cells_due k n ≡ n
has_cells-due kind.Integer n h = refl
has_cells-due kind.Logical n h = refl
has_cells-due kind.Event n h = cc
has_cells-due kind.Team n h = cc
has_cells-due kind.CoInteger n h = cc
has_cells-due kind.CoLogical n h = cc

-- the cells of an object with cells
pub row_length : (m : ImageMemory) (k : ℕ) (o : Object) → IsSized m → slice_get m.objects k ≡ Some o → has_cells o.kind ≡ true → (k < length m.cells) × (length (slice_index_or m.cells k []) ≡ o.extent)
row_length m k o sized e has =
    let at = agree_at (λ (row : List ℤ). length row) (λ (p : Object). cells_due p.kind p.extent) m.cells m.objects k o [] sized.cells e in
    (at.0, at.1 ∙ has_cells-due o.kind o.extent has)

pub has_row : (m : ImageMemory) (k : ℕ) → IsSized m → HasCells m.objects k → HasRow m k
has_row m k sized has = go (slice_get m.objects k) refl has
  where
    go : (found : Option Object) → slice_get m.objects k ≡ found → IsSomeAnd found (λ (p : Object). has_cells p.kind ≡ true) → IsSomeAnd found (λ (o : Object). (k < length m.cells) × (length (slice_index_or m.cells k []) ≡ o.extent))
    go None e h = h
    go (Some o) e h = row_length m k o sized e h
