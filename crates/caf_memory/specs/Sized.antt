-- What every memory keeps: each list has one entry for each object, and each entry as many elements as its object.
use Rattle.std.specs.Prelude.{◌≡◌, ℕ, ◌+◌, ◌<◌, ◌≤◌, List, [], IsSomeAnd, slice_get, slice_index_or, length, map, sum_by}
use Rattle.caf_base.specs.declared.object.Kind.{Kind}
use Rattle.caf_base.specs.declared.object.Kind.TheVariants as kind
use Rattle.caf_base.specs.declared.object.Object.{Object}
use Rattle.caf_base.specs.ImageMemory.{ImageMemory}

-- the number of cells of an object of a kind, with so many elements
abbrev pub cells_due : Kind → ℕ → ℕ
cells_due kind.Integer n = n
cells_due kind.Logical n = n
cells_due _ n = 0

-- the number of events of an object of a kind, with so many elements
abbrev pub posts_due : Kind → ℕ → ℕ
posts_due kind.Event n = n
posts_due _ n = 0

-- how long each list is
abbrev pub lengths_of : {A : Type 0} → List (List A) → List ℕ
lengths_of {A} rows = map (λ (row : List A). length row) rows

-- the bytes of lines, with their ends
abbrev pub bytes_of : List (List ℕ) → ℕ
bytes_of lines = sum_by (λ (line : List ℕ). length line + 1) lines

pub record IsSized (m : ImageMemory) : Type 0 where
  -- an integer or logical object has as many cells as its extent, and any other none
  pub cells : lengths_of m.cells ≡ map (λ (o : Object). cells_due o.kind o.extent) m.objects
  -- an event has as many numbers of posts as its extent, and any other object none
  pub posts : lengths_of m.posts ≡ map (λ (o : Object). posts_due o.kind o.extent) m.objects
  pub teams : length m.teams ≡ length m.objects
  pub copointers : length m.copointers ≡ length m.objects
  pub lines : bytes_of m.lines ≤ 65536

-- the object is there with as many cells as its extent
abbrev pub HasRow : ImageMemory → ℕ → Type 0
HasRow m object = IsSomeAnd (slice_get m.objects object) (λ (o : Object). (object < length m.cells) × (length (slice_index_or m.cells object []) ≡ o.extent))
