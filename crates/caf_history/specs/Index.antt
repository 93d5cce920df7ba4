-- What an index says of names, each of a path and a number.
use Rattle.std.specs.Prelude.{◌≡◌, ℕ, ℤ, ◌+◌, Bool, ◌&&◌, List, Option, Some, None, nat_eq, count_by, if◌then◌else◌}
use Rattle.std.specs.Map.{lookup}
use Rattle.std.specs.Option.{option_or}
use Rattle.indexmap.specs.IndexMap.{get}
use Rattle.caf_base.specs.FinishRef.{same_path}
use Rattle.caf_history.specs.declared.group.Group.{Group}
use Rattle.caf_history.specs.declared.index.Index.{Index}
use Rattle.caf_history.specs.Places.{place_of, place_if}

-- the splits that lead to a team
abbrev pub Path : Type 0
Path = List (ℕ × ℤ)

-- how many of a path's names count
abbrev pub count_of : Option Group → ℕ
count_of None = 0
count_of (Some g) = g.count

-- the place of the first name of a number
abbrev pub first_of : Option Group → ℕ → Option ℕ
first_of None number = None
first_of (Some g) number = get nat_eq g.firsts number

-- the group of a path
abbrev pub group_of : Index → Path → Option Group
group_of index path = lookup (λ key. same_path path key.items) index.groups.entries

abbrev pub count_at : Index → Path → ℕ
count_at index path = count_of (group_of index path)

abbrev pub first_at : Index → Path → ℕ → Option ℕ
first_at index path number = first_of (group_of index path) number

abbrev pub one_if : Bool → ℕ
one_if counted = if counted then 1 else 0

-- a group with one name more
pub record Joins (number : ℕ) (counted : Bool) (at : ℕ) (old new : Option Group) : Type 0 where
  pub count : count_of new ≡ count_of old + one_if counted
  pub first : (k : ℕ) → first_of new k ≡ option_or (first_of old k) (place_if (nat_eq number k) at)

-- a group that says the same
pub record Stays (old new : Option Group) : Type 0 where
  pub count : count_of new ≡ count_of old
  pub first : (k : ℕ) → first_of new k ≡ first_of old k

-- an index with one name more
pub record Gains (path : Path) (number : ℕ) (counted : Bool) (at : ℕ) (old new : Index) : Type 0 where
  pub count : (p : Path) → count_at new p ≡ count_at old p + one_if (same_path p path && counted)
  pub first : (p : Path) (k : ℕ) → first_at new p k ≡ option_or (first_at old p k) (place_if (same_path p path && nat_eq number k) at)

-- an index that says the same
pub record Keeps (old new : Index) : Type 0 where
  pub count : (p : Path) → count_at new p ≡ count_at old p
  pub first : (p : Path) (k : ℕ) → first_at new p k ≡ first_at old p k

-- an index says of a list which of its elements count for a path, and which is the first of a path and a number
pub record Tells {A : Type 0} (counts : Path → A → Bool) (has : Path → ℕ → A → Bool) (all : List A) (index : Index) : Type 0 where
  pub count : (p : Path) → count_at index p ≡ count_by (counts p) all
  pub first : (p : Path) (k : ℕ) → first_at index p k ≡ place_of (has p k) all
