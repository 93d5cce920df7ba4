-- The tree of a team's ranks, and the parts that a rank gathers.
use Rattle.std.specs.Prelude.{ℕ, Bool, ◌==◌, nat_lt, ◌&&◌, ◌||◌, if◌then◌else◌, List, map}
use Rattle.std.specs.List.{range_with_len}
use Rattle.caf_reduce.specs.declared.part.Part.{Part}
use Rattle.caf_reduce.specs.declared.part.Part.TheVariants.{Outside, Missing}

-- the parent of a rank above 0: rank 0 is the parent of all the others
abbrev pub parent_of : ℕ → ℕ → ℕ
parent_of size rank = 0

-- whether the rank is a child of this one
abbrev pub is_child : ℕ → ℕ → ℕ → Bool
is_child size rank from = nat_lt 0 from && (parent_of size from == rank)

-- what a rank is to give to the sum that this one gathers: its own part and those of its children are missing
abbrev pub first_part : ℕ → ℕ → ℕ → Part
first_part size rank from = if (from == rank) || is_child size rank from then Missing else Outside

-- by rank, before anything was given
abbrev pub first_parts : ℕ → ℕ → List Part
first_parts size rank = map (first_part size rank) (range_with_len 0 size)
