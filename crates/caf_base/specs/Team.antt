-- The ranks of a team's members.
use Rattle.std.specs.Prelude.{ℕ, List, Option, unwrap_or, ◌==◌}
use Rattle.std.specs.List.{position}

-- the first place of the image among the members, from 0
abbrev pub rank_in : List ℕ → ℕ → Option ℕ
rank_in members image = position (λ member. member == image) members

-- the same, 0 for an image that is no member
abbrev pub rank_or_first : List ℕ → ℕ → ℕ
rank_or_first members image = unwrap_or (rank_in members image) 0
