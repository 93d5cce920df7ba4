-- Whether two teams, and two finishes, are one, as tests that compute.
use Rattle.std.specs.Prelude.{ℕ, ℤ, Bool, ◌&&◌, List, nat_eq}
use Rattle.std.specs.Ordering.{int_eq}
use Rattle.std.specs.List.{list_any}
use Rattle.std.specs.Cmp.Lexicographic.{pointwise}
use Rattle.caf_base.specs.declared.team.FinishRef.{FinishRef}
use Rattle.caf_base.specs.declared.team.Team.{Team}

-- the same split, by its number and its colour
abbrev pub same_split : ℕ × ℤ → ℕ × ℤ → Bool
same_split a b = nat_eq a.0 b.0 && int_eq a.1 b.1

-- the same path
abbrev pub same_path : List (ℕ × ℤ) → List (ℕ × ℤ) → Bool
same_path p q = pointwise same_split p q

-- the same path and the same members
abbrev pub same_team : Team → Team → Bool
same_team a b = pointwise same_split a.path b.path && pointwise nat_eq a.members b.members

-- the same number of the same team
abbrev pub same_finish : FinishRef → FinishRef → Bool
same_finish a b = same_team a.team b.team && nat_eq a.number b.number

-- A finish is named by its team's path and its number. Members add nothing: the teams of one path in a run have the
-- same members.
abbrev pub same_name : FinishRef → FinishRef → Bool
same_name a b = same_path a.team.path b.team.path && nat_eq a.number b.number

-- whether a list of finishes has one of this name
abbrev pub encloses : FinishRef → List FinishRef → Bool
encloses f finishes = list_any (same_name f) finishes
