-- The splits that a main task has arrived at, as a list.
use Rattle.std.specs.Prelude.{ℕ, ◌-◌, Bool, ◌&&◌, List, nat_eq, length, Option, count_by, slice_get}
use Rattle.caf_base.specs.declared.team.Team.{Team}
use Rattle.caf_base.specs.FinishRef.{same_path}
use Rattle.caf_history.specs.declared.arrival.Arrival.{Arrival}

-- whether it is the arrival at a split of a team, by the split's number
abbrev pub is_split : Team → ℕ → Arrival → Bool
is_split team number a = same_path a.team.path team.path && nat_eq a.number number

-- how many of these splits are of a team
abbrev pub count_splits : Team → List Arrival → ℕ
count_splits team all = count_by (λ (a : Arrival). same_path a.team.path team.path) all

-- the last of a list
abbrev pub last_of : {A : Type 0} → List A → Option A
last_of l = slice_get l (length l - 1)
