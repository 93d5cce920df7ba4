-- The finishes that a main task has left, as a list.
use Rattle.std.specs.Prelude.{ℕ, Bool, not, ◌&&◌, List, [], nat_eq, count_by}
use Rattle.caf_base.specs.declared.team.FinishRef.{FinishRef}
use Rattle.caf_base.specs.declared.team.Team.{Team}
use Rattle.caf_base.specs.FinishRef.{same_path}

-- finish 0 of the team of all images, which has the empty path, is the body of the program
abbrev pub is_program_finish : FinishRef → Bool
is_program_finish f = same_path [] f.team.path && nat_eq f.number 0

-- how many of these finishes are of a team, the program's apart
abbrev pub count_finishes : Team → List FinishRef → ℕ
count_finishes team fs = count_by (λ (f : FinishRef). same_path f.team.path team.path && not (nat_eq f.number 0)) fs
