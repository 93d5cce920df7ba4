-- What an expression sees of its image and its task.
use Rattle.std.specs.Prelude.{ℕ, List, Option, Some, None, Ok, Err, ℤ, pos, length, slice_index_or}
use Rattle.caf_base.specs.declared.object.Object.{Object}
use Rattle.caf_base.specs.declared.team.Team.{Team}
use Rattle.caf_base.specs.declared.trap.Trap.TheVariants as trap
use Rattle.caf_base.specs.Arithmetic.{Answer}
use Rattle.caf_base.specs.Element.{element_of}
use Rattle.caf_base.specs.Team.{rank_or_first}
use Rattle.caf_program.specs.declared.expr.TeamR.{TeamR}
use Rattle.caf_program.specs.declared.expr.TeamR.TheVariants as team

pub record Seen : Type 0 where
  -- the program's objects, and the image's cells of each
  pub objects : List Object
  pub cells : List (List ℤ)
  -- the cells of the task's frame
  pub locals : List ℤ
  -- the values that the statement has read already
  pub held : List ℤ
  -- the image's number, and how many images there are
  pub image : ℕ
  pub images : ℕ
  -- the team of each object, none where it is unset or the object is no team
  pub teams : List (Option Team)

-- the element of an object at an index
abbrev pub element : Seen → ℕ → ℤ → Answer
element s object index = element_of s.objects s.cells object index

-- a scalar is read at index 1
abbrev pub scalar : Seen → ℕ → Answer
scalar s object = element s object (pos 1)

-- a cell of the frame
abbrev pub local : Seen → ℕ → ℤ
local s at = slice_index_or s.locals at (pos 0)

-- a value that was read already
abbrev pub held : Seen → ℕ → ℤ
held s at = slice_index_or s.held at (pos 0)

abbrev pub rank_among : Option Team → ℕ → Answer
rank_among None image = Err trap.Team
rank_among (Some t) image = Ok (pos (rank_or_first t.members image))

abbrev pub size_of : Option Team → Answer
size_of None = Err trap.Team
size_of (Some t) = Ok (pos (length t.members))

-- the image's rank in a team; trap `Team` where it is unset
abbrev pub team_rank : Seen → TeamR → Answer
team_rank s team.World = Ok (pos s.image)
team_rank s (team.Object o) = rank_among (slice_index_or s.teams o None) s.image

-- the number of a team's members; trap `Team` where it is unset
abbrev pub team_size : Seen → TeamR → Answer
team_size s team.World = Ok (pos s.images)
team_size s (team.Object o) = size_of (slice_index_or s.teams o None)
