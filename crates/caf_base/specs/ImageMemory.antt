-- An image's memory as plain data. Each list but the last has an entry for each object of the program, in their order,
-- which is empty or unset where the object is of another kind.
use Rattle.std.specs.Prelude.{ℕ, ℤ, List, Option}
use Rattle.caf_base.specs.declared.object.Object.{Object}
use Rattle.caf_base.specs.declared.operation.Section.{Section}
use Rattle.caf_base.specs.declared.team.Team.{Team}

pub record ImageMemory : Type 0 where
  -- the image's number, and how many images there are
  pub image : ℕ
  pub images : ℕ
  -- the objects of the program
  pub objects : List Object
  -- the elements of the integer and logical objects
  pub cells : List (List ℤ)
  -- the posts of the events
  pub posts : List (List ℕ)
  pub teams : List (Option Team)
  pub copointers : List (Option Section)
  -- the lines printed, without their ends
  pub lines : List (List ℕ)
