-- What a rank keeps beside the parts that it gathers.
use Rattle.std.specs.Prelude.{◌≡◌, count_by}
use Rattle.caf_reduce.specs.declared.summer.Summer.TheInside.{Inside}
use Rattle.caf_reduce.specs.Sum.{is_inside, missing_in, sum_of}

-- the counts and the sum beside the parts are theirs
pub record IsSummer (summer : Inside) : Type 0 where
  pub all : summer.all ≡ count_by is_inside summer.parts.items
  pub missing : summer.missing ≡ missing_in summer.parts.items
  pub sum : summer.sum ≡ sum_of summer.parts.items
