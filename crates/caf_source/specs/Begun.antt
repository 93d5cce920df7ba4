-- Operations that are begun at an image, with its next number.
use Rattle.std.specs.Prelude.{ℕ, suc, Bool, not, ◌&&◌, List, [], nat_le, Option, Some, None, Result, Ok, Err, if◌then◌else◌}
use Rattle.caf_base.specs.declared.operation.EventAt.{EventAt}
use Rattle.caf_base.specs.declared.operation.OpSpec.{OpSpec}
use Rattle.caf_base.specs.declared.operation.OpSpec.TheVariants as spec
use Rattle.caf_base.specs.declared.team.FinishRef.{FinishRef}
use Rattle.caf_base.specs.declared.trap.Trap.{Trap}
use Rattle.caf_base.specs.declared.trap.Trap.TheVariants as trap
use Rattle.caf_base.specs.Operations.{are_inside, images_named, is_counted, stages_of}
use Rattle.caf_pending.specs.declared.operation.Operation.{Operation}
use Rattle.caf_source.specs.declared.state.Image.{Image}

-- whether the image has no operation number left
abbrev pub is_spent : Image → Bool
is_spent im = nat_le 65535 im.operations

-- the operation that an image begins with its next number
abbrev pub operation_of : ℕ → ℕ → OpSpec → List FinishRef → ℕ → Operation
operation_of i begun what finishes task = record {
  name = record { image = i; number = suc begun };
  spec = what;
  stages = stages_of i what;
  values = [];
  finishes = finishes;
  task = task;
}

-- whether a counted operation names an image that isn't in the innermost finish's team
abbrev pub is_outside : List FinishRef → OpSpec → Bool
is_outside finishes what = is_counted what && not (are_inside finishes (images_named what))

-- the image with one operation more
abbrev pub with_one_more : Image → Image
with_one_more im = record im { operations = suc im.operations }

-- an image that has begun a notice, or none where no event is named
pub record Noticed : Type 0 where
  pub image : Image
  pub begun : Option Operation

-- the notice to an event that is begun where a task or a stage ends; trap `Operations` where no number is left
abbrev pub notice_of : ℕ → Image → List FinishRef → ℕ → Option EventAt → Result Noticed Trap
notice_of i im finishes task None = Ok (record { image = im; begun = None })
notice_of i im finishes task (Some e) =
    if is_spent im then Err trap.Operations
    else Ok (record { image = with_one_more im; begun = Some (operation_of i im.operations (spec.Notice e) finishes task) })
