-- The state of the source machine: its images, and the operations that are pending.
use Rattle.std.specs.Prelude.{ℕ, List, [], ◌∷◌, map, None}
use Rattle.caf_base.specs.declared.operation.Stage.{Stage}
use Rattle.caf_base.specs.declared.team.FinishRef.{FinishRef}
use Rattle.caf_base.specs.ImageMemory.{ImageMemory}
use Rattle.caf_base.specs.Operations.{place_of_stage}
use Rattle.caf_base.specs.Places.{below}
use Rattle.caf_base.specs.Start.{start_memory}
use Rattle.caf_pending.specs.declared.operation.Operation.{Operation}
use Rattle.caf_program.specs.declared.program.Program.{Program}
use Rattle.caf_program.specs.declared.stmt.StmtR.{StmtR}
use Rattle.caf_source.specs.declared.state.Image.{Image}
use Rattle.caf_source.specs.declared.state.Live.{Live}
use Rattle.caf_treestep.specs.Step.{main_task}

pub record State : Type 0 where
  pub images : List Image
  -- no two have one name, and their order has no meaning
  pub pending : List Operation

-- the image at which a stage of an operation is performed
abbrev pub place_of : Operation → Stage → ℕ
place_of op s = place_of_stage op.name.image op.spec s

-- the finish of the whole program on so many images
abbrev pub world_finish : ℕ → FinishRef
world_finish images = record { team = record { path = []; members = below images }; number = 0 }

abbrev pub program_finish : ImageMemory → FinishRef
program_finish m = world_finish m.images

-- the main program as a live task
abbrev pub main_live : List StmtR → ℕ → Live
main_live body images = record { number = 0; task = main_task body; finishes = world_finish images ∷ []; ship = None }

abbrev pub start_image : Program → ImageMemory → Image
start_image p m = record {
  memory = m;
  trap = None;
  main = main_live p.body m.images;
  shipped = [];
  operations = 0;
  ships = 0;
  left = [];
  arrived = [];
}

-- the state in which a run on so many images begins
abbrev pub first : Program → ℕ → State
first p images = record { images = map (λ image. start_image p (start_memory p.objects images image)) (below images); pending = [] }
