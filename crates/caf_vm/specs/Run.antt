-- A task in the middle of a Step, in a code.
use Rattle.std.specs.Prelude.{◌≡◌, Option, Some, None, Result, Ok, Err}
use Rattle.caf_base.specs.ImageMemory.{ImageMemory}
use Rattle.caf_base.specs.declared.fence.FenceClear.{FenceClear}
use Rattle.caf_code.specs.Did.{Did, Goes, Fails}
use Rattle.caf_code.specs.Rules.{Shapes, AreShapes}
use Rattle.caf_code.specs.Shapes.{Part, Shape}
use Rattle.caf_code.specs.Step.{does}
use Rattle.caf_code.specs.Task.{Task}
use Rattle.caf_code.specs.declared.instr.Instr.{Instr}
use Rattle.caf_code.specs.declared.listing.Listing.{Listing}
use Rattle.caf_vm.specs.Shape.{Fits}
use Rattle.caf_vm.specs.declared.stop.Stop.{Stop}
use Rattle.caf_vm.specs.declared.stop.Stop.TheVariants as stop

-- the task's frame has the shape that stands at its address
pub record InCode (code : Listing) (t : Task) : Type 0 where
  pub shapes : Shapes
  pub shaped : AreShapes code shapes
  pub part : Part
  pub shape : Shape
  pub stands : shapes part t.address ≡ Some shape
  pub fits : Fits code part shape t.frame

-- the instructions before the end of the Step led to the marked one, or to a trap; nothing is said where memory is
-- wanting
abbrev pub Reached : Listing → FenceClear → Result Instr Stop → Did → Task → ImageMemory → Type 0
Reached code clear (Ok i) d t m = d ≡ does code clear i t m
Reached code clear (Err (stop.Trap trap)) d t m = d ≡ Fails trap m
Reached code clear (Err stop.Memory) d t m = Unit {0}

-- an instruction was carried out, or is the one that ends the Step
abbrev pub Turned : Listing → FenceClear → Result (Option Instr) Stop → Did → Task → ImageMemory → Type 0
Turned code clear (Ok None) d t m = d ≡ Goes t m
Turned code clear (Ok (Some i)) d t m = d ≡ does code clear i t m
Turned code clear (Err (stop.Trap trap)) d t m = d ≡ Fails trap m
Turned code clear (Err stop.Memory) d t m = Unit {0}

-- this, where the Step goes on
abbrev pub StandsOn : Result (Option Instr) Stop → Type 0 → Type 0
StandsOn (Ok None) X = X
StandsOn _ X = Unit {0}
