-- Codes of three small programs, and the shapes at their addresses.
use Rattle.std.specs.Prelude.{ℕ, zero, suc, List, [], ◌∷◌, true, false, codes, Option, Some, None, pos}
use Rattle.caf_base.specs.After.{After}
use Rattle.caf_base.specs.Start.{start_memory}
use Rattle.caf_base.specs.declared.effect.Effect.TheVariants as effect
use Rattle.caf_base.specs.declared.fence.FenceClear.{FenceClear}
use Rattle.caf_base.specs.declared.object.Kind.TheVariants as kind
use Rattle.caf_base.specs.declared.object.Object.{Object}
use Rattle.caf_code.specs.Shapes.{Shape}
use Rattle.caf_code.specs.Step.{main_task, runs}
use Rattle.caf_code.specs.Tables.{at_height}
use Rattle.caf_code.specs.Task.{Task}
use Rattle.caf_code.specs.declared.instr.Arithmetic.TheVariants as arithmetic
use Rattle.caf_code.specs.declared.instr.CellUse.TheVariants as cell
use Rattle.caf_code.specs.declared.instr.Instr.TheVariants as instr
use Rattle.caf_code.specs.declared.instr.Printed.TheVariants as printed
use Rattle.caf_code.specs.declared.instr.Reach.TheVariants as reach
use Rattle.caf_code.specs.declared.listing.Listing.{Listing}
use Rattle.caf_code.specs.declared.listing.SubCode.{SubCode}

-- an integer scalar
abbrev pub scalar : Object
scalar = record { kind = kind.Integer; lower = pos 1; extent = 1; shared = false }

-- a subroutine with one dummy, for a value
abbrev pub with_value : ℕ → SubCode
with_value address = record { address = address; dummies = false ∷ []; locals = 0 }

abbrev pub all_clear : FenceClear
all_clear = record { reads = true; writes = true }

-- after so many Steps
abbrev pub after_steps : ℕ → Listing → After Task → After Task
after_steps zero code x = x
after_steps (suc n) code x = after_steps n code (runs code all_clear x.task x.memory)

-- the main task after so many Steps, at an image alone
unfoldable pub alone : ℕ → Listing → After Task
alone n code = after_steps n code (record { effect = effect.Ran; task = main_task code; memory = start_memory code.objects 1 0 })

-- `print *, -7/2, mod(-7, 2), -2*3`
abbrev pub sums_code : Listing
sums_code = record {
  objects = [];
  subs = [];
  texts = [];
  instrs =
      instr.Push (pos 7) ∷
      instr.Push (pos 2) ∷
      instr.Arithmetic arithmetic.Divide ∷
      instr.Arithmetic arithmetic.Negate ∷
      instr.Print printed.Number ∷
      instr.Push (pos 7) ∷
      instr.Arithmetic arithmetic.Negate ∷
      instr.Push (pos 2) ∷
      instr.Arithmetic arithmetic.Modulo ∷
      instr.Print printed.Number ∷
      instr.Push (pos 2) ∷
      instr.Push (pos 3) ∷
      instr.Arithmetic arithmetic.Multiply ∷
      instr.Arithmetic arithmetic.Negate ∷
      instr.Print printed.Number ∷
      instr.Line ∷
      instr.Close ∷
      instr.Halt ∷ [];
}

abbrev pub sums_main : List (Option Shape)
sums_main = at_height 0 0 1 ∷ at_height 1 0 1 ∷ at_height 2 0 1 ∷ at_height 1 0 1 ∷ at_height 1 0 1 ∷ at_height 0 0 1 ∷ at_height 1 0 1 ∷ at_height 1 0 1 ∷ at_height 2 0 1 ∷ at_height 1 0 1 ∷ at_height 0 0 1 ∷ at_height 1 0 1 ∷ at_height 2 0 1 ∷ at_height 1 0 1 ∷ at_height 1 0 1 ∷ at_height 0 0 1 ∷ at_height 0 0 1 ∷ at_height 0 0 0 ∷ []

abbrev pub sums_subs : List (List (Option Shape))
sums_subs = []

-- a `do` from 5 to 1 that prints a text, `print *, i`, an empty `do` from 1 to 5 by 2, `print *, i`
abbrev pub loops_code : Listing
loops_code = record {
  objects = scalar ∷ [];
  subs = [];
  texts = codes "never" ∷ [];
  instrs =
      instr.Push (pos 5) ∷
      instr.Push (pos 1) ∷
      instr.Push (pos 1) ∷
      instr.Loop ∷
      instr.Store reach.Scalar 0 ∷
      instr.Enter 13 ∷
      instr.Print (printed.Text 0) ∷
      instr.Line ∷
      instr.Load reach.Scalar 0 ∷
      instr.StepBy ∷
      instr.Arithmetic arithmetic.Add ∷
      instr.Store reach.Scalar 0 ∷
      instr.Again 6 ∷
      instr.Load reach.Scalar 0 ∷
      instr.Print printed.Number ∷
      instr.Line ∷
      instr.Push (pos 1) ∷
      instr.Push (pos 5) ∷
      instr.Push (pos 2) ∷
      instr.Loop ∷
      instr.Store reach.Scalar 0 ∷
      instr.Enter 27 ∷
      instr.Load reach.Scalar 0 ∷
      instr.StepBy ∷
      instr.Arithmetic arithmetic.Add ∷
      instr.Store reach.Scalar 0 ∷
      instr.Again 22 ∷
      instr.Load reach.Scalar 0 ∷
      instr.Print printed.Number ∷
      instr.Line ∷
      instr.Close ∷
      instr.Halt ∷ [];
}

abbrev pub loops_main : List (Option Shape)
loops_main = at_height 0 0 1 ∷ at_height 1 0 1 ∷ at_height 2 0 1 ∷ at_height 3 0 1 ∷ at_height 1 1 1 ∷ at_height 0 1 1 ∷ at_height 0 1 1 ∷ at_height 0 1 1 ∷ at_height 0 1 1 ∷ at_height 1 1 1 ∷ at_height 2 1 1 ∷ at_height 1 1 1 ∷ at_height 0 1 1 ∷ at_height 0 0 1 ∷ at_height 1 0 1 ∷ at_height 0 0 1 ∷ at_height 0 0 1 ∷ at_height 1 0 1 ∷ at_height 2 0 1 ∷ at_height 3 0 1 ∷ at_height 1 1 1 ∷ at_height 0 1 1 ∷ at_height 0 1 1 ∷ at_height 1 1 1 ∷ at_height 2 1 1 ∷ at_height 1 1 1 ∷ at_height 0 1 1 ∷ at_height 0 0 1 ∷ at_height 1 0 1 ∷ at_height 0 0 1 ∷ at_height 0 0 1 ∷ at_height 0 0 0 ∷ []

abbrev pub loops_subs : List (List (Option Shape))
loops_subs = []

-- a subroutine that prints its dummy and calls itself with one more, called with 1
abbrev pub calls_code : Listing
calls_code = record {
  objects = [];
  subs = with_value 4 ∷ [];
  texts = [];
  instrs =
      instr.Push (pos 1) ∷
      instr.Call 0 ∷
      instr.Close ∷
      instr.Halt ∷
      instr.Cell cell.Get 0 ∷
      instr.Print printed.Number ∷
      instr.Line ∷
      instr.Cell cell.Get 0 ∷
      instr.Push (pos 1) ∷
      instr.Arithmetic arithmetic.Add ∷
      instr.Call 0 ∷
      instr.Ret ∷ [];
}

abbrev pub calls_main : List (Option Shape)
calls_main = at_height 0 0 1 ∷ at_height 1 0 1 ∷ at_height 0 0 1 ∷ at_height 0 0 0 ∷ []

abbrev pub calls_subs : List (List (Option Shape))
calls_subs = (None ∷ None ∷ None ∷ None ∷ at_height 0 0 0 ∷ at_height 1 0 0 ∷ at_height 0 0 0 ∷ at_height 0 0 0 ∷ at_height 1 0 0 ∷ at_height 2 0 0 ∷ at_height 1 0 0 ∷ at_height 0 0 0 ∷ []) ∷ []
