-- When a code does what a program says.
use Rattle.std.specs.Prelude.{◌≡◌, ℕ, List, Bool, not, map, length, Option, Some, ℤ, slice_get}
use Rattle.caf_base.specs.declared.operation.EventAt.{EventAt}
use Rattle.caf_program.specs.Ships.{is_in}
use Rattle.caf_program.specs.declared.program.DummyR.{DummyR}
use Rattle.caf_program.specs.declared.program.Program.{Program}
use Rattle.caf_program.specs.declared.program.SubR.{SubR}
use Rattle.caf_treestep.specs.Step.{main_task as tree_main_task, shipped_task as tree_shipped_task}
use Rattle.caf_code.specs.Step.{main_task, shipped_task}
use Rattle.caf_code.specs.declared.listing.Listing.{Listing}
use Rattle.caf_code.specs.declared.listing.SubCode.{SubCode}
use Rattle.caf_codegen.specs.Agreement.{Agree}

-- for each dummy whether it is copied out
abbrev pub copied_dummies : SubR → List Bool
copied_dummies f = map (λ (d : DummyR). not (is_in d.intent)) f.dummies

pub record Compiled (p : Program) (code : Listing) : Type 0 where
  pub objects : code.objects ≡ p.objects
  -- the same subroutines in their order, each with as many dummies and the same of them copied out
  pub subs : map (λ (s : SubCode). s.dummies) code.subs ≡ map copied_dummies p.subs
  pub main : (k : ℕ) → Agree p code k (tree_main_task p.body) (main_task code)
  -- shipped with an argument for each dummy, and with an event for its end, if there is one
  pub shipped : (k at : ℕ) (f : SubR) (s : SubCode) (arguments : List ℤ) (event : Option EventAt) → slice_get p.subs at ≡ Some f → slice_get code.subs at ≡ Some s → length arguments ≡ length f.dummies
      → Agree p code k (tree_shipped_task f arguments event) (shipped_task code s arguments event)
