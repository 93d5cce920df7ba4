-- What a call that begins a notice has done.
use Rattle.std.specs.Prelude.{◌≡◌, Option, Result, Ok, Err}
use Rattle.caf_base.specs.declared.trap.Trap.{Trap}
use Rattle.caf_pending.specs.declared.operation.Operation.{Operation}
use Rattle.caf_source.specs.Begun.{Noticed}
use Rattle.caf_source.specs.declared.state.Image.{Image}
use Rattle.caf_treestep.specs.declared.fault.Fault.{Fault}
use Rattle.caf_treestep.specs.declared.fault.Fault.TheVariants as fault

-- the notice that is found was begun, or its trap was met and nothing changed, unless memory was wanting
abbrev pub IsNoticed : Result Noticed Trap → Result (Option Operation) Fault → Image → Image → Type 0
IsNoticed found (Ok op) before after = found ≡ Ok (record { image = after; begun = op })
IsNoticed found (Err (fault.Trap t)) before after = (found ≡ Err t) × (after ≡ before)
IsNoticed found (Err fault.Memory) before after = Unit {0}
