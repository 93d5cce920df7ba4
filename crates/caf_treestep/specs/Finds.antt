-- What a call that also wants memory has found.
use Rattle.std.specs.Prelude.{◌≡◌, Result, Ok, Err}
use Rattle.caf_base.specs.declared.trap.Trap.{Trap}
use Rattle.caf_memory.specs.declared.line_fault.LineFault.{LineFault}
use Rattle.caf_memory.specs.declared.line_fault.LineFault.TheVariants as line_fault
use Rattle.caf_treestep.specs.declared.fault.Fault.{Fault}
use Rattle.caf_treestep.specs.declared.fault.Fault.TheVariants as fault

-- the call's answer is what is found or the trap that is met, unless memory is wanting
abbrev pub Finds : {A : Type 0} → Result A Trap → Result A Fault → Type 0
Finds found (Ok x) = found ≡ Ok x
Finds found (Err (fault.Trap t)) = found ≡ Err t
Finds found (Err fault.Memory) = Unit {0}

-- want of memory, or the trap that is met
abbrev pub IsFault : {A : Type 0} → Result A Trap → Fault → Type 0
IsFault found (fault.Trap t) = found ≡ Err t
IsFault found fault.Memory = Unit {0}

abbrev pub fault_of : LineFault → Fault
fault_of (line_fault.Trap t) = fault.Trap t
fault_of line_fault.Memory = fault.Memory
