-- What an instruction led to, as the definitions say it.
use Rattle.std.specs.Prelude.{◌≡◌, Result, Ok, Err}
use Rattle.caf_base.specs.ImageMemory.{ImageMemory}
use Rattle.caf_base.specs.declared.trap.Trap.{Trap}
use Rattle.caf_code.specs.Did.{Did, Goes, Fails}
use Rattle.caf_code.specs.Task.{Task}
use Rattle.caf_vm.specs.declared.stop.Stop.{Stop}
use Rattle.caf_vm.specs.declared.stop.Stop.TheVariants as stop

-- the task and the memory go on, or a trap leaves this memory; nothing is said where memory is wanting
abbrev pub Went : Result (Unit {0}) Stop → Did → Task → ImageMemory → Type 0
Went (Ok done) d t m = d ≡ Goes t m
Went (Err (stop.Trap trap)) d t m = d ≡ Fails trap m
Went (Err stop.Memory) d t m = Unit {0}

-- an element was written, or the trap comes that its test gives
abbrev pub Written : Result (Unit {0}) Stop → Result ImageMemory Trap → ImageMemory → Type 0
Written (Ok done) tested m = tested ≡ Ok m
Written (Err (stop.Trap trap)) tested m = tested ≡ Err trap
Written (Err stop.Memory) tested m = Unit {0}

-- this holds of a trap
abbrev pub OnTrap : Result (Unit {0}) Stop → Type 0 → Type 0
OnTrap (Err (stop.Trap trap)) P = P
OnTrap _ P = Unit {0}

-- what was looked for is there, or the trap comes that its test gives; nothing is said where memory is wanting
abbrev pub Tested : {A : Type 0} → Result A Stop → Result A Trap → Type 0
Tested (Ok a) tested = tested ≡ Ok a
Tested (Err (stop.Trap trap)) tested = tested ≡ Err trap
Tested (Err stop.Memory) tested = Unit {0}
