-- What reading a text answers.
use Rattle.std.specs.Prelude.{◌≡◌, Option, Some, None, Result, Ok, Err}
use Rattle.caf_program.specs.Ships.{KeepsShips}
use Rattle.caf_program.specs.declared.program.Program.{Program}
use Rattle.caf_top.specs.declared.refusal.Refusal.{Refusal}
use Rattle.caf_top.specs.declared.refusal.Stop.{Stop}
use Rattle.caf_top.specs.declared.refusal.Stop.TheVariants as stop
use Rattle.caf_top.specs.Refusals.{Told}

abbrev pub told_by : Refusal → Told
told_by r = (r.line, r.what)

-- a refusal tells this; want of memory tells nothing
abbrev pub Says : Told → Stop → Type 0
Says told (stop.Refused r) = told_by r ≡ told
Says told stop.Memory = Unit {0}

-- the same, where there is something to tell; else memory was wanting
abbrev pub SaysIf : Option Told → Stop → Type 0
SaysIf (Some told) s = Says told s
SaysIf None (stop.Refused r) = ⊥
SaysIf None stop.Memory = Unit {0}

-- a program that has P, or a refusal that tells what has W; of want of memory nothing is said
abbrev pub Reads : (Program → Type 0) → (Told → Type 0) → Result Program Stop → Type 0
Reads P W (Ok p) = P p
Reads P W (Err (stop.Refused r)) = W (told_by r)
Reads P W (Err stop.Memory) = Unit {0}

-- it is the program, and what that ships is plain
abbrev pub IsShippable : Program → Program → Type 0
IsShippable program p = (p ≡ program) × KeepsShips program
