-- When a call that may want memory answers a trap.
use Rattle.std.specs.Prelude.{◌≡◌, Bool, true, false, Result, Ok, Err, MatchResult}
use Rattle.caf_base.specs.declared.trap.Trap.{Trap}
use Rattle.caf_base.specs.declared.trap.Trap.TheVariants as trap
use Rattle.caf_memory.specs.declared.line_fault.LineFault.{LineFault}
use Rattle.caf_memory.specs.declared.line_fault.LineFault.TheVariants as line_fault
use Rattle.caf_memory.specs.declared.section_fault.SectionFault.{SectionFault}
use Rattle.caf_memory.specs.declared.section_fault.SectionFault.TheVariants as section_fault

-- want of memory comes only where a section passes its tests, and a trap is the first that it meets
abbrev pub IsSectionFault : SectionFault → Result (Unit {0}) Trap → Type 0
IsSectionFault (section_fault.Trap t) tested = tested ≡ Err t
IsSectionFault section_fault.Memory tested = tested ≡ Ok tt

-- want of memory comes only where a line has room, and the trap is `Output`
abbrev pub IsLineFault : LineFault → Bool → Type 0
IsLineFault (line_fault.Trap t) room = (t ≡ trap.Output) × (room ≡ false)
IsLineFault line_fault.Memory room = room ≡ true

-- a section is read only where it passes its tests
abbrev pub SectionFaults : {A : Type 0} → Result A SectionFault → Result (Unit {0}) Trap → Type 0
SectionFaults r tested = MatchResult r (λ _. tested ≡ Ok tt) (λ fault. IsSectionFault fault tested)

-- a line is added only where it has room
abbrev pub LineFaults : Result (Unit {0}) LineFault → Bool → Type 0
LineFaults r room = MatchResult r (λ _. room ≡ true) (λ fault. IsLineFault fault room)
