-- Answers to a caller: the program that is meant, or the fault that tells of the first broken rule.
use Rattle.std.specs.Prelude.{◌≡◌, ℕ, Result, Ok, Err}
use Rattle.caf_program.specs.declared.program.Program.{Program}
use Rattle.caf_declare.specs.declared.fault.Rule.{Rule}
use Rattle.caf_declare.specs.declared.fault.Rule.TheVariants as rule
use Rattle.caf_declare.specs.declared.fault.Fault.{Fault}
use Rattle.caf_declare.specs.Table.{Name}
use Rattle.caf_kinds.specs.declared.fault.KindFault.{KindFault}
use Rattle.caf_kinds.specs.declared.fault.KindFault.TheVariants as fault

-- the fault of a broken rule, with its line and name
abbrev pub told_as : Rule → ℕ → Name → KindFault
told_as rule.Undeclared line name = fault.Undeclared line name
told_as rule.Twice line name = fault.Twice line name
told_as rule.WrongKind line name = fault.WrongKind line name
told_as rule.WrongCount line name = fault.WrongCount line name
told_as rule.NotCoarray line name = fault.NotCoarray line name
told_as rule.DoVariable line name = fault.DoVariable line name
told_as rule.ReadOnly line name = fault.ReadOnly line name
told_as rule.BadConstant line name = fault.BadConstant line name
told_as rule.TooManyCells line name = fault.TooManyCells line name

abbrev pub told : Fault → KindFault
told f = told_as f.rule f.line f.name

-- a rule is broken as the fault tells, and it is the first
pub record Broke (m : Result Program Fault) (k : KindFault) : Type 0 where
  pub first : Fault
  pub broken : m ≡ Err first
  pub tells : k ≡ told first

-- the program that is meant; or the fault of the first broken rule; of want of memory nothing is said
abbrev pub Answers : Result Program Fault → Result Program KindFault → Type 0
Answers m (Ok p) = m ≡ Ok p
Answers m (Err fault.Memory) = Unit {0}
Answers m (Err k) = Broke m k
