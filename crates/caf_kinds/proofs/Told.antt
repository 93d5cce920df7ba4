-- The fault of a broken rule tells of it.
use Rattle.std.proofs.Common.{◌≡◌, ℕ, Result, Err, refl}
use Rattle.caf_program.specs.declared.program.Program.{Program}
use Rattle.caf_declare.specs.declared.fault.Rule.{Rule}
use Rattle.caf_declare.specs.declared.fault.Rule.TheVariants as rule
use Rattle.caf_declare.specs.declared.fault.Fault.{Fault}
use Rattle.caf_declare.specs.Table.{Name}
use Rattle.caf_kinds.specs.Faults.{Answers, Broke, told, told_as}

by_rule : (m : Result Program Fault) (f : Fault) (r : Rule) (line : ℕ) (name : Name) → m ≡ Err f → told_as r line name ≡ told f → Answers m (Err (told_as r line name))
by_rule m f rule.Undeclared line name e t = record { first = f; broken = e; tells = t }
by_rule m f rule.Twice line name e t = record { first = f; broken = e; tells = t }
by_rule m f rule.WrongKind line name e t = record { first = f; broken = e; tells = t }
by_rule m f rule.WrongCount line name e t = record { first = f; broken = e; tells = t }
by_rule m f rule.NotCoarray line name e t = record { first = f; broken = e; tells = t }
by_rule m f rule.DoVariable line name e t = record { first = f; broken = e; tells = t }
by_rule m f rule.ReadOnly line name e t = record { first = f; broken = e; tells = t }
by_rule m f rule.BadConstant line name e t = record { first = f; broken = e; tells = t }
by_rule m f rule.TooManyCells line name e t = record { first = f; broken = e; tells = t }

pub broke : (m : Result Program Fault) (f : Fault) → m ≡ Err f → Answers m (Err (told f))
broke m f e = by_rule m f f.rule f.line f.name e refl
