-- A unit means at most one program.
use Rattle.std.proofs.Common.{◌≡◌, Ok, Result, sym, ◌∙◌}
use Rattle.caf_tree.specs.declared.unit.Unit.{Unit as Written}
use Rattle.caf_program.specs.declared.program.Program.{Program}
use Rattle.caf_declare.specs.declared.fault.Fault.{Fault}
use Rattle.caf_kinds.specs.Units.{Means}

same : (p q : Program) (m : Result Program Fault) → m ≡ Ok p → m ≡ Ok q → p ≡ q
same p q m a b = cc

pub one_meaning : (u : Written) (p q : Program) → Means u p → Means u q → p ≡ q
one_meaning u p q a b = same p q _ a b
