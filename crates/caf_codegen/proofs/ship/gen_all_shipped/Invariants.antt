use Rattle.std.proofs.Common.{◌≡◌, ◌+◌, ◌++◌, drop, sum_by, take}
use Rattle.caf_treestep.specs.Evaluated.{held_by_actual}
use Rattle.caf_codegen.specs.StmtCode.{values_code}
use Rattle.caf_codegen.proofs.ship.gen_all_shipped.Given as goal

-- what is there, and then what is left, is the whole
abbrev pub invariant-loop-actual : goal.invariant-loop-actual
invariant-loop-actual l = record {
  code : l.code.items ++ values_code (drop l.actual-index l.actuals) l.next ≡ l.fn.code.items ++ values_code l.fn.actuals l.fn.held;
  next : l.next ≡ l.fn.held + sum_by held_by_actual (take l.actual-index l.actuals);
}
