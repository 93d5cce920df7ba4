use Rattle.std.proofs.Common.{◌≡◌, ◌+◌, ◌++◌, drop}
use Rattle.std.specs.List.{flat_map}
use Rattle.caf_program.specs.Expressions.{count_all, of_actual}
use Rattle.caf_codegen.specs.StmtCode.{asked}
use Rattle.caf_codegen.proofs.ask.ask_actuals.Given as goal

-- what is there, with the reads of what is left, are all reads
abbrev pub invariant-loop-actual : goal.invariant-loop-actual
invariant-loop-actual l = record {
  code : l.code.items ++ asked (flat_map of_actual (drop l.actual-index l.actuals)) l.next ≡ l.fn.code.items ++ asked (flat_map of_actual l.fn.actuals) l.fn.held;
  count : l.next + count_all (flat_map of_actual (drop l.actual-index l.actuals)) ≡ l.fn.held + count_all (flat_map of_actual l.fn.actuals);
}
