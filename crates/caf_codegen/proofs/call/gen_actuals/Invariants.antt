use Rattle.std.proofs.Common.{◌≡◌, ◌++◌, drop}
use Rattle.caf_codegen.specs.StmtCode.{actuals_code}
use Rattle.caf_codegen.proofs.call.gen_actuals.Given as goal

-- what is there, and then what is left, is the whole
abbrev pub invariant-loop-actual : goal.invariant-loop-actual
invariant-loop-actual l = l.code.items ++ actuals_code (drop l.actual-index l.actuals) l.held ≡ l.fn.code.items ++ actuals_code l.fn.actuals 0
