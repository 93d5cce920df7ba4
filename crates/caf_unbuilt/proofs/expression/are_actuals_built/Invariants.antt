use Rattle.std.proofs.Common.{◌≡◌, drop, map}
use Rattle.caf_source.specs.Built.{all_true}
use Rattle.caf_unbuilt.specs.Unbuilt.{actual_runs}
use Rattle.caf_unbuilt.proofs.expression.are_actuals_built.Given as goal

-- those left decide
abbrev pub invariant-loop-actual : goal.invariant-loop-actual
invariant-loop-actual l = all_true (map actual_runs (drop l.actual-index l.actuals)) ≡ all_true (map actual_runs l.actuals)
