use Rattle.std.proofs.Common.{◌≡◌, drop, map}
use Rattle.caf_source.specs.Built.{all_true, is_actual_plain}
use Rattle.caf_source.proofs.built.are_actuals_plain.Given as goal

-- those left decide
abbrev pub invariant-loop-actual : goal.invariant-loop-actual
invariant-loop-actual l = all_true (map is_actual_plain (drop l.actual-index l.actuals)) ≡ all_true (map is_actual_plain l.actuals)
