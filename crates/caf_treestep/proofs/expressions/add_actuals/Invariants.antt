use Rattle.std.proofs.Common.{◌≡◌, ◌++◌, map, take}
use Rattle.std.specs.List.{flat_map}
use Rattle.caf_program.specs.Expressions.{of_actual}
use Rattle.caf_treestep.proofs.expressions.add_actuals.Given as goal

-- the expressions of the actuals so far
abbrev pub invariant-loop-actual : goal.invariant-loop-actual
invariant-loop-actual l = map (λ x. x.now) l.all.items ≡ map (λ x. x.now) l.fn.all.items ++ flat_map of_actual (take l.actual-index l.actuals)
