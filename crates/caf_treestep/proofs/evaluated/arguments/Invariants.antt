use Rattle.std.proofs.Common.{◌≡◌, ◌+◌, ◌++◌, drop, sum_by, Ok}
use Rattle.caf_base.specs.Places.{bind}
use Rattle.caf_program.specs.View.{seen}
use Rattle.caf_treestep.specs.Evaluated.{arguments_of, held_by_actual}
use Rattle.caf_treestep.proofs.evaluated.arguments.Given as goal

-- what is found, and then what is left
abbrev pub invariant-loop-actual : goal.invariant-loop-actual
invariant-loop-actual l = record {
  held : l.at + sum_by held_by_actual (drop l.actual-index l.actuals) ≡ l.fn.at + sum_by held_by_actual l.actuals;
  found : bind (arguments_of (drop l.actual-index l.actuals) l.at (seen l.view)) (λ xs. Ok (l.arguments ++ xs)) ≡ arguments_of l.actuals l.fn.at (seen l.view);
}
