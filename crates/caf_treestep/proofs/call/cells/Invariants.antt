use Rattle.std.proofs.Common.{◌≡◌, ◌++◌, drop, map}
use Rattle.caf_treestep.specs.declared.argument.Argument.{Argument}
use Rattle.caf_treestep.proofs.call.cells.Given as goal

-- the values of the arguments so far, and then of those left
abbrev pub invariant-loop-argument : goal.invariant-loop-argument
invariant-loop-argument l = l.cells.items ++ map (λ (x : Argument). x.value) (drop l.argument-index l.arguments) ≡ map (λ (x : Argument). x.value) l.arguments
