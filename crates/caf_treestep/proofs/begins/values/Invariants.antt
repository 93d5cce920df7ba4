use Rattle.std.proofs.Common.{◌≡◌, ◌++◌, drop, map}
use Rattle.caf_treestep.specs.declared.argument.Argument.{Argument}
use Rattle.caf_treestep.proofs.begins.values.Given as goal

-- the values of the arguments so far, and then of those left
abbrev pub invariant-loop-argument : goal.invariant-loop-argument
invariant-loop-argument l = l.values ++ map (λ (x : Argument). x.value) (drop l.argument-index l.arguments) ≡ map (λ (x : Argument). x.value) l.arguments
