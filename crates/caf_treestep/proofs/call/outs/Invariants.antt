use Rattle.std.proofs.Common.{◌≡◌, ◌++◌, drop}
use Rattle.caf_treestep.specs.Evaluated.{outs_from}
use Rattle.caf_treestep.proofs.call.outs.Given as goal

-- what is copied out so far, and then what is left
abbrev pub invariant-loop-cell : goal.invariant-loop-cell
invariant-loop-cell l = l.outs ++ outs_from l.cell (drop l.cell l.arguments) ≡ outs_from 0 l.arguments
