use Rattle.std.proofs.Common.{◌≡◌, drop}
use Rattle.caf_treestep.specs.Step.{copies_out}
use Rattle.caf_treestep.specs.Variables.{both}
use Rattle.caf_treestep.proofs.variables.copy_out.Given as goal

-- what is left to copy out gives the whole
abbrev pub invariant-loop-out : goal.invariant-loop-out
invariant-loop-out l = copies_out (drop l.out-index l.outs) l.cells (both l.locals l.memory) ≡ copies_out l.outs l.cells (both l.fn.locals l.fn.memory)
