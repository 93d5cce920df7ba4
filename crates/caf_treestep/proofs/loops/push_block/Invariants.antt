use Rattle.std.proofs.Common.{◌≡◌, ◌++◌, length}
use Rattle.caf_treestep.specs.Task.{all_of}
use Rattle.caf_treestep.proofs.loops.push_block.Given as goal

-- the statements left, and then what is there
abbrev pub invariant-loop-statement : goal.invariant-loop-statement
invariant-loop-statement l = all_of l.block ++ l.todo ≡ all_of l.fn.block ++ l.fn.todo

abbrev pub decreases-loop-statement : goal.decreases-loop-statement
decreases-loop-statement l = length l.block
