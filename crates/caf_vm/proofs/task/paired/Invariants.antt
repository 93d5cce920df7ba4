use Rattle.std.proofs.Common.{◌≡◌, ◌≤◌, ◌++◌, drop}
use Rattle.caf_code.specs.Calls.{paired}
use Rattle.caf_vm.proofs.task.paired.Given as goal

-- what is paired so far, and then what is left
abbrev pub invariant-loop-cell : goal.invariant-loop-cell
invariant-loop-cell l = record {
  left : l.outs.items ++ paired l.cell (drop l.cell l.dummies) (drop l.next l.targets) ≡ paired 0 l.dummies l.targets;
  next : l.next ≤ l.cell;
}
