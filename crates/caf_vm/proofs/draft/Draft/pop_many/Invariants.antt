use Rattle.std.proofs.Common.{◌≡◌, ◌++◌, length}
use Rattle.caf_code.specs.Task.{with_stack}
use Rattle.caf_vm.specs.Draft.{task_in}
use Rattle.caf_vm.proofs.draft.Draft.pop_many.Given as goal

-- what was taken, and then what is left
abbrev pub invariant-loop-operand : goal.invariant-loop-operand
invariant-loop-operand l = record {
  stack : (task_in l.fn.self l.task).frame.stack ≡ l.taken.items ++ (task_in l.self l.task).frame.stack;
  count : length l.taken.items ≡ l._operand;
  task : task_in l.fn.self l.task ≡ with_stack (task_in l.fn.self l.task).frame.stack (task_in l.self l.task);
  address : l.self.address ≡ l.fn.self.address;
  writes : l.self.writes ≡ l.fn.self.writes;
}
