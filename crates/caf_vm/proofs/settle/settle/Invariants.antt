use Rattle.std.proofs.Common.{◌≡◌, ◌-◌, length}
use Rattle.caf_code.specs.Step.{settled}
use Rattle.caf_vm.proofs.settle.settle.Given as goal

abbrev pub invariant-loop-turn : goal.invariant-loop-turn
invariant-loop-turn l = settled l.instrs (length l.instrs - l._turn) l.at ≡ settled l.instrs (length l.instrs) l.fn.address
