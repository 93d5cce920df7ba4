use Rattle.std.proofs.Common.{◌+◌, ◌-◌, ◌∙◌, ap, sym, arith, length}
use Rattle.caf_code.specs.Step.{go_of}
use Rattle.caf_vm.proofs.Settled.{settled_same, settled_turn}
use Rattle.caf_vm.proofs.settle.settle.Goals as goal

pub returns-in-None : goal.returns-in-None
returns-in-None c =
    let instrs = c.args.instrs.now in
    let n = length instrs in
    let i = c.loop-turn._turn in
    let none = sym (ap go_of c.fetch.ensures) ∙ sym c.go_from.ensures ∙ c.in-None.is in
    sym (settled_same instrs (n - i) c.loop-turn.at none) ∙ c.loop-turn.invariant

pub loop-turn-preserved : goal.loop-turn-preserved
loop-turn-preserved c =
    let instrs = c.args.instrs.now in
    let n = length instrs in
    let i = c.loop-turn._turn in
    let some = sym (ap go_of c.fetch.ensures) ∙ sym c.go_from.ensures ∙ c.in-Some.is in
    sym (settled_turn instrs (n - i) (n - (i + 1)) c.loop-turn.at c.in-Some.to (omega arith) some) ∙ c.loop-turn.invariant
