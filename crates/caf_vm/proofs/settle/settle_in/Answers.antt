use Rattle.std.proofs.Common.{◌≡◌, ◌∙◌, List, ap, length, subst, sym}
use Rattle.std.specs.Prelude.{IsTrue, is_none, slice_get}
use Rattle.caf_code.specs.Rules.{KeepsRules}
use Rattle.caf_code.specs.Step.{go_of, settled, settled_in}
use Rattle.caf_code.specs.Task.{Task}
use Rattle.caf_code.specs.declared.instr.Instr.{Instr}
use Rattle.caf_code.specs.declared.listing.Listing.{Listing}
use Rattle.caf_vm.proofs.settle.settle_in.Goals as goal

pub returns-clause-rests : goal.returns-clause-rests
returns-clause-rests c = λ t at.
    let code : Listing = c.args.code.now in
    let same = c.listing.ensures.same in
    let address : c.settle.result ≡ settled_in code c.args.address =
    c.settle.ensures ∙ ap (λ (is : List Instr). settled is (length is) c.args.address) c.as_slice.ensures ∙ ap (λ (x : Listing). settled_in x c.args.address) same in
    let keeps : KeepsRules code = subst KeepsRules same c.listing.ensures.keeps in
    subst (λ a. IsTrue (is_none (go_of (slice_get code.instrs a)))) (sym (at ∙ address)) (c.steps_lack_nothing.ensures.rests code keeps (record t { address = c.args.address }))
