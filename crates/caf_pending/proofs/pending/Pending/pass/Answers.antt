use Rattle.std.proofs.Common.{◌∙◌, sym, ap}
use Rattle.indexmap.specs.IndexMap.{values}
use Rattle.std.specs.Option.{option_copied_mut}
use Rattle.caf_pending.specs.declared.access.Accesses.{Accesses}
use Rattle.caf_pending.specs.declared.operation.Operation.{Operation}
use Rattle.caf_pending.specs.Open.{accesses_of, closed, same_key}
use Rattle.caf_pending.proofs.Keeps.{passed_kept, passed_view, none_passed}
use Rattle.caf_pending.proofs.Named.{key_of}
use Rattle.caf_pending.proofs.pending.Pending.pass.Goals as goal
use Rattle.caf_pending.proofs.pending.Pending.pass.Goals.{in-Some-1, in-None-1}

pub invariant_of-self : goal.invariant_of-self
invariant_of-self c =
    passed_kept c.self.inside.operations.entries c.self.inside.counts c.self.invariant c.args.self.now c.self.view_is c.args.values c.args.name c.in-Some.found.now c.pass.new.operation c.closed-done.result
    (c.get_mut.follows.lender c.pass.new.operation).entries c.take.new.self
    c.pass.ensures (c.get_mut.follows.holds c.pass.new.operation).0 (sym c.get_mut.ensures.value ∙ ap option_copied_mut c.in-Some.is)
    (c.closed-done.ensures ∙ ap (λ (a : Accesses). closed a c.open_accesses.result) c.open_accesses-before.ensures ∙ ap (closed (accesses_of c.in-Some.found.now)) c.open_accesses.ensures)
    c.take.ensures.reads c.take.ensures.writes

pub returns-in-Some : goal.returns-in-Some
returns-in-Some c =
    passed_view c.self.inside.operations.entries c.self.inside.counts c.self.invariant c.args.self.now c.self.view_is c.args.values c.args.name c.in-Some.found.now c.pass.new.operation
    (c.get_mut.follows.lender c.pass.new.operation).entries
    c.pass.ensures (c.get_mut.follows.holds c.pass.new.operation).0 (sym c.get_mut.ensures.value ∙ ap option_copied_mut c.in-Some.is)

pub returns-in_default : goal.returns-in_default
returns-in_default c =
    let none = none_passed c.self.inside.operations.entries c.self.inside.counts c.self.invariant c.args.self.now c.self.view_is c.args.values c.args.name (sym c.get_mut.ensures.value ∙ ap option_copied_mut c.in_default.is) in
    let same = ap values c.get_mut.follows.holds-at-none in
    elim c.match-values.branch [ in-Some-1 w ↦ w.self-is ∙ same ∙ c.self.view_is ∙ sym none | in-None-1 w ↦ w.self-is ∙ same ∙ c.self.view_is ∙ sym none ]
