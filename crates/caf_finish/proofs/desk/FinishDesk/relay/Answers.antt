use Rattle.caf_finish.specs.Account.{CanRelay, relayed}
use Rattle.caf_finish.proofs.Finds.{holds_at, changes_at, account_then}
use Rattle.caf_finish.proofs.desk.FinishDesk.relay.Goals as goal
use Rattle.std.proofs.Common.{Some, ap, sym, ◌∙◌, subst, w64}
use Rattle.std.specs.Option.{option_map}
use Rattle.caf_reduce.specs.Sum.{given_of}
use Rattle.std.proofs.lemmas.Int.{to_z-of_z}
use Rattle.caf_finish.specs.Account.{Account}

pub relay-requires : goal.relay-requires
relay-requires c =
    subst (λ sum. CanRelay c.args.from sum c.index_mut.result.now.progress) (sym (to_z-of_z w64 c.args.sum c.ranges.sum)) (holds_at c.args.self.now c.self.inside.image c.self.inside.known.items c.as_slice.result.now c.args.f.now c.place_of-at.result c.index_mut.result.now (CanRelay c.args.from c.args.sum) c.self.view_is c.as_slice.ensures.value c.place_of-at.ensures c.index_mut.ensures.value c.requires)

pub returns-clause-account : goal.returns-clause-account
returns-clause-account c =
    changes_at c.args.self.now c.self.inside.image c.self.inside.known.items c.as_slice.result.now c.args.f.now c.place_of-at.result c.index_mut.result.now c.relay.new.self (relayed c.args.from c.args.sum) c.self.view_is c.as_slice.ensures.value c.place_of-at.ensures c.index_mut.ensures.value (c.relay.ensures.account ∙ ap (λ sum. relayed c.args.from sum c.index_mut.result.now.progress) (to_z-of_z w64 c.args.sum c.ranges.sum))

pub returns-clause-given : goal.returns-clause-given
returns-clause-given c =
    ap (option_map (λ (a : Account). given_of a.parts)) (account_then c.self.inside.image c.self.inside.known.items c.as_slice.result.now c.args.f.now c.place_of-at.result c.index_mut.result.now c.relay.new.self c.as_slice.ensures.value c.place_of-at.ensures c.index_mut.ensures.value) ∙ ap Some (sym c.relay.ensures.given)
