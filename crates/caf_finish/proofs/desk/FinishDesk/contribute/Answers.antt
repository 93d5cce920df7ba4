use Rattle.caf_finish.specs.Account.{CanContribute, contributed}
use Rattle.caf_finish.proofs.Finds.{holds_at, changes_at, account_now, account_then}
use Rattle.caf_finish.proofs.desk.FinishDesk.contribute.Goals as goal
use Rattle.std.proofs.Common.{Some, ap, sym, ◌∙◌}
use Rattle.std.specs.Option.{option_map}
use Rattle.caf_reduce.specs.Sum.{given_of}
use Rattle.caf_finish.specs.Account.{Account}

pub contribute-requires : goal.contribute-requires
contribute-requires c =
    holds_at c.args.self.now c.self.inside.image c.self.inside.known.items c.as_slice.result.now c.args.f.now c.place_of-at.result c.index_mut.result.now (CanContribute) c.self.view_is c.as_slice.ensures.value c.place_of-at.ensures c.index_mut.ensures.value c.requires

pub returns-clause-account : goal.returns-clause-account
returns-clause-account c =
    changes_at c.args.self.now c.self.inside.image c.self.inside.known.items c.as_slice.result.now c.args.f.now c.place_of-at.result c.index_mut.result.now c.contribute.new.self (contributed) c.self.view_is c.as_slice.ensures.value c.place_of-at.ensures c.index_mut.ensures.value c.contribute.ensures.account

pub returns-clause-given : goal.returns-clause-given
returns-clause-given c =
    ap (option_map (λ (a : Account). given_of a.parts)) (account_then c.self.inside.image c.self.inside.known.items c.as_slice.result.now c.args.f.now c.place_of-at.result c.index_mut.result.now c.contribute.new.self c.as_slice.ensures.value c.place_of-at.ensures c.index_mut.ensures.value) ∙ ap Some (sym c.contribute.ensures.given)

pub returns-clause-four : goal.returns-clause-four
returns-clause-four c =
    ap (option_map (λ (a : Account). a.counters.even)) (account_now c.args.self.now c.self.inside.image c.self.inside.known.items c.as_slice.result.now c.args.f.now c.place_of-at.result c.index_mut.result.now c.self.view_is c.as_slice.ensures.value c.place_of-at.ensures c.index_mut.ensures.value) ∙ ap Some (sym c.contribute.ensures.four)
