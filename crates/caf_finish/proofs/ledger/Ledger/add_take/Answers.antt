use Rattle.std.proofs.lemmas.Result.{on_ok_weaker}
use Rattle.caf_finish.specs.declared.counted.Counted.TheVariants.{Received}
use Rattle.caf_finish.proofs.Added.{add-take, take-stamp, can-count}
use Rattle.caf_finish.proofs.ledger.Ledger.add_take.Goals as goal

pub counted-counted-requires : goal.counted-counted-requires
counted-counted-requires g c =
    can-count g.h c.args.self.now c.told-state.result.target c.rank-target.result c.requires.0 c.requires.1.0 c.rank-target.ensures Received c.told-state.result.epoch
    (take-stamp g.h c.args.self.now c.args.self.now c.args.message c.told-state.result c.requires.0 c.told-state.ensures c.requires.1.1)

pub returns : goal.returns
returns g c =
    on_ok_weaker c.put_both.result
    (add-take g.h c.args.self.now c.put_both.new.self c.args.message c.told-state.result c.requires.0 c.told-state.ensures c.rank-target.result c.counted-counted.result
    c.requires.1.1 c.rank-target.ensures c.counted-counted.ensures) c.put_both.ensures
