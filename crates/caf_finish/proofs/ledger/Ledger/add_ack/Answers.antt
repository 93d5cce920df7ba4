use Rattle.std.proofs.lemmas.Result.{on_ok_weaker}
use Rattle.caf_finish.specs.declared.counted.Counted.TheVariants.{Delivered}
use Rattle.caf_finish.proofs.Added.{add-ack, origin-stamp, can-count, told-taken}
use Rattle.caf_finish.proofs.ledger.Ledger.add_ack.Goals as goal

pub told-state-requires : goal.told-state-requires
told-state-requires g c = told-taken g.h c.args.self.now c.args.message c.requires.0 c.requires.1.1.taken

pub counted-counted-requires : goal.counted-counted-requires
counted-counted-requires g c =
    can-count g.h c.args.self.now c.told-state.result.origin c.rank-origin.result c.requires.0 c.requires.1.0 c.rank-origin.ensures Delivered c.told-state.result.epoch
    (origin-stamp g.h c.args.self.now c.args.self.now c.args.message c.told-state.result c.requires.0 c.told-state.ensures)

pub returns : goal.returns
returns g c =
    on_ok_weaker c.put_both.result
    (add-ack g.h c.args.self.now c.put_both.new.self c.args.message c.told-state.result c.requires.0 c.told-state.ensures c.rank-origin.result c.counted-counted.result
    c.requires.1.1 c.rank-origin.ensures c.counted-counted.ensures) c.put_both.ensures
