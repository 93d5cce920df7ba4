use Rattle.caf_finish.specs.declared.counted.Counted.TheVariants.{Completed}
use Rattle.caf_finish.proofs.Added.{add-complete, some-running, target-stamp, can-count, told-taken}
use Rattle.caf_finish.proofs.ledger.Ledger.add_complete.Goals as goal

pub told-state-requires : goal.told-state-requires
told-state-requires g c = told-taken g.h c.args.self.now c.args.message c.requires.0 c.requires.1.1.taken

pub counted-counted-requires : goal.counted-counted-requires
counted-counted-requires g c =
    can-count g.h c.args.self.now c.told-state.result.target c.rank-target.result c.requires.0 c.requires.1.0 c.rank-target.ensures Completed c.told-state.result.epoch
    (target-stamp g.h c.args.self.now c.args.self.now c.args.message c.told-state.result c.requires.0 c.told-state.ensures c.requires.1.1.taken)

pub overflow_sub-self : goal.overflow_sub-self
overflow_sub-self g c =
    some-running g.h c.args.self.now c.put_both.new.self c.args.message c.told-state.result c.requires.0 c.told-state.ensures c.requires.1.1 c.in_ok-put_both.ensures.running

pub returns : goal.returns
returns g c =
    add-complete g.h c.args.self.now c.put_both.new.self c.args.message c.told-state.result c.requires.0 c.told-state.ensures c.rank-target.result c.counted-counted.result
    c.requires.1.1 c.rank-target.ensures c.counted-counted.ensures c.in_ok-put_both.ensures
