use Rattle.std.proofs.Common.{arith}
use Rattle.caf_finish.proofs.Added.{add-send, few-running, can-fold, can-count-sent}
use Rattle.caf_finish.proofs.ledger.Ledger.add_send.Goals as goal

pub epoch-epoch-requires : goal.epoch-epoch-requires
epoch-epoch-requires g c = can-fold g.h c.args.self.now c.args.origin c.rank-sender.result c.requires.0 c.requires.1.0 c.rank-sender.ensures

pub counted-requires : goal.counted-requires
counted-requires g c =
    can-count-sent g.h c.args.self.now c.args.origin c.rank-sender.result c.requires.0 c.requires.1.0 c.rank-sender.ensures c.epoch-epoch.result c.epoch-epoch.ensures

pub overflow_add-self : goal.overflow_add-self
overflow_add-self g c =
    let few = few-running g.h c.args.self.now c.put_both.new.self c.args.message c.args.origin c.args.target c.args._by c.rank-sender.result c.epoch-epoch.result c.counted.result c.requires.0 c.requires.1.1
    c.rank-sender.ensures c.epoch-epoch.ensures c.counted.ensures c.in_ok-put_both.ensures c.requires.1.0 in
    omega arith

pub returns : goal.returns
returns g c =
    add-send g.h c.args.self.now c.put_both.new.self c.args.message c.args.origin c.args.target c.args._by c.rank-sender.result c.epoch-epoch.result c.counted.result c.requires.0 c.requires.1.1
    c.rank-sender.ensures c.epoch-epoch.ensures c.counted.ensures c.in_ok-put_both.ensures
