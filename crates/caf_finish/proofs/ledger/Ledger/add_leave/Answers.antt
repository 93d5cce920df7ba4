use Rattle.std.proofs.lemmas.Result.{on_ok_weaker}
use Rattle.caf_finish.proofs.Added.{add-leave}
use Rattle.caf_finish.proofs.ledger.Ledger.add_leave.Goals as goal

pub returns : goal.returns
returns g c =
    on_ok_weaker c.put_rank.result
    (add-leave g.h c.args.self.now c.put_rank.new.self c.args.rank c.rank-state.result c.requires.0 c.rank-state.ensures c.requires.1) c.put_rank.ensures
