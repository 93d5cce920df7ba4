use Rattle.caf_finish.proofs.Allowed.{totals-small, whole}
use Rattle.caf_finish.proofs.ledger.Ledger.is_whole.Goals as goal

pub is_whole-requires : goal.is_whole-requires
is_whole-requires g c = totals-small g.h c.args.self.now c.requires.0 c.args.wave c.wave.result c.wave.ensures c.requires.1

pub returns : goal.returns
returns g c = whole g.h c.args.self.now c.requires.0 c.args.wave c.wave.result c.wave.ensures c.is_whole.result c.is_whole.ensures
