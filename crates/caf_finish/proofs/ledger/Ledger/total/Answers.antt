use Rattle.std.proofs.Common.{arith}
use Rattle.std.proofs.lemmas.Int.{ints}
use Rattle.caf_finish.proofs.Allowed.{totals-sum}
use Rattle.caf_finish.proofs.ledger.Ledger.total.Goals as goal

pub returns : goal.returns
returns g c =
    let sum = totals-sum g.h c.args.self.now c.requires c.args.wave c.wave.result c.wave.ensures in
    omega (arith, ints)
