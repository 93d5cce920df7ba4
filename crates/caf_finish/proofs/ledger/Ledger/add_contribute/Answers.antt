use Rattle.std.proofs.Common.{subst, arith}
use Rattle.std.proofs.lemmas.Result.{on_ok_weaker}
use Rattle.caf_finish.specs.IsLedger.{WavePut}
use Rattle.caf_finish.proofs.Allowed.{totals-small}
use Rattle.caf_finish.proofs.Added.{add-contribute, small-four}
use Rattle.caf_finish.proofs.ledger.Ledger.add_contribute.Goals as goal

pub with_contribute-requires-clause-totals : goal.with_contribute-requires-clause-totals
with_contribute-requires-clause-totals g c =
    totals-small g.h c.args.self.now c.requires.0 c.rank-state.result.wave c.wave-totals.result c.wave-totals.ensures (let few = c.requires.1.0 in omega arith)

pub with_contribute-requires-clause-four : goal.with_contribute-requires-clause-four
with_contribute-requires-clause-four g c = small-four c.args.self.now.size g.h c.args.rank c.args.four.now c.requires.1.1 c.requires.1.0

pub returns : goal.returns
returns g c =
    on_ok_weaker c.put_rank.result
    (add-contribute g.h c.args.self.now c.put_wave.new.self c.put_rank.new.self c.args.rank c.rank-state.result c.wave-totals.result c.requires.0 c.rank-state.ensures c.wave-totals.ensures
    c.args.four.now c.requires.1.1
    (subst (WavePut c.args.self.now c.put_wave.new.self c.rank-state.result.wave) c.with_contribute.ensures c.in_ok-put_wave.ensures)) c.put_rank.ensures
