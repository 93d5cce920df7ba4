use Rattle.std.proofs.Common.{w64, ap, ◌∙◌, subst}
use Rattle.std.proofs.lemmas.Int.{to_z-of_z}
use Rattle.std.proofs.lemmas.Result.{on_ok_weaker}
use Rattle.caf_finish.specs.Ledger.{state_after_result}
use Rattle.caf_finish.specs.IsLedger.{RankPut}
use Rattle.caf_finish.proofs.Added.{add-result, can-fold}
use Rattle.caf_finish.proofs.ledger.Ledger.add_result.Goals as goal

pub after_result-requires : goal.after_result-requires
after_result-requires g c = can-fold g.h c.args.self.now c.args.rank c.rank-state.result c.requires.0 c.requires.1.0 c.rank-state.ensures

pub returns : goal.returns
returns g c =
    let after = c.after_result.ensures ∙ ap (λ s. state_after_result s c.rank-state.result) (to_z-of_z w64 c.args.sum c.ranges.sum) in
    on_ok_weaker c.put_rank.result
    (λ put. add-result g.h c.args.self.now c.put_rank.new.self c.args.rank c.rank-state.result c.requires.0 c.rank-state.ensures c.args.sum c.requires.1.1
    (subst (RankPut c.args.self.now c.put_rank.new.self c.args.rank) after put)) c.put_rank.ensures
