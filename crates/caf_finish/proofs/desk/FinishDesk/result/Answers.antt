use Rattle.std.proofs.Common.{ap, ◌∙◌, w64}
use Rattle.std.proofs.lemmas.Int.{to_z-of_z}
use Rattle.caf_finish.specs.Account.{CanTakeResult, after_result}
use Rattle.caf_finish.proofs.Finds.{holds_at, changes_at}
use Rattle.caf_finish.proofs.desk.FinishDesk.result.Goals as goal

pub result-requires : goal.result-requires
result-requires c =
    holds_at c.args.self.now c.self.inside.image c.self.inside.known.items c.as_slice.result.now c.args.f.now c.place_of-at.result c.index_mut.result.now (CanTakeResult) c.self.view_is c.as_slice.ensures.value c.place_of-at.ensures c.index_mut.ensures.value c.requires

pub returns : goal.returns
returns c =
    changes_at c.args.self.now c.self.inside.image c.self.inside.known.items c.as_slice.result.now c.args.f.now c.place_of-at.result c.index_mut.result.now c.result.new.self (after_result c.args.sum) c.self.view_is c.as_slice.ensures.value c.place_of-at.ensures c.index_mut.ensures.value (c.result.ensures ∙ ap (λ sum. after_result sum c.index_mut.result.now.progress) (to_z-of_z w64 c.args.sum c.ranges.sum))
