use Rattle.caf_finish.specs.Account.{IsCountable, counted}
use Rattle.caf_finish.proofs.Finds.{holds_at, changes_at}
use Rattle.caf_finish.proofs.desk.FinishDesk.count.Goals as goal

pub count-requires : goal.count-requires
count-requires c =
    holds_at c.args.self.now c.self.inside.image c.self.inside.known.items c.as_slice.result.now c.args.f.now c.place_of-at.result c.index_mut.result.now (IsCountable c.args.what c.args.epoch) c.self.view_is c.as_slice.ensures.value c.place_of-at.ensures c.index_mut.ensures.value c.requires

pub returns : goal.returns
returns c =
    changes_at c.args.self.now c.self.inside.image c.self.inside.known.items c.as_slice.result.now c.args.f.now c.place_of-at.result c.index_mut.result.now c.count.new.self (counted c.args.what c.args.epoch) c.self.view_is c.as_slice.ensures.value c.place_of-at.ensures c.index_mut.ensures.value c.count.ensures
