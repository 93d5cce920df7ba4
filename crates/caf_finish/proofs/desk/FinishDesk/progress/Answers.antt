use Rattle.caf_finish.proofs.Finds.{account_now}
use Rattle.caf_finish.proofs.desk.FinishDesk.progress.Goals as goal

pub returns : goal.returns
returns c =
    account_now c.args.self.now c.self.inside.image c.self.inside.known.items c.as_slice.result.now c.args.f.now c.place_of.result c.index.result.now c.self.view_is c.as_slice.ensures.value c.place_of.ensures c.index.ensures
