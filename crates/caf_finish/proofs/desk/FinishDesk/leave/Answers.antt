use Rattle.std.proofs.Common.{rules}
use Rattle.std.proofs.lemmas.Fn.{filter_same}
use Rattle.caf_finish.proofs.Finds.{puts_none}
use Rattle.caf_finish.proofs.desk.FinishDesk.leave.Goals as goal

pub returns : goal.returns
returns c =
    puts_none c.args.self.now c.self.inside.image c.self.inside.known.items _ c.args.f.now c.self.view_is (filter_same _ _ _ (λ x b f' k. search rules) _ _ c.retain.ensures.filtered)
