use Rattle.caf_top.proofs.Given.{answer_is_due}
use Rattle.caf_top.proofs.answer.due_of.Goals as goal

pub returns : goal.returns
returns c = λ host stood held. answer_is_due host c.args.work c.args.bytes.now c.given.result stood held c.requires c.given.ensures
