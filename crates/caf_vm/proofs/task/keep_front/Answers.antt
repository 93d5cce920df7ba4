use Rattle.std.proofs.Common.{◌∙◌, ap, arith, reverse}
use Rattle.caf_vm.proofs.Front.{front}
use Rattle.caf_vm.proofs.task.keep_front.Goals as goal

pub returns : goal.returns
returns c =
    ap reverse c.truncate.ensures.items ∙ front c.args.stack.now.items c.saturating_sub-kept.result c.args.taken (omega (arith, c.saturating_sub-kept.ensures, c.len.ensures))
