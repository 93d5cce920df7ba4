use Rattle.caf_kinds.proofs.Whole.{meaning_kept}
use Rattle.caf_kinds.proofs.law.what_is_meant_keeps_the_rules.Goals as goal

pub returns : goal.returns
returns c = meaning_kept
