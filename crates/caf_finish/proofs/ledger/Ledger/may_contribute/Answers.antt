use Rattle.std.proofs.Common.{rules}
use Rattle.caf_finish.proofs.Ranks.{zero_last}
use Rattle.caf_finish.proofs.ledger.Ledger.may_contribute.Goals as goal

pub returns-then-four : goal.returns-then-four
returns-then-four g c = search (rules, zero_last)
