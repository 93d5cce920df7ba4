use Rattle.caf_lexer.proofs.Ends.{ends-are-placed}
use Rattle.caf_lexer.proofs.law.ends_are_placed.Goals as goal

pub returns-clause-apart : goal.returns-clause-apart
returns-clause-apart c = λ text tokens e. (ends-are-placed text tokens e).0

pub returns-clause-last : goal.returns-clause-last
returns-clause-last c = λ text tokens e. (ends-are-placed text tokens e).1
