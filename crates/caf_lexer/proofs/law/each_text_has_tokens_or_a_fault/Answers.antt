use Rattle.caf_lexer.proofs.Whole.{one-or-other, has-tokens, has-fault, tokens-had, fault-had}
use Rattle.caf_lexer.proofs.law.each_text_has_tokens_or_a_fault.Goals as goal

pub returns-clause-one : goal.returns-clause-one
returns-clause-one c = one-or-other

pub returns-clause-tokens : goal.returns-clause-tokens
returns-clause-tokens c = λ text tokens. (has-tokens text tokens, tokens-had text tokens)

pub returns-clause-fault : goal.returns-clause-fault
returns-clause-fault c = λ text fault. (has-fault text fault, fault-had text fault)
