use Rattle.caf_lexer.proofs.Longest.{pieces_after-cut, cut-once}
use Rattle.caf_lexer.proofs.law.pieces_are_longest_spellings.Goals as goal

pub returns-clause-longest : goal.returns-clause-longest
returns-clause-longest c = λ line sound. pieces_after-cut 0 line sound

pub returns-clause-only : goal.returns-clause-only
returns-clause-only c = λ line found cut. cut-once found line cut
