use Rattle.std.proofs.Common.{◌≡◌, ◌+◌, ◌≤◌, length}
use Rattle.caf_lexer.specs.Lines.{lines}
use Rattle.caf_lexer.specs.Tokens.{with_answer, lines_of, tokens_of}
use Rattle.caf_lexer.proofs.text.tokens.Given as goal

abbrev pub invariant-loop-rest : goal.invariant-loop-rest
invariant-loop-rest l = record {
  same : with_answer l.tokens (lines_of l.goes_on (l.number + 1) (lines l.rest)) ≡ tokens_of l.bytes;
  count : l.number + length l.rest ≤ length l.bytes;
}

abbrev pub decreases-loop-rest : goal.decreases-loop-rest
decreases-loop-rest l = length l.rest
