use Rattle.std.proofs.Common.{◌≡◌, ◌<◌, ◌^◌, length}
use Rattle.std.specs.Prelude.{slice_index}
use Rattle.caf_lexer.specs.Spelling.{pieces, Begins}
use Rattle.caf_lexer.specs.Tokens.{given_after, rest_of}
use Rattle.caf_lexer.proofs.line.rest.Given as goal

abbrev pub invariant-loop-bytes : goal.invariant-loop-bytes
invariant-loop-bytes l = record {
  same : given_after l.tokens (rest_of l.line (pieces l.bytes)) ≡ given_after l.initial.tokens (rest_of l.line (pieces l.initial.bytes));
  begins : 0 < length l.bytes → Begins (slice_index l.bytes 0);
  bound : length l.bytes < 2 ^ 63;
}

abbrev pub decreases-loop-bytes : goal.decreases-loop-bytes
decreases-loop-bytes l = length l.bytes
