use Rattle.std.proofs.Common.{◌≡◌, ◌≤◌, length}
use Rattle.caf_lexer.specs.Spelling.{pieces}
use Rattle.caf_lexer.proofs.line.from_piece.Given as goal

abbrev pub invariant-loop-bytes : goal.invariant-loop-bytes
invariant-loop-bytes l = record {
  same : pieces l.bytes ≡ pieces l.initial.bytes;
  shorter : length l.bytes ≤ length l.initial.bytes;
}

abbrev pub decreases-loop-bytes : goal.decreases-loop-bytes
decreases-loop-bytes l = length l.bytes
