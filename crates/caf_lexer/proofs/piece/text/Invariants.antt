use Rattle.std.proofs.Common.{◌≡◌, ◌+◌, ◌≤◌, length, false, []}
use Rattle.std.specs.String.{string_bytes}
use Rattle.caf_lexer.specs.Spelling.{quoted, before}
use Rattle.caf_lexer.proofs.piece.text.Given as goal

abbrev pub invariant-loop-bytes : goal.invariant-loop-bytes
invariant-loop-bytes l = record {
  same : before (string_bytes l.content) l.length (quoted l.quote l.is_second l.room l.bytes) ≡ before [] 1 (quoted l.quote false 120 l.initial.bytes);
  room : l.room ≤ 120;
  place : l.length + length l.bytes ≡ length l.initial.bytes + 1;
}

abbrev pub decreases-loop-bytes : goal.decreases-loop-bytes
decreases-loop-bytes l = length l.bytes
