use Rattle.std.proofs.Common.{◌≡◌, ◌+◌, ◌-◌, ◌≤◌, length, drop}
use Rattle.std.specs.List.{prefix_len}
use Rattle.caf_lexer.specs.Spelling.{is_name_byte}
use Rattle.caf_lexer.proofs.piece.name_length.Given as goal

abbrev pub invariant-loop-end : goal.invariant-loop-end
invariant-loop-end l = record {
  same : l.end + prefix_len is_name_byte (drop l.end l.bytes) ≡ prefix_len is_name_byte l.bytes;
  within : l.end ≤ length l.bytes;
}

abbrev pub decreases-loop-end : goal.decreases-loop-end
decreases-loop-end l = length l.bytes - l.end
