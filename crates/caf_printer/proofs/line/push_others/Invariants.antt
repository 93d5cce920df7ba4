use Rattle.std.proofs.Common.{◌≡◌, ◌++◌, map, drop, ◌<◌, ◌-◌, ◌^◌}
use Rattle.caf_tree.specs.Text.{after_column, token_text}
use Rattle.caf_printer.specs.Pieces.{token_of}
use Rattle.caf_printer.proofs.line.push_others.Given as goal

-- what is there, and what is due of the rest, is what was there and what is due of all
abbrev pub invariant-loop-piece : goal.invariant-loop-piece
invariant-loop-piece l = record {
  text : l.text.items ++ after_column l.column (map token_text (map token_of (drop l.piece-index l.pieces))) ≡ l.fn.text.items ++ after_column l.fn.column (map token_text (map token_of l.fn.pieces));
  fits : l.column < 2 ^ 64 - 1;
}
