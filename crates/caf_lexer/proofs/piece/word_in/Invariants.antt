use Rattle.std.proofs.Common.{◌≡◌, length, map}
use Rattle.caf_lexer.specs.Spelling.{word_in}
use Rattle.caf_lexer.proofs.piece.word_in.Given as goal

abbrev pub invariant-loop-table : goal.invariant-loop-table
invariant-loop-table l = word_in (map (λ entry. (entry.0.now, entry.1)) l.table) l.name ≡ word_in (map (λ entry. (entry.0.now, entry.1)) l.initial.table) l.name

abbrev pub decreases-loop-table : goal.decreases-loop-table
decreases-loop-table l = length l.table
