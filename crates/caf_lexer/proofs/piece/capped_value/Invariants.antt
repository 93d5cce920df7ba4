use Rattle.std.proofs.Common.{◌≡◌, take}
use Rattle.caf_lexer.specs.Spelling.{capped}
use Rattle.caf_lexer.proofs.piece.capped_value.Given as goal

abbrev pub invariant-loop-digit : goal.invariant-loop-digit
invariant-loop-digit l = l.value ≡ capped (take l.digit-index l.digits)
