use Rattle.std.proofs.Common.{◌∷◌, ap, sym, ◌∙◌, drop}
use Rattle.caf_lexer.specs.Spelling.{pieces}
use Rattle.caf_lexer.proofs.Pieces.{pieces-at}
use Rattle.caf_lexer.proofs.line.cut.Goals as goal

pub returns-clause-pieces : goal.returns-clause-pieces
returns-clause-pieces c =
    pieces-at c.args.bytes.now (c.in_ok-piece.piece, c.in_ok-piece.length) c.requires.some c.requires.begins c.in_ok-piece.ensures.value
    ∙ ap (λ z. c.in_ok-piece.piece ∷ pieces z) (sym (c.split_at.ensures.back ∙ ap (λ n. drop n c.args.bytes.now) c.max.ensures))
    ∙ ap (λ others. c.in_ok-piece.piece ∷ others) (sym c.from_piece.ensures.same)
