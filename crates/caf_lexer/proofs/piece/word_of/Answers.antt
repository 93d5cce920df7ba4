use Rattle.std.proofs.Common.{ap, ◌∙◌}
use Rattle.caf_lexer.specs.Spelling.{word_in}
use Rattle.caf_lexer.proofs.Tables.{words_are}
use Rattle.caf_lexer.proofs.piece.word_of.Goals as goal

pub returns : goal.returns
returns c = c.word_in.ensures ∙ ap (λ table. word_in table c.args.name.now) words_are
