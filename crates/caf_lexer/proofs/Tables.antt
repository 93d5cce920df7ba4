-- The tables of the code are those of the definitions.
use Rattle.std.proofs.Common.{◌≡◌, map, refl}
use Rattle.caf_lexer.specs.declared.table.TheConstants.{WORDS, SIGNS}
use Rattle.caf_lexer.specs.Spelling.{words, signs}

pub words_are : map (λ entry. (entry.0.now, entry.1)) WORDS ≡ words
unfolding words
words_are = refl

pub signs_are : map (λ entry. (entry.0.now, entry.1)) SIGNS ≡ signs
unfolding signs
signs_are = refl
