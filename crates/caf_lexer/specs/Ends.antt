-- Where the ends of statements stand in a list of tokens.
use Rattle.std.specs.Prelude.{Bool, true, not, ◌&&◌, List, [], ◌∷◌}
use Rattle.caf_lexer.specs.declared.token.Token.{Token}
use Rattle.caf_lexer.specs.Tokens.{is_end}

-- whether the last token is an `End`; the flag says it of what stands before these
abbrev pub ended_after : Bool → List Token → Bool
ended_after ended [] = ended
ended_after ended (token ∷ others) = ended_after (is_end token.what) others

-- whether no `End` follows another; the flag says whether one stands before these
abbrev pub is_apart : Bool → List Token → Bool
is_apart ended [] = true
is_apart ended (token ∷ others) = not (is_end token.what && ended) && is_apart (is_end token.what) others
