-- When bytes are the text of a program that is accepted.
use Rattle.std.specs.Prelude.{◌≡◌, ℕ, List, Ok}
use Rattle.caf_kinds.specs.Units.{Means}
use Rattle.caf_lexer.specs.Tokens.{tokens_of}
use Rattle.caf_lexer.specs.declared.token.Token.{Token}
use Rattle.caf_parser.specs.Answer.{SpellsShallow}
use Rattle.caf_program.specs.Ships.{KeepsShips}
use Rattle.caf_program.specs.declared.program.Program.{Program}
use Rattle.caf_tree.specs.declared.unit.Unit.{Unit as Written}

-- what is written means the program, and what that ships is plain
pub record IsMeant (u : Written) (p : Program) : Type 0 where
  pub means : Means u p
  pub ships : KeepsShips p

-- the tokens spell a unit, at most 100 deep, which means the program
pub record IsSpelled (tokens : List Token) (p : Program) : Type 0 where
  pub written : Written
  pub spells : SpellsShallow tokens written
  pub meant : IsMeant written p

-- the bytes have tokens, and these spell what means the program
pub record Sees (bytes : List ℕ) (p : Program) : Type 0 where
  pub tokens : List Token
  pub has_tokens : tokens_of bytes ≡ Ok tokens
  pub spelled : IsSpelled tokens p
