-- What it means that the text of a unit is read as this unit again.
use Rattle.std.specs.Prelude.{◌≡◌, List, Ok}
use Rattle.caf_lexer.specs.declared.token.Token.{Token}
use Rattle.caf_lexer.specs.Tokens.{tokens_of}
use Rattle.caf_tree.specs.declared.unit.Unit.{Unit as Program}
use Rattle.caf_tree.specs.Text.{Bytes}
use Rattle.caf_tree.specs.Unlined.{SpellsButLines}

-- The tokens of this text spell this unit, up to the lines.
pub record ReadsAs (text : Bytes) (u : Program) : Type 0 where
  pub tokens : List Token
  pub is : tokens_of text ≡ Ok tokens
  pub spells : SpellsButLines tokens u

-- a unit that the tokens of some text spell, up to the lines
abbrev pub IsReadable : Program → Type 0
IsReadable u = (text : Bytes) × ReadsAs text u
