-- Why a text is refused: on which line, and what is wrong there.
use Rattle.std.specs.Prelude.{◌≡◌, ℕ, ◌<◌, List, ◌++◌, codes, decimal, Option, Some, None, Ok, Err}
use Rattle.caf_declare.specs.declared.fault.Fault.{Fault}
use Rattle.caf_kinds.specs.Faults.{told as told_as_kinds}
use Rattle.caf_kinds.specs.Units.{Means, meaning}
use Rattle.caf_kinds.specs.declared.fault.KindFault.{KindFault}
use Rattle.caf_kinds.specs.declared.fault.KindFault.TheVariants as kinds
use Rattle.caf_lexer.specs.Tokens.{tokens_of}
use Rattle.caf_lexer.specs.declared.fault.LexFault.{LexFault}
use Rattle.caf_lexer.specs.declared.fault.LexFault.TheVariants as lexical
use Rattle.caf_lexer.specs.declared.token.Token.{Token}
use Rattle.caf_parser.specs.Answer.{SpellsShallow}
use Rattle.caf_simpleparse.specs.Opening.{openings}
use Rattle.caf_program.specs.declared.program.Program.{Program}
use Rattle.caf_teamcheck.specs.Faults.{Breaks}
use Rattle.caf_teamcheck.specs.declared.fault.ShipFault.{ShipFault}
use Rattle.caf_teamcheck.specs.declared.fault.ShipFault.TheVariants as ship
use Rattle.caf_tree.specs.Units.{Spells}
use Rattle.caf_tree.specs.declared.unit.Unit.{Unit as Written}
use Rattle.caf_unbuilt.specs.Unbuilt.{first_unbuilt}
use Rattle.caf_top.specs.Sees.{Sees}

-- a line, and what is wrong there
abbrev pub Told : Type 0
Told = ℕ × List ℕ

-- ---- what each fault tells

abbrev pub told_of_tokens : LexFault → Option Told
told_of_tokens (lexical.NotAscii line) = Some (line, codes "not ascii")
told_of_tokens (lexical.LongLine line) = Some (line, codes "long line")
told_of_tokens (lexical.BadToken line) = Some (line, codes "bad token")
told_of_tokens (lexical.BadNumber line) = Some (line, codes "bad number")
told_of_tokens (lexical.OpenContinuation line) = Some (line, codes "open continuation")
told_of_tokens lexical.Memory = None

-- a word, a blank and a name
abbrev pub at_name : List ℕ → List ℕ → List ℕ
at_name word name = word ++ codes " " ++ name

abbrev pub told_of_kinds : KindFault → Option Told
told_of_kinds (kinds.Undeclared line name) = Some (line, at_name (codes "undeclared") name)
told_of_kinds (kinds.Twice line name) = Some (line, at_name (codes "twice") name)
told_of_kinds (kinds.WrongKind line name) = Some (line, at_name (codes "kind") name)
told_of_kinds (kinds.WrongCount line name) = Some (line, at_name (codes "count") name)
told_of_kinds (kinds.NotCoarray line name) = Some (line, at_name (codes "coarray") name)
told_of_kinds (kinds.DoVariable line name) = Some (line, at_name (codes "do variable") name)
told_of_kinds (kinds.ReadOnly line name) = Some (line, at_name (codes "read only") name)
told_of_kinds (kinds.BadConstant line name) = Some (line, at_name (codes "constant") name)
told_of_kinds (kinds.TooManyCells line name) = Some (line, at_name (codes "cells") name)
told_of_kinds kinds.Memory = None

abbrev pub told_of_ships : ShipFault → Option Told
told_of_ships (ship.CollectiveInShip line name) = Some (line, at_name (codes "collective") name)
told_of_ships (ship.InoutInShip line name) = Some (line, at_name (codes "inout") name)
told_of_ships ship.Memory = None

-- ---- which fault a text has

-- the program ships what it may not
pub record ShipsWrong (p : Program) (told : Told) : Type 0 where
  pub fault : ShipFault
  pub broken : Breaks p fault
  pub tells : told_of_ships fault ≡ Some told

-- what is written breaks a rule on names and kinds, of which the first is told, or what it means ships what it may not
pub data MeansWrong (u : Written) (told : Told) : Type 0 where
  names : (f : Fault) → meaning u ≡ Err f → told_of_kinds (told_as_kinds f) ≡ Some told → MeansWrong u told
  ships : (p : Program) → Means u p → ShipsWrong p told → MeansWrong u told

-- The tokens spell nothing; or nothing that is at most 100 deep, and they open more than 100 levels; or what they spell is
-- wrong. Of the first two no line is told.
pub data SpellWrong (tokens : List Token) (told : Told) : Type 0 where
  syntax : ((u : Written) → Spells tokens u → ⊥) → told.1 ≡ codes "syntax" → SpellWrong tokens told
  deep : 100 < openings tokens → ((u : Written) → SpellsShallow tokens u → ⊥) → told.1 ≡ codes "deep" → SpellWrong tokens told
  written : (u : Written) → SpellsShallow tokens u → MeansWrong u told → SpellWrong tokens told

-- the bytes have no tokens, of which the first fault is told, or their tokens are wrong
pub data IsWrong (bytes : List ℕ) (told : Told) : Type 0 where
  bytes : (f : LexFault) → tokens_of bytes ≡ Err f → told_of_tokens f ≡ Some told → IsWrong bytes told
  tokens : (ts : List Token) → tokens_of bytes ≡ Ok ts → SpellWrong ts told → IsWrong bytes told

-- the bytes are an accepted program that holds a statement which doesn't run yet, and the first stands on this line
pub record IsUnbuilt (bytes : List ℕ) (told : Told) : Type 0 where
  pub program : Program
  pub sees : Sees bytes program
  pub first : first_unbuilt program ≡ Some told.0
  pub words : told.1 ≡ codes "not yet"

-- the line that is written
abbrev pub refusal_line : Told → List ℕ
refusal_line told = codes "refused: line " ++ decimal told.0 ++ codes ": " ++ told.1 ++ codes "\n"
