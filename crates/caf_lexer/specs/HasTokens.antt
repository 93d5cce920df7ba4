-- What it means that a text has these tokens, told by lines and longest spellings, or this first fault. How lines are
-- continued, and which `End` is left out, is as it is computed, and so is the fault of a line that has one.
use Rattle.std.specs.Prelude.{◌≡◌, ℕ, ◌+◌, ◌-◌, ◌≤◌, Bool, true, false, ◌⊎◌, List, [], ◌∷◌, ◌++◌, length, Ok, Err}
use Rattle.caf_lexer.specs.declared.token.Token.{Token}
use Rattle.caf_lexer.specs.declared.fault.LexFault.{LexFault}
use Rattle.caf_lexer.specs.declared.fault.LexFault.TheVariants.{OpenContinuation}
use Rattle.caf_lexer.specs.declared.piece.Piece.{Piece}
use Rattle.caf_lexer.specs.Spelling.{Bytes}
use Rattle.caf_lexer.specs.Lines.{lines}
use Rattle.caf_lexer.specs.Tokens.{joined, line_of, with_tokens}
use Rattle.caf_lexer.specs.Longest.{IsCut}

-- a line of at most 132 bytes, of longest spellings that give these tokens, and whether the statement goes on behind it
pub record LineGives (goes_on : Bool) (n : ℕ) (line : Bytes) (tokens : List Token) (on : Bool) : Type 0 where
  pub short : length line ≤ 132
  pub found : List Piece
  pub cut : IsCut line found
  pub gives : joined goes_on n found ≡ Ok (tokens, on)

-- lines that give these tokens one after another; behind the last the statement doesn't go on
abbrev pub LinesGive : Bool → ℕ → List Bytes → List Token → Type 0
LinesGive goes_on n [] tokens = (goes_on ≡ false) × (tokens ≡ [])
LinesGive goes_on n (line ∷ others) tokens = (first : List Token) × (on : Bool) × (rest : List Token) × LineGives goes_on n line first on × LinesGive on (n + 1) others rest × (tokens ≡ first ++ rest)

-- the tokens of a text, without an `End` that stands first or after an `End`
abbrev pub HasTokens : Bytes → List Token → Type 0
HasTokens text tokens = (given : List Token) × LinesGive false 1 (lines text) given × (tokens ≡ with_tokens [] given)

-- the lines before one give tokens, and that one has this fault; or all give tokens, and behind the last the statement goes on
abbrev pub LinesFail : Bool → ℕ → List Bytes → LexFault → Type 0
LinesFail goes_on n [] fault = (goes_on ≡ true) × (fault ≡ OpenContinuation (n - 1))
LinesFail goes_on n (line ∷ others) fault = (line_of goes_on n line ≡ Err fault) ⊎ ((first : List Token) × (on : Bool) × LineGives goes_on n line first on × LinesFail on (n + 1) others fault)

-- the first fault of a text
abbrev pub HasFault : Bytes → LexFault → Type 0
HasFault text fault = LinesFail false 1 (lines text) fault
