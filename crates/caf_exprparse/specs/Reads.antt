-- What a function that reads tokens ensures.
use Rattle.std.specs.Prelude.{◌≡◌, List, Option, Some, None, Result, Ok, Err}
use Rattle.caf_lexer.specs.declared.token.Token.{Token}
use Rattle.caf_exprparse.specs.declared.fault.ParseFault.{ParseFault}
use Rattle.caf_exprparse.specs.declared.fault.ParseFault.TheVariants as fault
use Rattle.caf_exprparse.specs.Reading.{Refusal, Syntax, Deep, Outcome}

abbrev pub kind_of : ParseFault → Option Refusal
kind_of (fault.Syntax line) = Some Syntax
kind_of (fault.Deep line) = Some Deep
kind_of fault.Memory = None

-- the reader's outcome, unless memory runs out
abbrev pub Reads : {A : Type 0} → Outcome A → Result A ParseFault → List Token → Type 0
Reads outcome (Ok a) new = outcome ≡ Ok (a, new)
Reads outcome (Err f) new = (r : Refusal) → kind_of f ≡ Some r → outcome ≡ Err r
