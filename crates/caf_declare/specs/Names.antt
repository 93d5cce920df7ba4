-- Answers on names: what is meant, or the first rule that is broken.
use Rattle.std.specs.Prelude.{◌≡◌, ℕ, Bool, List, [], ◌∷◌, ◌++◌, Option, Some, None, is_some, Result, Ok, Err, if◌then◌else◌, bytes_eq}
use Rattle.std.specs.List.{list_any}
use Rattle.caf_declare.specs.declared.fault.Rule.{Rule}
use Rattle.caf_declare.specs.declared.fault.Rule.TheVariants as rule
use Rattle.caf_declare.specs.declared.fault.Fault.{Fault}
use Rattle.caf_declare.specs.declared.fault.Stop.{Stop}
use Rattle.caf_declare.specs.declared.fault.Stop.TheVariants as stop
use Rattle.caf_declare.specs.declared.symbol.Symbol.{Symbol}
use Rattle.caf_declare.specs.Table.{Name, Names, found}

-- the rule is broken, on the line and at the name
abbrev pub breaks : Rule → ℕ → Name → Fault
breaks r line name = record { rule = r; line = line; name = name }

-- goes on with what is meant, or stays at the first broken rule
abbrev pub after : {A B : Type 0} → Result A Fault → (A → Result B Fault) → Result B Fault
after (Err f) go = Err f
after (Ok a) go = go a

-- a call tells what is meant, or the first broken rule; of want of memory nothing is said
abbrev pub Tells : {A : Type 0} → Result A Fault → Result A Stop → Type 0
Tells m (Ok a) = m ≡ Ok a
Tells m (Err stop.Memory) = Unit {0}
Tells m (Err (stop.Broken f)) = m ≡ Err f

-- a call tells the broken rule
abbrev pub IsFault : Fault → Stop → Type 0
IsFault f stop.Memory = Unit {0}
IsFault f (stop.Broken g) = f ≡ g

-- whether a name is among others
abbrev pub among : List Name → Name → Bool
among names name = list_any (bytes_eq name) names

abbrev pub otherwise : {A : Type 0} → Option A → Option A → Option A
otherwise (Some a) b = Some a
otherwise None b = b

-- a name that isn't declared yet in its part
abbrev pub unused : ℕ → Names → Name → Result (Unit {0}) Fault
unused line names name = if is_some (found names name) then Err (breaks rule.Twice line name) else Ok tt

-- a name is declared once in its part
abbrev pub declared : ℕ → Names → Name → Symbol → Result Names Fault
declared line names name symbol = if is_some (found names name) then Err (breaks rule.Twice line name) else Ok (names ++ (name, symbol) ∷ [])

-- a declaration of names that may not stand in its part
abbrev pub refused : ℕ → List Name → Result (Unit {0}) Fault
refused line [] = Ok tt
refused line (name ∷ others) = Err (breaks rule.WrongKind line name)
