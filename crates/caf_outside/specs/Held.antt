-- The text under a name among those held.
use Rattle.std.specs.Prelude.{ℕ, List, [], ◌∷◌, Option, Some, None, if◌then◌else◌}
use Rattle.std.specs.Str.{bytes_eq}
use Rattle.caf_outside.specs.declared.held.Held.{Held}

-- the first where it is there, else the second
abbrev pub or_else : Option (List ℕ) → Option (List ℕ) → Option (List ℕ)
or_else (Some bytes) other = Some bytes
or_else None other = other

-- the text of the last entry of this name
abbrev pub text_of : List Held → List ℕ → Option (List ℕ)
text_of [] name = None
text_of (entry ∷ rest) name = or_else (text_of rest name) (if bytes_eq entry.name name then Some entry.bytes else None)
