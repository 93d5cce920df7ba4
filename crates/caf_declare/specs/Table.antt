-- Names in the order in which they were declared, with what each stands for.
use Rattle.std.specs.Prelude.{ℕ, List, [], ◌∷◌, String, string_bytes, Option, Some, None, bytes_eq, if◌then◌else◌}
use Rattle.std.specs.declared.alloc.Global.{Global}
use Rattle.caf_declare.specs.declared.symbol.Symbol.{Symbol}

abbrev pub Name : Type 0
Name = List ℕ

-- what the names of a part stand for
abbrev pub Names : Type 0
Names = List (Name × Symbol)

-- what stands under a name: the first that does
abbrev pub found : {A : Type 0} → List (Name × A) → Name → Option A
found [] name = None
found (e ∷ others) name = if bytes_eq name e.0 then Some e.1 else found others name

-- the entries of a map, with the bytes of its keys
abbrev pub as_bytes : {A : Type 0} → List (String Global × A) → List (Name × A)
as_bytes [] = []
as_bytes (e ∷ others) = (string_bytes e.0, e.1) ∷ as_bytes others
