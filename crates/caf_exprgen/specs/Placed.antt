-- Instructions at a place of a code.
use Rattle.std.specs.Prelude.{◌≡◌, ℕ, ◌+◌, List, [], ◌∷◌, ◌++◌, Some, slice_get}
use Rattle.caf_code.specs.declared.instr.Instr.{Instr}

-- these instructions stand in the code one after another, the first at this address
abbrev pub HasAt : List Instr → ℕ → List Instr → Type 0
HasAt code a [] = Unit {0}
HasAt code a (i ∷ is) = (slice_get code a ≡ Some i) × HasAt code (a + 1) is

-- a list that begins with another
pub record Begins (front whole : List Instr) : Type 0 where
  pub rest : List Instr
  pub is : whole ≡ front ++ rest
