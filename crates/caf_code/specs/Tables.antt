-- A code whose shapes stand in rows, one for each part, keeps the rules if each row and each instruction does.
use Rattle.std.specs.Prelude.{◌≡◌, ℕ, suc, List, [], ◌∷◌, Option, Some, None, IsTrue, slice_index_or}
use Rattle.std.specs.List.{AllByRecursion, list_all}
use Rattle.caf_code.specs.Rules.{IsRight, KeepsRules, LeadOn, Shapes, has_last_index}
use Rattle.caf_code.specs.Shapes.{Part, Main, Sub, Shape, leads, start_shape}
use Rattle.caf_code.specs.declared.instr.Instr.{Instr}
use Rattle.caf_code.specs.declared.listing.Listing.{Listing}
use Rattle.caf_code.specs.declared.listing.SubCode.{SubCode}

-- the shapes at the addresses of a part
abbrev pub Row : Type 0
Row = List (Option Shape)

-- a shape with so many operands, loops and open finishes
abbrev pub at_height : ℕ → ℕ → ℕ → Option Shape
at_height stack loops finishes = Some (record { stack = stack; held = 0; loops = loops; listed = []; outs = 0; finishes = finishes })

-- the shapes of main, and those of each subroutine
abbrev pub in_rows : Row → List Row → Shapes
in_rows main subs Main a = slice_index_or main a None
in_rows main subs (Sub f) a = slice_index_or (slice_index_or subs f []) a None

-- what holds of each shape of a row with the instruction beside it, where the first address is this
abbrev pub EachRow : (ℕ → Instr → Shape → Type 0) → ℕ → Row → List Instr → Type 0
EachRow P k [] is = Unit {0}
EachRow P k (None ∷ row) [] = EachRow P (suc k) row []
EachRow P k (None ∷ row) (i ∷ is) = EachRow P (suc k) row is
EachRow P k (Some h ∷ row) [] = ⊥
EachRow P k (Some h ∷ row) (i ∷ is) = P k i h × EachRow P (suc k) row is

-- what holds of each row of a subroutine, where the first one is this
abbrev pub EachSub : (Part → ℕ → Instr → Shape → Type 0) → ℕ → List Row → List Instr → Type 0
EachSub P f [] is = Unit {0}
EachSub P f (row ∷ rows) is = EachRow (P (Sub f)) 0 row is × EachSub P (suc f) rows is

-- each subroutine has a row that begins at its address
abbrev pub EachStart : List SubCode → List Row → Type 0
EachStart [] rows = Unit {0}
EachStart (sub ∷ subs) [] = ⊥
EachStart (sub ∷ subs) (row ∷ rows) = (slice_index_or row sub.address None ≡ Some (start_shape 0)) × EachStart subs rows

-- two rows have one shape where both have one
abbrev pub Agree : Row → Row → Type 0
Agree row [] = Unit {0}
Agree [] (y ∷ other) = Unit {0}
Agree (None ∷ row) (y ∷ other) = Agree row other
Agree (Some h ∷ row) (None ∷ other) = Agree row other
Agree (Some h ∷ row) (Some k ∷ other) = (h ≡ k) × Agree row other

-- what holds of each instruction, where the first address is this
abbrev pub EachInstr : (ℕ → Instr → Type 0) → ℕ → List Instr → Type 0
EachInstr P k [] = Unit {0}
EachInstr P k (i ∷ is) = P k i × EachInstr P (suc k) is

-- an instruction of a part leads to the shapes of these rows
abbrev pub Leads : Listing → Row → List Row → Part → ℕ → Instr → Shape → Type 0
Leads code main subs p a i h = LeadOn (in_rows main subs) p (leads code p a i h)

-- the rules of a code, with rows of shapes for its main program and for each subroutine
pub record KeepsByTables (code : Listing) (main : Row) (subs : List Row) : Type 0 where
  pub objects : IsTrue (list_all has_last_index code.objects)
  pub instrs : EachInstr (IsRight code) 0 code.instrs
  pub start : slice_index_or main 0 None ≡ Some (start_shape 1)
  pub starts : EachStart code.subs subs
  pub of_main : EachRow (Leads code main subs Main) 0 main code.instrs
  pub of_subs : EachSub (Leads code main subs) 0 subs code.instrs
  pub apart : AllByRecursion (Agree main) subs
  pub between : AllByRecursion (λ row. AllByRecursion (Agree row) subs) subs

-- what such rows show
abbrev pub TablesShowRules : Type 0
TablesShowRules = (code : Listing) (main : Row) (subs : List Row) → KeepsByTables code main subs → KeepsRules code
