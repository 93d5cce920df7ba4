-- What the instructions of an expression keep of the rules of a code.
use Rattle.std.specs.Prelude.{◌≡◌, ℕ, suc, ◌+◌, ◌≤◌, Bool, true, false, not, ◌&&◌, List, [], ◌∷◌, length, Some, IsTrue}
use Rattle.caf_program.specs.Kinds.{Scope, kind_of}
use Rattle.caf_program.specs.Value.{count}
use Rattle.caf_program.specs.declared.expr.ExprR.{ExprR}
use Rattle.caf_program.specs.declared.program.ValueKind.{ValueKind}
use Rattle.caf_code.specs.Rules.{has_operands, is_marked}
use Rattle.caf_code.specs.Shapes.{Part, Shape, cells_of, next_shape}
use Rattle.caf_code.specs.declared.instr.Instr.{Instr}
use Rattle.caf_code.specs.declared.instr.Instr.TheVariants as instr
use Rattle.caf_code.specs.declared.listing.Listing.{Listing}

-- whether a Step that comes to the instruction goes on at the next address, or traps
abbrev pub is_inner : Instr → Bool
is_inner (instr.Go a) = false
is_inner instr.Close = false
is_inner instr.Halt = false
is_inner i = not (is_marked i)

abbrev pub all_inner : List Instr → Bool
all_inner [] = true
all_inner (i ∷ is) = is_inner i && all_inner is

-- at least one instruction, and each of them such
abbrev pub is_within_step : List Instr → Bool
is_within_step [] = false
is_within_step (i ∷ is) = is_inner i && all_inner is

-- in a part of the code these instructions have right operands, and lead one after another from a shape to another
abbrev pub Straight : Listing → Part → List Instr → Shape → Shape → Type 0
Straight code p [] h h' = h ≡ h'
Straight code p (i ∷ is) h h' = (g : Shape) × IsTrue (has_operands code i) × (next_shape code p i h ≡ Some g) × Straight code p is g h'

-- a part of the code has the objects and the frame cells that the expressions of a part of the program may name
pub record Serves (code : Listing) (p : Part) (s : Scope) : Type 0 where
  pub objects : code.objects ≡ s.objects
  pub cells : cells_of code p ≡ length s.cells

-- the shape with one operand more
abbrev pub with_operand : Shape → Shape
with_operand h = record h { stack = suc h.stack }

-- where the values that the expression uses are held, the instructions put one operand more onto the stack
abbrev pub PutsOne : ExprR → ℕ → List Instr → Type 0
PutsOne e held is = (code : Listing) (p : Part) (s : Scope) (k : ValueKind) (h : Shape) → Serves code p s → kind_of s e ≡ Some k → held + count e ≤ h.held → Straight code p is h (with_operand h)
