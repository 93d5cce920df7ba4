-- What the instructions of a read do: they put the numbers that it needs onto the stack, or meet a trap of these, and then
-- ask.
use Rattle.std.specs.Prelude.{◌≡◌, ℕ, suc, List, [], ◌∷◌, ◌++◌, length, Some, IsTrue}
use Rattle.caf_base.specs.Arithmetic.{Answer}
use Rattle.caf_base.specs.ImageMemory.{ImageMemory}
use Rattle.caf_base.specs.declared.fence.FenceClear.{FenceClear}
use Rattle.caf_program.specs.Kinds.{Scope, kind_of}
use Rattle.caf_program.specs.Seen.{Seen}
use Rattle.caf_program.specs.Value.{Read}
use Rattle.caf_program.specs.declared.expr.ExprR.{ExprR}
use Rattle.caf_program.specs.declared.expr.TeamR.{TeamR}
use Rattle.caf_program.specs.declared.program.ValueKind.{ValueKind}
use Rattle.caf_code.specs.Did.{answers}
use Rattle.caf_code.specs.Rules.{has_operands}
use Rattle.caf_code.specs.Shapes.{Part, Shape, next_shape}
use Rattle.caf_code.specs.Step.{exec}
use Rattle.caf_code.specs.Task.{Task}
use Rattle.caf_code.specs.declared.instr.ElementForm.{ElementForm}
use Rattle.caf_code.specs.declared.instr.ElementForm.TheVariants as element
use Rattle.caf_code.specs.declared.instr.Instr.{Instr}
use Rattle.caf_code.specs.declared.instr.Instr.TheVariants as instr
use Rattle.caf_code.specs.declared.listing.Listing.{Listing}
use Rattle.caf_exprgen.specs.ExprCode.{team_place}
use Rattle.caf_exprgen.specs.Leaves.{seen_by}
use Rattle.caf_exprgen.specs.Placed.{HasAt}
use Rattle.caf_exprgen.specs.Straight.{Serves, Straight, is_within_step}

-- wherever these instructions stand, and whatever is on the operand stack, they put this onto it, or meet its trap
abbrev pub LeavesThis : (Seen → Answer) → List Instr → Type 0
LeavesThis value is = (code : Listing) (clear : FenceClear) (t : Task) (m : ImageMemory) → HasAt code.instrs t.address is
    → exec code clear (length is) t m ≡ answers (value (seen_by t m)) (length is) t.frame.stack t m

-- a subscript, a rank, and the read of that element of the object; no instruction of the subscript ends a Step
pub record AsksAt (o : ℕ) (t : TeamR) (index rank : Seen → Answer) (is : List Instr) : Type 0 where
  pub first : List Instr
  pub second : List Instr
  pub are : is ≡ first ++ (second ++ (instr.Ask (element.Coindexed o (team_place t)) ∷ []))
  pub leaves : LeavesThis index first
  pub then_leaves : LeavesThis rank second
  pub within : IsTrue (is_within_step first)

-- a subscript, and the read of that element of what the copointer aims at
pub record AsksBehind (c : ℕ) (index : Seen → Answer) (is : List Instr) : Type 0 where
  pub first : List Instr
  pub are : is ≡ first ++ (instr.Ask (element.Pointed c) ∷ [])
  pub leaves : LeavesThis index first
  pub within : IsTrue (is_within_step first)

abbrev pub Asks : Read → List Instr → Type 0
Asks (Read.Coindexed o t index rank) is = AsksAt o t index rank is
Asks (Read.Pointed c index) is = AsksBehind c index is

-- these are the instructions of these reads, one list for each
abbrev pub AllAsk : List Read → List (List Instr) → Type 0
AllAsk [] [] = Unit {0}
AllAsk (r ∷ reads) (is ∷ rest) = Asks r is × AllAsk reads rest
AllAsk _ _ = ⊥

-- the shape with one held value more
abbrev pub with_value : Shape → Shape
with_value h = record h { held = suc h.held }

-- from a shape on, these instructions put numbers onto the stack, and the last one takes them off and holds one value more
pub record StraightRead (code : Listing) (p : Part) (is : List Instr) (h : Shape) : Type 0 where
  pub numbers : List Instr
  pub element : ElementForm
  pub top : Shape
  pub are : is ≡ numbers ++ (instr.Ask element ∷ [])
  pub within : IsTrue (is_within_step numbers)
  pub straight : Straight code p numbers h top
  pub operands : IsTrue (has_operands code (instr.Ask element))
  pub leads : next_shape code p (instr.Ask element) top ≡ Some (with_value h)

-- reads one after another, each of which holds one value more
abbrev pub StraightReads : Listing → Part → List (List Instr) → Shape → Type 0
StraightReads code p [] h = Unit {0}
StraightReads code p (is ∷ rest) h = StraightRead code p is h × StraightReads code p rest (with_value h)

-- where as many values are held as stand before, the reads of an expression of some kind keep the rules of a code
abbrev pub ReadsKeep : ExprR → ℕ → List (List Instr) → Type 0
ReadsKeep e held reads = (code : Listing) (p : Part) (s : Scope) (k : ValueKind) (h : Shape) → Serves code p s → kind_of s e ≡ Some k → h.held ≡ held → StraightReads code p reads h
