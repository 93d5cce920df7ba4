-- What the instructions of an expression do.
use Rattle.std.specs.Prelude.{◌≡◌, ℕ, List, ◌++◌, length}
use Rattle.caf_base.specs.ImageMemory.{ImageMemory}
use Rattle.caf_base.specs.declared.fence.FenceClear.{FenceClear}
use Rattle.caf_program.specs.declared.expr.ExprR.{ExprR}
use Rattle.caf_program.specs.Seen.{Seen}
use Rattle.caf_program.specs.Value.{value_at}
use Rattle.caf_code.specs.Did.{answers}
use Rattle.caf_code.specs.Step.{exec}
use Rattle.caf_code.specs.Task.{Task}
use Rattle.caf_code.specs.declared.instr.Instr.{Instr}
use Rattle.caf_code.specs.declared.listing.Listing.{Listing}
use Rattle.caf_exprgen.specs.Placed.{HasAt}

-- what an expression sees of a task of the machine and its image's memory
abbrev pub seen_by : Task → ImageMemory → Seen
seen_by t m = record { objects = m.objects; cells = m.cells; locals = t.frame.cells; held = t.frame.held; image = m.image; images = m.images; teams = m.teams }

-- Wherever these instructions stand, and whatever is on the operand stack, they put the value of the expression onto it,
-- or meet its trap. The first value that it holds is held at this place.
abbrev pub Leaves : ExprR → ℕ → List Instr → Type 0
Leaves e held is = (code : Listing) (clear : FenceClear) (t : Task) (m : ImageMemory) → HasAt code.instrs t.address is
    → exec code clear (length is) t m ≡ answers (value_at e held (seen_by t m)) (length is) t.frame.stack t m

-- a list with instructions behind it that leave the value
pub record Appends (e : ExprR) (held : ℕ) (before : List Instr) (after : List Instr) : Type 0 where
  pub code : List Instr
  pub is : after ≡ before ++ code
  pub leaves : Leaves e held code
