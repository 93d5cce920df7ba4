-- What the reader of a whole unit answers.
use Rattle.std.specs.Prelude.{ℕ, ◌<◌, ◌≤◌, List}
use Rattle.caf_lexer.specs.declared.token.Token.{Token}
use Rattle.caf_tree.specs.declared.unit.Unit.{Unit as Program}
use Rattle.caf_tree.specs.Depth.{depth}
use Rattle.caf_tree.specs.Units.{Spells}
use Rattle.caf_exprparse.specs.declared.fault.ParseFault.{ParseFault}
use Rattle.caf_exprparse.specs.declared.fault.ParseFault.TheVariants as fault
use Rattle.caf_simpleparse.specs.Opening.{openings}

-- These tokens spell this unit, and it is at most 100 deep.
abbrev pub SpellsShallow : List Token → Program → Type 0
SpellsShallow ts u = Spells ts u × (depth u ≤ 100)

-- Why a unit is refused. For the syntax: the tokens spell no unit of any depth. For the depth: they spell none that is
-- at most 100 deep, and hold more than 100 tokens that open a level.
abbrev pub WhyRefused : List Token → ParseFault → Type 0
WhyRefused ts (fault.Syntax line) = (u : Program) → Spells ts u → ⊥
WhyRefused ts (fault.Deep line) = (100 < openings ts) × ((u : Program) → SpellsShallow ts u → ⊥)
WhyRefused ts fault.Memory = Unit {0}
