-- The places of the program that the rule on ships speaks of, and what is wrong at one.
use Rattle.std.specs.Prelude.{◌≡◌, ℕ, Bool, false, List, [], ◌∷◌, Some, slice_get, Contains, IsTrue}
use Rattle.std.specs.List.{flat_map}
use Rattle.caf_program.specs.declared.program.DummyR.{DummyR}
use Rattle.caf_program.specs.declared.program.SubR.{SubR}
use Rattle.caf_program.specs.declared.stmt.StmtR.{StmtR}
use Rattle.caf_program.specs.declared.stmt.StmtR.TheOpen.{StmtR-F}
use Rattle.caf_program.specs.declared.stmt.StmtR.TheFolds.{fold-StmtR}
use Rattle.caf_program.specs.Ships.{Shipped, in_blocks, takes_values, is_in}
use Rattle.caf_teamcheck.specs.declared.site.Site.{Site}
use Rattle.caf_teamcheck.specs.declared.site.Site.TheVariants as site
use Rattle.caf_teamcheck.specs.declared.fault.ShipFault.{ShipFault}
use Rattle.caf_teamcheck.specs.declared.fault.ShipFault.TheVariants as fault

abbrev pub site_layer : StmtR-F (List Site) → List Site
site_layer (StmtR-F.Spawn line event f actuals p) = site.Spawn line f ∷ []
site_layer (StmtR-F.Finish line t body) = site.Collective line ∷ flat_map (λ found. found) body
site_layer (StmtR-F.Split line t colour key o) = site.Collective line ∷ []
site_layer s = in_blocks s

-- the spawns, and the `finish` and `team_split` statements, in a statement in written order
abbrev pub sites_in : StmtR → List Site
sites_in = fold-StmtR (List Site) site_layer

abbrev pub spawn_at : Site → List Shipped
spawn_at (site.Spawn line f) = record { line = line; sub = f } ∷ []
spawn_at (site.Collective line) = []

abbrev pub line_at : Site → List ℕ
line_at (site.Spawn line f) = []
line_at (site.Collective line) = line ∷ []

-- the subroutine at the place, if there is one, takes values alone
abbrev pub MayShip : List SubR → ℕ → Type 0
MayShip subs f = (sub : SubR) → slice_get subs f ≡ Some sub → IsTrue (takes_values sub)

-- what may stand in a part: a spawn of a subroutine that takes values alone; where no ship reaches, a `finish` or a
-- `team_split`
abbrev pub MayStand : List SubR → Bool → Site → Type 0
MayStand subs reached (site.Spawn line f) = MayShip subs f
MayStand subs reached (site.Collective line) = IsTrue reached → ⊥

-- the dummy isn't `intent(in)`, as the fault says for the line
abbrev pub IsInout : ℕ → DummyR → ShipFault → Type 0
IsInout line d (fault.InoutInShip l name) = (l ≡ line) × (is_in d.intent ≡ false) × (name ≡ d.name)
IsInout line d fault.Memory = Unit {0}
IsInout line d f = ⊥

-- one of the dummies isn't
pub record HasInoutAt (line : ℕ) (dummies : List DummyR) (f : ShipFault) : Type 0 where
  pub dummy : DummyR
  pub has : Contains dummies dummy
  pub inout : IsInout line dummy f

-- one of the dummies of a subroutine that is shipped isn't
pub record IsWrongShip (subs : List SubR) (line : ℕ) (at : ℕ) (f : ShipFault) : Type 0 where
  pub sub : SubR
  pub is : slice_get subs at ≡ Some sub
  pub inout : HasInoutAt line sub.dummies f

-- a `finish` or `team_split` on the line stands where a ship reaches, in a part of the name
abbrev pub IsWrongCollective : Bool → List ℕ → ℕ → ShipFault → Type 0
IsWrongCollective reached holder line (fault.CollectiveInShip l name) = (l ≡ line) × IsTrue reached × (name ≡ holder)
IsWrongCollective reached holder line fault.Memory = Unit {0}
IsWrongCollective reached holder line f = ⊥

-- what is wrong at a place, in a part of the name
abbrev pub IsWrong : List SubR → Bool → List ℕ → Site → ShipFault → Type 0
IsWrong subs reached holder (site.Spawn line f) w = IsWrongShip subs line f w
IsWrong subs reached holder (site.Collective line) w = IsWrongCollective reached holder line w

-- all that stands in a part may stand there
pub record IsPlain (subs : List SubR) (reached : Bool) (sites : List Site) : Type 0 where
  pub may : (s : Site) → Contains sites s → MayStand subs reached s

-- something is wrong at one of the places of a part
pub record BreaksIn (subs : List SubR) (reached : Bool) (holder : List ℕ) (sites : List Site) (f : ShipFault) : Type 0 where
  pub site : Site
  pub among : Contains sites site
  pub wrong : IsWrong subs reached holder site f
