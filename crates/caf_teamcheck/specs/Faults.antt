-- How a program may break the rule on what is shipped.
use Rattle.std.specs.Prelude.{◌≡◌, ℕ, false, List, Some, slice_get, Contains}
use Rattle.std.specs.List.{flat_map}
use Rattle.caf_program.specs.declared.program.DummyR.{DummyR}
use Rattle.caf_program.specs.declared.program.SubR.{SubR}
use Rattle.caf_program.specs.declared.program.Program.{Program}
use Rattle.caf_program.specs.Ships.{Shipped, Reaches, calls_of, shipped_in, spawns_of, collectives_in, is_in}
use Rattle.caf_teamcheck.specs.declared.fault.ShipFault.{ShipFault}
use Rattle.caf_teamcheck.specs.declared.fault.ShipFault.TheVariants as fault

-- a `finish` or `team_split` stands on the line, in a subroutine of the name, which is shipped, or reached by calls
-- from one that is
pub record HoldsCollective (p : Program) (line : ℕ) (name : List ℕ) : Type 0 where
  pub at : ℕ
  pub sub : SubR
  pub is : slice_get p.subs at ≡ Some sub
  pub reached : Reaches (calls_of p) (shipped_in p) at
  pub holds : Contains (flat_map collectives_in sub.body) line
  pub named : name ≡ sub.name

-- a `spawn` stands on the line, of a subroutine that has a dummy of the name which isn't `intent(in)`
pub record ShipsInout (p : Program) (line : ℕ) (name : List ℕ) : Type 0 where
  pub spawn : Shipped
  pub sub : SubR
  pub dummy : DummyR
  pub among : Contains (spawns_of p) spawn
  pub stands : spawn.line ≡ line
  pub is : slice_get p.subs spawn.sub ≡ Some sub
  pub has : Contains sub.dummies dummy
  pub inout : is_in dummy.intent ≡ false
  pub named : name ≡ dummy.name

-- the rule is broken as the fault says; want of memory says nothing
abbrev pub Breaks : Program → ShipFault → Type 0
Breaks p (fault.CollectiveInShip line name) = HoldsCollective p line name
Breaks p (fault.InoutInShip line name) = ShipsInout p line name
Breaks p fault.Memory = Unit {0}

abbrev pub IsMemory : ShipFault → Type 0
IsMemory fault.Memory = Unit {0}
IsMemory _ = ⊥
