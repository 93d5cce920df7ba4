-- Codes of small cases, and the shapes at their addresses.
use Rattle.std.specs.Prelude.{ℕ, Bool, List, [], ◌∷◌, true, false, codes, Option, Some, None, pos, negsuc}
use Rattle.caf_base.specs.declared.effect.Effect.{Effect}
use Rattle.caf_base.specs.declared.effect.Effect.TheVariants as effect
use Rattle.caf_base.specs.declared.fence.Down.TheVariants as down
use Rattle.caf_base.specs.declared.object.Kind.TheVariants as kind
use Rattle.caf_base.specs.declared.object.Object.{Object}
use Rattle.caf_code.specs.Tables.{at_height}
use Rattle.caf_code.specs.Shapes.{IsEvent, IsSection, Shape, Sort}
use Rattle.caf_code.specs.Tables.{Row}
use Rattle.caf_code.specs.declared.instr.Arithmetic.TheVariants as arithmetic
use Rattle.caf_code.specs.declared.instr.CellUse.TheVariants as cell
use Rattle.caf_code.specs.declared.instr.ElementForm.TheVariants as element
use Rattle.caf_code.specs.declared.instr.EventUse.TheVariants as event
use Rattle.caf_code.specs.declared.instr.Instr.TheVariants as instr
use Rattle.caf_code.specs.declared.instr.Logical.TheVariants as logical
use Rattle.caf_code.specs.declared.instr.OutForm.TheVariants as out
use Rattle.caf_code.specs.declared.instr.PlaceForm.TheVariants as at
use Rattle.caf_code.specs.declared.instr.Printed.TheVariants as printed
use Rattle.caf_code.specs.declared.instr.RangeForm.TheVariants as form
use Rattle.caf_code.specs.declared.instr.Reach.TheVariants as reach
use Rattle.caf_code.specs.declared.instr.Relation.TheVariants as relation
use Rattle.caf_code.specs.declared.instr.Role.TheVariants as role
use Rattle.caf_code.specs.declared.instr.SectionForm.TheVariants as section
use Rattle.caf_code.specs.declared.instr.SectionUse.TheVariants as purpose
use Rattle.caf_code.specs.declared.instr.TeamName.TheVariants as team
use Rattle.caf_code.specs.declared.instr.TeamQuery.TheVariants as query
use Rattle.caf_code.specs.declared.listing.Listing.{Listing}
use Rattle.caf_code.specs.declared.listing.SubCode.{SubCode}

-- a shape with so many operands, values held, loops, things listed, places for copy out and finishes
abbrev pub of_shape : ℕ → ℕ → ℕ → List Sort → ℕ → ℕ → Option Shape
of_shape stack held loops listed outs finishes = Some (record { stack = stack; held = held; loops = loops; listed = listed; outs = outs; finishes = finishes })

-- an integer scalar, an integer array from 0 to 3, two events, a team, a copointer, and an array of 300 elements
abbrev pub six_objects : List Object
six_objects =
    record { kind = kind.Integer; lower = pos 1; extent = 1; shared = true } ∷
    record { kind = kind.Integer; lower = pos 0; extent = 4; shared = true } ∷
    record { kind = kind.Event; lower = pos 1; extent = 2; shared = true } ∷
    record { kind = kind.Team; lower = pos 1; extent = 1; shared = true } ∷
    record { kind = kind.CoInteger; lower = pos 1; extent = 1; shared = true } ∷
    record { kind = kind.Integer; lower = pos 1; extent = 300; shared = true } ∷ []

-- Blocking reads and writes, and what a copointer aims at, by the number of the image.
abbrev pub accesses_code : Listing
accesses_code = record {
  objects = six_objects;
  subs = [];
  texts = [];
  instrs =
      instr.Team query.Rank team.World ∷
      instr.Push (pos 0) ∷
      instr.Relation relation.Equal ∷
      instr.Test 13 ∷
      instr.Push (pos 2) ∷
      instr.Push (pos 1) ∷
      instr.Ask (element.Coindexed 1 at.World) ∷
      instr.Held 0 ∷
      instr.Push (pos 1) ∷
      instr.Arithmetic arithmetic.Add ∷
      instr.Print printed.Number ∷
      instr.Line ∷
      instr.Go 92 ∷
      instr.Team query.Rank team.World ∷
      instr.Push (pos 1) ∷
      instr.Relation relation.Equal ∷
      instr.Test 22 ∷
      instr.Push (pos 4) ∷
      instr.Push (pos 99) ∷
      instr.Ask (element.Coindexed 1 at.World) ∷
      instr.Next ∷
      instr.Go 92 ∷
      instr.Team query.Rank team.World ∷
      instr.Push (pos 2) ∷
      instr.Relation relation.Equal ∷
      instr.Test 31 ∷
      instr.Push (pos 2) ∷
      instr.Push (pos 99) ∷
      instr.Ask (element.Coindexed 1 (at.Of 3)) ∷
      instr.Next ∷
      instr.Go 92 ∷
      instr.Team query.Rank team.World ∷
      instr.Push (pos 3) ∷
      instr.Relation relation.Equal ∷
      instr.Test 40 ∷
      instr.Push (pos 2) ∷
      instr.Push (pos 99) ∷
      instr.Ask (element.Coindexed 1 at.World) ∷
      instr.Next ∷
      instr.Go 92 ∷
      instr.Team query.Rank team.World ∷
      instr.Push (pos 4) ∷
      instr.Relation relation.Equal ∷
      instr.Test 50 ∷
      instr.Push (pos 3) ∷
      instr.Push (pos 1) ∷
      instr.Push (pos 7) ∷
      instr.Put (element.Coindexed 1 at.World) ∷
      instr.Next ∷
      instr.Go 92 ∷
      instr.Team query.Rank team.World ∷
      instr.Push (pos 5) ∷
      instr.Relation relation.Equal ∷
      instr.Test 58 ∷
      instr.Push (pos 4) ∷
      instr.Push (pos 7) ∷
      instr.Put (element.Coindexed 1 at.Own) ∷
      instr.Go 92 ∷
      instr.Team query.Rank team.World ∷
      instr.Push (pos 6) ∷
      instr.Relation relation.Equal ∷
      instr.Test 76 ∷
      instr.Push (pos 1) ∷
      instr.Push (pos 2) ∷
      instr.Section (section.Region 1 form.Between at.Own) ∷
      instr.Use (purpose.Aim 4) ∷
      instr.Push (pos 2) ∷
      instr.Ask (element.Pointed 4) ∷
      instr.Next ∷
      instr.Push (pos 1) ∷
      instr.Push (pos 8) ∷
      instr.Put (element.Pointed 4) ∷
      instr.Push (pos 3) ∷
      instr.Ask (element.Pointed 4) ∷
      instr.Next ∷
      instr.Go 92 ∷
      instr.Team query.Rank team.World ∷
      instr.Push (pos 7) ∷
      instr.Relation relation.Equal ∷
      instr.Test 84 ∷
      instr.Push (pos 1) ∷
      instr.Ask (element.Pointed 4) ∷
      instr.Next ∷
      instr.Go 92 ∷
      instr.Team query.Rank team.World ∷
      instr.Push (pos 8) ∷
      instr.Relation relation.Equal ∷
      instr.Test 92 ∷
      instr.Push (pos 3) ∷
      instr.Push (pos 4) ∷
      instr.Section (section.Region 1 form.Between at.Own) ∷
      instr.Use (purpose.Aim 4) ∷
      instr.Close ∷
      instr.Halt ∷ [];
}

abbrev pub accesses_main : Row
accesses_main = at_height 0 0 1 ∷ at_height 1 0 1 ∷ at_height 2 0 1 ∷ at_height 1 0 1 ∷ at_height 0 0 1 ∷ at_height 1 0 1 ∷ at_height 2 0 1 ∷ of_shape 0 1 0 ([]) 0 1 ∷ of_shape 1 1 0 ([]) 0 1 ∷ of_shape 2 1 0 ([]) 0 1 ∷ of_shape 1 1 0 ([]) 0 1 ∷ of_shape 0 1 0 ([]) 0 1 ∷ at_height 0 0 1 ∷ at_height 0 0 1 ∷ at_height 1 0 1 ∷ at_height 2 0 1 ∷ at_height 1 0 1 ∷ at_height 0 0 1 ∷ at_height 1 0 1 ∷ at_height 2 0 1 ∷ of_shape 0 1 0 ([]) 0 1 ∷ at_height 0 0 1 ∷ at_height 0 0 1 ∷ at_height 1 0 1 ∷ at_height 2 0 1 ∷ at_height 1 0 1 ∷ at_height 0 0 1 ∷ at_height 1 0 1 ∷ at_height 2 0 1 ∷ of_shape 0 1 0 ([]) 0 1 ∷ at_height 0 0 1 ∷ at_height 0 0 1 ∷ at_height 1 0 1 ∷ at_height 2 0 1 ∷ at_height 1 0 1 ∷ at_height 0 0 1 ∷ at_height 1 0 1 ∷ at_height 2 0 1 ∷ of_shape 0 1 0 ([]) 0 1 ∷ at_height 0 0 1 ∷ at_height 0 0 1 ∷ at_height 1 0 1 ∷ at_height 2 0 1 ∷ at_height 1 0 1 ∷ at_height 0 0 1 ∷ at_height 1 0 1 ∷ at_height 2 0 1 ∷ at_height 3 0 1 ∷ at_height 0 0 1 ∷ at_height 0 0 1 ∷ at_height 0 0 1 ∷ at_height 1 0 1 ∷ at_height 2 0 1 ∷ at_height 1 0 1 ∷ at_height 0 0 1 ∷ at_height 1 0 1 ∷ at_height 2 0 1 ∷ at_height 0 0 1 ∷ at_height 0 0 1 ∷ at_height 1 0 1 ∷ at_height 2 0 1 ∷ at_height 1 0 1 ∷ at_height 0 0 1 ∷ at_height 1 0 1 ∷ at_height 2 0 1 ∷ of_shape 0 0 0 (IsSection ∷ []) 0 1 ∷ at_height 0 0 1 ∷ at_height 1 0 1 ∷ of_shape 0 1 0 ([]) 0 1 ∷ at_height 0 0 1 ∷ at_height 1 0 1 ∷ at_height 2 0 1 ∷ at_height 0 0 1 ∷ at_height 1 0 1 ∷ of_shape 0 1 0 ([]) 0 1 ∷ at_height 0 0 1 ∷ at_height 0 0 1 ∷ at_height 1 0 1 ∷ at_height 2 0 1 ∷ at_height 1 0 1 ∷ at_height 0 0 1 ∷ at_height 1 0 1 ∷ of_shape 0 1 0 ([]) 0 1 ∷ at_height 0 0 1 ∷ at_height 0 0 1 ∷ at_height 1 0 1 ∷ at_height 2 0 1 ∷ at_height 1 0 1 ∷ at_height 0 0 1 ∷ at_height 1 0 1 ∷ at_height 2 0 1 ∷ of_shape 0 0 0 (IsSection ∷ []) 0 1 ∷ at_height 0 0 1 ∷ at_height 0 0 0 ∷ []

abbrev pub accesses_subs : List Row
accesses_subs = []

-- Notices, waits, copies, fences and ships, by the number of the image.
abbrev pub messages_code : Listing
messages_code = record {
  objects = six_objects;
  subs = record { address = 104; dummies = false ∷ []; locals = 0 } ∷ [];
  texts = [];
  instrs =
      instr.Team query.Rank team.World ∷
      instr.Push (pos 0) ∷
      instr.Relation relation.Equal ∷
      instr.Test 8 ∷
      instr.Push (pos 2) ∷
      instr.Push (pos 0) ∷
      instr.Event (event.Notify 2 at.World) ∷
      instr.Go 102 ∷
      instr.Team query.Rank team.World ∷
      instr.Push (pos 1) ∷
      instr.Relation relation.Equal ∷
      instr.Test 16 ∷
      instr.Push (pos 3) ∷
      instr.Push (pos 0) ∷
      instr.Event (event.Notify 2 at.World) ∷
      instr.Go 102 ∷
      instr.Team query.Rank team.World ∷
      instr.Push (pos 2) ∷
      instr.Relation relation.Equal ∷
      instr.Test 26 ∷
      instr.Push (pos 2) ∷
      instr.Event (event.Wait 2) ∷
      instr.Push (pos 2) ∷
      instr.Event (event.Wait 2) ∷
      instr.Next ∷
      instr.Go 102 ∷
      instr.Team query.Rank team.World ∷
      instr.Push (pos 3) ∷
      instr.Relation relation.Equal ∷
      instr.Test 33 ∷
      instr.Push (pos 0) ∷
      instr.Event (event.Wait 2) ∷
      instr.Go 102 ∷
      instr.Team query.Rank team.World ∷
      instr.Push (pos 4) ∷
      instr.Relation relation.Equal ∷
      instr.Test 48 ∷
      instr.Push (pos 0) ∷
      instr.Push (pos 1) ∷
      instr.Push (pos 2) ∷
      instr.Section (section.Region 1 form.Between at.World) ∷
      instr.Push (pos 2) ∷
      instr.Push (pos 3) ∷
      instr.Section (section.Region 1 form.Between at.Own) ∷
      instr.Push (pos 1) ∷
      instr.EventAt 2 at.Own role.Deste ∷
      instr.Use purpose.Copy ∷
      instr.Go 102 ∷
      instr.Team query.Rank team.World ∷
      instr.Push (pos 5) ∷
      instr.Relation relation.Equal ∷
      instr.Test 57 ∷
      instr.Section (section.Region 1 form.All at.Own) ∷
      instr.Push (pos 0) ∷
      instr.Section (section.Region 1 form.Cell at.Own) ∷
      instr.Use purpose.Copy ∷
      instr.Go 102 ∷
      instr.Team query.Rank team.World ∷
      instr.Push (pos 6) ∷
      instr.Relation relation.Equal ∷
      instr.Test 65 ∷
      instr.Section (section.Region 5 form.All at.Own) ∷
      instr.Section (section.Region 5 form.All at.Own) ∷
      instr.Use purpose.Copy ∷
      instr.Go 102 ∷
      instr.Team query.Rank team.World ∷
      instr.Push (pos 7) ∷
      instr.Relation relation.Equal ∷
      instr.Test 77 ∷
      instr.Push (pos 0) ∷
      instr.Section (section.Region 1 form.Cell at.Own) ∷
      instr.Push (pos 1) ∷
      instr.Section (section.Region 1 form.Cell at.Own) ∷
      instr.Push (pos 3) ∷
      instr.EventAt 2 at.Own role.Pre ∷
      instr.Use purpose.Copy ∷
      instr.Go 102 ∷
      instr.Team query.Rank team.World ∷
      instr.Push (pos 8) ∷
      instr.Relation relation.Equal ∷
      instr.Test 85 ∷
      instr.Cofence down.Any ∷
      instr.Cofence down.Read ∷
      instr.Next ∷
      instr.Go 102 ∷
      instr.Team query.Rank team.World ∷
      instr.Push (pos 9) ∷
      instr.Relation relation.Equal ∷
      instr.Test 95 ∷
      instr.Push (pos 1) ∷
      instr.EventAt 2 at.Own role.Done ∷
      instr.Push (pos 5) ∷
      instr.Push (pos 1) ∷
      instr.Spawn 0 at.World ∷
      instr.Go 102 ∷
      instr.Team query.Rank team.World ∷
      instr.Push (pos 10) ∷
      instr.Relation relation.Equal ∷
      instr.Test 102 ∷
      instr.Push (pos 5) ∷
      instr.Push (pos 99) ∷
      instr.Spawn 0 at.World ∷
      instr.Close ∷
      instr.Halt ∷
      instr.Cell cell.Get 0 ∷
      instr.Print printed.Number ∷
      instr.Line ∷
      instr.Ret ∷ [];
}

abbrev pub messages_main : Row
messages_main = at_height 0 0 1 ∷ at_height 1 0 1 ∷ at_height 2 0 1 ∷ at_height 1 0 1 ∷ at_height 0 0 1 ∷ at_height 1 0 1 ∷ at_height 2 0 1 ∷ at_height 0 0 1 ∷ at_height 0 0 1 ∷ at_height 1 0 1 ∷ at_height 2 0 1 ∷ at_height 1 0 1 ∷ at_height 0 0 1 ∷ at_height 1 0 1 ∷ at_height 2 0 1 ∷ at_height 0 0 1 ∷ at_height 0 0 1 ∷ at_height 1 0 1 ∷ at_height 2 0 1 ∷ at_height 1 0 1 ∷ at_height 0 0 1 ∷ at_height 1 0 1 ∷ at_height 0 0 1 ∷ at_height 1 0 1 ∷ at_height 0 0 1 ∷ at_height 0 0 1 ∷ at_height 0 0 1 ∷ at_height 1 0 1 ∷ at_height 2 0 1 ∷ at_height 1 0 1 ∷ at_height 0 0 1 ∷ at_height 1 0 1 ∷ at_height 0 0 1 ∷ at_height 0 0 1 ∷ at_height 1 0 1 ∷ at_height 2 0 1 ∷ at_height 1 0 1 ∷ at_height 0 0 1 ∷ at_height 1 0 1 ∷ at_height 2 0 1 ∷ at_height 3 0 1 ∷ of_shape 0 0 0 (IsSection ∷ []) 0 1 ∷ of_shape 1 0 0 (IsSection ∷ []) 0 1 ∷ of_shape 2 0 0 (IsSection ∷ []) 0 1 ∷ of_shape 0 0 0 (IsSection ∷ IsSection ∷ []) 0 1 ∷ of_shape 1 0 0 (IsSection ∷ IsSection ∷ []) 0 1 ∷ of_shape 0 0 0 (IsSection ∷ IsSection ∷ IsEvent role.Deste ∷ []) 0 1 ∷ at_height 0 0 1 ∷ at_height 0 0 1 ∷ at_height 1 0 1 ∷ at_height 2 0 1 ∷ at_height 1 0 1 ∷ at_height 0 0 1 ∷ of_shape 0 0 0 (IsSection ∷ []) 0 1 ∷ of_shape 1 0 0 (IsSection ∷ []) 0 1 ∷ of_shape 0 0 0 (IsSection ∷ IsSection ∷ []) 0 1 ∷ at_height 0 0 1 ∷ at_height 0 0 1 ∷ at_height 1 0 1 ∷ at_height 2 0 1 ∷ at_height 1 0 1 ∷ at_height 0 0 1 ∷ of_shape 0 0 0 (IsSection ∷ []) 0 1 ∷ of_shape 0 0 0 (IsSection ∷ IsSection ∷ []) 0 1 ∷ at_height 0 0 1 ∷ at_height 0 0 1 ∷ at_height 1 0 1 ∷ at_height 2 0 1 ∷ at_height 1 0 1 ∷ at_height 0 0 1 ∷ at_height 1 0 1 ∷ of_shape 0 0 0 (IsSection ∷ []) 0 1 ∷ of_shape 1 0 0 (IsSection ∷ []) 0 1 ∷ of_shape 0 0 0 (IsSection ∷ IsSection ∷ []) 0 1 ∷ of_shape 1 0 0 (IsSection ∷ IsSection ∷ []) 0 1 ∷ of_shape 0 0 0 (IsSection ∷ IsSection ∷ IsEvent role.Pre ∷ []) 0 1 ∷ at_height 0 0 1 ∷ at_height 0 0 1 ∷ at_height 1 0 1 ∷ at_height 2 0 1 ∷ at_height 1 0 1 ∷ at_height 0 0 1 ∷ at_height 0 0 1 ∷ at_height 0 0 1 ∷ at_height 0 0 1 ∷ at_height 0 0 1 ∷ at_height 1 0 1 ∷ at_height 2 0 1 ∷ at_height 1 0 1 ∷ at_height 0 0 1 ∷ at_height 1 0 1 ∷ of_shape 0 0 0 (IsEvent role.Done ∷ []) 0 1 ∷ of_shape 1 0 0 (IsEvent role.Done ∷ []) 0 1 ∷ of_shape 2 0 0 (IsEvent role.Done ∷ []) 0 1 ∷ at_height 0 0 1 ∷ at_height 0 0 1 ∷ at_height 1 0 1 ∷ at_height 2 0 1 ∷ at_height 1 0 1 ∷ at_height 0 0 1 ∷ at_height 1 0 1 ∷ at_height 2 0 1 ∷ at_height 0 0 1 ∷ at_height 0 0 0 ∷ []

abbrev messages_sub_0 : Row
messages_sub_0 = None ∷ None ∷ None ∷ None ∷ None ∷ None ∷ None ∷ None ∷ None ∷ None ∷ None ∷ None ∷ None ∷ None ∷ None ∷ None ∷ None ∷ None ∷ None ∷ None ∷ None ∷ None ∷ None ∷ None ∷ None ∷ None ∷ None ∷ None ∷ None ∷ None ∷ None ∷ None ∷ None ∷ None ∷ None ∷ None ∷ None ∷ None ∷ None ∷ None ∷ None ∷ None ∷ None ∷ None ∷ None ∷ None ∷ None ∷ None ∷ None ∷ None ∷ None ∷ None ∷ None ∷ None ∷ None ∷ None ∷ None ∷ None ∷ None ∷ None ∷ None ∷ None ∷ None ∷ None ∷ None ∷ None ∷ None ∷ None ∷ None ∷ None ∷ None ∷ None ∷ None ∷ None ∷ None ∷ None ∷ None ∷ None ∷ None ∷ None ∷ None ∷ None ∷ None ∷ None ∷ None ∷ None ∷ None ∷ None ∷ None ∷ None ∷ None ∷ None ∷ None ∷ None ∷ None ∷ None ∷ None ∷ None ∷ None ∷ None ∷ None ∷ None ∷ None ∷ None ∷ at_height 0 0 0 ∷ at_height 1 0 0 ∷ at_height 0 0 0 ∷ at_height 0 0 0 ∷ []

abbrev pub messages_subs : List Row
messages_subs = messages_sub_0 ∷ []

-- Finishes, splits and calls, by the number of the image.
abbrev pub teams_code : Listing
teams_code = record {
  objects = six_objects;
  subs = record { address = 98; dummies = true ∷ []; locals = 0 } ∷ record { address = 104; dummies = true ∷ []; locals = 1 } ∷ [];
  texts = [];
  instrs =
      instr.Team query.Rank team.World ∷
      instr.Push (pos 0) ∷
      instr.Relation relation.Equal ∷
      instr.Test 11 ∷
      instr.Finish team.World ∷
      instr.Push (pos 1) ∷
      instr.Print printed.Number ∷
      instr.Line ∷
      instr.Close ∷
      instr.Next ∷
      instr.Go 96 ∷
      instr.Team query.Rank team.World ∷
      instr.Push (pos 1) ∷
      instr.Relation relation.Equal ∷
      instr.Test 19 ∷
      instr.Finish (team.Object 3) ∷
      instr.Close ∷
      instr.Next ∷
      instr.Go 96 ∷
      instr.Team query.Rank team.World ∷
      instr.Push (pos 2) ∷
      instr.Relation relation.Equal ∷
      instr.Test 35 ∷
      instr.Push (pos 3) ∷
      instr.Push (negsuc 0) ∷
      instr.Split team.World 3 ∷
      instr.Team query.Rank (team.Object 3) ∷
      instr.Print printed.Number ∷
      instr.Team query.Size (team.Object 3) ∷
      instr.Print printed.Number ∷
      instr.Line ∷
      instr.Finish (team.Object 3) ∷
      instr.Close ∷
      instr.Next ∷
      instr.Go 96 ∷
      instr.Team query.Rank team.World ∷
      instr.Push (pos 3) ∷
      instr.Relation relation.Equal ∷
      instr.Test 43 ∷
      instr.Push (pos 3) ∷
      instr.Push (pos 1) ∷
      instr.Split (team.Object 3) 3 ∷
      instr.Go 96 ∷
      instr.Team query.Rank team.World ∷
      instr.Push (pos 4) ∷
      instr.Relation relation.Equal ∷
      instr.Test 51 ∷
      instr.Team query.Rank (team.Object 3) ∷
      instr.Print printed.Number ∷
      instr.Line ∷
      instr.Go 96 ∷
      instr.Team query.Rank team.World ∷
      instr.Push (pos 5) ∷
      instr.Relation relation.Equal ∷
      instr.Test 64 ∷
      instr.Push (pos 5) ∷
      instr.Store reach.Scalar 0 ∷
      instr.Out (out.Scalar 0) ∷
      instr.Load reach.Scalar 0 ∷
      instr.Call 0 ∷
      instr.Load reach.Scalar 0 ∷
      instr.Print printed.Number ∷
      instr.Line ∷
      instr.Go 96 ∷
      instr.Team query.Rank team.World ∷
      instr.Push (pos 6) ∷
      instr.Relation relation.Equal ∷
      instr.Test 77 ∷
      instr.Push (pos 2) ∷
      instr.Out (out.Element 1) ∷
      instr.Push (pos 40) ∷
      instr.Call 0 ∷
      instr.Push (pos 2) ∷
      instr.Load reach.Element 1 ∷
      instr.Print printed.Number ∷
      instr.Line ∷
      instr.Go 96 ∷
      instr.Team query.Rank team.World ∷
      instr.Push (pos 7) ∷
      instr.Relation relation.Equal ∷
      instr.Test 86 ∷
      instr.Push (pos 4) ∷
      instr.Out (out.Element 1) ∷
      instr.Push (pos 0) ∷
      instr.Call 0 ∷
      instr.Go 96 ∷
      instr.Team query.Rank team.World ∷
      instr.Push (pos 8) ∷
      instr.Relation relation.Equal ∷
      instr.Test 96 ∷
      instr.Out (out.Scalar 0) ∷
      instr.Push (pos 20) ∷
      instr.Call 1 ∷
      instr.Load reach.Scalar 0 ∷
      instr.Print printed.Number ∷
      instr.Line ∷
      instr.Close ∷
      instr.Halt ∷
      instr.Cell cell.Get 0 ∷
      instr.Push (pos 1) ∷
      instr.Arithmetic arithmetic.Add ∷
      instr.Cell cell.Set 0 ∷
      instr.Next ∷
      instr.Ret ∷
      instr.Push (pos 10) ∷
      instr.Cell cell.Set 1 ∷
      instr.Out (out.Local 1) ∷
      instr.Cell cell.Get 1 ∷
      instr.Call 0 ∷
      instr.Cell cell.Get 1 ∷
      instr.Cell cell.Set 0 ∷
      instr.Next ∷
      instr.Ret ∷ [];
}

abbrev pub teams_main : Row
teams_main = at_height 0 0 1 ∷ at_height 1 0 1 ∷ at_height 2 0 1 ∷ at_height 1 0 1 ∷ at_height 0 0 1 ∷ at_height 0 0 2 ∷ at_height 1 0 2 ∷ at_height 0 0 2 ∷ at_height 0 0 2 ∷ at_height 0 0 1 ∷ at_height 0 0 1 ∷ at_height 0 0 1 ∷ at_height 1 0 1 ∷ at_height 2 0 1 ∷ at_height 1 0 1 ∷ at_height 0 0 1 ∷ at_height 0 0 2 ∷ at_height 0 0 1 ∷ at_height 0 0 1 ∷ at_height 0 0 1 ∷ at_height 1 0 1 ∷ at_height 2 0 1 ∷ at_height 1 0 1 ∷ at_height 0 0 1 ∷ at_height 1 0 1 ∷ at_height 2 0 1 ∷ at_height 0 0 1 ∷ at_height 1 0 1 ∷ at_height 0 0 1 ∷ at_height 1 0 1 ∷ at_height 0 0 1 ∷ at_height 0 0 1 ∷ at_height 0 0 2 ∷ at_height 0 0 1 ∷ at_height 0 0 1 ∷ at_height 0 0 1 ∷ at_height 1 0 1 ∷ at_height 2 0 1 ∷ at_height 1 0 1 ∷ at_height 0 0 1 ∷ at_height 1 0 1 ∷ at_height 2 0 1 ∷ at_height 0 0 1 ∷ at_height 0 0 1 ∷ at_height 1 0 1 ∷ at_height 2 0 1 ∷ at_height 1 0 1 ∷ at_height 0 0 1 ∷ at_height 1 0 1 ∷ at_height 0 0 1 ∷ at_height 0 0 1 ∷ at_height 0 0 1 ∷ at_height 1 0 1 ∷ at_height 2 0 1 ∷ at_height 1 0 1 ∷ at_height 0 0 1 ∷ at_height 1 0 1 ∷ at_height 0 0 1 ∷ of_shape 0 0 0 ([]) 1 1 ∷ of_shape 1 0 0 ([]) 1 1 ∷ at_height 0 0 1 ∷ at_height 1 0 1 ∷ at_height 0 0 1 ∷ at_height 0 0 1 ∷ at_height 0 0 1 ∷ at_height 1 0 1 ∷ at_height 2 0 1 ∷ at_height 1 0 1 ∷ at_height 0 0 1 ∷ at_height 1 0 1 ∷ of_shape 0 0 0 ([]) 1 1 ∷ of_shape 1 0 0 ([]) 1 1 ∷ at_height 0 0 1 ∷ at_height 1 0 1 ∷ at_height 1 0 1 ∷ at_height 0 0 1 ∷ at_height 0 0 1 ∷ at_height 0 0 1 ∷ at_height 1 0 1 ∷ at_height 2 0 1 ∷ at_height 1 0 1 ∷ at_height 0 0 1 ∷ at_height 1 0 1 ∷ of_shape 0 0 0 ([]) 1 1 ∷ of_shape 1 0 0 ([]) 1 1 ∷ at_height 0 0 1 ∷ at_height 0 0 1 ∷ at_height 1 0 1 ∷ at_height 2 0 1 ∷ at_height 1 0 1 ∷ at_height 0 0 1 ∷ of_shape 0 0 0 ([]) 1 1 ∷ of_shape 1 0 0 ([]) 1 1 ∷ at_height 0 0 1 ∷ at_height 1 0 1 ∷ at_height 0 0 1 ∷ at_height 0 0 1 ∷ at_height 0 0 0 ∷ []

abbrev teams_sub_0 : Row
teams_sub_0 = None ∷ None ∷ None ∷ None ∷ None ∷ None ∷ None ∷ None ∷ None ∷ None ∷ None ∷ None ∷ None ∷ None ∷ None ∷ None ∷ None ∷ None ∷ None ∷ None ∷ None ∷ None ∷ None ∷ None ∷ None ∷ None ∷ None ∷ None ∷ None ∷ None ∷ None ∷ None ∷ None ∷ None ∷ None ∷ None ∷ None ∷ None ∷ None ∷ None ∷ None ∷ None ∷ None ∷ None ∷ None ∷ None ∷ None ∷ None ∷ None ∷ None ∷ None ∷ None ∷ None ∷ None ∷ None ∷ None ∷ None ∷ None ∷ None ∷ None ∷ None ∷ None ∷ None ∷ None ∷ None ∷ None ∷ None ∷ None ∷ None ∷ None ∷ None ∷ None ∷ None ∷ None ∷ None ∷ None ∷ None ∷ None ∷ None ∷ None ∷ None ∷ None ∷ None ∷ None ∷ None ∷ None ∷ None ∷ None ∷ None ∷ None ∷ None ∷ None ∷ None ∷ None ∷ None ∷ None ∷ None ∷ None ∷ at_height 0 0 0 ∷ at_height 1 0 0 ∷ at_height 2 0 0 ∷ at_height 1 0 0 ∷ at_height 0 0 0 ∷ at_height 0 0 0 ∷ []

abbrev teams_sub_1 : Row
teams_sub_1 = None ∷ None ∷ None ∷ None ∷ None ∷ None ∷ None ∷ None ∷ None ∷ None ∷ None ∷ None ∷ None ∷ None ∷ None ∷ None ∷ None ∷ None ∷ None ∷ None ∷ None ∷ None ∷ None ∷ None ∷ None ∷ None ∷ None ∷ None ∷ None ∷ None ∷ None ∷ None ∷ None ∷ None ∷ None ∷ None ∷ None ∷ None ∷ None ∷ None ∷ None ∷ None ∷ None ∷ None ∷ None ∷ None ∷ None ∷ None ∷ None ∷ None ∷ None ∷ None ∷ None ∷ None ∷ None ∷ None ∷ None ∷ None ∷ None ∷ None ∷ None ∷ None ∷ None ∷ None ∷ None ∷ None ∷ None ∷ None ∷ None ∷ None ∷ None ∷ None ∷ None ∷ None ∷ None ∷ None ∷ None ∷ None ∷ None ∷ None ∷ None ∷ None ∷ None ∷ None ∷ None ∷ None ∷ None ∷ None ∷ None ∷ None ∷ None ∷ None ∷ None ∷ None ∷ None ∷ None ∷ None ∷ None ∷ None ∷ None ∷ None ∷ None ∷ None ∷ None ∷ at_height 0 0 0 ∷ at_height 1 0 0 ∷ at_height 0 0 0 ∷ of_shape 0 0 0 ([]) 1 0 ∷ of_shape 1 0 0 ([]) 1 0 ∷ at_height 0 0 0 ∷ at_height 1 0 0 ∷ at_height 0 0 0 ∷ at_height 0 0 0 ∷ []

abbrev pub teams_subs : List Row
teams_subs = teams_sub_0 ∷ teams_sub_1 ∷ []

-- Small programs: sums, loops, a subroutine that calls itself, printed lines, and traps of numbers and elements.
abbrev pub programs_code : Listing
programs_code = record {
  objects = six_objects;
  subs = record { address = 148; dummies = false ∷ []; locals = 0 } ∷ [];
  texts = codes "never" ∷ codes "abcdefghijabcdefghijabcdefghijabcdefghijabcdefghijabcdefghijabcdefghijabcdefghijabcdefghijabcdefghijabcdefghijabcdefghij" ∷ [];
  instrs =
      instr.Team query.Rank team.World ∷
      instr.Push (pos 0) ∷
      instr.Relation relation.Equal ∷
      instr.Test 21 ∷
      instr.Push (pos 7) ∷
      instr.Push (pos 2) ∷
      instr.Arithmetic arithmetic.Divide ∷
      instr.Arithmetic arithmetic.Negate ∷
      instr.Print printed.Number ∷
      instr.Push (pos 7) ∷
      instr.Arithmetic arithmetic.Negate ∷
      instr.Push (pos 2) ∷
      instr.Arithmetic arithmetic.Modulo ∷
      instr.Print printed.Number ∷
      instr.Push (pos 2) ∷
      instr.Push (pos 3) ∷
      instr.Arithmetic arithmetic.Multiply ∷
      instr.Arithmetic arithmetic.Negate ∷
      instr.Print printed.Number ∷
      instr.Line ∷
      instr.Go 146 ∷
      instr.Team query.Rank team.World ∷
      instr.Push (pos 1) ∷
      instr.Relation relation.Equal ∷
      instr.Test 56 ∷
      instr.Push (pos 5) ∷
      instr.Push (pos 1) ∷
      instr.Push (pos 1) ∷
      instr.Loop ∷
      instr.Store reach.Scalar 0 ∷
      instr.Enter 38 ∷
      instr.Print (printed.Text 0) ∷
      instr.Line ∷
      instr.Load reach.Scalar 0 ∷
      instr.StepBy ∷
      instr.Arithmetic arithmetic.Add ∷
      instr.Store reach.Scalar 0 ∷
      instr.Again 31 ∷
      instr.Load reach.Scalar 0 ∷
      instr.Print printed.Number ∷
      instr.Line ∷
      instr.Push (pos 1) ∷
      instr.Push (pos 5) ∷
      instr.Push (pos 2) ∷
      instr.Loop ∷
      instr.Store reach.Scalar 0 ∷
      instr.Enter 52 ∷
      instr.Load reach.Scalar 0 ∷
      instr.StepBy ∷
      instr.Arithmetic arithmetic.Add ∷
      instr.Store reach.Scalar 0 ∷
      instr.Again 47 ∷
      instr.Load reach.Scalar 0 ∷
      instr.Print printed.Number ∷
      instr.Line ∷
      instr.Go 146 ∷
      instr.Team query.Rank team.World ∷
      instr.Push (pos 2) ∷
      instr.Relation relation.Equal ∷
      instr.Test 63 ∷
      instr.Push (pos 1) ∷
      instr.Call 0 ∷
      instr.Go 146 ∷
      instr.Team query.Rank team.World ∷
      instr.Push (pos 3) ∷
      instr.Relation relation.Equal ∷
      instr.Test 82 ∷
      instr.Push (pos 1) ∷
      instr.Push (pos 600) ∷
      instr.Push (pos 1) ∷
      instr.Loop ∷
      instr.Store reach.Scalar 0 ∷
      instr.Enter 80 ∷
      instr.Print (printed.Text 1) ∷
      instr.Line ∷
      instr.Load reach.Scalar 0 ∷
      instr.StepBy ∷
      instr.Arithmetic arithmetic.Add ∷
      instr.Store reach.Scalar 0 ∷
      instr.Again 73 ∷
      instr.Next ∷
      instr.Go 146 ∷
      instr.Team query.Rank team.World ∷
      instr.Push (pos 4) ∷
      instr.Relation relation.Equal ∷
      instr.Test 96 ∷
      instr.Push (pos 1) ∷
      instr.Push (pos 0) ∷
      instr.Logical logical.Or ∷
      instr.Print printed.Logical ∷
      instr.Push (pos 2) ∷
      instr.Logical logical.Not ∷
      instr.Print printed.Logical ∷
      instr.Print (printed.Text 0) ∷
      instr.Line ∷
      instr.Go 146 ∷
      instr.Team query.Rank team.World ∷
      instr.Push (pos 5) ∷
      instr.Relation relation.Equal ∷
      instr.Test 106 ∷
      instr.Push (pos 9223372036854775807) ∷
      instr.Push (pos 1) ∷
      instr.Arithmetic arithmetic.Add ∷
      instr.Store reach.Scalar 0 ∷
      instr.Next ∷
      instr.Go 146 ∷
      instr.Team query.Rank team.World ∷
      instr.Push (pos 6) ∷
      instr.Relation relation.Equal ∷
      instr.Test 116 ∷
      instr.Push (pos 1) ∷
      instr.Push (pos 0) ∷
      instr.Arithmetic arithmetic.Divide ∷
      instr.Store reach.Scalar 0 ∷
      instr.Next ∷
      instr.Go 146 ∷
      instr.Team query.Rank team.World ∷
      instr.Push (pos 7) ∷
      instr.Relation relation.Equal ∷
      instr.Test 129 ∷
      instr.Push (pos 1) ∷
      instr.Push (pos 5) ∷
      instr.Push (pos 0) ∷
      instr.Loop ∷
      instr.Store reach.Scalar 0 ∷
      instr.Enter 127 ∷
      instr.Again 126 ∷
      instr.Next ∷
      instr.Go 146 ∷
      instr.Team query.Rank team.World ∷
      instr.Push (pos 8) ∷
      instr.Relation relation.Equal ∷
      instr.Test 138 ∷
      instr.Push (pos 4) ∷
      instr.Load reach.Element 1 ∷
      instr.Store reach.Scalar 0 ∷
      instr.Next ∷
      instr.Go 146 ∷
      instr.Team query.Rank team.World ∷
      instr.Push (pos 9) ∷
      instr.Relation relation.Equal ∷
      instr.Test 146 ∷
      instr.Push (pos 4) ∷
      instr.Push (pos 1) ∷
      instr.Store reach.Element 1 ∷
      instr.Next ∷
      instr.Close ∷
      instr.Halt ∷
      instr.Cell cell.Get 0 ∷
      instr.Print printed.Number ∷
      instr.Line ∷
      instr.Cell cell.Get 0 ∷
      instr.Push (pos 1) ∷
      instr.Arithmetic arithmetic.Add ∷
      instr.Call 0 ∷
      instr.Ret ∷ [];
}

abbrev pub programs_main : Row
programs_main = at_height 0 0 1 ∷ at_height 1 0 1 ∷ at_height 2 0 1 ∷ at_height 1 0 1 ∷ at_height 0 0 1 ∷ at_height 1 0 1 ∷ at_height 2 0 1 ∷ at_height 1 0 1 ∷ at_height 1 0 1 ∷ at_height 0 0 1 ∷ at_height 1 0 1 ∷ at_height 1 0 1 ∷ at_height 2 0 1 ∷ at_height 1 0 1 ∷ at_height 0 0 1 ∷ at_height 1 0 1 ∷ at_height 2 0 1 ∷ at_height 1 0 1 ∷ at_height 1 0 1 ∷ at_height 0 0 1 ∷ at_height 0 0 1 ∷ at_height 0 0 1 ∷ at_height 1 0 1 ∷ at_height 2 0 1 ∷ at_height 1 0 1 ∷ at_height 0 0 1 ∷ at_height 1 0 1 ∷ at_height 2 0 1 ∷ at_height 3 0 1 ∷ at_height 1 1 1 ∷ at_height 0 1 1 ∷ at_height 0 1 1 ∷ at_height 0 1 1 ∷ at_height 0 1 1 ∷ at_height 1 1 1 ∷ at_height 2 1 1 ∷ at_height 1 1 1 ∷ at_height 0 1 1 ∷ at_height 0 0 1 ∷ at_height 1 0 1 ∷ at_height 0 0 1 ∷ at_height 0 0 1 ∷ at_height 1 0 1 ∷ at_height 2 0 1 ∷ at_height 3 0 1 ∷ at_height 1 1 1 ∷ at_height 0 1 1 ∷ at_height 0 1 1 ∷ at_height 1 1 1 ∷ at_height 2 1 1 ∷ at_height 1 1 1 ∷ at_height 0 1 1 ∷ at_height 0 0 1 ∷ at_height 1 0 1 ∷ at_height 0 0 1 ∷ at_height 0 0 1 ∷ at_height 0 0 1 ∷ at_height 1 0 1 ∷ at_height 2 0 1 ∷ at_height 1 0 1 ∷ at_height 0 0 1 ∷ at_height 1 0 1 ∷ at_height 0 0 1 ∷ at_height 0 0 1 ∷ at_height 1 0 1 ∷ at_height 2 0 1 ∷ at_height 1 0 1 ∷ at_height 0 0 1 ∷ at_height 1 0 1 ∷ at_height 2 0 1 ∷ at_height 3 0 1 ∷ at_height 1 1 1 ∷ at_height 0 1 1 ∷ at_height 0 1 1 ∷ at_height 0 1 1 ∷ at_height 0 1 1 ∷ at_height 1 1 1 ∷ at_height 2 1 1 ∷ at_height 1 1 1 ∷ at_height 0 1 1 ∷ at_height 0 0 1 ∷ at_height 0 0 1 ∷ at_height 0 0 1 ∷ at_height 1 0 1 ∷ at_height 2 0 1 ∷ at_height 1 0 1 ∷ at_height 0 0 1 ∷ at_height 1 0 1 ∷ at_height 2 0 1 ∷ at_height 1 0 1 ∷ at_height 0 0 1 ∷ at_height 1 0 1 ∷ at_height 1 0 1 ∷ at_height 0 0 1 ∷ at_height 0 0 1 ∷ at_height 0 0 1 ∷ at_height 0 0 1 ∷ at_height 1 0 1 ∷ at_height 2 0 1 ∷ at_height 1 0 1 ∷ at_height 0 0 1 ∷ at_height 1 0 1 ∷ at_height 2 0 1 ∷ at_height 1 0 1 ∷ at_height 0 0 1 ∷ at_height 0 0 1 ∷ at_height 0 0 1 ∷ at_height 1 0 1 ∷ at_height 2 0 1 ∷ at_height 1 0 1 ∷ at_height 0 0 1 ∷ at_height 1 0 1 ∷ at_height 2 0 1 ∷ at_height 1 0 1 ∷ at_height 0 0 1 ∷ at_height 0 0 1 ∷ at_height 0 0 1 ∷ at_height 1 0 1 ∷ at_height 2 0 1 ∷ at_height 1 0 1 ∷ at_height 0 0 1 ∷ at_height 1 0 1 ∷ at_height 2 0 1 ∷ at_height 3 0 1 ∷ at_height 1 1 1 ∷ at_height 0 1 1 ∷ at_height 0 1 1 ∷ at_height 0 0 1 ∷ at_height 0 0 1 ∷ at_height 0 0 1 ∷ at_height 1 0 1 ∷ at_height 2 0 1 ∷ at_height 1 0 1 ∷ at_height 0 0 1 ∷ at_height 1 0 1 ∷ at_height 1 0 1 ∷ at_height 0 0 1 ∷ at_height 0 0 1 ∷ at_height 0 0 1 ∷ at_height 1 0 1 ∷ at_height 2 0 1 ∷ at_height 1 0 1 ∷ at_height 0 0 1 ∷ at_height 1 0 1 ∷ at_height 2 0 1 ∷ at_height 0 0 1 ∷ at_height 0 0 1 ∷ at_height 0 0 0 ∷ []

abbrev programs_sub_0 : Row
programs_sub_0 = None ∷ None ∷ None ∷ None ∷ None ∷ None ∷ None ∷ None ∷ None ∷ None ∷ None ∷ None ∷ None ∷ None ∷ None ∷ None ∷ None ∷ None ∷ None ∷ None ∷ None ∷ None ∷ None ∷ None ∷ None ∷ None ∷ None ∷ None ∷ None ∷ None ∷ None ∷ None ∷ None ∷ None ∷ None ∷ None ∷ None ∷ None ∷ None ∷ None ∷ None ∷ None ∷ None ∷ None ∷ None ∷ None ∷ None ∷ None ∷ None ∷ None ∷ None ∷ None ∷ None ∷ None ∷ None ∷ None ∷ None ∷ None ∷ None ∷ None ∷ None ∷ None ∷ None ∷ None ∷ None ∷ None ∷ None ∷ None ∷ None ∷ None ∷ None ∷ None ∷ None ∷ None ∷ None ∷ None ∷ None ∷ None ∷ None ∷ None ∷ None ∷ None ∷ None ∷ None ∷ None ∷ None ∷ None ∷ None ∷ None ∷ None ∷ None ∷ None ∷ None ∷ None ∷ None ∷ None ∷ None ∷ None ∷ None ∷ None ∷ None ∷ None ∷ None ∷ None ∷ None ∷ None ∷ None ∷ None ∷ None ∷ None ∷ None ∷ None ∷ None ∷ None ∷ None ∷ None ∷ None ∷ None ∷ None ∷ None ∷ None ∷ None ∷ None ∷ None ∷ None ∷ None ∷ None ∷ None ∷ None ∷ None ∷ None ∷ None ∷ None ∷ None ∷ None ∷ None ∷ None ∷ None ∷ None ∷ None ∷ None ∷ None ∷ None ∷ None ∷ None ∷ None ∷ None ∷ None ∷ at_height 0 0 0 ∷ at_height 1 0 0 ∷ at_height 0 0 0 ∷ at_height 0 0 0 ∷ at_height 1 0 0 ∷ at_height 2 0 0 ∷ at_height 1 0 0 ∷ at_height 0 0 0 ∷ []

abbrev pub programs_subs : List Row
programs_subs = programs_sub_0 ∷ []
