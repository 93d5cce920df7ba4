-- Codes of statements that trap, and the shapes at their addresses.
use Rattle.std.specs.Prelude.{List, [], ◌∷◌, false, None, pos}
use Rattle.caf_code.specs.Tables.{at_height}
use Rattle.caf_code.specs.Shapes.{IsSection, IsEvent}
use Rattle.caf_code.specs.Tables.{Row}
use Rattle.caf_code.specs.declared.instr.CellUse.TheVariants as cell
use Rattle.caf_code.specs.declared.instr.ElementForm.TheVariants as element
use Rattle.caf_code.specs.declared.instr.EventUse.TheVariants as event
use Rattle.caf_code.specs.declared.instr.Instr.TheVariants as instr
use Rattle.caf_code.specs.declared.instr.PlaceForm.TheVariants as at
use Rattle.caf_code.specs.declared.instr.Printed.TheVariants as printed
use Rattle.caf_code.specs.declared.instr.RangeForm.TheVariants as form
use Rattle.caf_code.specs.declared.instr.Relation.TheVariants as relation
use Rattle.caf_code.specs.declared.instr.Role.TheVariants as role
use Rattle.caf_code.specs.declared.instr.SectionForm.TheVariants as section
use Rattle.caf_code.specs.declared.instr.SectionUse.TheVariants as purpose
use Rattle.caf_code.specs.declared.instr.TeamName.TheVariants as team
use Rattle.caf_code.specs.declared.instr.TeamQuery.TheVariants as query
use Rattle.caf_code.specs.declared.listing.Listing.{Listing}
use Rattle.caf_vmtrials.specs.Examples.{of_shape, six_objects}

-- Writes, notices, aims and ships that trap, by the number of the image.
abbrev pub refusals_code : Listing
refusals_code = record {
  objects = six_objects;
  subs = record { address = 129; dummies = false ∷ []; locals = 0 } ∷ [];
  texts = [];
  instrs =
      instr.Team query.Rank team.World ∷
      instr.Push (pos 0) ∷
      instr.Relation relation.Equal ∷
      instr.Test 8 ∷
      instr.Push (pos 2) ∷
      instr.Push (pos 99) ∷
      instr.Push (pos 7) ∷
      instr.Put (element.Coindexed 1 (at.Of 3)) ∷
      instr.Team query.Rank team.World ∷
      instr.Push (pos 1) ∷
      instr.Relation relation.Equal ∷
      instr.Test 16 ∷
      instr.Push (pos 2) ∷
      instr.Push (pos 99) ∷
      instr.Push (pos 7) ∷
      instr.Put (element.Coindexed 1 at.World) ∷
      instr.Team query.Rank team.World ∷
      instr.Push (pos 2) ∷
      instr.Relation relation.Equal ∷
      instr.Test 23 ∷
      instr.Push (pos 1) ∷
      instr.Push (pos 7) ∷
      instr.Put (element.Pointed 4) ∷
      instr.Team query.Rank team.World ∷
      instr.Push (pos 3) ∷
      instr.Relation relation.Equal ∷
      instr.Test 34 ∷
      instr.Push (pos 1) ∷
      instr.Push (pos 2) ∷
      instr.Section (section.Region 1 form.Between at.Own) ∷
      instr.Use (purpose.Aim 4) ∷
      instr.Push (pos 3) ∷
      instr.Push (pos 7) ∷
      instr.Put (element.Pointed 4) ∷
      instr.Team query.Rank team.World ∷
      instr.Push (pos 4) ∷
      instr.Relation relation.Equal ∷
      instr.Test 41 ∷
      instr.Push (pos 1) ∷
      instr.Push (pos 99) ∷
      instr.Event (event.Notify 2 (at.Of 3)) ∷
      instr.Team query.Rank team.World ∷
      instr.Push (pos 5) ∷
      instr.Relation relation.Equal ∷
      instr.Test 48 ∷
      instr.Push (pos 1) ∷
      instr.Push (pos 99) ∷
      instr.Event (event.Notify 2 at.World) ∷
      instr.Team query.Rank team.World ∷
      instr.Push (pos 6) ∷
      instr.Relation relation.Equal ∷
      instr.Test 56 ∷
      instr.Push (pos 2) ∷
      instr.Push (pos 99) ∷
      instr.Section (section.Region 1 form.Cell at.World) ∷
      instr.Use (purpose.Aim 4) ∷
      instr.Team query.Rank team.World ∷
      instr.Push (pos 7) ∷
      instr.Relation relation.Equal ∷
      instr.Test 64 ∷
      instr.Push (pos 2) ∷
      instr.Push (pos 99) ∷
      instr.Section (section.Region 1 form.Cell (at.Of 3)) ∷
      instr.Use (purpose.Aim 4) ∷
      instr.Team query.Rank team.World ∷
      instr.Push (pos 8) ∷
      instr.Relation relation.Equal ∷
      instr.Test 70 ∷
      instr.Section (section.Pointed 4 form.All) ∷
      instr.Use (purpose.Aim 4) ∷
      instr.Team query.Rank team.World ∷
      instr.Push (pos 9) ∷
      instr.Relation relation.Equal ∷
      instr.Test 81 ∷
      instr.Push (pos 1) ∷
      instr.Push (pos 2) ∷
      instr.Section (section.Region 1 form.Between at.Own) ∷
      instr.Use (purpose.Aim 4) ∷
      instr.Push (pos 3) ∷
      instr.Section (section.Pointed 4 form.Cell) ∷
      instr.Use (purpose.Aim 4) ∷
      instr.Team query.Rank team.World ∷
      instr.Push (pos 10) ∷
      instr.Relation relation.Equal ∷
      instr.Test 88 ∷
      instr.Push (pos 5) ∷
      instr.Push (pos 99) ∷
      instr.Spawn 0 (at.Of 3) ∷
      instr.Team query.Rank team.World ∷
      instr.Push (pos 11) ∷
      instr.Relation relation.Equal ∷
      instr.Test 97 ∷
      instr.Push (pos 3) ∷
      instr.EventAt 2 at.Own role.Done ∷
      instr.Push (pos 5) ∷
      instr.Push (pos 99) ∷
      instr.Spawn 0 at.World ∷
      instr.Team query.Rank team.World ∷
      instr.Push (pos 12) ∷
      instr.Relation relation.Equal ∷
      instr.Test 104 ∷
      instr.Team query.Size (team.Object 3) ∷
      instr.Print printed.Number ∷
      instr.Line ∷
      instr.Team query.Rank team.World ∷
      instr.Push (pos 13) ∷
      instr.Relation relation.Equal ∷
      instr.Test 114 ∷
      instr.Push (pos 0) ∷
      instr.Push (pos 0) ∷
      instr.Split team.World 3 ∷
      instr.Push (pos 1) ∷
      instr.Push (pos 1) ∷
      instr.Event (event.Notify 2 (at.Of 3)) ∷
      instr.Team query.Rank team.World ∷
      instr.Push (pos 14) ∷
      instr.Relation relation.Equal ∷
      instr.Test 127 ∷
      instr.Section (section.Region 5 form.All at.Own) ∷
      instr.Use (purpose.Aim 4) ∷
      instr.Push (pos 7) ∷
      instr.Print printed.Number ∷
      instr.Push (pos 300) ∷
      instr.Ask (element.Pointed 4) ∷
      instr.Held 0 ∷
      instr.Print printed.Number ∷
      instr.Line ∷
      instr.Close ∷
      instr.Halt ∷
      instr.Cell cell.Get 0 ∷
      instr.Print printed.Number ∷
      instr.Line ∷
      instr.Ret ∷ [];
}

abbrev pub refusals_main : Row
refusals_main = at_height 0 0 1 ∷ at_height 1 0 1 ∷ at_height 2 0 1 ∷ at_height 1 0 1 ∷ at_height 0 0 1 ∷ at_height 1 0 1 ∷ at_height 2 0 1 ∷ at_height 3 0 1 ∷ at_height 0 0 1 ∷ at_height 1 0 1 ∷ at_height 2 0 1 ∷ at_height 1 0 1 ∷ at_height 0 0 1 ∷ at_height 1 0 1 ∷ at_height 2 0 1 ∷ at_height 3 0 1 ∷ at_height 0 0 1 ∷ at_height 1 0 1 ∷ at_height 2 0 1 ∷ at_height 1 0 1 ∷ at_height 0 0 1 ∷ at_height 1 0 1 ∷ at_height 2 0 1 ∷ at_height 0 0 1 ∷ at_height 1 0 1 ∷ at_height 2 0 1 ∷ at_height 1 0 1 ∷ at_height 0 0 1 ∷ at_height 1 0 1 ∷ at_height 2 0 1 ∷ of_shape 0 0 0 (IsSection ∷ []) 0 1 ∷ at_height 0 0 1 ∷ at_height 1 0 1 ∷ at_height 2 0 1 ∷ at_height 0 0 1 ∷ at_height 1 0 1 ∷ at_height 2 0 1 ∷ at_height 1 0 1 ∷ at_height 0 0 1 ∷ at_height 1 0 1 ∷ at_height 2 0 1 ∷ at_height 0 0 1 ∷ at_height 1 0 1 ∷ at_height 2 0 1 ∷ at_height 1 0 1 ∷ at_height 0 0 1 ∷ at_height 1 0 1 ∷ at_height 2 0 1 ∷ at_height 0 0 1 ∷ at_height 1 0 1 ∷ at_height 2 0 1 ∷ at_height 1 0 1 ∷ at_height 0 0 1 ∷ at_height 1 0 1 ∷ at_height 2 0 1 ∷ of_shape 0 0 0 (IsSection ∷ []) 0 1 ∷ at_height 0 0 1 ∷ at_height 1 0 1 ∷ at_height 2 0 1 ∷ at_height 1 0 1 ∷ at_height 0 0 1 ∷ at_height 1 0 1 ∷ at_height 2 0 1 ∷ of_shape 0 0 0 (IsSection ∷ []) 0 1 ∷ at_height 0 0 1 ∷ at_height 1 0 1 ∷ at_height 2 0 1 ∷ at_height 1 0 1 ∷ at_height 0 0 1 ∷ of_shape 0 0 0 (IsSection ∷ []) 0 1 ∷ at_height 0 0 1 ∷ at_height 1 0 1 ∷ at_height 2 0 1 ∷ at_height 1 0 1 ∷ at_height 0 0 1 ∷ at_height 1 0 1 ∷ at_height 2 0 1 ∷ of_shape 0 0 0 (IsSection ∷ []) 0 1 ∷ at_height 0 0 1 ∷ at_height 1 0 1 ∷ of_shape 0 0 0 (IsSection ∷ []) 0 1 ∷ at_height 0 0 1 ∷ at_height 1 0 1 ∷ at_height 2 0 1 ∷ at_height 1 0 1 ∷ at_height 0 0 1 ∷ at_height 1 0 1 ∷ at_height 2 0 1 ∷ at_height 0 0 1 ∷ at_height 1 0 1 ∷ at_height 2 0 1 ∷ at_height 1 0 1 ∷ at_height 0 0 1 ∷ at_height 1 0 1 ∷ of_shape 0 0 0 (IsEvent role.Done ∷ []) 0 1 ∷ of_shape 1 0 0 (IsEvent role.Done ∷ []) 0 1 ∷ of_shape 2 0 0 (IsEvent role.Done ∷ []) 0 1 ∷ at_height 0 0 1 ∷ at_height 1 0 1 ∷ at_height 2 0 1 ∷ at_height 1 0 1 ∷ at_height 0 0 1 ∷ at_height 1 0 1 ∷ at_height 0 0 1 ∷ at_height 0 0 1 ∷ at_height 1 0 1 ∷ at_height 2 0 1 ∷ at_height 1 0 1 ∷ at_height 0 0 1 ∷ at_height 1 0 1 ∷ at_height 2 0 1 ∷ at_height 0 0 1 ∷ at_height 1 0 1 ∷ at_height 2 0 1 ∷ at_height 0 0 1 ∷ at_height 1 0 1 ∷ at_height 2 0 1 ∷ at_height 1 0 1 ∷ at_height 0 0 1 ∷ of_shape 0 0 0 (IsSection ∷ []) 0 1 ∷ at_height 0 0 1 ∷ at_height 1 0 1 ∷ at_height 0 0 1 ∷ at_height 1 0 1 ∷ of_shape 0 1 0 ([]) 0 1 ∷ of_shape 1 1 0 ([]) 0 1 ∷ of_shape 0 1 0 ([]) 0 1 ∷ at_height 0 0 1 ∷ at_height 0 0 0 ∷ []

abbrev refusals_sub_0 : Row
refusals_sub_0 = None ∷ None ∷ None ∷ None ∷ None ∷ None ∷ None ∷ None ∷ None ∷ None ∷ None ∷ None ∷ None ∷ None ∷ None ∷ None ∷ None ∷ None ∷ None ∷ None ∷ None ∷ None ∷ None ∷ None ∷ None ∷ None ∷ None ∷ None ∷ None ∷ None ∷ None ∷ None ∷ None ∷ None ∷ None ∷ None ∷ None ∷ None ∷ None ∷ None ∷ None ∷ None ∷ None ∷ None ∷ None ∷ None ∷ None ∷ None ∷ None ∷ None ∷ None ∷ None ∷ None ∷ None ∷ None ∷ None ∷ None ∷ None ∷ None ∷ None ∷ None ∷ None ∷ None ∷ None ∷ None ∷ None ∷ None ∷ None ∷ None ∷ None ∷ None ∷ None ∷ None ∷ None ∷ None ∷ None ∷ None ∷ None ∷ None ∷ None ∷ None ∷ None ∷ None ∷ None ∷ None ∷ None ∷ None ∷ None ∷ None ∷ None ∷ None ∷ None ∷ None ∷ None ∷ None ∷ None ∷ None ∷ None ∷ None ∷ None ∷ None ∷ None ∷ None ∷ None ∷ None ∷ None ∷ None ∷ None ∷ None ∷ None ∷ None ∷ None ∷ None ∷ None ∷ None ∷ None ∷ None ∷ None ∷ None ∷ None ∷ None ∷ None ∷ None ∷ None ∷ None ∷ None ∷ None ∷ None ∷ None ∷ at_height 0 0 0 ∷ at_height 1 0 0 ∷ at_height 0 0 0 ∷ at_height 0 0 0 ∷ []

abbrev pub refusals_subs : List Row
refusals_subs = refusals_sub_0 ∷ []

-- Copies, by the number of the image.
abbrev pub copies_code : Listing
copies_code = record {
  objects = six_objects;
  subs = [];
  texts = [];
  instrs =
      instr.Team query.Rank team.World ∷
      instr.Push (pos 0) ∷
      instr.Relation relation.Equal ∷
      instr.Test 10 ∷
      instr.Push (pos 3) ∷
      instr.Push (pos 4) ∷
      instr.Push (pos 99) ∷
      instr.Section (section.Region 1 form.Between (at.Of 3)) ∷
      instr.Section (section.Region 1 form.All at.Own) ∷
      instr.Use purpose.Copy ∷
      instr.Team query.Rank team.World ∷
      instr.Push (pos 1) ∷
      instr.Relation relation.Equal ∷
      instr.Test 18 ∷
      instr.Push (pos 99) ∷
      instr.Section (section.Region 5 form.All (at.Of 3)) ∷
      instr.Section (section.Region 1 form.All at.Own) ∷
      instr.Use purpose.Copy ∷
      instr.Team query.Rank team.World ∷
      instr.Push (pos 2) ∷
      instr.Relation relation.Equal ∷
      instr.Test 26 ∷
      instr.Section (section.Region 1 form.All at.Own) ∷
      instr.Push (pos 99) ∷
      instr.Section (section.Region 1 form.All (at.Of 3)) ∷
      instr.Use purpose.Copy ∷
      instr.Team query.Rank team.World ∷
      instr.Push (pos 3) ∷
      instr.Relation relation.Equal ∷
      instr.Test 35 ∷
      instr.Push (pos 99) ∷
      instr.Section (section.Region 1 form.All at.World) ∷
      instr.Push (pos 4) ∷
      instr.Section (section.Region 1 form.Cell at.Own) ∷
      instr.Use purpose.Copy ∷
      instr.Team query.Rank team.World ∷
      instr.Push (pos 4) ∷
      instr.Relation relation.Equal ∷
      instr.Test 45 ∷
      instr.Section (section.Region 1 form.All at.Own) ∷
      instr.Push (pos 0) ∷
      instr.Section (section.Region 1 form.Cell at.Own) ∷
      instr.Push (pos 3) ∷
      instr.EventAt 2 at.Own role.Pre ∷
      instr.Use purpose.Copy ∷
      instr.Team query.Rank team.World ∷
      instr.Push (pos 5) ∷
      instr.Relation relation.Equal ∷
      instr.Test 57 ∷
      instr.Push (pos 0) ∷
      instr.Section (section.Region 1 form.Cell at.Own) ∷
      instr.Push (pos 1) ∷
      instr.Section (section.Region 1 form.Cell at.Own) ∷
      instr.Push (pos 1) ∷
      instr.Push (pos 99) ∷
      instr.EventAt 2 (at.Of 3) role.Pre ∷
      instr.Use purpose.Copy ∷
      instr.Team query.Rank team.World ∷
      instr.Push (pos 6) ∷
      instr.Relation relation.Equal ∷
      instr.Test 71 ∷
      instr.Push (pos 0) ∷
      instr.Section (section.Region 1 form.Cell at.Own) ∷
      instr.Push (pos 1) ∷
      instr.Section (section.Region 1 form.Cell at.Own) ∷
      instr.Push (pos 3) ∷
      instr.EventAt 2 at.Own role.Deste ∷
      instr.Push (pos 1) ∷
      instr.Push (pos 99) ∷
      instr.EventAt 2 at.World role.Srce ∷
      instr.Use purpose.Copy ∷
      instr.Team query.Rank team.World ∷
      instr.Push (pos 7) ∷
      instr.Relation relation.Equal ∷
      instr.Test 79 ∷
      instr.Section (section.Pointed 4 form.All) ∷
      instr.Push (pos 4) ∷
      instr.Section (section.Region 1 form.Cell at.Own) ∷
      instr.Use purpose.Copy ∷
      instr.Team query.Rank team.World ∷
      instr.Push (pos 8) ∷
      instr.Relation relation.Equal ∷
      instr.Test 92 ∷
      instr.Push (pos 1) ∷
      instr.Push (pos 2) ∷
      instr.Section (section.Region 1 form.Between at.Own) ∷
      instr.Use (purpose.Aim 4) ∷
      instr.Push (pos 3) ∷
      instr.Section (section.Pointed 4 form.Cell) ∷
      instr.Push (pos 1) ∷
      instr.Section (section.Region 1 form.Cell at.Own) ∷
      instr.Use purpose.Copy ∷
      instr.Team query.Rank team.World ∷
      instr.Push (pos 9) ∷
      instr.Relation relation.Equal ∷
      instr.Test 110 ∷
      instr.Section (section.Region 5 form.All at.Own) ∷
      instr.Use (purpose.Aim 4) ∷
      instr.Push (pos 2) ∷
      instr.Section (section.Pointed 4 form.UpTo) ∷
      instr.Push (pos 2) ∷
      instr.Section (section.Region 1 form.From at.Own) ∷
      instr.Push (pos 1) ∷
      instr.Push (pos 0) ∷
      instr.EventAt 2 at.World role.Deste ∷
      instr.Push (pos 1) ∷
      instr.EventAt 2 at.Own role.Pre ∷
      instr.Push (pos 2) ∷
      instr.EventAt 2 at.Own role.Srce ∷
      instr.Use purpose.Copy ∷
      instr.Team query.Rank team.World ∷
      instr.Push (pos 10) ∷
      instr.Relation relation.Equal ∷
      instr.Test 122 ∷
      instr.Push (pos 9) ∷
      instr.Push (pos 8) ∷
      instr.Push (pos 1) ∷
      instr.Section (section.Region 1 form.Between at.World) ∷
      instr.Push (pos 7) ∷
      instr.Push (pos 6) ∷
      instr.Section (section.Region 1 form.Between at.Own) ∷
      instr.Use purpose.Copy ∷
      instr.Close ∷
      instr.Halt ∷ [];
}

abbrev pub copies_main : Row
copies_main = at_height 0 0 1 ∷ at_height 1 0 1 ∷ at_height 2 0 1 ∷ at_height 1 0 1 ∷ at_height 0 0 1 ∷ at_height 1 0 1 ∷ at_height 2 0 1 ∷ at_height 3 0 1 ∷ of_shape 0 0 0 (IsSection ∷ []) 0 1 ∷ of_shape 0 0 0 (IsSection ∷ IsSection ∷ []) 0 1 ∷ at_height 0 0 1 ∷ at_height 1 0 1 ∷ at_height 2 0 1 ∷ at_height 1 0 1 ∷ at_height 0 0 1 ∷ at_height 1 0 1 ∷ of_shape 0 0 0 (IsSection ∷ []) 0 1 ∷ of_shape 0 0 0 (IsSection ∷ IsSection ∷ []) 0 1 ∷ at_height 0 0 1 ∷ at_height 1 0 1 ∷ at_height 2 0 1 ∷ at_height 1 0 1 ∷ at_height 0 0 1 ∷ of_shape 0 0 0 (IsSection ∷ []) 0 1 ∷ of_shape 1 0 0 (IsSection ∷ []) 0 1 ∷ of_shape 0 0 0 (IsSection ∷ IsSection ∷ []) 0 1 ∷ at_height 0 0 1 ∷ at_height 1 0 1 ∷ at_height 2 0 1 ∷ at_height 1 0 1 ∷ at_height 0 0 1 ∷ at_height 1 0 1 ∷ of_shape 0 0 0 (IsSection ∷ []) 0 1 ∷ of_shape 1 0 0 (IsSection ∷ []) 0 1 ∷ of_shape 0 0 0 (IsSection ∷ IsSection ∷ []) 0 1 ∷ at_height 0 0 1 ∷ at_height 1 0 1 ∷ at_height 2 0 1 ∷ at_height 1 0 1 ∷ at_height 0 0 1 ∷ of_shape 0 0 0 (IsSection ∷ []) 0 1 ∷ of_shape 1 0 0 (IsSection ∷ []) 0 1 ∷ of_shape 0 0 0 (IsSection ∷ IsSection ∷ []) 0 1 ∷ of_shape 1 0 0 (IsSection ∷ IsSection ∷ []) 0 1 ∷ of_shape 0 0 0 (IsSection ∷ IsSection ∷ IsEvent role.Pre ∷ []) 0 1 ∷ at_height 0 0 1 ∷ at_height 1 0 1 ∷ at_height 2 0 1 ∷ at_height 1 0 1 ∷ at_height 0 0 1 ∷ at_height 1 0 1 ∷ of_shape 0 0 0 (IsSection ∷ []) 0 1 ∷ of_shape 1 0 0 (IsSection ∷ []) 0 1 ∷ of_shape 0 0 0 (IsSection ∷ IsSection ∷ []) 0 1 ∷ of_shape 1 0 0 (IsSection ∷ IsSection ∷ []) 0 1 ∷ of_shape 2 0 0 (IsSection ∷ IsSection ∷ []) 0 1 ∷ of_shape 0 0 0 (IsSection ∷ IsSection ∷ IsEvent role.Pre ∷ []) 0 1 ∷ at_height 0 0 1 ∷ at_height 1 0 1 ∷ at_height 2 0 1 ∷ at_height 1 0 1 ∷ at_height 0 0 1 ∷ at_height 1 0 1 ∷ of_shape 0 0 0 (IsSection ∷ []) 0 1 ∷ of_shape 1 0 0 (IsSection ∷ []) 0 1 ∷ of_shape 0 0 0 (IsSection ∷ IsSection ∷ []) 0 1 ∷ of_shape 1 0 0 (IsSection ∷ IsSection ∷ []) 0 1 ∷ of_shape 0 0 0 (IsSection ∷ IsSection ∷ IsEvent role.Deste ∷ []) 0 1 ∷ of_shape 1 0 0 (IsSection ∷ IsSection ∷ IsEvent role.Deste ∷ []) 0 1 ∷ of_shape 2 0 0 (IsSection ∷ IsSection ∷ IsEvent role.Deste ∷ []) 0 1 ∷ of_shape 0 0 0 (IsSection ∷ IsSection ∷ IsEvent role.Deste ∷ IsEvent role.Srce ∷ []) 0 1 ∷ at_height 0 0 1 ∷ at_height 1 0 1 ∷ at_height 2 0 1 ∷ at_height 1 0 1 ∷ at_height 0 0 1 ∷ of_shape 0 0 0 (IsSection ∷ []) 0 1 ∷ of_shape 1 0 0 (IsSection ∷ []) 0 1 ∷ of_shape 0 0 0 (IsSection ∷ IsSection ∷ []) 0 1 ∷ at_height 0 0 1 ∷ at_height 1 0 1 ∷ at_height 2 0 1 ∷ at_height 1 0 1 ∷ at_height 0 0 1 ∷ at_height 1 0 1 ∷ at_height 2 0 1 ∷ of_shape 0 0 0 (IsSection ∷ []) 0 1 ∷ at_height 0 0 1 ∷ at_height 1 0 1 ∷ of_shape 0 0 0 (IsSection ∷ []) 0 1 ∷ of_shape 1 0 0 (IsSection ∷ []) 0 1 ∷ of_shape 0 0 0 (IsSection ∷ IsSection ∷ []) 0 1 ∷ at_height 0 0 1 ∷ at_height 1 0 1 ∷ at_height 2 0 1 ∷ at_height 1 0 1 ∷ at_height 0 0 1 ∷ of_shape 0 0 0 (IsSection ∷ []) 0 1 ∷ at_height 0 0 1 ∷ at_height 1 0 1 ∷ of_shape 0 0 0 (IsSection ∷ []) 0 1 ∷ of_shape 1 0 0 (IsSection ∷ []) 0 1 ∷ of_shape 0 0 0 (IsSection ∷ IsSection ∷ []) 0 1 ∷ of_shape 1 0 0 (IsSection ∷ IsSection ∷ []) 0 1 ∷ of_shape 2 0 0 (IsSection ∷ IsSection ∷ []) 0 1 ∷ of_shape 0 0 0 (IsSection ∷ IsSection ∷ IsEvent role.Deste ∷ []) 0 1 ∷ of_shape 1 0 0 (IsSection ∷ IsSection ∷ IsEvent role.Deste ∷ []) 0 1 ∷ of_shape 0 0 0 (IsSection ∷ IsSection ∷ IsEvent role.Deste ∷ IsEvent role.Pre ∷ []) 0 1 ∷ of_shape 1 0 0 (IsSection ∷ IsSection ∷ IsEvent role.Deste ∷ IsEvent role.Pre ∷ []) 0 1 ∷ of_shape 0 0 0 (IsSection ∷ IsSection ∷ IsEvent role.Deste ∷ IsEvent role.Pre ∷ IsEvent role.Srce ∷ []) 0 1 ∷ at_height 0 0 1 ∷ at_height 1 0 1 ∷ at_height 2 0 1 ∷ at_height 1 0 1 ∷ at_height 0 0 1 ∷ at_height 1 0 1 ∷ at_height 2 0 1 ∷ at_height 3 0 1 ∷ of_shape 0 0 0 (IsSection ∷ []) 0 1 ∷ of_shape 1 0 0 (IsSection ∷ []) 0 1 ∷ of_shape 2 0 0 (IsSection ∷ []) 0 1 ∷ of_shape 0 0 0 (IsSection ∷ IsSection ∷ []) 0 1 ∷ at_height 0 0 1 ∷ at_height 0 0 0 ∷ []

abbrev pub copies_subs : List Row
copies_subs = []
