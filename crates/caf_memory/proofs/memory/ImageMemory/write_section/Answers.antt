use Rattle.std.proofs.Common.{◌≡◌, ◌+◌, ◌<◌, ◌≤◌, ◌∙◌, sym, ap, subst, arith, ℤ, List, [], length, Some, Ok, SFits, w64}
use Rattle.std.specs.Prelude.{slice_get, slice_index_or}
use Rattle.std.proofs.lemmas.Int.{to_z-of_z}
use Rattle.caf_base.specs.ImageMemory.{ImageMemory}
use Rattle.caf_base.specs.Sections.{with_section}
use Rattle.caf_memory.specs.Bounds.{HasCells, own_section, section_trap}
use Rattle.caf_memory.specs.Kept.{seen}
use Rattle.caf_memory.proofs.Room.{none_in, some_in, section_none, section_room}
use Rattle.caf_memory.proofs.memory.ImageMemory.write_section.Goals as goal

pub returns-then-is_empty-clause-ok : goal.returns-then-is_empty-clause-ok
returns-then-is_empty-clause-ok c =
    let m : ImageMemory = c.args.self.now in
    let object = c.args.object in
    let from = c.args.from in
    let at : slice_get m.objects object ≡ Some c.unwrap-found.result = sym c.object.ensures ∙ c.unwrap-found.ensures in
    let none = none_in c.args.values.now (sym c.is_empty.ensures ∙ c.if-is_empty.true) in
    let P : List ℤ → Type 0 = λ vs. m ≡ with_section m (own_section m object from (length vs)) vs in
    subst P (sym none) (sym (section_none m object c.unwrap-found.result from at))

-- the object's cells are there, and the numbers have room in them
room : (c : goal.After-offset_of) → (c.args.object < length c.self.inside.cells.items) × (c.offset_of.result + length c.args.values.now ≤ length (slice_index_or c.self.inside.cells.items c.args.object []))
room c =
    let m : ImageMemory = seen c.self.inside in
    let object = c.args.object in
    let from = c.args.from in
    let n = length c.args.values.now in
    let found = c.unwrap-found.result in
    let fits : SFits w64 from = c.ranges.from in
    let offset = simp to_z-of_z at c.offset_of.ensures in
    let test = simp to_z-of_z at c.test_section.ensures in
    let at : slice_get m.objects object ≡ Some found = ap (λ (s : ImageMemory). slice_get s.objects object) c.self.view_is ∙ sym c.object.ensures ∙ c.unwrap-found.ensures in
    let has : HasCells m.objects object = subst (λ (s : ImageMemory). HasCells s.objects object) (sym c.self.view_is) c.requires in
    let some = some_in c.args.values.now (sym c.is_empty.ensures ∙ c.if-is_empty.false) in
    let passed : section_trap (Some found) from n ≡ Ok tt = sym test ∙ c.in_ok-test_section.was in
    let fact = section_room m object found from n c.self.invariant.sized at has some passed in
    (fact.0, omega (arith, fact.1, offset))

pub put_all-requires-clause-object : goal.put_all-requires-clause-object
put_all-requires-clause-object c = (room c).0

pub put_all-requires-clause-room : goal.put_all-requires-clause-room
put_all-requires-clause-room c = (room c).1

pub invariant_of-self : goal.invariant_of-self
invariant_of-self c =
    let sized = c.self.invariant.sized in
    record {
      sized = record {
        cells = c.put_all.ensures.lengths ∙ sized.cells;
        posts = sized.posts;
        teams = sized.teams;
        copointers = sized.copointers;
        lines = sized.lines;
      };
      printed = c.self.invariant.printed;
    }
