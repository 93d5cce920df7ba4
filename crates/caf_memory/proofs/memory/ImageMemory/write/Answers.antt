use Rattle.std.proofs.Common.{ap, ◌∙◌, map, length, List, ℤ}
use Rattle.caf_memory.proofs.Sized.{map_length-set_in}
use Rattle.caf_memory.proofs.memory.ImageMemory.write.Goals as goal

pub invariant_of-self : goal.invariant_of-self
invariant_of-self c =
    let sized = c.self.invariant.sized in
    let rows = c.self.inside.cells.items in
    record {
      sized = record {
        cells = ap (map (λ (r : List ℤ). length r)) c.put.ensures ∙ map_length-set_in rows c.args.object c.offset_of.result _ ∙ sized.cells;
        posts = sized.posts;
        teams = sized.teams;
        copointers = sized.copointers;
        lines = sized.lines;
      };
      printed = c.self.invariant.printed;
    }
