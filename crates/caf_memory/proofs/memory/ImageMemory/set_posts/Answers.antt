use Rattle.std.proofs.Common.{ap, ◌∙◌, map, length, List, ℕ}
use Rattle.caf_memory.proofs.Sized.{map_length-set_in}
use Rattle.caf_memory.proofs.memory.ImageMemory.set_posts.Goals as goal

pub invariant_of-self : goal.invariant_of-self
invariant_of-self c =
    let sized = c.self.invariant.sized in
    let rows = c.self.inside.posts.items in
    record {
      sized = record {
        cells = sized.cells;
        posts = ap (map (λ (r : List ℕ). length r)) c.put_posts.ensures ∙ map_length-set_in rows c.args.object c.offset_of.result c.args.posts ∙ sized.posts;
        teams = sized.teams;
        copointers = sized.copointers;
        lines = sized.lines;
      };
      printed = c.self.invariant.printed;
    }
