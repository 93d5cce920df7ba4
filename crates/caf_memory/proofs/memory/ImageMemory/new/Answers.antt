use Rattle.std.proofs.Common.{ap, arith, length, map, ◌∙◌, sym, List, ℕ, ℤ}
use Rattle.caf_base.specs.declared.object.Object.{Object}
use Rattle.caf_memory.specs.Sized.{bytes_of, cells_due, posts_due}
use Rattle.caf_memory.proofs.Sized.{sized_start}
use Rattle.caf_memory.proofs.memory.ImageMemory.new.Goals as goal

pub invariant_of-result : goal.invariant_of-result
invariant_of-result c =
    let start = sized_start c.args.objects.now c.args.images c.args.image in
    let objects = c.in_ok-from_slice.ensures in
    let cells = c.in_ok-first_cells.ensures in
    let posts = c.in_ok-first_posts.ensures in
    let teams = c.in_ok-first_teams.ensures in
    let copointers = c.in_ok-first_copointers.ensures in
    let lines = c.new.ensures.items in
    record {
      sized = record {
        cells = ap (map (λ (row : List ℤ). length row)) cells ∙ start.cells ∙ sym (ap (map (λ (o : Object). cells_due o.kind o.extent)) objects);
        posts = ap (map (λ (row : List ℕ). length row)) posts ∙ start.posts ∙ sym (ap (map (λ (o : Object). posts_due o.kind o.extent)) objects);
        teams = ap length teams ∙ start.teams ∙ sym (ap length objects);
        copointers = ap length copointers ∙ start.copointers ∙ sym (ap length objects);
        lines = omega (arith, ap bytes_of lines);
      };
      printed = sym (ap bytes_of lines);
    }
