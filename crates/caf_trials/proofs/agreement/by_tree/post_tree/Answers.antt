use Rattle.std.proofs.Common.{SFits, w64}
use Rattle.std.proofs.lemmas.Int.{to_z-of_z}
use Rattle.caf_base.specs.ImageMemory.{ImageMemory}
use Rattle.caf_trials.proofs.Driven.{placed}
use Rattle.caf_trials.proofs.agreement.by_tree.post_tree.Goals as goal

pub returns : goal.returns
returns c =
    let m : ImageMemory = c.args.memory.now in
    let fits : SFits w64 c.args.index = c.ranges.index in
    placed m c.set_posts-posted.new.self c.set_posts-posted.result c.args.object c.args.index 2 (simp to_z-of_z at c.set_posts-posted.ensures.ok) c.set_posts-posted.ensures.err c.requires
