use Rattle.std.proofs.Common.{SFits, w64, rules}
use Rattle.std.proofs.lemmas.Int.{to_z-of_z}
use Rattle.caf_base.specs.ImageMemory.{ImageMemory}
use Rattle.caf_vmtrials.proofs.Driven.{posted}
use Rattle.caf_vmtrials.proofs.steps.post.Goals as goal

pub returns-clause-sound : goal.returns-clause-sound
returns-clause-sound c =
    let m : ImageMemory = c.args.memory.now in
    let fits : SFits w64 c.args.index = c.ranges.index in
    (posted c.args.code.now m c.set_posts-posted.new.self c.set_posts-posted.result c.args.object c.args.index 1 (simp to_z-of_z at c.set_posts-posted.ensures.ok) c.set_posts-posted.ensures.err c.requires).0

pub returns-clause-images : goal.returns-clause-images
returns-clause-images c =
    let m : ImageMemory = c.args.memory.now in
    let fits : SFits w64 c.args.index = c.ranges.index in
    (posted c.args.code.now m c.set_posts-posted.new.self c.set_posts-posted.result c.args.object c.args.index 1 (simp to_z-of_z at c.set_posts-posted.ensures.ok) c.set_posts-posted.ensures.err c.requires).1
