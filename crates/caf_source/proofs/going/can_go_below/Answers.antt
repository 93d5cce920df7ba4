use Rattle.std.proofs.Common.{◌≡◌, ◌<◌, true, arith, sym}
use Rattle.caf_source.specs.Ending.{can_go_at}
use Rattle.caf_source.specs.Stepping.{of_images}
use Rattle.caf_source.proofs.Below.{any_below}
use Rattle.caf_source.proofs.going.can_go_below.Goals as goal

pub returns-then-can_go_at : goal.returns-then-can_go_at
returns-then-can_go_at c =
    let within : c.loop-image.image < c.args.count = omega arith in
    let is : can_go_at (of_images c.args.images.now c.args.pending.now) c.loop-image.image ≡ true = cc in
    sym (any_below (can_go_at (of_images c.args.images.now c.args.pending.now)) c.args.count c.loop-image.image within is)
