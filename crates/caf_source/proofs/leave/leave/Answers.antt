use Rattle.std.proofs.Common.{◌≡◌, ◌<◌, true, false, arith, length, refl, slice_get, subst, sym}
use Rattle.caf_source.specs.Next.{running_in}
use Rattle.caf_source.specs.Stepping.{can_leave_in, of_images}
use Rattle.caf_source.proofs.AtImage.{found_at, leave_early, leave_makes, leaves_within, placeable_at, placeable_set}
use Rattle.caf_treestep.specs.Placeable.{IsPlaceable}
use Rattle.caf_source.proofs.leave.leave.Goals as goal

pub returns-then-not-can_leave-clause-made : goal.returns-then-not-can_leave-clause-made
returns-then-not-can_leave-clause-made c =
    let s = of_images c.args.images.now.items c.args.pending.now in
    let early : false ≡ can_leave_in (of_images c.args.images.now.items c.args.pending.now) (running_in (slice_get c.args.images.now.items c.args.image)) = cc in
    (leave_early s c.args.image (running_in (slice_get c.args.images.now.items c.args.image)) early, refl)

pub index_mut-requires : goal.index_mut-requires
index_mut-requires c =
    let may : true ≡ can_leave_in (of_images c.args.images.now.items c.args.pending.now) (running_in (slice_get c.args.images.now.items c.args.image)) = cc in
    let within : c.args.image < length c.args.images.now.items = leaves_within c.args.images.now.items c.args.pending.now c.args.image may in
    omega (arith, within, c.args.images.now.ok.0)

pub returns-clause-made : goal.returns-clause-made
returns-clause-made c =
    let may : true ≡ can_leave_in (of_images c.args.images.now.items c.args.pending.now) (running_in (slice_get c.args.images.now.items c.args.image)) = cc in
    leave_makes c.args.images.now.items _ c.args.pending.now c.args.image c.index_mut.result.now c.go_past.new.image may c.index_mut.ensures.value c.in_ok-go_past.ensures.past refl

pub returns-clause-memory : goal.returns-clause-memory
returns-clause-memory c =
    let may : true ≡ can_leave_in (of_images c.args.images.now.items c.args.pending.now) (running_in (slice_get c.args.images.now.items c.args.image)) = cc in
    let found = found_at c.args.images.now.items c.args.image c.index_mut.result.now (leaves_within c.args.images.now.items c.args.pending.now c.args.image may) c.index_mut.ensures.value in
    placeable_set c.args.images.now.items c.args.image c.go_past.new.image c.requires (subst IsPlaceable (sym c.go_past.ensures.memory) (placeable_at c.args.images.now.items c.args.image c.index_mut.result.now c.requires found))
