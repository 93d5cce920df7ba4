use Rattle.std.proofs.Common.{◌≡◌, ◌∙◌, ◌<◌, true, false, arith, length, refl, slice_get, sym}
use Rattle.caf_pending.specs.declared.operation.Operation.{Operation}
use Rattle.caf_source.specs.Ending.{can_touch, can_touch_named}
use Rattle.caf_source.specs.Stepping.{of_images}
use Rattle.caf_source.proofs.Passing.{any_here, any_more}
use Rattle.caf_source.proofs.going.can_touch_some.Goals as goal

pub returns-then-can_touch_place : goal.returns-then-can_touch_place
returns-then-can_touch_place c =
    let s = of_images c.args.images.now c.args.pending.now in
    let within : c.loop-place.place < length c.args.pending.now = omega (arith, c.len-place-end.ensures) in
    let is : can_touch_named c.args.subs.now (of_images c.args.images.now c.args.pending.now) (slice_get c.args.pending.now c.loop-place.place) ≡ true = cc in
    sym (c.loop-place.invariant ∙ any_here (λ (op : Operation). can_touch c.args.subs.now s op.name) (can_touch_named c.args.subs.now s) c.args.pending.now c.loop-place.place (λ x. refl) within is)

pub loop-place-preserved : goal.loop-place-preserved
loop-place-preserved c =
    let s = of_images c.args.images.now c.args.pending.now in
    let within : c.loop-place.place < length c.args.pending.now = omega (arith, c.len-place-end.ensures) in
    let fails : can_touch_named c.args.subs.now (of_images c.args.images.now c.args.pending.now) (slice_get c.args.pending.now c.loop-place.place) ≡ false = cc in
    c.loop-place.invariant ∙ any_more (λ (op : Operation). can_touch c.args.subs.now s op.name) (can_touch_named c.args.subs.now s) c.args.pending.now c.loop-place.place (λ x. refl) within fails
