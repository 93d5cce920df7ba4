use Rattle.std.proofs.Common.{◌≡◌, ◌∙◌, Some, true, ap, is_some, slice_get, sym}
use Rattle.std.specs.Option.{option_copied}
use Rattle.caf_pending.specs.Pending.{operation_named}
use Rattle.caf_source.specs.Next.{running_in}
use Rattle.caf_source.proofs.AtImage.{touch_led}
use Rattle.caf_source.proofs.chosen.touch.Goals as goal

pub returns-clause-made : goal.returns-clause-made
returns-clause-made c =
    let same : c.as_slice-subs.result.now ≡ c.args.program.now.subs = cc in
    let is : Some c.in-Some.operation.now ≡ operation_named c.args.name c.args.pending.now = sym (ap option_copied c.in-Some.is) ∙ c.get.ensures in
    let first : Some c.in-Some-next_stage.stage ≡ slice_get c.in-Some.operation.now.stages 0 = cc in
    let runs : true ≡ is_some (running_in (slice_get c.args.images.now.items c.place_of-image.result)) = cc in
    touch_led c.args.program.now c.as_slice-subs.result.now c.in-Some.operation.now c.in-Some-next_stage.stage (operation_named c.args.name c.args.pending.now) c.place_of-image.result c.args.images.now.items c.touch_image.new.images.items c.answer_touched.new.images.items c.args.pending.now _ c.in_ok-touched.touched c.apply_touched.result same is first c.place_of-image.ensures runs c.in_ok-touched.ensures.stage c.in_ok-answer_touched.ensures.images c.apply_touched.ensures
