use Rattle.std.proofs.Common.{◌≡◌, true, false, is_some, refl, slice_get}
use Rattle.caf_pending.specs.Pending.{clear_of}
use Rattle.caf_source.specs.Next.{running_in}
use Rattle.caf_source.specs.Stepping.{of_images}
use Rattle.caf_source.proofs.AtImage.{all_placeable, runs_within, step_led, step_stops}
use Rattle.caf_source.proofs.chosen.step_task.Goals as goal

pub step_at-requires-clause-there : goal.step_at-requires-clause-there
step_at-requires-clause-there c =
    let runs : true ≡ is_some (running_in (slice_get c.args.images.now.items c.args.image)) = cc in
    runs_within c.args.images.now.items c.args.image runs

pub returns-then-not-is_running-clause-made : goal.returns-then-not-is_running-clause-made
returns-then-not-is_running-clause-made c =
    let stops : false ≡ is_some (running_in (slice_get c.args.images.now.items c.args.image)) = cc in
    (step_stops c.args.program.now (of_images c.args.images.now.items c.args.pending.now) c.args.image c.args.task (running_in (slice_get c.args.images.now.items c.args.image)) stops, refl)

pub returns-clause-made : goal.returns-clause-made
returns-clause-made c =
    let same : c.as_slice-2.result.now ≡ c.args.program.now.subs = cc in
    let runs : true ≡ is_some (running_in (slice_get c.args.images.now.items c.args.image)) = cc in
    let clear : c.clear_of-clear.result ≡ clear_of c.args.pending.now c.args.image c.args.task = cc in
    step_led c.args.program.now c.as_slice-2.result.now c.args.image c.args.task c.args.images.now.items c.step_at.new.images.items c.args.pending.now c.apply_outcome.new.pending c.clear_of-clear.result c.in_ok-outcome.outcome c.apply_outcome.result same runs clear c.in_ok-outcome.ensures.step c.apply_outcome.ensures

pub returns-clause-memory : goal.returns-clause-memory
returns-clause-memory c = all_placeable c.apply_outcome.result c.step_at.new.images.items c.in_ok-outcome.ensures.memory
