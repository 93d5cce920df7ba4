use Rattle.caf_source.specs.Effects.{image_step}
use Rattle.caf_source.proofs.AtImage.{done_at, found_at, placeable_at, placed_at}
use Rattle.caf_source.proofs.chosen.step_at.Goals as goal

pub step_image-requires : goal.step_image-requires
step_image-requires c =
    placeable_at c.args.images.now.items c.args.image c.index_mut.result.now c.requires.memory (found_at c.args.images.now.items c.args.image c.index_mut.result.now c.requires.there c.index_mut.ensures.value)

pub returns-clause-step : goal.returns-clause-step
returns-clause-step c =
    done_at (λ im. image_step c.args.subs.now c.args.clear c.args.image im c.args.task) c.args.image c.args.images.now.items c.index_mut.result.now c.step_image.new.image c.step_image.result c.requires.there c.index_mut.ensures.value c.step_image.ensures.step

pub returns-clause-memory : goal.returns-clause-memory
returns-clause-memory c = placed_at c.args.images.now.items c.args.image c.step_image.new.image c.step_image.result c.requires.memory c.step_image.ensures.memory
