use Rattle.caf_source.specs.Stages.{touch}
use Rattle.caf_source.proofs.AtImage.{reached_at, touched_at}
use Rattle.caf_source.proofs.chosen.touch_image.Goals as goal

pub returns-clause-stage : goal.returns-clause-stage
returns-clause-stage c =
    reached_at (λ im. touch c.args.subs.now c.args.image im c.args.operation.now c.args.stage) c.args.image c.args.images.now.items c.index_mut.result.now c.touch_stage.new.image c.touch_stage.result c.requires.there c.index_mut.ensures.value c.touch_stage.ensures

pub returns-clause-memory : goal.returns-clause-memory
returns-clause-memory c =
    touched_at c.args.subs.now c.args.image c.args.images.now.items c.index_mut.result.now c.touch_stage.new.image c.args.operation.now c.args.stage c.touch_stage.result c.requires.there c.index_mut.ensures.value c.requires.memory c.touch_stage.ensures
