use Rattle.std.proofs.Common.{arith}
use Rattle.caf_reduce.specs.declared.part.Part.TheVariants.{Outside}
use Rattle.caf_reduce.specs.Sum.{emptied_part}
use Rattle.caf_reduce.proofs.Lists.{partly-step, partly-all}
use Rattle.caf_reduce.proofs.summer.empty.Goals as goal

pub loop-part-preserved : goal.loop-part-preserved
loop-part-preserved c =
    partly-step emptied_part c.loop-part.part-index c.args.parts.now c.loop-part.parts Outside _ c.loop-part.invariant c.emptied_part.ensures (omega arith)

pub returns : goal.returns
returns c =
    partly-all emptied_part c.loop-part.part-index c.args.parts.now c.loop-part.parts c.loop-part.invariant (omega arith)
