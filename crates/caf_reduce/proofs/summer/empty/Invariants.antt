use Rattle.std.proofs.Common.{◌≡◌}
use Rattle.caf_reduce.specs.Sum.{emptied_part}
use Rattle.caf_reduce.proofs.Lists.{partly}
use Rattle.caf_reduce.proofs.summer.empty.Given as goal

abbrev pub invariant-loop-part : goal.invariant-loop-part
invariant-loop-part l = l.parts ≡ partly emptied_part l.part-index l.initial.parts
