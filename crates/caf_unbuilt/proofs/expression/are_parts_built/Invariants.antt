use Rattle.std.proofs.Common.{◌≡◌, drop, map}
use Rattle.caf_source.specs.Built.{all_true}
use Rattle.caf_unbuilt.specs.Unbuilt.{part_runs}
use Rattle.caf_unbuilt.proofs.expression.are_parts_built.Given as goal

-- those left decide
abbrev pub invariant-loop-part : goal.invariant-loop-part
invariant-loop-part l = all_true (map part_runs (drop l.part-index l.parts)) ≡ all_true (map part_runs l.parts)
