use Rattle.std.proofs.Common.{◌≡◌, map}
use Rattle.std.specs.List.{range_with_len}
use Rattle.caf_reduce.specs.Tree.{first_part}
use Rattle.caf_reduce.specs.Sum.{missing_in}
use Rattle.caf_reduce.proofs.summer.Summer.new.Given as goal

abbrev pub invariant-loop-from : goal.invariant-loop-from
invariant-loop-from l = record {
  parts : l.parts.items ≡ map (first_part l.size l.rank) (range_with_len 0 l.from);
  all : l.all ≡ missing_in l.parts.items;
}
