use Rattle.std.proofs.Common.{◌≡◌, ◌+◌, ◌≤◌, length, drop, map}
use Rattle.caf_program.specs.Expressions.{count_all, reads_all}
use Rattle.caf_program.specs.View.{seen}
use Rattle.caf_treestep.specs.Reading.{next_read}
use Rattle.caf_treestep.proofs.reading.next_read.Given as goal

-- what is read next of the expressions that are left is what all of them read next
abbrev pub invariant-loop-e : goal.invariant-loop-e
invariant-loop-e l = record {
  count : l.at + count_all (map (λ x. x.now) (drop l.e-index l.expressions)) ≡ count_all (map (λ x. x.now) l.expressions);
  held : l.at ≤ length l.view.held.now;
  read : next_read (reads_all (map (λ x. x.now) (drop l.e-index l.expressions)) l.at) l.at (seen l.view) l.memory ≡ next_read (reads_all (map (λ x. x.now) l.expressions) 0) 0 (seen l.view) l.memory;
}
