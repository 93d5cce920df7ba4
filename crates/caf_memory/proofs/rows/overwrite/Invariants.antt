use Rattle.std.proofs.Common.{◌≡◌, ◌+◌, length, drop}
use Rattle.caf_base.specs.Sections.{spliced}
use Rattle.caf_memory.proofs.rows.overwrite.Given as goal

-- what is left to be put gives the whole
abbrev pub invariant-loop-place : goal.invariant-loop-place
invariant-loop-place l = record {
  left : spliced l.row (l.at + l.place) (drop l.place l.values) ≡ spliced l.fn.row l.at l.values;
  length : length l.row ≡ length l.fn.row;
}
