use Rattle.std.proofs.Common.{◌≡◌, ℕ, ◌<◌, length, get_or, ◌≤◌, Contains, not, count_by, IsTrue, ◌⊎◌}
use Rattle.caf_teamcheck.specs.Marks.{Marked}
use Rattle.caf_teamcheck.proofs.marks.mark_row.Given as goal

abbrev pub invariant-loop-sub : goal.invariant-loop-sub
invariant-loop-sub l = record {
  size : length l.marks ≡ length l.initial.marks;
  marked : (j : ℕ) → j < l.sub-index → get_or l.row j 0 < length l.initial.marks → Marked l.marks (get_or l.row j 0);
  kept : (k : ℕ) → Marked l.initial.marks k → Marked l.marks k;
  new : (k : ℕ) → Marked l.marks k → Marked l.initial.marks k ⊎ Contains l.row k;
  no_more : count_by not l.marks ≤ count_by not l.initial.marks;
  fewer : IsTrue l.changed → count_by not l.marks < count_by not l.initial.marks;
  same : IsTrue (not l.changed) → l.marks ≡ l.initial.marks;
}
