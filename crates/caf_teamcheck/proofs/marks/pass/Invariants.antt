use Rattle.std.proofs.Common.{◌≡◌, ℕ, ◌<◌, ◌≤◌, length, List, not, count_by, IsTrue}
use Rattle.caf_program.specs.Ships.{Reaches, HasCall}
use Rattle.caf_teamcheck.specs.Marks.{Marked}
use Rattle.caf_teamcheck.proofs.marks.pass.Given as goal

abbrev pub invariant-loop-sub : goal.invariant-loop-sub
invariant-loop-sub l = record {
  size : length l.marks ≡ length l.initial.marks;
  kept : (k : ℕ) → Marked l.initial.marks k → Marked l.marks k;
  sound : (starts : List ℕ) → ((k : ℕ) → Marked l.initial.marks k → Reaches l.calls starts k) → (k : ℕ) → Marked l.marks k → Reaches l.calls starts k;
  closed : IsTrue (not l.changed) → (a b : ℕ) → a < l.sub → Marked l.marks a → HasCall l.calls a b → b < length l.calls → Marked l.marks b;
  no_more : count_by not l.marks ≤ count_by not l.initial.marks;
  fewer : IsTrue l.changed → count_by not l.marks < count_by not l.initial.marks;
  same : IsTrue (not l.changed) → l.marks ≡ l.initial.marks;
}
