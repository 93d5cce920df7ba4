use Rattle.std.proofs.Common.{◌≡◌, ℕ, ◌<◌, length, Contains, not, count_by}
use Rattle.caf_program.specs.Ships.{Reaches}
use Rattle.caf_teamcheck.specs.Marks.{Marked}
use Rattle.caf_teamcheck.proofs.marks.close.Given as goal

abbrev pub invariant-loop : goal.invariant-loop
invariant-loop l = record {
  size : length l.marks ≡ length l.calls;
  first : (a : ℕ) → Contains l.starts a → a < length l.calls → Marked l.marks a;
  sound : (b : ℕ) → Marked l.marks b → Reaches l.calls l.starts b;
}

abbrev pub decreases-loop : goal.decreases-loop
decreases-loop l = count_by not l.marks
