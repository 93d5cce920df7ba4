use Rattle.std.proofs.Common.{◌≡◌, length}
use Rattle.caf_solo.specs.Followed.{Follows}
use Rattle.caf_solo.proofs.run.go.Given as goal

-- the machine follows the program, with one entry a turn
abbrev pub invariant-loop-entry : goal.invariant-loop-entry
invariant-loop-entry l = record {
  follows : Follows l.a l.code l.solo.journal l.solo.phase l.solo.memory l.solo.task;
  count : length l.solo.journal ≡ l._entry;
}
