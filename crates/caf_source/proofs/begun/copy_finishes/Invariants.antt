use Rattle.std.proofs.Common.{◌≡◌, ◌++◌, drop}
use Rattle.caf_source.proofs.begun.copy_finishes.Given as goal

-- the finishes so far, and then those left
abbrev pub invariant-loop-finish : goal.invariant-loop-finish
invariant-loop-finish l = l.copies ++ drop l.finish-index l.finishes ≡ l.finishes
