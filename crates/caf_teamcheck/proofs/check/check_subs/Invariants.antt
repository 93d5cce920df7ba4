use Rattle.caf_teamcheck.specs.Whole.{AreSubsPlain}
use Rattle.caf_teamcheck.proofs.check.check_subs.Given as goal

-- those so far are plain
abbrev pub invariant-loop-at : goal.invariant-loop-at
invariant-loop-at l = AreSubsPlain l.program l.marks l.at
