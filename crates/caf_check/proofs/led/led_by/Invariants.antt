use Rattle.std.proofs.Common.{take}
use Rattle.caf_check.specs.Checked.{Leads}
use Rattle.caf_check.proofs.led.led_by.Given as goal

-- the entries so far lead to the state
abbrev pub invariant-loop-at : goal.invariant-loop-at
invariant-loop-at l = Leads l.a l.images (take l.at l.journal) l.state
