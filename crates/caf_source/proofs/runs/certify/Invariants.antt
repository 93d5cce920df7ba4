use Rattle.std.proofs.Common.{take}
use Rattle.caf_source.specs.Certified.{IsLed}
use Rattle.caf_source.proofs.runs.certify.Given as goal

-- the choices so far lead to the state
abbrev pub invariant-loop-at : goal.invariant-loop-at
invariant-loop-at l = IsLed l.a l.images (take l.at l.choices) l.state
