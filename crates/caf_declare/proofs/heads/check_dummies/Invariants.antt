use Rattle.std.proofs.Common.{◌≡◌, drop, take}
use Rattle.caf_declare.specs.Frames.{listed, listed_behind}
use Rattle.caf_declare.proofs.heads.check_dummies.Given as goal

-- what is so far, and what is left
abbrev pub invariant-loop-at : goal.invariant-loop-at
invariant-loop-at l =
    listed l.line l.heads l.header ≡ listed_behind l.line l.heads (take l.at l.header) (drop l.at l.header)
