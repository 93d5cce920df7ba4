use Rattle.std.proofs.Common.{◌≡◌, drop}
use Rattle.caf_declare.specs.Globals.{all_in_turn}
use Rattle.caf_declare.specs.Frames.{declare_dummy}
use Rattle.caf_declare.proofs.frame.declare_dummies.Given as goal

-- what is so far, and what is left
abbrev pub invariant-loop-name : goal.invariant-loop-name
invariant-loop-name l =
    all_in_turn (declare_dummy l.line l.around.header.now l.around.heads.now) l.names l.initial.f ≡ all_in_turn (declare_dummy l.line l.around.header.now l.around.heads.now) (drop l.name-index l.names) l.f
