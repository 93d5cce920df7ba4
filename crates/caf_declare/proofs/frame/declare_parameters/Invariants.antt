use Rattle.std.proofs.Common.{◌≡◌, drop}
use Rattle.caf_declare.specs.Globals.{all_in_turn}
use Rattle.caf_declare.specs.Frames.{declare_own_parameter}
use Rattle.caf_declare.proofs.frame.declare_parameters.Given as goal

-- what is so far, and what is left
abbrev pub invariant-loop-name : goal.invariant-loop-name
invariant-loop-name l =
    all_in_turn (declare_own_parameter l.line l.around.header.now l.around.heads.now l.around.main.now l.kind) l.values l.initial.f ≡ all_in_turn (declare_own_parameter l.line l.around.header.now l.around.heads.now l.around.main.now l.kind) (drop l.name-index l.values) l.f
