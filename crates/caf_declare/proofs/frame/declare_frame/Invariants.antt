use Rattle.std.proofs.Common.{◌≡◌, drop}
use Rattle.caf_declare.specs.Globals.{all_in_turn}
use Rattle.caf_declare.specs.Frames.{declare_in}
use Rattle.caf_declare.proofs.frame.declare_frame.Given as goal

-- what is so far, and what is left
abbrev pub invariant-loop-declaration : goal.invariant-loop-declaration
invariant-loop-declaration l =
    all_in_turn (declare_in l.around.header.now l.around.heads.now l.around.main.now) l.declarations l.initial.f ≡ all_in_turn (declare_in l.around.header.now l.around.heads.now l.around.main.now) (drop l.declaration-index l.declarations) l.f
