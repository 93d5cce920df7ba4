use Rattle.std.proofs.Common.{◌≡◌, drop}
use Rattle.caf_declare.specs.Globals.{all_in_turn}
use Rattle.caf_declare.specs.Frames.{declare_local}
use Rattle.caf_declare.proofs.frame.declare_locals.Given as goal

-- what is so far, and what is left
abbrev pub invariant-loop-item : goal.invariant-loop-item
invariant-loop-item l =
    all_in_turn (declare_local l.line l.header l.kind) l.items l.initial.f ≡ all_in_turn (declare_local l.line l.header l.kind) (drop l.item-index l.items) l.f
