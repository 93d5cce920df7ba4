use Rattle.std.proofs.Common.{◌≡◌, drop}
use Rattle.caf_declare.specs.Globals.{all_in_turn, declare_copointer}
use Rattle.caf_declare.proofs.globals.declare_copointers.Given as goal

-- what is so far, and what is left
abbrev pub invariant-loop-name : goal.invariant-loop-name
invariant-loop-name l =
    all_in_turn (declare_copointer l.line l.kind) l.names l.initial.m ≡ all_in_turn (declare_copointer l.line l.kind) (drop l.name-index l.names) l.m
