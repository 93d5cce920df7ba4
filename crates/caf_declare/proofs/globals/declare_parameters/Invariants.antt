use Rattle.std.proofs.Common.{◌≡◌, drop}
use Rattle.caf_declare.specs.Globals.{all_in_turn, declare_parameter}
use Rattle.caf_declare.proofs.globals.declare_parameters.Given as goal

-- what is so far, and what is left
abbrev pub invariant-loop-name : goal.invariant-loop-name
invariant-loop-name l =
    all_in_turn (declare_parameter l.line l.kind) l.values l.initial.m ≡ all_in_turn (declare_parameter l.line l.kind) (drop l.name-index l.values) l.m
