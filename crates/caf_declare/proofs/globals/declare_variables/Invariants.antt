use Rattle.std.proofs.Common.{◌≡◌, drop}
use Rattle.caf_declare.specs.Globals.{all_in_turn, declare_variable}
use Rattle.caf_declare.proofs.globals.declare_variables.Given as goal

-- what is so far, and what is left
abbrev pub invariant-loop-item : goal.invariant-loop-item
invariant-loop-item l =
    all_in_turn (declare_variable l.line l.kind) l.items l.initial.m ≡ all_in_turn (declare_variable l.line l.kind) (drop l.item-index l.items) l.m
