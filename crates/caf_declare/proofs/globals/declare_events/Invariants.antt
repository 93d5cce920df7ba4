use Rattle.std.proofs.Common.{◌≡◌, drop}
use Rattle.caf_declare.specs.Globals.{all_in_turn, declare_event}
use Rattle.caf_declare.proofs.globals.declare_events.Given as goal

-- what is so far, and what is left
abbrev pub invariant-loop-item : goal.invariant-loop-item
invariant-loop-item l =
    all_in_turn (declare_event l.line) l.items l.initial.m ≡ all_in_turn (declare_event l.line) (drop l.item-index l.items) l.m
