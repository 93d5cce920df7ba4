use Rattle.std.proofs.Common.{◌≡◌, drop}
use Rattle.caf_declare.specs.Globals.{all_in_turn, declare_team}
use Rattle.caf_declare.proofs.globals.declare_teams.Given as goal

-- what is so far, and what is left
abbrev pub invariant-loop-name : goal.invariant-loop-name
invariant-loop-name l =
    all_in_turn (declare_team l.line) l.names l.initial.m ≡ all_in_turn (declare_team l.line) (drop l.name-index l.names) l.m
