use Rattle.std.proofs.Common.{◌≡◌, drop}
use Rattle.caf_declare.specs.Globals.{all_in_turn, declare}
use Rattle.caf_declare.proofs.globals.declare_globals.Given as goal

-- what is so far, and what is left
abbrev pub invariant-loop-declaration : goal.invariant-loop-declaration
invariant-loop-declaration l =
    all_in_turn (declare) l.declarations l.initial.m ≡ all_in_turn (declare) (drop l.declaration-index l.declarations) l.m
