use Rattle.std.proofs.Common.{◌≡◌, drop}
use Rattle.caf_declare.specs.Frames.{noted}
use Rattle.caf_declare.proofs.heads.note_names.Given as goal

-- what is so far, and what is left
abbrev pub invariant-loop-name : goal.invariant-loop-name
invariant-loop-name l =
    noted l.taken l.names l.initial.heads ≡ noted l.taken (drop l.name-index l.names) l.heads
