use Rattle.std.proofs.Common.{◌≡◌, ◌++◌, drop}
use Rattle.caf_declare.specs.Frames.{signature}
use Rattle.caf_declare.proofs.heads.signature.Given as goal

-- what is so far, and what is left
abbrev pub invariant-loop-name : goal.invariant-loop-name
invariant-loop-name l =
    signature l.heads l.header ≡ l.all ++ signature l.heads (drop l.name-index l.header)
