use Rattle.std.proofs.Common.{◌≡◌, drop}
use Rattle.caf_declare.specs.Frames.{heads_of, heads_behind}
use Rattle.caf_declare.proofs.heads.heads_of.Given as goal

-- what is so far, and what is left
abbrev pub invariant-loop-declaration : goal.invariant-loop-declaration
invariant-loop-declaration l =
    heads_of l.declarations ≡ heads_behind l.heads (drop l.declaration-index l.declarations)
