use Rattle.std.proofs.Common.{◌≡◌, drop}
use Rattle.caf_kinds.specs.Statements.{down_of}
use Rattle.caf_kinds.proofs.action.down_of.Given as goal

-- what is so far, and what is left
abbrev pub invariant-loop-fence : goal.invariant-loop-fence
invariant-loop-fence l =
    down_of l.fences ≡ down_of (drop l.fence-index l.fences)
