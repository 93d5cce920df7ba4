use Rattle.std.proofs.Common.{◌≡◌, ◌++◌, drop, Ok, map}
use Rattle.caf_declare.specs.Names.{after}
use Rattle.caf_kinds.specs.Statements.{block, statement}
use Rattle.caf_kinds.proofs.statement.+statements.Given as goal

-- what is so far, and what is left
abbrev pub invariant-block-loop-written : goal.invariant-block-loop-written
invariant-block-loop-written l =
    block l.loops (map (statement l.scope) l.block) ≡ after (block l.loops (map (statement l.scope) (drop l.written-index l.block))) (λ more. Ok (l.done ++ more))
