use Rattle.std.proofs.Common.{◌≡◌, ◌++◌, map, take}
use Rattle.std.specs.List.{flat_map}
use Rattle.caf_program.specs.Ships.{calls_in}
use Rattle.caf_teamcheck.proofs.calls.+calls.Given as goal

-- what was there, and what those so far call
abbrev pub invariant-add_block_calls-loop-statement : goal.invariant-add_block_calls-loop-statement
invariant-add_block_calls-loop-statement l = l.calls ≡ l.initial.calls ++ flat_map (λ found. found) (map calls_in (take l.statement-index l.block))
