use Rattle.std.proofs.Common.{◌≡◌, take, map}
use Rattle.std.specs.List.{flat_map}
use Rattle.caf_program.specs.Ships.{calls_in}
use Rattle.caf_teamcheck.proofs.calls.calls_of.Given as goal

-- the rows of those so far
abbrev pub invariant-loop-sub : goal.invariant-loop-sub
invariant-loop-sub l = l.calls ≡ map (λ f. flat_map calls_in f.body) (take l.sub-index l.subs)
