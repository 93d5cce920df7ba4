use Rattle.caf_code.specs.Sound.{IsSound}
use Rattle.caf_code.specs.Whole.{IsSettled}
use Rattle.caf_treestep.specs.Placeable.{IsPlaceable}
use Rattle.caf_trials.proofs.agreement.pair.run.Given as goal

-- both go on
abbrev pub invariant-loop-step : goal.invariant-loop-step
invariant-loop-step l = record {
  sound : IsSound l.code l.pair.task l.pair.memory;
  settled : IsSettled l.code l.pair.task;
  placeable : IsPlaceable l.pair.trees;
}
