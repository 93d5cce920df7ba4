use Rattle.std.proofs.Common.{◌≡◌, ◌≤◌}
use Rattle.caf_source.specs.Kept.{CanGoOn}
use Rattle.caf_sourcetrials.proofs.source.run.Given as goal

abbrev pub invariant-loop-step : goal.invariant-loop-step
invariant-loop-step l = record {
  ready : CanGoOn l.state;
  count : l.state.done ≤ l._step;
}
