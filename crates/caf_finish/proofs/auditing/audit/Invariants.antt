use Rattle.std.proofs.Common.{◌≡◌}
use Rattle.caf_finish.specs.Audit.{events_before}
use Rattle.caf_finish.specs.IsLedger.{IsLedger}
use Rattle.caf_finish.proofs.auditing.audit.Given as goal

abbrev pub ghost-step : goal.ghost-step
ghost-step a = events_before a.events.now a.place

abbrev pub invariant-loop-place : goal.invariant-loop-place
invariant-loop-place l = record { size : l.ledger.size ≡ l.size; told : IsLedger (events_before l.events l.place) l.ledger }
