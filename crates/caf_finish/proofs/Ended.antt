-- A ledger of all events, at the end of the list.
use Rattle.std.proofs.Common.{◌≡◌, ℕ, ◌≤◌, List, length, reverse, ap, ◌∙◌, subst}
use Rattle.std.proofs.lemmas.List.{take_all}
use Rattle.caf_finish.specs.declared.event.FinishEvent.{FinishEvent}
use Rattle.caf_finish.specs.declared.ledger.Ledger.{Ledger}
use Rattle.caf_finish.specs.Events.{running_in}
use Rattle.caf_finish.specs.Kept.{IsKept}
use Rattle.caf_finish.specs.IsLedger.{IsLedger}
use Rattle.caf_finish.specs.Audit.{events_before, IsKeptWith}

pub kept-with : (size : ℕ) (events : List FinishEvent) (place : ℕ) (a : Ledger) → a.size ≡ size → IsLedger (events_before events place) a → length events ≤ place → IsKeptWith size events a.running
kept-with size events place a same ledger all =
    let whole : events_before events place ≡ reverse events = ap reverse (take_all place events all) in
    record {
      kept = subst (IsKept size) whole (subst (λ n. IsKept n (events_before events place)) same ledger.kept);
      runs = ledger.running ∙ ap running_in whole;
    }
