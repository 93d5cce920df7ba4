-- The first theorem, in the words of its definition.
use Rattle.std.proofs.Common.{◌≡◌, ℕ, true, false, not, List, ap}
use Rattle.caf_finish.specs.declared.event.FinishEvent.{FinishEvent}
use Rattle.caf_finish.specs.Events.{messages_of, is_completed}
use Rattle.caf_finish.specs.Kept.{IsKept}
use Rattle.caf_finish.specs.Sound.{ZeroMeansNone}
use Rattle.caf_finish.proofs.Lists.{Each-weaker, count-none}
use Rattle.caf_finish.proofs.Zero.{none-negative, quiet, no-send}

pub zero_means_none : (size : ℕ) (h : List FinishEvent) → IsKept size h → ZeroMeansNone size h
zero_means_none size h k =
    record {
      none_negative = none-negative size h k;
      over = λ z.
          let q = quiet size h k z in
          record {
            running = count-none _ (messages_of h) (Each-weaker (λ m. is_completed h m.number ≡ true) (λ m. not (is_completed h m.number) ≡ false) (λ m d. ap not d) (messages_of h) q.completed);
            stood = q.stood;
          };
      no_send = no-send size h k;
    }
