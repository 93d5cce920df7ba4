-- What a loaded text gives is due.
use Rattle.std.proofs.Common.{◌≡◌, ◌≤◌, ℕ, List, length, Result, Ok, Err, IfOk}
use Rattle.caf_journal.specs.declared.entry.Entry.{Entry}
use Rattle.caf_outside.specs.Texts.{Has}
use Rattle.caf_top.specs.declared.answer.Answer.{Answer}
use Rattle.caf_top.specs.declared.answer.Due.{Due}
use Rattle.caf_top.specs.declared.answer.Due.TheVariants.{Done, Trapped, Refused, Stuck, Spent, Paused, Unreadable, TooLong, TraceRefused}
use Rattle.caf_top.specs.declared.job.Work.{Work}
use Rattle.caf_top.specs.Promise.{Gives, IsDue, IsGiven, Seen, limit}

loaded : (host : Seen) (w : Work) (bytes : List ℕ) (due : Due) (journal : List Entry) (text : List ℕ) → host.failed_now ≡ host.failed_before → Has host.texts host.name (λ held. bytes ≡ held) → length bytes ≤ limit → IsGiven w due bytes journal text → Gives host w due journal text
loaded host w bytes due journal text stood held within given = record { stood = stood; bytes = bytes; held = held; within = within; has = given }

given_is_due : (host : Seen) (w : Work) (bytes : List ℕ) (due : Due) (journal : List Entry) (text : List ℕ) → host.failed_now ≡ host.failed_before → Has host.texts host.name (λ held. bytes ≡ held) → length bytes ≤ limit → IsGiven w due bytes journal text → IsDue host w due journal text
given_is_due host w bytes Done journal text stood held within given = loaded host w bytes Done journal text stood held within given
given_is_due host w bytes Trapped journal text stood held within given = loaded host w bytes Trapped journal text stood held within given
given_is_due host w bytes Refused journal text stood held within given = loaded host w bytes Refused journal text stood held within given
given_is_due host w bytes Stuck journal text stood held within given = loaded host w bytes Stuck journal text stood held within given
given_is_due host w bytes Spent journal text stood held within given = loaded host w bytes Spent journal text stood held within given
given_is_due host w bytes Paused journal text stood held within given = absurd given
given_is_due host w bytes TraceRefused journal text stood held within given = absurd given
given_is_due host w bytes Unreadable journal text stood held within given = absurd given
given_is_due host w bytes TooLong journal text stood held within given = absurd given

-- the same of an answer, where there is one
pub answer_is_due : {E : Type 0} (host : Seen) (w : Work) (bytes : List ℕ) (result : Result Answer E) → host.failed_now ≡ host.failed_before → Has host.texts host.name (λ held. bytes ≡ held) → length bytes ≤ limit → IfOk result (λ answer. IsGiven w answer.due bytes answer.journal answer.text.items) → IfOk result (λ answer. IsDue host w answer.due answer.journal answer.text.items)
answer_is_due host w bytes (Ok answer) stood held within given = given_is_due host w bytes answer.due answer.journal answer.text.items stood held within given
answer_is_due host w bytes (Err e) stood held within given = given
