-- The rules of the journal for one image that sends no message: the entries of the program's finish, and its choices.
use Rattle.std.specs.Prelude.{ℕ, Bool, true, false, ◌&&◌, not, ◌==◌, List, [], ◌∷◌, ◌++◌, Option, Some, None, is_some, slice_get, ℤ, pos, ◌+ℤ◌, ◌-ℤ◌}
use Rattle.std.specs.Option.{option_map_or}
use Rattle.std.specs.Ordering.{int_eq}
use Rattle.caf_base.specs.declared.four.Four.{Four}
use Rattle.caf_base.specs.declared.team.FinishRef.{FinishRef}
use Rattle.caf_journal.specs.declared.entry.Entry.{Entry}
use Rattle.caf_journal.specs.declared.entry.Entry.TheVariants.{Step, Touch, Part, Leave, Ack, Return, Offer, Contribute, Relay, Result}
use Rattle.caf_program.specs.declared.program.Program.{Program}
use Rattle.caf_source.specs.declared.choice.Choice.TheVariants as choice
use Rattle.caf_source.specs.declared.state.Image.{Image}
use Rattle.caf_source.specs.Next.{next, running_in, standing}
use Rattle.caf_source.specs.State.{State}
use Rattle.caf_check.specs.Choices.{state_of}

-- whether the image has contributed after its last result, where it had before these entries or not
abbrev pub late_from : Bool → List Entry → Bool
late_from late [] = late
late_from late (Contribute image four ∷ rest) = late_from true rest
late_from late (Result image sum ∷ rest) = late_from false rest
late_from late (other ∷ rest) = late_from late rest

abbrev pub is_late : List Entry → Bool
is_late = late_from false

-- the last result, where there is one among these or there was one before
abbrev pub result_from : Option ℤ → List Entry → Option ℤ
result_from last [] = last
result_from last (Result image sum ∷ rest) = result_from (Some sum) rest
result_from last (other ∷ rest) = result_from last rest

abbrev pub last_result : List Entry → Option ℤ
last_result = result_from None

-- what was contributed to the present wave: messages sent less messages completed
abbrev pub share_from : ℤ → List Entry → ℤ
share_from share [] = share
share_from share (Contribute image four ∷ rest) = share_from (share +ℤ (pos four.sent -ℤ pos four.completed)) rest
share_from share (Result image sum ∷ rest) = share_from (pos 0) rest
share_from share (other ∷ rest) = share_from share rest

abbrev pub share : List Entry → ℤ
share = share_from (pos 0)

-- whether the last result was 0, so that the finish has ended; in a legal journal no other result follows one of 0
abbrev pub has_ended : List Entry → Bool
has_ended journal = option_map_or (λ sum. int_eq sum (pos 0)) (last_result journal) false

-- the counts of an image that neither sent nor received a message
abbrev pub no_message : Four → Bool
no_message four = (four.sent == 0) && (four.delivered == 0) && (four.received == 0) && (four.completed == 0)

abbrev pub standing_in : Option Image → Option FinishRef
standing_in None = None
standing_in (Some im) = standing im

-- whether the main task of the image stands at the end of a finish
abbrev pub stands_at_end : State → Bool
stands_at_end s = is_some (standing_in (running_in (slice_get s.images 0)))

-- whether an entry may follow a journal that led to this state
abbrev pub may_follow : Program → State → List Entry → Entry → Bool
may_follow p s journal (Step image task) = is_some (next p s (choice.Step image task))
may_follow p s journal (Leave image) = is_some (next p s (choice.Leave image)) && has_ended journal
may_follow p s journal (Contribute image four) = (image == 0) && stands_at_end s && not (is_late journal) && not (has_ended journal) && no_message four
may_follow p s journal (Result image sum) = (image == 0) && stands_at_end s && is_late journal && int_eq sum (share journal)
may_follow p s journal (Touch image operation stage) = false
may_follow p s journal (Part image) = false
may_follow p s journal (Ack image operation stage) = false
may_follow p s journal (Return image operation) = false
may_follow p s journal (Offer image from) = false
may_follow p s journal (Relay image from) = false

abbrev pub is_allowed : Program → List Entry → Entry → Bool
is_allowed p journal entry = option_map_or (λ s. may_follow p s journal entry) (state_of p 1 journal) false

-- whether each of the entries may follow the journal and the entries before it
abbrev pub is_legal_after : Program → List Entry → List Entry → Bool
is_legal_after p journal [] = true
is_legal_after p journal (entry ∷ rest) = is_allowed p journal entry && is_legal_after p (journal ++ entry ∷ []) rest

-- a legal journal: each entry may follow those before it
abbrev pub is_legal : Program → List Entry → Bool
is_legal p journal = is_legal_after p [] journal

-- no message in any count
abbrev pub no_counts : Four
no_counts = record { sent = 0; delivered = 0; received = 0; completed = 0 }
