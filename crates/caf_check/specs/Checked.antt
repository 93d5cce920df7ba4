-- What a journal, or a trace, comes to on the source machine.
use Rattle.std.specs.Prelude.{◌≡◌, ◌⊎◌, ℕ, ◌+◌, ◌<◌, ◌≤◌, Bool, true, false, List, [], ◌∷◌, Option, Some, None, length, take}
use Rattle.caf_base.specs.declared.summary.Summary.{Summary}
use Rattle.caf_journal.specs.Trace.{IsFirstBadLine, Spells}
use Rattle.caf_journal.specs.declared.entry.Entry.{Entry}
use Rattle.caf_program.specs.declared.program.Program.{Program}
use Rattle.caf_source.specs.Kept.{CanGoOn, Kept}
use Rattle.caf_source.specs.Run.{Tells, state_from}
use Rattle.caf_source.specs.State.{State}
use Rattle.caf_source.specs.declared.choice.Choice.{Choice}
use Rattle.caf_check.specs.declared.checked.Checked.{Checked}
use Rattle.caf_check.specs.declared.checked.Checked.TheVariants as checked
use Rattle.caf_check.specs.declared.led.Led.{Led}
use Rattle.caf_check.specs.declared.led.Led.TheVariants as led
use Rattle.caf_check.specs.Choices.{choice_of, state_of}

-- a choice as a list of at most one
abbrev pub listed : Option Choice → List Choice
listed None = []
listed (Some c) = c ∷ []

-- the choice of an entry leads from one state to another, if it has one; or it isn't defined
abbrev pub Follows : Program → Entry → Kept → Kept → Bool → Type 0
Follows p e before after true = state_from p (Some before.state) (choice_of e) ≡ Some after.state
Follows p e before after false = state_from p (Some before.state) (choice_of e) ≡ None

-- the choices of a journal lead to a state that can go on
pub record Leads (p : Program) (images : ℕ) (journal : List Entry) (k : Kept) : Type 0 where
  pub leads : state_of p images journal ≡ Some k.state
  pub few : k.done ≤ length journal
  pub ready : CanGoOn k

-- the entries before a place lead to a state, and with the entry there they lead to none
pub record IsFirstRefused (p : Program) (images : ℕ) (journal : List Entry) (at : ℕ) : Type 0 where
  pub within : at < length journal
  pub state : State
  pub leads : state_of p images (take at journal) ≡ Some state
  pub refused : state_of p images (take (at + 1) journal) ≡ None

-- what the choices of a journal come to
abbrev pub ComesTo : Program → ℕ → List Entry → Led → Type 0
ComesTo p images journal (led.Runs k) = Leads p images journal k
ComesTo p images journal (led.Refused at) = IsFirstRefused p images journal at

-- the trace is that of a journal whose choices lead to a state, of which the summary tells
pub record Ends (p : Program) (images : ℕ) (trace : List ℕ) (told : Summary) : Type 0 where
  pub journal : List Entry
  pub spells : Spells trace journal
  pub last : State
  pub leads : state_of p images journal ≡ Some last
  pub tells : Tells p last told

-- the trace is that of a journal, and the entry on this line, from 1, is the first whose choice isn't defined
pub record IsRefusedAt (p : Program) (images : ℕ) (trace : List ℕ) (line : ℕ) : Type 0 where
  pub journal : List Entry
  pub spells : Spells trace journal
  pub at : ℕ
  pub refused : IsFirstRefused p images journal at
  pub stands : line ≡ at + 1

-- what a trace comes to: a state of which the summary tells; or a line that is the first which isn't one of a trace, or
-- else the first whose choice isn't defined
abbrev pub Checks : Program → ℕ → List ℕ → Checked → Type 0
Checks p images trace (checked.Ended told) = Ends p images trace told
Checks p images trace (checked.Refused line) = IsFirstBadLine trace line ⊎ IsRefusedAt p images trace line
