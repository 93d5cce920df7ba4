-- What is due of what is wanted, and what the sink takes of it.
use Rattle.std.specs.Prelude.{◌≡◌, ◌≢◌, ℕ, List, [], Option}
use Rattle.caf_journal.specs.declared.entry.Entry.{Entry}
use Rattle.caf_outside.specs.Texts.{Texts}
use Rattle.caf_top.specs.declared.answer.Due.{Due}
use Rattle.caf_top.specs.Check.{CheckDue}
use Rattle.caf_top.specs.Promise.{IsDue, Took, TookPart, seen_of, status_of}
use Rattle.caf_top.specs.Wanted.{Wanted, check, program}

-- a host as a call saw it: its texts, where they are told, and how often loads of each name had failed before and have now
pub record Host : Type 0 where
  pub texts : Option Texts
  pub before : List ℕ → ℕ
  pub now : List ℕ → ℕ

abbrev pub host_of : Option Texts → (List ℕ → ℕ) → (List ℕ → ℕ) → Host
host_of texts before now = record { texts = texts; before = before; now = now }

-- What is due of a check. Between the two loads stand counts of their own: the first load changes that of the file alone, the
-- second that of the trace.
pub record IsCheckDue (h : Host) (file : List ℕ) (images : ℕ) (trace : List ℕ) (due : Due) (journal : List Entry) (text : List ℕ) : Type 0 where
  pub between : List ℕ → ℕ
  pub first : (other : List ℕ) → other ≢ file → between other ≡ h.before other
  pub second : (other : List ℕ) → other ≢ trace → h.now other ≡ between other
  pub is : CheckDue (seen_of h.texts h.before between file) (seen_of h.texts between h.now trace) images due text
  pub no_run : journal ≡ []

-- what is due to be written, whatever the sink does
abbrev pub IsWantedDue : Host → Wanted → Due → List Entry → List ℕ → Type 0
IsWantedDue h (program file w) due journal text = IsDue (seen_of h.texts h.before h.now file) w due journal text
IsWantedDue h (check file images trace) due journal text = IsCheckDue h file images trace due journal text

-- the sink took exactly what was due, and the status is that of what this is
abbrev pub TookDue : Option (List ℕ) → Option (List ℕ) → Host → Wanted → ℕ → List Entry → Type 0
TookDue old new h wanted status journal = (due : Due) × (status ≡ status_of due) × Took old new (IsWantedDue h wanted due journal)

-- the sink took a part of what was due, and not all of it
abbrev pub TookPartDue : Option (List ℕ) → Option (List ℕ) → Host → Wanted → List Entry → Type 0
TookPartDue old new h wanted journal = (due : Due) × TookPart old new (IsWantedDue h wanted due journal)
