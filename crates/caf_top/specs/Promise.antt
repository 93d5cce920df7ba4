-- What the top calls promise, status by status: what is due to be written, and when.
use Rattle.std.specs.Prelude.{◌≡◌, ℕ, ◌<◌, ◌≤◌, List, [], ◌++◌, length, take, codes, Option, None, ◌⊎◌}
use Rattle.std.specs.Io.KnownBytes.{Appends}
use Rattle.caf_base.specs.declared.summary.Summary.{Summary}
use Rattle.caf_base.specs.declared.summary.Ending.{Ending}
use Rattle.caf_base.specs.declared.summary.Ending.TheVariants as ending
use Rattle.caf_code.specs.Listing.{listing_text}
use Rattle.caf_code.specs.Rules.{KeepsRules}
use Rattle.caf_code.specs.declared.listing.Listing.{Listing}
use Rattle.caf_codegen.specs.Compiled.{Compiled}
use Rattle.caf_journal.specs.declared.entry.Entry.{Entry}
use Rattle.caf_outside.specs.Texts.{Texts, Has}
use Rattle.caf_program.specs.declared.program.Program.{Program}
use Rattle.caf_report.specs.Report.{report_text}
use Rattle.caf_solo.specs.RunOf.{IsRunOf}
use Rattle.caf_unbuilt.specs.Unbuilt.{first_unbuilt}
use Rattle.caf_top.specs.declared.answer.Due.{Due}
use Rattle.caf_top.specs.declared.answer.Due.TheVariants.{Done, Trapped, Refused, Stuck, Spent, Paused, Unreadable, TooLong, TraceRefused}
use Rattle.caf_top.specs.declared.job.Work.{Work}
use Rattle.caf_top.specs.declared.job.Work.TheVariants as work
use Rattle.caf_top.specs.Refusals.{Told, IsWrong, IsUnbuilt, refusal_line}
use Rattle.caf_top.specs.Sees.{Sees}
use Rattle.caf_top.specs.Wanted.{usage, wanted_by}

-- the longest program text, and the longest trace
abbrev pub limit : ℕ
limit = 1048576

abbrev pub trace_limit : ℕ
trace_limit = 67108864

-- ---- what a call saw of the host

-- its texts, where they are told, the name that was asked for, and how often loads of that name had failed before the call
-- and had after it
pub record Seen : Type 0 where
  pub texts : Option Texts
  pub name : List ℕ
  pub failed_before : ℕ
  pub failed_now : ℕ

-- of a host with these texts and these counts of failed loads before and after a call, for this name
abbrev pub seen_of : Option Texts → (List ℕ → ℕ) → (List ℕ → ℕ) → List ℕ → Seen
seen_of texts before now name = record { texts = texts; name = name; failed_before = before name; failed_now = now name }

-- no load of the name failed, and a text of at most so many bytes has P: the one under the name, where the host tells its
-- texts
pub record IsLoaded (host : Seen) (most : ℕ) (P : List ℕ → Type 0) : Type 0 where
  pub stood : host.failed_now ≡ host.failed_before
  pub bytes : List ℕ
  pub held : Has host.texts host.name (λ held. bytes ≡ held)
  pub within : length bytes ≤ most
  pub has : P bytes

-- ---- what a text gives

-- The bytes are an accepted program that runs; the journal is that of its run of at most so many entries, which ends like
-- this; and the text is the report of the run.
pub record Reports (events : ℕ) (e : Ending) (bytes : List ℕ) (journal : List Entry) (text : List ℕ) : Type 0 where
  pub program : Program
  pub sees : Sees bytes program
  pub built : first_unbuilt program ≡ None
  pub told : Summary
  pub runs : IsRunOf program events journal told
  pub ends : told.ending ≡ e
  pub report : text ≡ report_text told

-- the bytes are an accepted program, and the text is the listing of a code which keeps the rules of a code and does what the
-- program says
pub record Lists (bytes : List ℕ) (journal : List Entry) (text : List ℕ) : Type 0 where
  pub program : Program
  pub sees : Sees bytes program
  pub code : Listing
  pub keeps : KeepsRules code
  pub compiled : Compiled program code
  pub listing : text ≡ listing_text code
  pub no_run : journal ≡ []

-- The bytes are no accepted program, and a fault that they have is told; or, where a run was wanted, they are one that doesn't
-- run yet, and the first statement that doesn't is told.
abbrev pub IsRefused : Work → List ℕ → Told → Type 0
IsRefused (work.Run events) bytes told = IsWrong bytes told ⊎ IsUnbuilt bytes told
IsRefused work.List bytes told = IsWrong bytes told

pub record Refuses (w : Work) (bytes : List ℕ) (journal : List Entry) (text : List ℕ) : Type 0 where
  pub told : Told
  pub why : IsRefused w bytes told
  pub line : text ≡ refusal_line told
  pub no_run : journal ≡ []

-- a run that was wanted ends like this
abbrev pub Ends : Work → Ending → List ℕ → List Entry → List ℕ → Type 0
Ends (work.Run events) e bytes journal text = Reports events e bytes journal text
Ends work.List e bytes journal text = ⊥

-- what was wanted came to its end
abbrev pub IsDone : Work → List ℕ → List Entry → List ℕ → Type 0
IsDone (work.Run events) bytes journal text = Reports events ending.Done bytes journal text
IsDone work.List bytes journal text = Lists bytes journal text

-- what a loaded text gives
abbrev pub IsGiven : Work → Due → List ℕ → List Entry → List ℕ → Type 0
IsGiven w Done bytes journal text = IsDone w bytes journal text
IsGiven w Trapped bytes journal text = Ends w ending.Trapped bytes journal text
IsGiven w Stuck bytes journal text = Ends w ending.Stuck bytes journal text
IsGiven w Spent bytes journal text = Ends w ending.Going bytes journal text
IsGiven w Refused bytes journal text = Refuses w bytes journal text
IsGiven w _ bytes journal text = ⊥

-- ---- what is due to be written

-- the status of each
abbrev pub status_of : Due → ℕ
status_of Done = 0
status_of Trapped = 1
status_of Refused = 3
status_of Stuck = 4
status_of Spent = 5
status_of Paused = 6
status_of Unreadable = 7
status_of TooLong = 10
status_of TraceRefused = 11

-- a text was loaded, and gives this
abbrev pub Gives : Seen → Work → Due → List Entry → List ℕ → Type 0
Gives host w due journal text = IsLoaded host limit (λ bytes. IsGiven w due bytes journal text)

-- a load of the name failed
pub record IsUnreadable (host : Seen) (text : List ℕ) : Type 0 where
  pub rose : host.failed_before < host.failed_now
  pub line : text ≡ codes "cannot read " ++ host.name ++ codes "\n"

-- no load of the name failed, and the text under it has more bytes than this
pub record IsTooLong (host : Seen) (most : ℕ) (text : List ℕ) : Type 0 where
  pub stood : host.failed_now ≡ host.failed_before
  pub long : Has host.texts host.name (λ held. most < length held)
  pub line : text ≡ codes "too long " ++ host.name ++ codes "\n"

-- a name gave no text
abbrev pub IsUnloaded : Seen → ℕ → Due → List ℕ → Type 0
IsUnloaded host most Unreadable text = IsUnreadable host text
IsUnloaded host most TooLong text = IsTooLong host most text
IsUnloaded host most _ text = ⊥

-- the words want nothing that is built
pub record IsUsage (words : List (List ℕ)) (journal : List Entry) (text : List ℕ) : Type 0 where
  pub unknown : wanted_by words ≡ None
  pub no_run : journal ≡ []
  pub lines : text ≡ usage

-- what is due of a program by itself
abbrev pub IsDue : Seen → Work → Due → List Entry → List ℕ → Type 0
IsDue host w Unreadable journal text = IsUnreadable host text × (journal ≡ [])
IsDue host w TooLong journal text = IsTooLong host limit text × (journal ≡ [])
IsDue host w due journal text = Gives host w due journal text

-- the sink took a text that has P, and no other byte
abbrev pub Took : Option (List ℕ) → Option (List ℕ) → (List ℕ → Type 0) → Type 0
Took old new P = (text : List ℕ) × P text × Appends old new text

-- the sink took the front of a text that has P, and not all of it
abbrev pub TookPart : Option (List ℕ) → Option (List ℕ) → (List ℕ → Type 0) → Type 0
TookPart old new P = (text : List ℕ) × (n : ℕ) × P text × (n < length text) × Appends old new (take n text)

-- how a run ends, as what is due
abbrev pub due_of_ending : Ending → Due
due_of_ending ending.Done = Done
due_of_ending ending.Trapped = Trapped
due_of_ending ending.Stuck = Stuck
due_of_ending ending.Going = Spent

-- the statuses of what is built, and with that for words which want nothing of it
abbrev pub IsSerialStatus : ℕ → Type 0
IsSerialStatus s = (s ≡ 0) ⊎ (s ≡ 1) ⊎ (s ≡ 3) ⊎ (s ≡ 4) ⊎ (s ≡ 5) ⊎ (s ≡ 6) ⊎ (s ≡ 7) ⊎ (s ≡ 8) ⊎ (s ≡ 9) ⊎ (s ≡ 10) ⊎ (s ≡ 11)

abbrev pub IsMainStatus : ℕ → Type 0
IsMainStatus s = (s ≡ 2) ⊎ IsSerialStatus s
