-- What is due of a check: the source machine follows the choices of a trace.
use Rattle.std.specs.Prelude.{◌≡◌, ◌⊎◌, ℕ, List, ◌++◌, codes, decimal}
use Rattle.caf_base.specs.declared.summary.Summary.{Summary}
use Rattle.caf_base.specs.declared.summary.Ending.{Ending}
use Rattle.caf_base.specs.declared.summary.Ending.TheVariants as ending
use Rattle.caf_check.specs.Checked.{Ends, IsRefusedAt}
use Rattle.caf_journal.specs.Trace.{IsFirstBadLine}
use Rattle.caf_program.specs.declared.program.Program.{Program}
use Rattle.caf_report.specs.Report.{report_text}
use Rattle.caf_top.specs.declared.answer.Due.{Due}
use Rattle.caf_top.specs.declared.answer.Due.TheVariants.{Done, Trapped, Refused, Stuck, Paused, TraceRefused}
use Rattle.caf_top.specs.Promise.{IsLoaded, IsUnloaded, Seen, limit, trace_limit}
use Rattle.caf_top.specs.Refusals.{IsWrong, Told, refusal_line}
use Rattle.caf_top.specs.Sees.{Sees}

-- The choices of the trace lead to a state that stands like this, and the text is its report.
pub record EndsAs (p : Program) (images : ℕ) (e : Ending) (trace : List ℕ) (text : List ℕ) : Type 0 where
  pub told : Summary
  pub leads : Ends p images trace told
  pub ends : told.ending ≡ e
  pub report : text ≡ report_text told

-- A line is the first that isn't one of a trace, or else the first whose choice isn't defined, and the text tells which.
pub record RefusesTrace (p : Program) (images : ℕ) (trace : List ℕ) (text : List ℕ) : Type 0 where
  pub number : ℕ
  pub why : IsFirstBadLine trace number ⊎ IsRefusedAt p images trace number
  pub line : text ≡ codes "trace refused at line " ++ decimal number ++ codes "\n"

-- what a trace gives for a program
abbrev pub IsTraced : Program → ℕ → Due → List ℕ → List ℕ → Type 0
IsTraced p images Done trace text = EndsAs p images ending.Done trace text
IsTraced p images Trapped trace text = EndsAs p images ending.Trapped trace text
IsTraced p images Stuck trace text = EndsAs p images ending.Stuck trace text
IsTraced p images Paused trace text = EndsAs p images ending.Going trace text
IsTraced p images TraceRefused trace text = RefusesTrace p images trace text
IsTraced p images _ trace text = ⊥

-- the bytes are no accepted program, and the text tells of a fault that they have
pub record IsWrongText (bytes : List ℕ) (text : List ℕ) : Type 0 where
  pub told : Told
  pub why : IsWrong bytes told
  pub line : text ≡ refusal_line told

-- the program's text was loaded, and is accepted as this
abbrev pub IsAccepted : Seen → Program → Type 0
IsAccepted file p = IsLoaded file limit (λ bytes. Sees bytes p)

-- What is due of a file and a trace, each as the host was seen while it was loaded. The first that gives nothing decides.
pub data CheckDue (file trace : Seen) (images : ℕ) (due : Due) (text : List ℕ) : Type 0 where
  no_file : IsUnloaded file limit due text → trace.failed_now ≡ trace.failed_before → CheckDue file trace images due text
  wrong : due ≡ Refused → IsLoaded file limit (λ bytes. IsWrongText bytes text) → trace.failed_now ≡ trace.failed_before → CheckDue file trace images due text
  no_trace : (p : Program) → IsAccepted file p → IsUnloaded trace trace_limit due text → CheckDue file trace images due text
  traced : (p : Program) → IsAccepted file p → IsLoaded trace trace_limit (λ bytes. IsTraced p images due bytes text) → CheckDue file trace images due text

-- how a state stands, as what is due
abbrev pub due_of_check : Ending → Due
due_of_check ending.Done = Done
due_of_check ending.Trapped = Trapped
due_of_check ending.Stuck = Stuck
due_of_check ending.Going = Paused
