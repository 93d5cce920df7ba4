-- What the parts of a call give: a report, a listing, or the line of a refusal.
use Rattle.std.specs.Prelude.{◌≡◌, ◌++◌, ℕ, List, [], codes, Option, Some, None}
use Rattle.caf_base.specs.declared.summary.Summary.{Summary}
use Rattle.caf_code.specs.Listing.{listing_text}
use Rattle.caf_code.specs.Rules.{KeepsRules}
use Rattle.caf_code.specs.declared.listing.Listing.{Listing}
use Rattle.caf_codegen.specs.Compiled.{Compiled}
use Rattle.caf_journal.specs.declared.entry.Entry.{Entry}
use Rattle.caf_outside.specs.declared.fault.LoadFail.{LoadFail}
use Rattle.caf_outside.specs.declared.fault.LoadFail.TheVariants as fail
use Rattle.caf_program.specs.declared.program.Program.{Program}
use Rattle.caf_report.specs.Report.{report_text}
use Rattle.caf_solo.specs.RunOf.{IsRunOf}
use Rattle.caf_unbuilt.specs.Unbuilt.{first_unbuilt}
use Rattle.caf_top.specs.declared.answer.Due.{Due}
use Rattle.caf_top.specs.declared.answer.Due.TheVariants.{Done, Refused, Unreadable, TooLong}
use Rattle.caf_top.specs.declared.job.Work.{Work}
use Rattle.caf_top.specs.declared.job.Work.TheVariants as work
use Rattle.caf_top.specs.Promise.{due_of_ending}
use Rattle.caf_top.specs.declared.refusal.Stop.{Stop}
use Rattle.caf_top.specs.declared.refusal.Stop.TheVariants as stop
use Rattle.caf_top.specs.Reading.{told_by}
use Rattle.caf_top.specs.Refusals.{Told, refusal_line}

-- the report of a run of at most so many entries
pub record IsReport (events : ℕ) (p : Program) (due : Due) (journal : List Entry) (text : List ℕ) : Type 0 where
  pub told : Summary
  pub runs : IsRunOf p events journal told
  pub ends : due ≡ due_of_ending told.ending
  pub report : text ≡ report_text told

-- the listing of a code that keeps the rules and does what the program says
pub record IsListing (p : Program) (due : Due) (journal : List Entry) (text : List ℕ) : Type 0 where
  pub code : Listing
  pub keeps : KeepsRules code
  pub compiled : Compiled p code
  pub listing : text ≡ listing_text code
  pub no_run : journal ≡ []
  pub is : due ≡ Done

-- the line of a refusal
pub record IsRefusal (told : Told) (due : Due) (journal : List Entry) (text : List ℕ) : Type 0 where
  pub line : text ≡ refusal_line told
  pub no_run : journal ≡ []
  pub is : due ≡ Refused

-- the same, of what stopped the reading of a text
abbrev pub IsStopped : Stop → Due → List Entry → List ℕ → Type 0
IsStopped (stop.Refused r) due journal text = IsRefusal (told_by r) due journal text
IsStopped stop.Memory due journal text = ⊥

-- the line on a name that gave no text
abbrev pub IsTold : LoadFail → List ℕ → Due → List Entry → List ℕ → Type 0
IsTold fail.Failed name due journal text = (due ≡ Unreadable) × (journal ≡ []) × (text ≡ codes "cannot read " ++ name ++ codes "\n")
IsTold fail.TooLong name due journal text = (due ≡ TooLong) × (journal ≡ []) × (text ≡ codes "too long " ++ name ++ codes "\n")
IsTold fail.Memory name due journal text = ⊥

-- the report of a run, unless a statement on this line doesn't run yet
abbrev pub RanUnless : Option ℕ → ℕ → Program → Due → List Entry → List ℕ → Type 0
RanUnless None events p due journal text = IsReport events p due journal text
RanUnless (Some line) events p due journal text = IsRefusal (line, codes "not yet") due journal text

-- what is wanted of an accepted program
abbrev pub CarriedOut : Work → Program → Due → List Entry → List ℕ → Type 0
CarriedOut (work.Run events) p due journal text = RanUnless (first_unbuilt p) events p due journal text
CarriedOut work.List p due journal text = IsListing p due journal text
