-- What is carried out of a program is what its text gives.
use Rattle.std.proofs.Common.{◌≡◌, ℕ, List, codes, Option, Some, None, Result, Ok, Err, IfOk, inl, inr, refl, sym, subst}
use Rattle.caf_base.specs.declared.summary.Ending.{Ending}
use Rattle.caf_base.specs.declared.summary.Ending.TheVariants as ending
use Rattle.caf_journal.specs.declared.entry.Entry.{Entry}
use Rattle.caf_program.specs.declared.program.Program.{Program}
use Rattle.caf_unbuilt.specs.Unbuilt.{first_unbuilt}
use Rattle.caf_top.specs.Answers.{CarriedOut, IsListing, IsRefusal, IsReport, IsStopped, RanUnless}
use Rattle.caf_top.specs.Promise.{IsGiven, IsRefused, due_of_ending}
use Rattle.caf_top.specs.Refusals.{IsWrong, Told}
use Rattle.caf_top.specs.Reading.{Reads, told_by}
use Rattle.caf_top.specs.Sees.{Sees}
use Rattle.caf_top.specs.declared.answer.Answer.{Answer}
use Rattle.caf_top.specs.declared.answer.Due.{Due}
use Rattle.caf_top.specs.declared.answer.Due.TheVariants.{Done}
use Rattle.caf_top.specs.declared.refusal.Stop.{Stop}
use Rattle.caf_top.specs.declared.refusal.Stop.TheVariants as stop
use Rattle.caf_top.specs.declared.job.Work.{Work}
use Rattle.caf_top.specs.declared.job.Work.TheVariants as work

ran_as : (events : ℕ) (bytes : List ℕ) (p : Program) → Sees bytes p → first_unbuilt p ≡ None → (due : Due) (journal : List Entry) (text : List ℕ) (h : IsReport events p due journal text) (e : Ending) → h.told.ending ≡ e → IsGiven (work.Run events) (due_of_ending e) bytes journal text
ran_as events bytes p sees built due journal text h ending.Done is = record { program = p; sees = sees; built = built; told = h.told; runs = h.runs; ends = is; report = h.report }
ran_as events bytes p sees built due journal text h ending.Trapped is = record { program = p; sees = sees; built = built; told = h.told; runs = h.runs; ends = is; report = h.report }
ran_as events bytes p sees built due journal text h ending.Stuck is = record { program = p; sees = sees; built = built; told = h.told; runs = h.runs; ends = is; report = h.report }
ran_as events bytes p sees built due journal text h ending.Going is = record { program = p; sees = sees; built = built; told = h.told; runs = h.runs; ends = is; report = h.report }

listed_as : (bytes : List ℕ) (p : Program) → Sees bytes p → (due : Due) (journal : List Entry) (text : List ℕ) → IsListing p due journal text → IsGiven work.List Done bytes journal text
listed_as bytes p sees due journal text h = record { program = p; sees = sees; code = h.code; keeps = h.keeps; compiled = h.compiled; listing = h.listing; no_run = h.no_run }

refused_as : (w : Work) (bytes : List ℕ) (told : Told) → IsRefused w bytes told → (due : Due) (journal : List Entry) (text : List ℕ) → IsRefusal told due journal text → IsGiven w due bytes journal text
refused_as w bytes told why due journal text h = subst (λ d. IsGiven w d bytes journal text) (sym h.is) (record { told = told; why = why; line = h.line; no_run = h.no_run })

unless : (o : Option ℕ) (events : ℕ) (bytes : List ℕ) (p : Program) → first_unbuilt p ≡ o → Sees bytes p → (due : Due) (journal : List Entry) (text : List ℕ) → RanUnless o events p due journal text → IsGiven (work.Run events) due bytes journal text
unless None events bytes p is sees due journal text h = subst (λ d. IsGiven (work.Run events) d bytes journal text) (sym h.ends) (ran_as events bytes p sees is due journal text h h.told.ending refl)
unless (Some line) events bytes p is sees due journal text h = refused_as (work.Run events) bytes (line, codes "not yet") (inr (record { program = p; sees = sees; first = is; words = refl })) due journal text h

came_to : (w : Work) (bytes : List ℕ) (p : Program) → Sees bytes p → (due : Due) (journal : List Entry) (text : List ℕ) → CarriedOut w p due journal text → IsGiven w due bytes journal text
came_to (work.Run events) bytes p sees due journal text h = unless (first_unbuilt p) events bytes p refl sees due journal text h
came_to work.List bytes p sees due journal text h = subst (λ d. IsGiven work.List d bytes journal text) (sym h.is) (listed_as bytes p sees due journal text h)

-- a text that is wrong is refused, whatever is wanted
wrong_as : (w : Work) (bytes : List ℕ) (told : Told) → IsWrong bytes told → IsRefused w bytes told
wrong_as (work.Run events) bytes told wrong = inl wrong
wrong_as work.List bytes told wrong = wrong

-- the same of an answer, where there is one
pub carried : {E : Type 0} (w : Work) (bytes : List ℕ) (p : Program) → Sees bytes p → (result : Result Answer E) → IfOk result (λ a. CarriedOut w p a.due a.journal a.text.items) → IfOk result (λ a. IsGiven w a.due bytes a.journal a.text.items)
carried w bytes p sees (Ok a) h = came_to w bytes p sees a.due a.journal a.text.items h
carried w bytes p sees (Err e) h = h

refused : {E : Type 0} (w : Work) (bytes : List ℕ) (told : Told) → IsWrong bytes told → (result : Result Answer E) → IfOk result (λ a. IsRefusal told a.due a.journal a.text.items) → IfOk result (λ a. IsGiven w a.due bytes a.journal a.text.items)
refused w bytes told wrong (Ok a) h = refused_as w bytes told (wrong_as w bytes told wrong) a.due a.journal a.text.items h
refused w bytes told wrong (Err e) h = h

not_given : {E : Type 0} (w : Work) (bytes : List ℕ) (result : Result Answer E) → IfOk result (λ a. IsStopped stop.Memory a.due a.journal a.text.items) → IfOk result (λ a. IsGiven w a.due bytes a.journal a.text.items)
not_given w bytes (Ok a) h = absurd h
not_given w bytes (Err e) h = h

-- what stopped the reading tells what is wrong with the text
pub stopped : {E : Type 0} (w : Work) (bytes : List ℕ) (s : Stop) → Reads (Sees bytes) (IsWrong bytes) (Err s) → (result : Result Answer E) → IfOk result (λ a. IsStopped s a.due a.journal a.text.items) → IfOk result (λ a. IsGiven w a.due bytes a.journal a.text.items)
stopped w bytes (stop.Refused r) wrong result h = refused w bytes (told_by r) wrong result h
stopped w bytes stop.Memory wrong result h = not_given w bytes result h
