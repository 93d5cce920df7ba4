-- What a run on one image comes to.
use Rattle.std.specs.Prelude.{◌≡◌, ◌≤◌, ℕ, true, List, [], ◌∷◌, length, Some}
use Rattle.caf_base.specs.declared.summary.Ending.TheVariants.{Going}
use Rattle.caf_base.specs.declared.summary.ImageSummary.{ImageSummary}
use Rattle.caf_base.specs.declared.summary.Summary.{Summary}
use Rattle.caf_base.specs.ImageMemory.{ImageMemory}
use Rattle.caf_journal.specs.declared.entry.Entry.{Entry}
use Rattle.caf_program.specs.declared.program.Program.{Program}
use Rattle.caf_source.specs.Run.{Tells}
use Rattle.caf_source.specs.State.{State}
use Rattle.caf_check.specs.Choices.{state_of}
use Rattle.caf_solo.specs.Led.{ending_in, trap_in}
use Rattle.caf_solo.specs.Waves.{is_legal}
use Rattle.caf_solo.specs.declared.phase.Phase.{Phase}

-- what a report tells of the one image, in a phase of its run and with this memory
abbrev pub told : Phase → ImageMemory → ImageSummary
told f m = record { lines = m.lines; trap = trap_in f }

abbrev pub told_alone : Phase → ImageMemory → Summary
told_alone f m = record { images = told f m ∷ []; ending = ending_in f }

-- The journal is legal, and has at most so many entries; the source machine, led by its choices, comes to a state of which
-- the summary tells. Where that state goes on, the journal has as many entries as it may.
pub record IsRunOf (p : Program) (most : ℕ) (journal : List Entry) (told : Summary) : Type 0 where
  pub legal : is_legal p journal ≡ true
  pub last : State
  pub leads : state_of p 1 journal ≡ Some last
  pub tells : Tells p last told
  pub within : length journal ≤ most
  pub spent : told.ending ≡ Going → length journal ≡ most
