-- The choices of a journal, and the state of the source machine that they lead to.
use Rattle.std.specs.Prelude.{ℕ, List, [], ◌∷◌, ◌++◌, Option}
use Rattle.caf_journal.specs.declared.entry.Entry.{Entry}
use Rattle.caf_journal.specs.declared.entry.Entry.TheVariants.{Step, Touch, Part, Leave, Ack, Return, Offer, Contribute, Relay, Result}
use Rattle.caf_program.specs.declared.program.Program.{Program}
use Rattle.caf_source.specs.declared.choice.Choice.{Choice}
use Rattle.caf_source.specs.declared.choice.Choice.TheVariants as choice
use Rattle.caf_source.specs.Run.{state_after}
use Rattle.caf_source.specs.State.{State}

-- the choice of an entry, if it is one and none of the protocol
abbrev pub choice_of : Entry → List Choice
choice_of (Step image task) = choice.Step image task ∷ []
choice_of (Touch image operation stage) = choice.Touch operation ∷ []
choice_of (Part image) = choice.Part image ∷ []
choice_of (Leave image) = choice.Leave image ∷ []
choice_of (Ack image operation stage) = []
choice_of (Return image operation) = []
choice_of (Offer image from) = []
choice_of (Contribute image four) = []
choice_of (Relay image from) = []
choice_of (Result image sum) = []

abbrev pub choices_of : List Entry → List Choice
choices_of [] = []
choices_of (entry ∷ rest) = choice_of entry ++ choices_of rest

-- the state of a program on so many images after a journal
abbrev pub state_of : Program → ℕ → List Entry → Option State
state_of p images journal = state_after p images (choices_of journal)
