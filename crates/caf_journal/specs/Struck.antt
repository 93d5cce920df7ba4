-- A journal without the entries of the protocol.
use Rattle.std.specs.Prelude.{Bool, true, false, List, filter}
use Rattle.caf_journal.specs.declared.entry.Entry.{Entry}
use Rattle.caf_journal.specs.declared.entry.Entry.TheVariants.{Step, Touch, Part, Leave, Ack, Return, Offer, Contribute, Relay, Result}

-- whether the entry is a choice of the run, and none of the protocol
abbrev pub is_choice : Entry → Bool
is_choice (Step image task) = true
is_choice (Touch image operation stage) = true
is_choice (Part image) = true
is_choice (Leave image) = true
is_choice (Ack image operation stage) = false
is_choice (Return image operation) = false
is_choice (Offer image from) = false
is_choice (Contribute image four) = false
is_choice (Relay image from) = false
is_choice (Result image sum) = false

-- the choices alone, in their order
abbrev pub struck : List Entry → List Entry
struck = filter is_choice
