-- The trace: the text of a journal, a line for each entry.
use Rattle.std.specs.Prelude.{◌≡◌, ◌≢◌, ℕ, ◌+◌, ◌<◌, ◌≤◌, ◌^◌, List, [], ◌∷◌, ◌++◌, length, All, ℤ, pos, negsuc, codes, Bool, true, false, IsTrue}
use Rattle.std.specs.Fmt.{decimal, signed_decimal}
use Rattle.std.specs.List.{flat_map, join_with_byte}
use Rattle.caf_base.specs.declared.four.Four.{Four}
use Rattle.caf_base.specs.declared.operation.OpName.{OpName}
use Rattle.caf_base.specs.declared.operation.Stage.{Stage}
use Rattle.caf_base.specs.declared.operation.Stage.TheVariants.{Ship, Notice, Start, Fetch, Store, Read, Write}
use Rattle.caf_journal.specs.declared.entry.Entry.{Entry}
use Rattle.caf_journal.specs.declared.entry.Entry.TheVariants as entry
use Rattle.caf_journal.specs.declared.fault.TraceFault.{TraceFault}
use Rattle.caf_journal.specs.declared.fault.TraceFault.TheVariants as fault
use Rattle.caf_journal.specs.declared.TheConstants.{MAX_ENTRIES}

abbrev pub stage_word : Stage → List ℕ
stage_word Ship = codes "ship"
stage_word Notice = codes "notice"
stage_word Start = codes "start"
stage_word Fetch = codes "fetch"
stage_word Store = codes "store"
stage_word Read = codes "read"
stage_word Write = codes "write"

-- the image and the number, with a point between
abbrev pub operation_word : OpName → List ℕ
operation_word operation = decimal operation.image ++ 46 ∷ decimal operation.number

abbrev pub count_words : Four → List (List ℕ)
count_words four = decimal four.sent ∷ decimal four.delivered ∷ decimal four.received ∷ decimal four.completed ∷ []

-- the words of an entry's line
abbrev pub words_of : Entry → List (List ℕ)
words_of (entry.Step image task) = codes "step" ∷ decimal image ∷ decimal task ∷ []
words_of (entry.Touch image operation stage) = codes "touch" ∷ decimal image ∷ operation_word operation ∷ stage_word stage ∷ []
words_of (entry.Part image) = codes "part" ∷ decimal image ∷ []
words_of (entry.Leave image) = codes "leave" ∷ decimal image ∷ []
words_of (entry.Ack image operation stage) = codes "ack" ∷ decimal image ∷ operation_word operation ∷ stage_word stage ∷ []
words_of (entry.Return image operation) = codes "return" ∷ decimal image ∷ operation_word operation ∷ []
words_of (entry.Offer image from) = codes "offer" ∷ decimal image ∷ decimal from ∷ []
words_of (entry.Contribute image four) = codes "contribute" ∷ decimal image ∷ count_words four
words_of (entry.Relay image from) = codes "relay" ∷ decimal image ∷ decimal from ∷ []
words_of (entry.Result image sum) = codes "result" ∷ decimal image ∷ signed_decimal sum ∷ []

-- the words with one blank between each two
abbrev pub line_of : Entry → List ℕ
line_of e = join_with_byte 32 (words_of e)

-- the line with its end
abbrev pub line_text : Entry → List ℕ
line_text e = line_of e ++ 10 ∷ []

abbrev pub trace_text : List Entry → List ℕ
trace_text = flat_map line_text

abbrev pub IsImage : ℕ → Type 0
IsImage n = n < 64

-- tasks and counts
abbrev pub IsCount : ℕ → Type 0
IsCount n = n < 2 ^ 32

abbrev pub IsOperation : OpName → Type 0
IsOperation operation = IsImage operation.image × (0 < operation.number) × (operation.number < 65536)

-- whether messages of the stage are counted, so that they have an Ack
abbrev pub is_counted : Stage → Bool
is_counted Ship = true
is_counted Notice = true
is_counted Start = true
is_counted Fetch = true
is_counted Store = true
is_counted Read = false
is_counted Write = false

abbrev pub IsSum : ℤ → Type 0
IsSum (pos n) = n < 2 ^ 63
IsSum (negsuc n) = ⊥

-- a line of the trace gives the entry
abbrev pub HasLine : Entry → Type 0
HasLine (entry.Step image task) = IsImage image × IsCount task
HasLine (entry.Touch image operation stage) = IsImage image × IsOperation operation
HasLine (entry.Part image) = IsImage image
HasLine (entry.Leave image) = IsImage image
HasLine (entry.Ack image operation stage) = IsImage image × IsOperation operation × IsTrue (is_counted stage)
HasLine (entry.Return image operation) = IsImage image × IsOperation operation
HasLine (entry.Offer image from) = IsImage image × IsImage from
HasLine (entry.Contribute image four) = IsImage image × IsCount four.sent × IsCount four.delivered × IsCount four.received × IsCount four.completed
HasLine (entry.Relay image from) = IsImage image × IsImage from
HasLine (entry.Result image sum) = IsImage image × IsSum sum

-- the journal has a trace
abbrev pub HasTrace : List Entry → Type 0
HasTrace journal = (length journal ≤ MAX_ENTRIES) × All HasLine journal

-- the text is the trace of the journal
abbrev pub Spells : List ℕ → List Entry → Type 0
Spells text journal = HasTrace journal × (text ≡ trace_text journal)

-- The line of this number, from 1, is there, and is the first that isn't one of a trace: before it stand the lines of
-- some entries, and no line of a further entry comes next.
abbrev pub IsFirstBadLine : List ℕ → ℕ → Type 0
IsFirstBadLine text line = (before : List Entry) × (rest : List ℕ) × HasTrace before × (text ≡ trace_text before ++ rest) × (length before + 1 ≡ line) × (rest ≢ [])
    × ((e : Entry) (after : List ℕ) → HasTrace (before ++ e ∷ []) → rest ≡ line_text e ++ after → ⊥)

-- the fault that reading the text meets: memory may run out at any text
abbrev pub HasFault : List ℕ → TraceFault → Type 0
HasFault text (fault.BadLine line) = IsFirstBadLine text line
HasFault text fault.Memory = Unit {0}
