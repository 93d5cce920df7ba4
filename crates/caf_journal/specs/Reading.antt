-- How a line is read: each part up to a mark, and the words by tables. The trace itself is defined by its text alone.
use Rattle.std.specs.Prelude.{ℕ, ◌^◌, List, [], ◌∷◌, Option, Some, None, option_and_then, nat_lt, ◌==◌, ◌&&◌, if◌then◌else◌, pos, map}
use Rattle.std.specs.Fmt.{decimal}
use Rattle.std.specs.Str.{bytes_eq}
use Rattle.std.specs.Str.Parse.{digits_value}
use Rattle.caf_base.specs.declared.four.Four.{Four}
use Rattle.caf_base.specs.declared.operation.OpName.{OpName}
use Rattle.caf_base.specs.declared.operation.Stage.{Stage}
use Rattle.caf_journal.specs.declared.entry.Entry.{Entry}
use Rattle.caf_journal.specs.declared.entry.Entry.TheVariants as entry
use Rattle.caf_journal.specs.declared.fields.Kind.{Kind}
use Rattle.caf_journal.specs.declared.fields.Kind.TheVariants as kind
use Rattle.caf_journal.specs.declared.fields.TheConstants.{KINDS, STAGES}
use Rattle.caf_journal.specs.Trace.{is_counted}

infixl 10 ◌>>=◌
abbrev pub ◌>>=◌ : {A B : Type 0} → Option A → (A → Option B) → Option B
o >>= f = option_and_then f o

abbrev pub onto_front : ℕ → Option (List ℕ × List ℕ) → Option (List ℕ × List ℕ)
onto_front b None = None
onto_front b (Some parts) = Some (b ∷ parts.0, parts.1)

-- what stands before the first mark, and what stands behind it
abbrev pub cut : ℕ → List ℕ → Option (List ℕ × List ℕ)
cut mark [] = None
cut mark (b ∷ text) = if b == mark then Some ([], text) else onto_front b (cut mark text)

-- the number below the limit that is written so
unfoldable pub number_below : ℕ → List ℕ → Option ℕ
number_below limit word = if nat_lt (digits_value 10 word) limit && bytes_eq word (decimal (digits_value 10 word)) then Some (digits_value 10 word) else None

abbrev pub image_of : List ℕ → Option ℕ
image_of = number_below 64

abbrev pub count_of : List ℕ → Option ℕ
count_of = number_below (2 ^ 32)

unfoldable pub operation_of : List ℕ → Option OpName
operation_of word = do
  parts ← cut 46 word
  image ← image_of parts.0
  number ← number_below 65536 parts.1
  if number == 0 then None else Some (record { image = image; number = number })

-- the value at a word in a table
abbrev pub value_at : {A : Type 0} → List (List ℕ × A) → List ℕ → Option A
value_at [] word = None
value_at (line ∷ lines) word = if bytes_eq line.0 word then Some line.1 else value_at lines word

unfoldable pub stage_of : List ℕ → Option Stage
stage_of = value_at (map (λ line. (line.0.now, line.1)) STAGES)

unfoldable pub counted_stage_of : List ℕ → Option Stage
counted_stage_of word = do
  stage ← stage_of word
  if is_counted stage then Some stage else None

-- the number before the first blank, and what stands behind it
unfoldable pub number_before : ℕ → List ℕ → Option (ℕ × List ℕ)
number_before limit text = do
  parts ← cut 32 text
  number ← number_below limit parts.0
  Some (number, parts.1)

-- the image before the first blank, and what stands behind it
abbrev pub image_before : List ℕ → Option (ℕ × List ℕ)
image_before = number_before 64

unfoldable pub operation_before : List ℕ → Option (OpName × List ℕ)
operation_before text = do
  parts ← cut 32 text
  operation ← operation_of parts.0
  Some (operation, parts.1)

unfoldable pub four_of : List ℕ → Option Four
four_of text = do
  sent ← number_before (2 ^ 32) text
  delivered ← number_before (2 ^ 32) sent.1
  received ← number_before (2 ^ 32) delivered.1
  completed ← count_of received.1
  Some (record { sent = sent.0; delivered = delivered.0; received = received.0; completed = completed })

-- the entries by what stands behind the first word
unfoldable pub step_of : List ℕ → Option Entry
step_of text = do
  image ← image_before text
  task ← count_of image.1
  Some (entry.Step image.0 task)

unfoldable pub touch_of : List ℕ → Option Entry
touch_of text = do
  image ← image_before text
  operation ← operation_before image.1
  stage ← stage_of operation.1
  Some (entry.Touch image.0 operation.0 stage)

unfoldable pub part_of : List ℕ → Option Entry
part_of text = do
  image ← image_of text
  Some (entry.Part image)

unfoldable pub leave_of : List ℕ → Option Entry
leave_of text = do
  image ← image_of text
  Some (entry.Leave image)

unfoldable pub ack_of : List ℕ → Option Entry
ack_of text = do
  image ← image_before text
  operation ← operation_before image.1
  stage ← counted_stage_of operation.1
  Some (entry.Ack image.0 operation.0 stage)

unfoldable pub return_of : List ℕ → Option Entry
return_of text = do
  image ← image_before text
  operation ← operation_of image.1
  Some (entry.Return image.0 operation)

unfoldable pub offer_of : List ℕ → Option Entry
offer_of text = do
  image ← image_before text
  from ← image_of image.1
  Some (entry.Offer image.0 from)

unfoldable pub contribute_of : List ℕ → Option Entry
contribute_of text = do
  image ← image_before text
  four ← four_of image.1
  Some (entry.Contribute image.0 four)

unfoldable pub relay_of : List ℕ → Option Entry
relay_of text = do
  image ← image_before text
  from ← image_of image.1
  Some (entry.Relay image.0 from)

unfoldable pub result_of : List ℕ → Option Entry
result_of text = do
  image ← image_before text
  sum ← number_below (2 ^ 63) image.1
  Some (entry.Result image.0 (pos sum))

-- the entry by its kind, of what stands behind the first word
abbrev pub fields_of : Kind → List ℕ → Option Entry
fields_of kind.Step text = step_of text
fields_of kind.Touch text = touch_of text
fields_of kind.Part text = part_of text
fields_of kind.Leave text = leave_of text
fields_of kind.Ack text = ack_of text
fields_of kind.Return text = return_of text
fields_of kind.Offer text = offer_of text
fields_of kind.Contribute text = contribute_of text
fields_of kind.Relay text = relay_of text
fields_of kind.Result text = result_of text

-- the entry of a line without its end
unfoldable pub entry_of : List ℕ → Option Entry
entry_of line = do
  parts ← cut 32 line
  kind ← value_at (map (λ line. (line.0.now, line.1)) KINDS) parts.0
  fields_of kind parts.1
