-- Each line is read as the entry whose line it is, and as no other.
use Rattle.std.proofs.Common.{◌≡◌, ℕ, ◌<◌, ◌^◌, List, ◌∷◌, ◌++◌, map, Option, Some, pos, negsuc, refl, ap, subst, ◌∙◌, arith}
use Rattle.std.specs.Prelude.{codes}
use Rattle.std.specs.Fmt.{decimal, signed_decimal}
use Rattle.std.specs.List.{join_with_byte}
use Rattle.caf_base.specs.declared.four.Four.{Four}
use Rattle.caf_base.specs.declared.operation.OpName.{OpName}
use Rattle.caf_base.specs.declared.operation.Stage.{Stage}
use Rattle.caf_journal.specs.declared.entry.Entry.{Entry}
use Rattle.caf_journal.specs.declared.entry.Entry.TheVariants as entry
use Rattle.caf_journal.specs.declared.fields.Kind.{Kind}
use Rattle.caf_journal.specs.declared.fields.Kind.TheVariants as kind
use Rattle.caf_journal.specs.declared.fields.TheConstants.{KINDS}
use Rattle.caf_journal.specs.Trace.{stage_word, operation_word, count_words, line_of, IsImage, IsCount, IsOperation, HasLine}
use Rattle.caf_journal.specs.Reading.{◌>>=◌, cut, number_below, image_of, count_of, value_at, number_before, image_before, operation_before, four_of, step_of, touch_of, part_of, leave_of, ack_of, return_of, offer_of, contribute_of, relay_of, result_of, fields_of, entry_of}
use Rattle.caf_journal.proofs.Cutting.{cut_is}
use Rattle.caf_journal.proofs.Words.{glue, bind_some, some_is, Reads, numbers, images, counts, operations, stages, counted_stages, value_at_is, number_before_is, number_before-append, operation_before_is, operation_before-append}

-- the four counts of a contribution
abbrev four_text : Four → List ℕ
four_text four = join_with_byte 32 (count_words four)

abbrev AreCounts : Four → Type 0
AreCounts four = IsCount four.sent × IsCount four.delivered × IsCount four.received × IsCount four.completed

four_is : (text : List ℕ) (four : Four) → four_of text ≡ Some four → AreCounts four × (text ≡ four_text four)
unfolding four_of
four_is text four e =
    let a = bind_some (number_before (2 ^ 32) text) (λ sent. number_before (2 ^ 32) sent.1 >>= λ delivered. number_before (2 ^ 32) delivered.1 >>= λ received. count_of received.1 >>= λ completed. Some (record { sent = sent.0; delivered = delivered.0; received = received.0; completed = completed })) four e in
    let b = bind_some (number_before (2 ^ 32) a.0.1) (λ delivered. number_before (2 ^ 32) delivered.1 >>= λ received. count_of received.1 >>= λ completed. Some (record { sent = a.0.0; delivered = delivered.0; received = received.0; completed = completed })) four a.2 in
    let c = bind_some (number_before (2 ^ 32) b.0.1) (λ received. count_of received.1 >>= λ completed. Some (record { sent = a.0.0; delivered = b.0.0; received = received.0; completed = completed })) four b.2 in
    let d = bind_some (count_of c.0.1) (λ completed. Some (record { sent = a.0.0; delivered = b.0.0; received = c.0.0; completed = completed })) four c.2 in
    let first = number_before_is (2 ^ 32) (omega arith) text a.0.0 a.0.1 a.1 in
    let second = number_before_is (2 ^ 32) (omega arith) a.0.1 b.0.0 b.0.1 b.1 in
    let third = number_before_is (2 ^ 32) (omega arith) b.0.1 c.0.0 c.0.1 c.1 in
    let last = counts.sound c.0.1 d.0 d.1 in
    let third_and_last = glue 32 b.0.1 (decimal c.0.0) c.0.1 (decimal c.0.0) (decimal d.0) third.1 refl last.1 in
    let from_second = glue 32 a.0.1 (decimal b.0.0) b.0.1 (decimal b.0.0) (decimal c.0.0 ++ 32 ∷ decimal d.0) second.1 refl third_and_last in
    let whole = glue 32 text (decimal a.0.0) a.0.1 (decimal a.0.0) (decimal b.0.0 ++ 32 ∷ (decimal c.0.0 ++ 32 ∷ decimal d.0)) first.1 refl from_second in
    subst (λ (f : Four). AreCounts f × (text ≡ four_text f)) (some_is _ four d.2) ((first.0, second.0, third.0, last.0), whole)

four_again : (four : Four) → AreCounts four → four_of (four_text four) ≡ Some four
unfolding four_of
four_again four are =
    rw (number_before-append (2 ^ 32) (omega arith) four.sent (decimal four.delivered ++ 32 ∷ (decimal four.received ++ 32 ∷ decimal four.completed)) are.0, number_before-append (2 ^ 32) (omega arith) four.delivered (decimal four.received ++ 32 ∷ decimal four.completed) are.1, number_before-append (2 ^ 32) (omega arith) four.received (decimal four.completed) are.2, counts.complete four.completed are.3) refl

fours : Reads four_text AreCounts four_of
fours = record { sound = four_is; complete = four_again }

-- ---- what stands behind the first word

-- the image, and then a value
record IsPair {A : Type 0} (text : A → List ℕ) (P : A → Type 0) (make : ℕ → A → Entry) (bytes : List ℕ) (e : Entry) : Type 0 where
  image : ℕ
  value : A
  in_range : IsImage image
  fits : P value
  text_is : bytes ≡ decimal image ++ 32 ∷ text value
  made : make image value ≡ e

pair_is : {A : Type 0} {text : A → List ℕ} {P : A → Type 0} {read : List ℕ → Option A} → Reads text P read → (make : ℕ → A → Entry) (bytes : List ℕ) (e : Entry)
    → (image_before bytes >>= λ image. read image.1 >>= λ value. Some (make image.0 value)) ≡ Some e → IsPair text P make bytes e
pair_is {A} {text} {P} {read} reads make bytes e is =
    let a = bind_some (image_before bytes) (λ image. read image.1 >>= λ value. Some (make image.0 value)) e is in
    let b = bind_some (read a.0.1) (λ value. Some (make a.0.0 value)) e a.2 in
    let first = number_before_is 64 (omega arith) bytes a.0.0 a.0.1 a.1 in
    let second = reads.sound a.0.1 b.0 b.1 in
    record { image = a.0.0; value = b.0; in_range = first.0; fits = second.0; text_is = glue 32 bytes (decimal a.0.0) a.0.1 (decimal a.0.0) (text b.0) first.1 refl second.1; made = some_is _ e b.2 }

pair_again : {A : Type 0} {text : A → List ℕ} {P : A → Type 0} {read : List ℕ → Option A} → Reads text P read → (make : ℕ → A → Entry) (image : ℕ) (value : A) → IsImage image → P value
    → (image_before (decimal image ++ 32 ∷ text value) >>= λ i. read i.1 >>= λ v. Some (make i.0 v)) ≡ Some (make image value)
pair_again {A} {text} reads make image value in_range fits =
    rw (number_before-append 64 (omega arith) image (text value) in_range, reads.complete value fits) refl

-- the image, an operation and a stage
record IsTriple (P : Stage → Type 0) (make : ℕ → OpName → Stage → Entry) (bytes : List ℕ) (e : Entry) : Type 0 where
  image : ℕ
  operation : OpName
  stage : Stage
  in_range : IsImage image
  operation_in_range : IsOperation operation
  fits : P stage
  text_is : bytes ≡ decimal image ++ 32 ∷ (operation_word operation ++ 32 ∷ stage_word stage)
  made : make image operation stage ≡ e

triple_is : {P : Stage → Type 0} {read : List ℕ → Option Stage} → Reads stage_word P read → (make : ℕ → OpName → Stage → Entry) (bytes : List ℕ) (e : Entry)
    → (image_before bytes >>= λ image. operation_before image.1 >>= λ operation. read operation.1 >>= λ stage. Some (make image.0 operation.0 stage)) ≡ Some e → IsTriple P make bytes e
triple_is {P} {read} reads make bytes e is =
    let a = bind_some (image_before bytes) (λ image. operation_before image.1 >>= λ operation. read operation.1 >>= λ stage. Some (make image.0 operation.0 stage)) e is in
    let b = bind_some (operation_before a.0.1) (λ operation. read operation.1 >>= λ stage. Some (make a.0.0 operation.0 stage)) e a.2 in
    let c = bind_some (read b.0.1) (λ stage. Some (make a.0.0 b.0.0 stage)) e b.2 in
    let first = number_before_is 64 (omega arith) bytes a.0.0 a.0.1 a.1 in
    let second = operation_before_is a.0.1 b.0.0 b.0.1 b.1 in
    let third = reads.sound b.0.1 c.0 c.1 in
    let later = glue 32 a.0.1 (operation_word b.0.0) b.0.1 (operation_word b.0.0) (stage_word c.0) second.1 refl third.1 in
    record { image = a.0.0; operation = b.0.0; stage = c.0; in_range = first.0; operation_in_range = second.0; fits = third.0; text_is = glue 32 bytes (decimal a.0.0) a.0.1 (decimal a.0.0) (operation_word b.0.0 ++ 32 ∷ stage_word c.0) first.1 refl later; made = some_is _ e c.2 }

triple_again : {P : Stage → Type 0} {read : List ℕ → Option Stage} → Reads stage_word P read → (make : ℕ → OpName → Stage → Entry) (image : ℕ) (operation : OpName) (stage : Stage) → IsImage image → IsOperation operation → P stage
    → (image_before (decimal image ++ 32 ∷ (operation_word operation ++ 32 ∷ stage_word stage)) >>= λ i. operation_before i.1 >>= λ o. read o.1 >>= λ s. Some (make i.0 o.0 s)) ≡ Some (make image operation stage)
triple_again reads make image operation stage in_range is fits =
    rw (number_before-append 64 (omega arith) image (operation_word operation ++ 32 ∷ stage_word stage) in_range, operation_before-append operation (stage_word stage) is, reads.complete stage fits) refl

-- ---- the kinds

abbrev kind_word : Kind → List ℕ
kind_word kind.Step = codes "step"
kind_word kind.Touch = codes "touch"
kind_word kind.Part = codes "part"
kind_word kind.Leave = codes "leave"
kind_word kind.Ack = codes "ack"
kind_word kind.Return = codes "return"
kind_word kind.Offer = codes "offer"
kind_word kind.Contribute = codes "contribute"
kind_word kind.Relay = codes "relay"
kind_word kind.Result = codes "result"

kind_is : (word : List ℕ) (k : Kind) → value_at (map (λ line. (line.0.now, line.1)) KINDS) word ≡ Some k → word ≡ kind_word k
kind_is word k e = value_at_is kind_word (map (λ line. (line.0.now, line.1)) KINDS) word k (refl, (refl, (refl, (refl, (refl, (refl, (refl, (refl, (refl, (refl, tt)))))))))) e

-- the entry has a line, which begins with the word, and the text stands behind it
abbrev IsEntry : List ℕ → List ℕ → Entry → Type 0
IsEntry word text e = HasLine e × (word ++ 32 ∷ text ≡ line_of e)

-- a sum is written as a number without a sign
sums : Reads (λ n. signed_decimal (pos n)) (λ n. n < 2 ^ 63) (number_below (2 ^ 63))
sums = numbers (2 ^ 63) (omega arith)

fields_are : (k : Kind) (text : List ℕ) (e : Entry) → fields_of k text ≡ Some e → IsEntry (kind_word k) text e
unfolding step_of touch_of part_of leave_of ack_of return_of offer_of contribute_of relay_of result_of
fields_are kind.Step text e is =
    let p = pair_is counts (λ image task. entry.Step image task) text e is in
    subst (IsEntry (codes "step") text) p.made ((p.in_range, p.fits), ap (λ (t : List ℕ). codes "step" ++ 32 ∷ t) p.text_is)
fields_are kind.Touch text e is =
    let p = triple_is stages (λ image operation stage. entry.Touch image operation stage) text e is in
    subst (IsEntry (codes "touch") text) p.made ((p.in_range, p.operation_in_range), ap (λ (t : List ℕ). codes "touch" ++ 32 ∷ t) p.text_is)
fields_are kind.Part text e is =
    let a = bind_some (image_of text) (λ image. Some (entry.Part image)) e is in
    let image = images.sound text a.0 a.1 in
    subst (IsEntry (codes "part") text) (some_is (entry.Part a.0) e a.2) (image.0, ap (λ (t : List ℕ). codes "part" ++ 32 ∷ t) image.1)
fields_are kind.Leave text e is =
    let a = bind_some (image_of text) (λ image. Some (entry.Leave image)) e is in
    let image = images.sound text a.0 a.1 in
    subst (IsEntry (codes "leave") text) (some_is (entry.Leave a.0) e a.2) (image.0, ap (λ (t : List ℕ). codes "leave" ++ 32 ∷ t) image.1)
fields_are kind.Ack text e is =
    let p = triple_is counted_stages (λ image operation stage. entry.Ack image operation stage) text e is in
    subst (IsEntry (codes "ack") text) p.made ((p.in_range, p.operation_in_range, p.fits), ap (λ (t : List ℕ). codes "ack" ++ 32 ∷ t) p.text_is)
fields_are kind.Return text e is =
    let p = pair_is operations (λ image operation. entry.Return image operation) text e is in
    subst (IsEntry (codes "return") text) p.made ((p.in_range, p.fits), ap (λ (t : List ℕ). codes "return" ++ 32 ∷ t) p.text_is)
fields_are kind.Offer text e is =
    let p = pair_is images (λ image from. entry.Offer image from) text e is in
    subst (IsEntry (codes "offer") text) p.made ((p.in_range, p.fits), ap (λ (t : List ℕ). codes "offer" ++ 32 ∷ t) p.text_is)
fields_are kind.Contribute text e is =
    let p = pair_is fours (λ image four. entry.Contribute image four) text e is in
    subst (IsEntry (codes "contribute") text) p.made ((p.in_range, p.fits.0, p.fits.1, p.fits.2, p.fits.3), ap (λ (t : List ℕ). codes "contribute" ++ 32 ∷ t) p.text_is)
fields_are kind.Relay text e is =
    let p = pair_is images (λ image from. entry.Relay image from) text e is in
    subst (IsEntry (codes "relay") text) p.made ((p.in_range, p.fits), ap (λ (t : List ℕ). codes "relay" ++ 32 ∷ t) p.text_is)
fields_are kind.Result text e is =
    let p = pair_is sums (λ image sum. entry.Result image (pos sum)) text e is in
    subst (IsEntry (codes "result") text) p.made ((p.in_range, p.fits), ap (λ (t : List ℕ). codes "result" ++ 32 ∷ t) p.text_is)

-- what is read is the line of an entry that has one
pub entry_is : (line : List ℕ) (e : Entry) → entry_of line ≡ Some e → HasLine e × (line ≡ line_of e)
unfolding entry_of
entry_is line e is =
    let a = bind_some (cut 32 line) (λ parts. value_at (map (λ l. (l.0.now, l.1)) KINDS) parts.0 >>= λ k. fields_of k parts.1) e is in
    let b = bind_some (value_at (map (λ l. (l.0.now, l.1)) KINDS) a.0.0) (λ k. fields_of k a.0.1) e a.2 in
    let fields = fields_are b.0 a.0.1 e b.2 in
    (fields.0, glue 32 line a.0.0 a.0.1 (kind_word b.0) a.0.1 (cut_is 32 line a.0.0 a.0.1 a.1) (kind_is a.0.0 b.0 b.1) refl ∙ fields.1)

-- the line of an entry that has one is read as that entry
pub entry_of-line : (e : Entry) → HasLine e → entry_of (line_of e) ≡ Some e
unfolding entry_of step_of touch_of part_of leave_of ack_of return_of offer_of contribute_of relay_of result_of
entry_of-line (entry.Step image task) has = pair_again counts (λ i v. entry.Step i v) image task has.0 has.1
entry_of-line (entry.Touch image operation stage) has = triple_again stages (λ i o s. entry.Touch i o s) image operation stage has.0 has.1 tt
entry_of-line (entry.Part image) has = rw (images.complete image has) refl
entry_of-line (entry.Leave image) has = rw (images.complete image has) refl
entry_of-line (entry.Ack image operation stage) has = triple_again counted_stages (λ i o s. entry.Ack i o s) image operation stage has.0 has.1 has.2
entry_of-line (entry.Return image operation) has = pair_again operations (λ i v. entry.Return i v) image operation has.0 has.1
entry_of-line (entry.Offer image from) has = pair_again images (λ i v. entry.Offer i v) image from has.0 has.1
entry_of-line (entry.Contribute image four) has = pair_again fours (λ i v. entry.Contribute i v) image four has.0 (has.1, has.2, has.3, has.4)
entry_of-line (entry.Relay image from) has = pair_again images (λ i v. entry.Relay i v) image from has.0 has.1
entry_of-line (entry.Result image (pos sum)) has = pair_again sums (λ i v. entry.Result i (pos v)) image sum has.0 has.1
entry_of-line (entry.Result image (negsuc sum)) has = absurd has.1
