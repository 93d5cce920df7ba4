-- A text is the trace of one journal at most, or has one first bad line.
use Rattle.std.proofs.Common.{◌≡◌, ◌≢◌, ℕ, pos, negsuc, ◌+◌, ◌*◌, ◌≤◌, List, [], ◌∷◌, ◌++◌, length, Some, None, Result, Ok, Err, refl, sym, ap, subst, ◌∙◌, append_assoc, arith, inl, inr}
use Rattle.std.specs.Prelude.{IfOk, IfErr, IsOkAnd}
use Rattle.std.specs.Global.{Vec}
use Rattle.std.specs.List.{AllByRecursion, join_with_byte}
use Rattle.std.proofs.lemmas.Bool.{cases_lt}
use Rattle.std.specs.Fmt.{decimal}
use Rattle.std.proofs.lemmas.Fmt.{length-decimal-le}
use Rattle.std.proofs.lemmas.List.{append-nil, length-append}
use Rattle.std.proofs.lemmas.List.Concat.{flat_map-append}
use Rattle.std.proofs.lemmas.List.Elements.{All-from_recursion, recursion_from_All, All-contains, Contains-push, All-push}
use Rattle.std.proofs.lemmas.Option.{none-some, some_pair_parts}
use Rattle.caf_base.specs.declared.operation.OpName.{OpName}
use Rattle.caf_base.specs.declared.operation.Stage.{Stage}
use Rattle.caf_base.specs.declared.operation.Stage.TheVariants.{Ship, Notice, Start, Fetch, Store, Read, Write}
use Rattle.caf_journal.specs.declared.entry.Entry.{Entry}
use Rattle.caf_journal.specs.declared.entry.Entry.TheVariants as entry
use Rattle.caf_journal.specs.declared.fault.TraceFault.{TraceFault}
use Rattle.caf_journal.specs.declared.fault.TraceFault.TheVariants as fault
use Rattle.caf_journal.specs.declared.TheConstants.{MAX_ENTRIES}
use Rattle.caf_journal.specs.Trace.{operation_word, stage_word, words_of, line_of, line_text, trace_text, IsImage, IsCount, IsOperation, HasLine, HasTrace, Spells, IsFirstBadLine, HasFault}
use Rattle.caf_journal.specs.Reading.{cut, entry_of}
use Rattle.caf_journal.proofs.Cutting.{Lacks, cut-append, cut_is}
use Rattle.caf_journal.proofs.Words.{some_is, decimal_lacks, operation_lacks, stage_lacks, joined_lacks, Lacks-tested}
use Rattle.caf_journal.proofs.Lines.{entry_is, entry_of-line}
use Rattle.std.specs.Prelude.{codes}

-- no line has an end within it
line_lacks : (e : Entry) → HasLine e → Lacks 10 (line_of e)
line_lacks (entry.Step image task) has = joined_lacks 10 (words_of (entry.Step image task)) refl (Lacks-tested 10 (codes "step") refl, (decimal_lacks 10 image (omega arith) (omega arith), (decimal_lacks 10 task (omega arith) (omega arith), tt)))
line_lacks (entry.Touch image operation stage) has = joined_lacks 10 (words_of (entry.Touch image operation stage)) refl (Lacks-tested 10 (codes "touch") refl, (decimal_lacks 10 image (omega arith) (omega arith), (operation_lacks 10 operation (omega arith) has.1, (stage_lacks stage, tt))))
line_lacks (entry.Part image) has = joined_lacks 10 (words_of (entry.Part image)) refl (Lacks-tested 10 (codes "part") refl, (decimal_lacks 10 image (omega arith) (omega arith), tt))
line_lacks (entry.Leave image) has = joined_lacks 10 (words_of (entry.Leave image)) refl (Lacks-tested 10 (codes "leave") refl, (decimal_lacks 10 image (omega arith) (omega arith), tt))
line_lacks (entry.Ack image operation stage) has = joined_lacks 10 (words_of (entry.Ack image operation stage)) refl (Lacks-tested 10 (codes "ack") refl, (decimal_lacks 10 image (omega arith) (omega arith), (operation_lacks 10 operation (omega arith) has.1, (stage_lacks stage, tt))))
line_lacks (entry.Return image operation) has = joined_lacks 10 (words_of (entry.Return image operation)) refl (Lacks-tested 10 (codes "return") refl, (decimal_lacks 10 image (omega arith) (omega arith), (operation_lacks 10 operation (omega arith) has.1, tt)))
line_lacks (entry.Offer image from) has = joined_lacks 10 (words_of (entry.Offer image from)) refl (Lacks-tested 10 (codes "offer") refl, (decimal_lacks 10 image (omega arith) (omega arith), (decimal_lacks 10 from (omega arith) (omega arith), tt)))
line_lacks (entry.Contribute image four) has = joined_lacks 10 (words_of (entry.Contribute image four)) refl (Lacks-tested 10 (codes "contribute") refl, (decimal_lacks 10 image (omega arith) (omega arith), (decimal_lacks 10 four.sent (omega arith) (omega arith), (decimal_lacks 10 four.delivered (omega arith) (omega arith), (decimal_lacks 10 four.received (omega arith) (omega arith), (decimal_lacks 10 four.completed (omega arith) (omega arith), tt))))))
line_lacks (entry.Relay image from) has = joined_lacks 10 (words_of (entry.Relay image from)) refl (Lacks-tested 10 (codes "relay") refl, (decimal_lacks 10 image (omega arith) (omega arith), (decimal_lacks 10 from (omega arith) (omega arith), tt)))
line_lacks (entry.Result image (pos sum)) has = joined_lacks 10 (words_of (entry.Result image (pos sum))) refl (Lacks-tested 10 (codes "result") refl, (decimal_lacks 10 image (omega arith) (omega arith), (decimal_lacks 10 sum (omega arith) (omega arith), tt)))
line_lacks (entry.Result image (negsuc sum)) has = absurd has.1

-- ---- the first line

pub line-cut : (e : Entry) (after text : List ℕ) → HasLine e → text ≡ line_text e ++ after → cut 10 text ≡ Some (line_of e, after)
line-cut e after text has is = ap (cut 10) (is ∙ append_assoc (line_of e) (10 ∷ []) after) ∙ cut-append 10 (line_of e) after (line_lacks e has)

-- a text without a line's end begins with no line
pub no_line : (text : List ℕ) → cut 10 text ≡ None → (e : Entry) (after : List ℕ) → HasLine e → text ≡ line_text e ++ after → ⊥
no_line text none e after has is = none-some (line_of e, after) (sym none ∙ line-cut e after text has is)

pub bad_line : (text line rest : List ℕ) → cut 10 text ≡ Some (line, rest) → entry_of line ≡ None → (e : Entry) (after : List ℕ) → HasLine e → text ≡ line_text e ++ after → ⊥
bad_line text line rest at none e after has is =
    let parts = some_pair_parts line (line_of e) rest after (sym at ∙ line-cut e after text has is) in
    none-some e (sym none ∙ ap entry_of parts.0 ∙ entry_of-line e has)

pub good_line : (text line rest : List ℕ) (e : Entry) → cut 10 text ≡ Some (line, rest) → entry_of line ≡ Some e → HasLine e × (text ≡ line_text e ++ rest)
good_line text line rest e at is =
    let read = entry_is line e is in
    (read.0, cut_is 10 text line rest at ∙ ap (λ (l : List ℕ). l ++ 10 ∷ rest) read.1 ∙ sym (append_assoc (line_of e) (10 ∷ []) rest))

same_line : (e f : Entry) (x y : List ℕ) → HasLine e → HasLine f → line_text e ++ x ≡ line_text f ++ y → (e ≡ f) × (x ≡ y)
same_line e f x y has_e has_f is =
    let parts = some_pair_parts (line_of e) (line_of f) x y (sym (line-cut e x (line_text e ++ x) has_e refl) ∙ line-cut f y (line_text e ++ x) has_f is) in
    (some_is e f (sym (entry_of-line e has_e) ∙ ap entry_of parts.0 ∙ entry_of-line f has_f), parts.1)

-- ---- one line more

pub trace-push : (journal : List Entry) (e : Entry) (after : List ℕ) → trace_text (journal ++ e ∷ []) ++ after ≡ trace_text journal ++ (line_text e ++ after)
trace-push journal e after =
    ap (λ (t : List ℕ). t ++ after) (flat_map-append line_text journal (e ∷ []) ∙ ap (λ (t : List ℕ). trace_text journal ++ t) (append-nil (line_text e))) ∙ append_assoc (trace_text journal) (line_text e) after

pub HasTrace-push : (journal : List Entry) (e : Entry) → HasTrace journal → length journal ≢ MAX_ENTRIES → HasLine e → HasTrace (journal ++ e ∷ [])
HasTrace-push journal e has room line = (omega (arith, length-append journal (e ∷ [])), All-push HasLine journal e has.1 line)

pub HasTrace-last : (journal : List Entry) (e : Entry) → HasTrace (journal ++ e ∷ []) → HasLine e
HasTrace-last journal e has = All-contains HasLine (journal ++ e ∷ []) e has.1 (Contains-push journal e)

pub HasTrace-full : (journal : List Entry) (e : Entry) → length journal ≡ MAX_ENTRIES → HasTrace (journal ++ e ∷ []) → ⊥
HasTrace-full journal e full has = omega (arith, length-append journal (e ∷ []))

front_holds : {A : Type 0} (P : A → Type 0) (front : List A) (x : A) (more : List A) → AllByRecursion P (front ++ x ∷ more) → AllByRecursion P (front ++ x ∷ [])
front_holds P [] x more all = (all.0, tt)
front_holds P (y ∷ front) x more all = (all.0, front_holds P front x more all.1)

HasTrace-front : (front : List Entry) (e : Entry) (more : List Entry) → HasTrace (front ++ e ∷ more) → HasTrace (front ++ e ∷ [])
HasTrace-front front e more has =
    (omega (arith, length-append front (e ∷ []), length-append front (e ∷ more)), All-from_recursion HasLine (front ++ e ∷ []) (front_holds HasLine front e more (recursion_from_All HasLine (front ++ e ∷ more) has.1)))

-- ---- two readings of one text

-- of two lists of lines at the front of a text, the longer begins with the other
record GoesOn (x y : List ℕ) (front whole : List Entry) : Type 0 where
  more : List Entry
  entries : whole ≡ front ++ more
  text : x ≡ trace_text more ++ y

goes_on : (front whole : List Entry) (x y : List ℕ) → AllByRecursion HasLine front → AllByRecursion HasLine whole → length front ≤ length whole → trace_text front ++ x ≡ trace_text whole ++ y → GoesOn x y front whole
goes_on [] whole x y f w le is = record { more = whole; entries = refl; text = is }
goes_on (e ∷ front) [] x y f w le is = absurd (omega arith)
goes_on (e ∷ front) (g ∷ whole) x y f w le is =
    let apart : line_text e ++ (trace_text front ++ x) ≡ line_text g ++ (trace_text whole ++ y) = sym (append_assoc (line_text e) (trace_text front) x) ∙ is ∙ append_assoc (line_text g) (trace_text whole) y in
    let same = same_line e g (trace_text front ++ x) (trace_text whole ++ y) f.0 w.0 apart in
    let later = goes_on front whole x y f.1 w.1 (omega arith) same.1 in
    record { more = later.more; entries = ap (λ (h : Entry). h ∷ whole) (sym same.0) ∙ ap (λ (t : List Entry). e ∷ t) later.entries; text = later.text }

goes_on_all : (front whole : List Entry) (x y : List ℕ) → HasTrace front → HasTrace whole → length front ≤ length whole → trace_text front ++ x ≡ trace_text whole ++ y → GoesOn x y front whole
goes_on_all front whole x y f w le is = goes_on front whole x y (recursion_from_All HasLine front f.1) (recursion_from_All HasLine whole w.1) le is

line_not_nil : (e : Entry) (x : List ℕ) → [] ≡ line_text e ++ x → ⊥
line_not_nil e x is = omega (arith, ap length is, length-append (line_of e ++ 10 ∷ []) x, length-append (line_of e) (10 ∷ []))

no_more : (more : List Entry) (y : List ℕ) → [] ≡ trace_text more ++ y → (more ≡ []) × (y ≡ [])
no_more [] y is = (refl, sym is)
no_more (e ∷ more) y is = absurd (line_not_nil e (trace_text more ++ y) (is ∙ append_assoc (line_text e) (trace_text more) y))

longer_same : (front whole : List Entry) → HasTrace front → HasTrace whole → length front ≤ length whole → trace_text front ≡ trace_text whole → front ≡ whole
longer_same front whole f w le is =
    let g = goes_on_all front whole [] [] f w le (append-nil (trace_text front) ∙ is ∙ sym (append-nil (trace_text whole))) in
    let none = no_more g.more [] g.text in
    sym (g.entries ∙ ap (λ (m : List Entry). front ++ m) none.0 ∙ append-nil front)

pub one_journal : (text : List ℕ) (journal other : List Entry) → Spells text journal → Spells text other → journal ≡ other
one_journal text journal other s t =
    elim (cases_lt (length other) (length journal)) [
      | inl lt ↦ sym (longer_same other journal t.0 s.0 (omega arith) (sym t.1 ∙ s.1))
      | inr le ↦ longer_same journal other s.0 t.0 le (sym s.1 ∙ t.1)
    ]

-- where no line can come next
abbrev IsLast : List Entry → List ℕ → Type 0
IsLast before rest = (e : Entry) (after : List ℕ) → HasTrace (before ++ e ∷ []) → rest ≡ line_text e ++ after → ⊥

stops_at : (before : List Entry) (rest : List ℕ) (whole : List Entry) (y : List ℕ) (more : List Entry) → HasTrace whole → IsLast before rest → whole ≡ before ++ more → rest ≡ trace_text more ++ y → (before ≡ whole) × (rest ≡ y)
stops_at before rest whole y [] w last entries text = (sym (entries ∙ append-nil before), text)
stops_at before rest whole y (e ∷ more) w last entries text =
    absurd (last e (trace_text more ++ y) (HasTrace-front before e more (subst HasTrace entries w)) (text ∙ append_assoc (line_text e) (trace_text more) y))

stops : (before : List Entry) (rest : List ℕ) (whole : List Entry) (y : List ℕ) → HasTrace before → HasTrace whole → IsLast before rest → length before ≤ length whole → trace_text before ++ rest ≡ trace_text whole ++ y → (before ≡ whole) × (rest ≡ y)
stops before rest whole y b w last le is =
    let g = goes_on_all before whole rest y b w le is in
    stops_at before rest whole y g.more w last g.entries g.text

pub not_both : (text : List ℕ) (journal : List Entry) (line : ℕ) → Spells text journal → IsFirstBadLine text line → ⊥
not_both text journal line s b =
    let apart : trace_text b.0 ++ b.1 ≡ trace_text journal ++ [] = sym b.3 ∙ s.1 ∙ sym (append-nil (trace_text journal)) in
    elim (cases_lt (length journal) (length b.0)) [
      | inl lt ↦
          let g = goes_on_all journal b.0 [] b.1 s.0 b.2 (omega arith) (sym apart) in
          b.5 (no_more g.more b.1 g.text).1
      | inr le ↦ b.5 (stops b.0 b.1 journal [] b.2 s.0 b.6 le apart).1
    ]

pub one_bad_line : (text : List ℕ) (line other : ℕ) → IsFirstBadLine text line → IsFirstBadLine text other → line ≡ other
one_bad_line text line other b c =
    let apart : trace_text b.0 ++ b.1 ≡ trace_text c.0 ++ c.1 = sym b.3 ∙ c.3 in
    elim (cases_lt (length c.0) (length b.0)) [
      | inl lt ↦ sym b.4 ∙ ap (λ (es : List Entry). length es + 1) (sym (stops c.0 c.1 b.0 b.1 c.2 b.2 c.6 (omega arith) (sym apart)).0) ∙ c.4
      | inr le ↦ sym b.4 ∙ ap (λ (es : List Entry). length es + 1) (stops b.0 b.1 c.0 c.1 b.2 c.2 b.6 le apart).0 ∙ c.4
    ]

-- ---- what reading answers

pub read_whole : (text : List ℕ) (r : Result (Vec Entry) TraceFault) → IfOk r (λ read. Spells text read.items) → IfErr r (HasFault text) → (journal : List Entry) → Spells text journal → (r ≡ Err fault.Memory → ⊥) → IsOkAnd r (λ read. read.items ≡ journal)
read_whole text (Ok read) found faulty journal s rich = one_journal text read.items journal found s
read_whole text (Err (fault.BadLine line)) found faulty journal s rich = absurd (not_both text journal line s faulty)
read_whole text (Err fault.Memory) found faulty journal s rich = absurd (rich refl)

pub read_bad : (text : List ℕ) (r : Result (Vec Entry) TraceFault) → IfOk r (λ read. Spells text read.items) → IfErr r (HasFault text) → (line : ℕ) → IsFirstBadLine text line → (r ≡ Err fault.Memory → ⊥) → r ≡ Err (fault.BadLine line)
read_bad text (Ok read) found faulty line b rich = absurd (not_both text read.items line found b)
read_bad text (Err (fault.BadLine other)) found faulty line b rich = ap (λ (l : ℕ). Err (fault.BadLine l)) (one_bad_line text other line faulty b)
read_bad text (Err fault.Memory) found faulty line b rich = absurd (rich refl)

-- ---- the length of a trace

abbrev room : List (List ℕ) → ℕ
room [] = 0
room (w ∷ words) = length w + 1 + room words

joined_length : (words : List (List ℕ)) → length (join_with_byte 32 words) ≤ room words
joined_length [] = omega arith
joined_length (w ∷ []) = omega arith
joined_length (w ∷ x ∷ words) =
    let joined : length (join_with_byte 32 (w ∷ x ∷ words)) ≡ length w + length (32 ∷ join_with_byte 32 (x ∷ words)) = length-append w (32 ∷ join_with_byte 32 (x ∷ words)) in
    omega (arith, joined_length (x ∷ words))

operation_length : (operation : OpName) → IsOperation operation → length (operation_word operation) ≤ 8
operation_length operation is = omega (arith, length-append (decimal operation.image) (46 ∷ decimal operation.number), length-decimal-le 2 operation.image (omega arith) (omega arith) (omega arith), length-decimal-le 5 operation.number (omega arith) (omega arith) (omega arith))

image_length : (n : ℕ) → IsImage n → length (decimal n) ≤ 2
image_length n is = length-decimal-le 2 n (omega arith) (omega arith) (omega arith)

count_length : (n : ℕ) → IsCount n → length (decimal n) ≤ 10
count_length n is = length-decimal-le 10 n (omega arith) (omega arith) (omega arith)

stage_length : (stage : Stage) → length (stage_word stage) ≤ 6
stage_length Ship = omega arith
stage_length Notice = omega arith
stage_length Start = omega arith
stage_length Fetch = omega arith
stage_length Store = omega arith
stage_length Read = omega arith
stage_length Write = omega arith

words_length : (e : Entry) → HasLine e → room (words_of e) ≤ 63
words_length (entry.Step image task) has = omega (arith, image_length image has.0, count_length task has.1)
words_length (entry.Touch image operation stage) has = omega (arith, image_length image has.0, operation_length operation has.1, stage_length stage)
words_length (entry.Part image) has = omega (arith, image_length image has)
words_length (entry.Leave image) has = omega (arith, image_length image has)
words_length (entry.Ack image operation stage) has = omega (arith, image_length image has.0, operation_length operation has.1, stage_length stage)
words_length (entry.Return image operation) has = omega (arith, image_length image has.0, operation_length operation has.1)
words_length (entry.Offer image from) has = omega (arith, image_length image has.0, image_length from has.1)
words_length (entry.Contribute image four) has = omega (arith, image_length image has.0, count_length four.sent has.1, count_length four.delivered has.2, count_length four.received has.3, count_length four.completed has.4)
words_length (entry.Relay image from) has = omega (arith, image_length image has.0, image_length from has.1)
words_length (entry.Result image (pos sum)) has = omega (arith, image_length image has.0, length-decimal-le 19 sum (omega arith) (omega arith) (omega arith))
words_length (entry.Result image (negsuc sum)) has = absurd has.1

trace_length : (journal : List Entry) → AllByRecursion HasLine journal → length (trace_text journal) ≤ 64 * length journal
trace_length [] all = omega arith
trace_length (e ∷ journal) all =
    omega (arith, trace_length journal all.1, joined_length (words_of e), words_length e all.0, length-append (line_of e) (10 ∷ []), length-append (line_text e) (trace_text journal))

pub trace_short : (journal : List Entry) (text : List ℕ) → HasTrace journal → text ≡ trace_text journal → length text ≤ 64 * length journal
trace_short journal text has is = rw is (trace_length journal (recursion_from_All HasLine journal has.1))
