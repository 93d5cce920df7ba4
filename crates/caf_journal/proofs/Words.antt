-- Each word of a line is read as the value whose text it is, and as no other.
use Rattle.std.proofs.Common.{◌≡◌, ℕ, zero, suc, ◌<◌, ◌≤◌, ◌^◌, Bool, true, false, not, cond, eqb, List, [], ◌∷◌, ◌++◌, map, Option, Some, None, IsTrue, refl, sym, ap, subst, ◌∙◌, arith}
use Rattle.std.specs.Fmt.{decimal}
use Rattle.std.specs.List.{AllByRecursion, list_all, join_with_byte}
use Rattle.std.specs.Str.{bytes_eq}
use Rattle.std.specs.Str.Parse.{AllDigits}
use Rattle.std.proofs.lemmas.Bool.{and_parts, ne_eqb, not-true, false≢true}
use Rattle.std.proofs.Math.Dec.{eqb-suc-zero}
use Rattle.std.proofs.lemmas.Fmt.{decimal_is_IsNumeral}
use Rattle.std.proofs.lemmas.Slice.Eq.{bytes_eq-Decides}
use Rattle.std.proofs.lemmas.Str.Parse.{digit_from_value}
use Rattle.caf_base.specs.declared.operation.OpName.{OpName}
use Rattle.caf_base.specs.declared.operation.Stage.{Stage}
use Rattle.caf_base.specs.declared.operation.Stage.TheVariants.{Ship, Notice, Start, Fetch, Store, Read, Write}
use Rattle.caf_journal.specs.declared.fields.TheConstants.{STAGES}
use Rattle.caf_journal.specs.Trace.{stage_word, operation_word, IsImage, IsCount, IsOperation, is_counted}
use Rattle.caf_journal.specs.Reading.{◌>>=◌, cut, number_below, image_of, count_of, operation_of, value_at, stage_of, counted_stage_of, number_before, operation_before}
use Rattle.caf_journal.proofs.Cutting.{Lacks, cut-append, cut_is}
use Rattle.caf_journal.proofs.Numbers.{number_below_is, number_below-decimal}

-- ---- texts without a mark

pub Lacks-append : (mark : ℕ) (front rest : List ℕ) → Lacks mark front → Lacks mark rest → Lacks mark (front ++ rest)
Lacks-append mark [] rest f r = r
Lacks-append mark (b ∷ front) rest f r = (f.0, Lacks-append mark front rest f.1 r)

-- by a test that computes
pub Lacks-tested : (mark : ℕ) (text : List ℕ) → list_all (λ b. not (eqb b mark)) text ≡ true → Lacks mark text
Lacks-tested mark [] e = tt
Lacks-tested mark (b ∷ text) e =
    let both = and_parts (not (eqb b mark)) (list_all (λ b. not (eqb b mark)) text) e in
    (not-true (eqb b mark) both.0, Lacks-tested mark text both.1)

digits_lack : (mark : ℕ) (digits : List ℕ) → mark < 48 → AllDigits 10 digits → Lacks mark digits
digits_lack mark [] small all = tt
digits_lack mark (d ∷ digits) small all =
    let is = digit_from_value d all.0 in
    (ne_eqb d mark (λ e. omega arith), digits_lack mark digits small all.1)

pub decimal_lacks : (mark n : ℕ) → mark < 48 → n < 2 ^ 64 → Lacks mark (decimal n)
decimal_lacks mark n small lt = digits_lack mark (decimal n) small (decimal_is_IsNumeral n lt).0.1

pub joined_lacks : (mark : ℕ) (words : List (List ℕ)) → eqb 32 mark ≡ false → AllByRecursion (Lacks mark) words → Lacks mark (join_with_byte 32 words)
joined_lacks mark [] other all = tt
joined_lacks mark (w ∷ []) other all = all.0
joined_lacks mark (w ∷ x ∷ words) other all = Lacks-append mark w (32 ∷ join_with_byte 32 (x ∷ words)) all.0 (other, joined_lacks mark (x ∷ words) other all.1)

pub glue : (mark : ℕ) (bytes front rest front' rest' : List ℕ) → bytes ≡ front ++ mark ∷ rest → front ≡ front' → rest ≡ rest' → bytes ≡ front' ++ mark ∷ rest'
glue mark bytes front rest front' rest' e f r = e ∙ ap (λ (x : List ℕ). x ++ mark ∷ rest) f ∙ ap (λ (y : List ℕ). front' ++ mark ∷ y) r

-- ---- steps that may find nothing

pub bind_some : {A B : Type 0} (o : Option A) (f : A → Option B) (y : B) → (o >>= f) ≡ Some y → (x : A) × (o ≡ Some x) × (f x ≡ Some y)
bind_some (Some x) f y e = (x, refl, e)
bind_some None f y e = absurd cc

pub some_is : {A : Type 0} (x y : A) → ◌≡◌ {A = Option A} (Some x) (Some y) → x ≡ y
some_is x y e = cc

-- ---- words

-- a word is read as a value exactly where it is the text of that value, which has the property
pub record Reads {A : Type 0} (text : A → List ℕ) (P : A → Type 0) (read : List ℕ → Option A) : Type 0 where
  pub sound : (word : List ℕ) (a : A) → read word ≡ Some a → P a × (word ≡ text a)
  pub complete : (a : A) → P a → read (text a) ≡ Some a

pub numbers : (limit : ℕ) → limit ≤ 2 ^ 64 → Reads decimal (λ n. n < limit) (number_below limit)
numbers limit le = record {
  sound = λ word n e. number_below_is limit word n e;
  complete = λ n lt. number_below-decimal limit n le lt;
}

pub images : Reads decimal IsImage image_of
images = numbers 64 (omega arith)

pub counts : Reads decimal IsCount count_of
counts = numbers (2 ^ 32) (omega arith)

guard_zero : (n : ℕ) (x y : OpName) → cond (eqb n 0) None (Some x) ≡ Some y → (0 < n) × (x ≡ y)
guard_zero zero x y e = absurd cc
guard_zero (suc n) x y e =
    let some = eqb-suc-zero n in
    (omega arith, some_is x y (rw some at e))

operation_is : (word : List ℕ) (operation : OpName) → operation_of word ≡ Some operation → IsOperation operation × (word ≡ operation_word operation)
unfolding operation_of
operation_is word operation e =
    let a = bind_some (cut 46 word) (λ parts. image_of parts.0 >>= λ image. number_below 65536 parts.1 >>= λ number. cond (eqb number 0) None (Some (record { image = image; number = number }))) operation e in
    let b = bind_some (image_of a.0.0) (λ image. number_below 65536 a.0.1 >>= λ number. cond (eqb number 0) None (Some (record { image = image; number = number }))) operation a.2 in
    let c = bind_some (number_below 65536 a.0.1) (λ number. cond (eqb number 0) None (Some (record { image = b.0; number = number }))) operation b.2 in
    let g = guard_zero c.0 (record { image = b.0; number = c.0 }) operation c.2 in
    let parts = cut_is 46 word a.0.0 a.0.1 a.1 in
    let image = images.sound a.0.0 b.0 b.1 in
    let number = (numbers 65536 (omega arith)).sound a.0.1 c.0 c.1 in
    subst (λ (o : OpName). IsOperation o × (word ≡ operation_word o)) g.1 ((image.0, g.0, number.0), glue 46 word a.0.0 a.0.1 (decimal b.0) (decimal c.0) parts image.1 number.1)

operation_again : (operation : OpName) → IsOperation operation → operation_of (operation_word operation) ≡ Some operation
unfolding operation_of
operation_again operation is =
    let parts = cut-append 46 (decimal operation.image) (decimal operation.number) (decimal_lacks 46 operation.image (omega arith) (omega arith)) in
    let some : eqb operation.number 0 ≡ false = ne_eqb operation.number 0 (λ e. omega arith) in
    rw (parts, images.complete operation.image is.0, (numbers 65536 (omega arith)).complete operation.number is.2, some) refl

pub operations : Reads operation_word IsOperation operation_of
operations = record { sound = operation_is; complete = operation_again }

pub operation_lacks : (mark : ℕ) (operation : OpName) → mark < 46 → IsOperation operation → Lacks mark (operation_word operation)
operation_lacks mark operation small is =
    Lacks-append mark (decimal operation.image) (46 ∷ decimal operation.number) (decimal_lacks mark operation.image (omega arith) (omega arith)) (ne_eqb 46 mark (λ e. omega arith), decimal_lacks mark operation.number (omega arith) (omega arith))

-- ---- tables

chosen : {A P : Type 0} (b : Bool) (x : A) (o : Option A) (y : A) → (b ≡ true → x ≡ y → P) → (b ≡ false → o ≡ Some y → P) → cond b (Some x) o ≡ Some y → P
chosen true x o y here later e = here refl (some_is x y e)
chosen false x o y here later e = later refl e

-- each line of the table has the word of its value
abbrev pub IsTableOf : {A : Type 0} → (A → List ℕ) → List (List ℕ × A) → Type 0
IsTableOf word [] = Unit {0}
IsTableOf word (line ∷ lines) = (line.0 ≡ word line.1) × IsTableOf word lines

pub value_at_is : {A : Type 0} (word_of : A → List ℕ) (table : List (List ℕ × A)) (word : List ℕ) (a : A) → IsTableOf word_of table → value_at table word ≡ Some a → word ≡ word_of a
value_at_is word_of [] word a all e = absurd cc
value_at_is {A} word_of (line ∷ lines) word a all e =
    chosen (bytes_eq line.0 word) line.1 (value_at lines word) a (λ yes found. sym ((bytes_eq-Decides line.0 word).0 yes) ∙ all.0 ∙ ap word_of found) (λ no found. value_at_is word_of lines word a all.1 found) e

stage_is : (word : List ℕ) (stage : Stage) → stage_of word ≡ Some stage → Unit {0} × (word ≡ stage_word stage)
unfolding stage_of
stage_is word stage e = (tt, value_at_is stage_word (map (λ line. (line.0.now, line.1)) STAGES) word stage (refl, (refl, (refl, (refl, (refl, (refl, (refl, tt))))))) e)

stage_again : (stage : Stage) → stage_of (stage_word stage) ≡ Some stage
unfolding stage_of
stage_again Ship = refl
stage_again Notice = refl
stage_again Start = refl
stage_again Fetch = refl
stage_again Store = refl
stage_again Read = refl
stage_again Write = refl

pub stages : Reads stage_word (λ _. Unit {0}) stage_of
stages = record { sound = stage_is; complete = λ stage _. stage_again stage }

guard_counted : (stage found : Stage) → cond (is_counted stage) (Some stage) None ≡ Some found → IsTrue (is_counted found) × (stage ≡ found)
guard_counted Ship found e = subst (λ (s : Stage). IsTrue (is_counted s) × (Ship ≡ s)) (some_is Ship found e) (refl, refl)
guard_counted Notice found e = subst (λ (s : Stage). IsTrue (is_counted s) × (Notice ≡ s)) (some_is Notice found e) (refl, refl)
guard_counted Start found e = subst (λ (s : Stage). IsTrue (is_counted s) × (Start ≡ s)) (some_is Start found e) (refl, refl)
guard_counted Fetch found e = subst (λ (s : Stage). IsTrue (is_counted s) × (Fetch ≡ s)) (some_is Fetch found e) (refl, refl)
guard_counted Store found e = subst (λ (s : Stage). IsTrue (is_counted s) × (Store ≡ s)) (some_is Store found e) (refl, refl)
guard_counted Read found e = absurd cc
guard_counted Write found e = absurd cc

counted_stage_is : (word : List ℕ) (stage : Stage) → counted_stage_of word ≡ Some stage → IsTrue (is_counted stage) × (word ≡ stage_word stage)
unfolding counted_stage_of
counted_stage_is word stage e =
    let a = bind_some (stage_of word) (λ s. cond (is_counted s) (Some s) None) stage e in
    let g = guard_counted a.0 stage a.2 in
    (g.0, (stage_is word a.0 a.1).1 ∙ ap stage_word g.1)

counted_again : (stage : Stage) → IsTrue (is_counted stage) → cond (is_counted stage) (Some stage) None ≡ Some stage
counted_again Ship is = refl
counted_again Notice is = refl
counted_again Start is = refl
counted_again Fetch is = refl
counted_again Store is = refl
counted_again Read is = absurd (false≢true is)
counted_again Write is = absurd (false≢true is)

counted_stage_again : (stage : Stage) → IsTrue (is_counted stage) → counted_stage_of (stage_word stage) ≡ Some stage
unfolding counted_stage_of
counted_stage_again stage is = rw (stage_again stage) (counted_again stage is)

pub counted_stages : Reads stage_word (λ stage. IsTrue (is_counted stage)) counted_stage_of
counted_stages = record { sound = counted_stage_is; complete = counted_stage_again }

pub stage_lacks : (stage : Stage) → Lacks 10 (stage_word stage)
stage_lacks Ship = Lacks-tested 10 (stage_word Ship) refl
stage_lacks Notice = Lacks-tested 10 (stage_word Notice) refl
stage_lacks Start = Lacks-tested 10 (stage_word Start) refl
stage_lacks Fetch = Lacks-tested 10 (stage_word Fetch) refl
stage_lacks Store = Lacks-tested 10 (stage_word Store) refl
stage_lacks Read = Lacks-tested 10 (stage_word Read) refl
stage_lacks Write = Lacks-tested 10 (stage_word Write) refl

-- ---- a word before a blank

abbrev before : {A : Type 0} → (List ℕ → Option A) → List ℕ → Option (A × List ℕ)
before read text = cut 32 text >>= λ parts. read parts.0 >>= λ a. Some (a, parts.1)

before_is : {A : Type 0} {text : A → List ℕ} {P : A → Type 0} {read : List ℕ → Option A} → Reads text P read → (bytes : List ℕ) (a : A) (rest : List ℕ) → before read bytes ≡ Some (a, rest) → P a × (bytes ≡ text a ++ 32 ∷ rest)
before_is {A} {text} {P} {read} reads bytes a rest e =
    let x = bind_some (cut 32 bytes) (λ parts. read parts.0 >>= λ b. Some (b, parts.1)) (a, rest) e in
    let y = bind_some (read x.0.0) (λ b. Some (b, x.0.1)) (a, rest) x.2 in
    let parts = cut_is 32 bytes x.0.0 x.0.1 x.1 in
    let word = reads.sound x.0.0 y.0 y.1 in
    let made : (A × List ℕ) = (y.0, x.0.1) in
    subst (λ (p : A × List ℕ). P p.0 × (bytes ≡ text p.0 ++ 32 ∷ p.1)) (some_is made (a, rest) y.2) (word.0, glue 32 bytes x.0.0 x.0.1 (text y.0) x.0.1 parts word.1 refl)

before-append : {A : Type 0} {text : A → List ℕ} {P : A → Type 0} {read : List ℕ → Option A} → Reads text P read → (a : A) (rest : List ℕ) → P a → Lacks 32 (text a) → before read (text a ++ 32 ∷ rest) ≡ Some (a, rest)
before-append {A} {text} reads a rest is lacks = rw (cut-append 32 (text a) rest lacks, reads.complete a is) refl

pub number_before_is : (limit : ℕ) → limit ≤ 2 ^ 64 → (bytes : List ℕ) (n : ℕ) (rest : List ℕ) → number_before limit bytes ≡ Some (n, rest) → (n < limit) × (bytes ≡ decimal n ++ 32 ∷ rest)
unfolding number_before
number_before_is limit le bytes n rest e = before_is (numbers limit le) bytes n rest e

pub number_before-append : (limit : ℕ) → limit ≤ 2 ^ 64 → (n : ℕ) (rest : List ℕ) → n < limit → number_before limit (decimal n ++ 32 ∷ rest) ≡ Some (n, rest)
unfolding number_before
number_before-append limit le n rest lt = before-append (numbers limit le) n rest lt (decimal_lacks 32 n (omega arith) (omega arith))

pub operation_before_is : (bytes : List ℕ) (operation : OpName) (rest : List ℕ) → operation_before bytes ≡ Some (operation, rest) → IsOperation operation × (bytes ≡ operation_word operation ++ 32 ∷ rest)
unfolding operation_before
operation_before_is bytes operation rest e = before_is operations bytes operation rest e

pub operation_before-append : (operation : OpName) (rest : List ℕ) → IsOperation operation → operation_before (operation_word operation ++ 32 ∷ rest) ≡ Some (operation, rest)
unfolding operation_before
operation_before-append operation rest is = before-append operations operation rest is (operation_lacks 32 operation (omega arith) is)
