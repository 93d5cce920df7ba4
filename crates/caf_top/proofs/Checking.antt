-- What is due of a check, stage by stage.
use Rattle.std.proofs.Common.{◌≡◌, ◌≢◌, ◌<◌, ◌≤◌, ℕ, List, [], length, Option, Result, Ok, Err, IfOk, refl, sym, subst}
use Rattle.caf_outside.specs.Causes.{HasLoadCause}
use Rattle.caf_outside.specs.Texts.{Has, Texts}
use Rattle.caf_outside.specs.declared.fault.LoadFail.{LoadFail}
use Rattle.caf_outside.specs.declared.fault.LoadFail.TheVariants as fail
use Rattle.caf_program.specs.declared.program.Program.{Program}
use Rattle.caf_top.specs.Answers.{IsStopped, IsTold}
use Rattle.caf_top.specs.Check.{CheckDue, IsAccepted, IsTraced}
use Rattle.caf_top.specs.Dues.{IsCheckDue, host_of}
use Rattle.caf_top.specs.Promise.{IsUnloaded, Seen, limit, seen_of, trace_limit}
use Rattle.caf_top.specs.Reading.{Reads, told_by}
use Rattle.caf_top.specs.Refusals.{IsWrong}
use Rattle.caf_top.specs.Sees.{Sees}
use Rattle.caf_top.specs.declared.answer.Answer.{Answer}
use Rattle.caf_top.specs.declared.refusal.Stop.{Stop}
use Rattle.caf_top.specs.declared.refusal.Stop.TheVariants as stop

-- a fact of each answer, by another
each : {E : Type 0} (P Q : Answer → Type 0) → ((a : Answer) → P a → Q a) → (r : Result Answer E) → IfOk r P → IfOk r Q
each P Q f (Ok a) h = f a h
each P Q f (Err e) h = h

-- ---- a name that gave no text

no_text : {T : Type 0} (s : Seen) (most : ℕ) (before now : List ℕ → ℕ) (f : LoadFail) → s.failed_before ≡ before s.name → s.failed_now ≡ now s.name → HasLoadCause {T = T} before now s.name (Err f) → (◌≡◌ {A = Result T LoadFail} (Err f) (Err fail.TooLong) → Has s.texts s.name (λ held. most < length held)) → (a : Answer) → IsTold f s.name a.due a.journal a.text.items → IsUnloaded s most a.due a.text.items × (a.journal ≡ [])
no_text s most before now fail.Failed b n cause long a h =
    (subst (λ d. IsUnloaded s most d a.text.items) (sym h.0) (record { rose = rw (b, n) (cause.failed refl); line = h.2 }), h.1)
no_text s most before now fail.TooLong b n cause long a h =
    (subst (λ d. IsUnloaded s most d a.text.items) (sym h.0) (record { stood = rw (b, n) (cause.refused refl); long = long refl; line = h.2 }), h.1)
no_text s most before now fail.Memory b n cause long a h = absurd h

-- ---- the trace

pub trace_led : {E : Type 0} (file : Seen) (p : Program) → IsAccepted file p → (trace : Seen) (images : ℕ) (bytes : List ℕ) → trace.failed_now ≡ trace.failed_before → Has trace.texts trace.name (λ held. bytes ≡ held) → length bytes ≤ trace_limit → (r : Result Answer E) → IfOk r (λ a. IsTraced p images a.due bytes a.text.items × (a.journal ≡ [])) → IfOk r (λ a. CheckDue file trace images a.due a.text.items × (a.journal ≡ []))
trace_led file p accepted trace images bytes stood held within r h = each (λ a. IsTraced p images a.due bytes a.text.items × (a.journal ≡ [])) (λ a. CheckDue file trace images a.due a.text.items × (a.journal ≡ []))
    (λ a k. (CheckDue.traced p accepted (record { stood = stood; bytes = bytes; held = held; within = within; has = k.0 }), k.1)) r h

pub no_trace_told : {T E : Type 0} (file : Seen) (p : Program) → IsAccepted file p → (texts : Option Texts) (before now : List ℕ → ℕ) (name : List ℕ) (images : ℕ) (f : LoadFail) → HasLoadCause {T = T} before now name (Err f) → (◌≡◌ {A = Result T LoadFail} (Err f) (Err fail.TooLong) → Has texts name (λ held. trace_limit < length held)) → (r : Result Answer E) → IfOk r (λ a. IsTold f name a.due a.journal a.text.items) → IfOk r (λ a. CheckDue file (seen_of texts before now name) images a.due a.text.items × (a.journal ≡ []))
no_trace_told file p accepted texts before now name images f cause long r h = each (λ a. IsTold f name a.due a.journal a.text.items) (λ a. CheckDue file (seen_of texts before now name) images a.due a.text.items × (a.journal ≡ []))
    (λ a k.
    let u = no_text (seen_of texts before now name) trace_limit before now f refl refl cause long a k in
    (CheckDue.no_trace p accepted u.0, u.1)) r h

-- ---- the file

wrong_told : (file trace : Seen) (images : ℕ) (bytes : List ℕ) → file.failed_now ≡ file.failed_before → Has file.texts file.name (λ held. bytes ≡ held) → length bytes ≤ limit → trace.failed_now ≡ trace.failed_before → (s : Stop) → Reads (Sees bytes) (IsWrong bytes) (Err s) → (a : Answer) → IsStopped s a.due a.journal a.text.items → CheckDue file trace images a.due a.text.items × (a.journal ≡ [])
wrong_told file trace images bytes stood held within same (stop.Refused r) wrong a h =
    (CheckDue.wrong h.is (record { stood = stood; bytes = bytes; held = held; within = within; has = record { told = told_by r; why = wrong; line = h.line } }) same, h.no_run)
wrong_told file trace images bytes stood held within same stop.Memory wrong a h = absurd h

pub file_wrong : {E : Type 0} (file trace : Seen) (images : ℕ) (bytes : List ℕ) → file.failed_now ≡ file.failed_before → Has file.texts file.name (λ held. bytes ≡ held) → length bytes ≤ limit → trace.failed_now ≡ trace.failed_before → (s : Stop) → Reads (Sees bytes) (IsWrong bytes) (Err s) → (r : Result Answer E) → IfOk r (λ a. IsStopped s a.due a.journal a.text.items) → IfOk r (λ a. CheckDue file trace images a.due a.text.items × (a.journal ≡ []))
file_wrong file trace images bytes stood held within same s wrong r h = each (λ a. IsStopped s a.due a.journal a.text.items) (λ a. CheckDue file trace images a.due a.text.items × (a.journal ≡ []))
    (wrong_told file trace images bytes stood held within same s wrong) r h

-- ---- a text that was handed on as a slice

pub held_as : (texts : Option Texts) (name bytes slice : List ℕ) → slice ≡ bytes → Has texts name (λ held. bytes ≡ held) → Has texts name (λ held. slice ≡ held)
held_as texts name bytes slice same h = subst (λ x. Has texts name (λ held. x ≡ held)) (sym same) h

pub within_as : (most : ℕ) (bytes slice : List ℕ) → slice ≡ bytes → length bytes ≤ most → length slice ≤ most
within_as most bytes slice same h = subst (λ x. length x ≤ most) (sym same) h

-- ---- both

pub between_loads : {E : Type 0} (texts : Option Texts) (before mid now : List ℕ → ℕ) (file trace : List ℕ) (images : ℕ) → ((other : List ℕ) → other ≢ file → mid other ≡ before other) → ((other : List ℕ) → other ≢ trace → now other ≡ mid other) → (r : Result Answer E) → IfOk r (λ a. CheckDue (seen_of texts before mid file) (seen_of texts mid now trace) images a.due a.text.items × (a.journal ≡ [])) → IfOk r (λ a. IsCheckDue (host_of texts before now) file images trace a.due a.journal a.text.items)
between_loads texts before mid now file trace images first second r h = each (λ a. CheckDue (seen_of texts before mid file) (seen_of texts mid now trace) images a.due a.text.items × (a.journal ≡ [])) (λ a. IsCheckDue (host_of texts before now) file images trace a.due a.journal a.text.items)
    (λ a k. record { between = mid; first = first; second = second; is = k.0; no_run = k.1 }) r h

pub no_file_told : {T E : Type 0} (texts : Option Texts) (before now : List ℕ → ℕ) (file trace : List ℕ) (images : ℕ) (f : LoadFail) → HasLoadCause {T = T} before now file (Err f) → (◌≡◌ {A = Result T LoadFail} (Err f) (Err fail.TooLong) → Has texts file (λ held. limit < length held)) → (r : Result Answer E) → IfOk r (λ a. IsTold f file a.due a.journal a.text.items) → IfOk r (λ a. IsCheckDue (host_of texts before now) file images trace a.due a.journal a.text.items)
no_file_told texts before now file trace images f cause long r h =
    between_loads texts before now now file trace images cause.others (λ other _. refl) r (each (λ a. IsTold f file a.due a.journal a.text.items) (λ a. CheckDue (seen_of texts before now file) (seen_of texts now now trace) images a.due a.text.items × (a.journal ≡ []))
    (λ a k.
    let u = no_text (seen_of texts before now file) limit before now f refl refl cause long a k in
    (CheckDue.no_file u.0 refl, u.1)) r h)
