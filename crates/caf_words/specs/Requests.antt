-- What the words of a command line ask for.
use Rattle.std.specs.Prelude.{◌≡◌, ℕ, List, [], ◌∷◌, codes, Option, Some, None, option_map, option_and_then, Result, Ok, Err, if◌then◌else◌}
use Rattle.std.specs.Str.{bytes_eq}
use Rattle.std.specs.Borrow.{Bor}
use Rattle.caf_words.specs.declared.asked.Asked.{Asked}
use Rattle.caf_words.specs.declared.asked.Asked.TheVariants as asked
use Rattle.caf_words.specs.declared.asked.Order.{Order}
use Rattle.caf_words.specs.declared.asked.Order.TheVariants as order
use Rattle.caf_words.specs.declared.fault.WordFault.{WordFault}
use Rattle.caf_words.specs.declared.fault.WordFault.TheVariants as fault
use Rattle.caf_words.specs.Numbers.{Text, number_in, images_in, workers_in, events_in}
use Rattle.caf_words.specs.Sorted.{Sorted, sorted}

-- a command with its words; where a trace may be saved, its name
pub data Request : Type 0 where
  run : Text → ℕ → ℕ → ℕ → Option Text → Request
  step : Text → ℕ → ℕ → ℕ → Option Text → Request
  replay : Text → ℕ → Text → Request
  check : Text → ℕ → Text → Request
  list : Text → Request
  gen : ℕ → Request

-- each number is there
abbrev pub of_one : {A : Type 0} → Option ℕ → (ℕ → A) → Option A
of_one None go = None
of_one (Some a) go = Some (go a)

abbrev pub of_three : {A : Type 0} → Option ℕ → Option ℕ → Option ℕ → (ℕ → ℕ → ℕ → A) → Option A
of_three (Some a) (Some b) (Some c) go = Some (go a b c)
of_three _ _ _ go = None

abbrev pub run_of : List Text → Option Text → Option Request
run_of (file ∷ images ∷ workers ∷ events ∷ []) trace = of_three (images_in images) (workers_in workers) (events_in events) (λ i w e. run file i w e trace)
run_of _ trace = None

abbrev pub step_of : List Text → Option Text → Option Request
step_of (file ∷ images ∷ seed ∷ events ∷ []) trace = of_three (images_in images) (number_in seed) (events_in events) (λ i s e. step file i s e trace)
step_of _ trace = None

-- the other commands save no trace
abbrev pub replay_of : List Text → Option Text → Option Request
replay_of (file ∷ images ∷ trace ∷ []) None = of_one (images_in images) (λ i. replay file i trace)
replay_of _ _ = None

abbrev pub check_of : List Text → Option Text → Option Request
check_of (file ∷ images ∷ trace ∷ []) None = of_one (images_in images) (λ i. check file i trace)
check_of _ _ = None

abbrev pub list_of : List Text → Option Text → Option Request
list_of (file ∷ []) None = Some (list file)
list_of _ _ = None

abbrev pub gen_of : List Text → Option Text → Option Request
gen_of (number ∷ []) None = of_one (number_in number) gen
gen_of _ _ = None

abbrev pub of_command : Text → List Text → Option Text → Option Request
of_command command words trace =
    if bytes_eq command (codes "run") then run_of words trace
    else (if bytes_eq command (codes "step") then step_of words trace
    else (if bytes_eq command (codes "replay") then replay_of words trace
    else (if bytes_eq command (codes "check") then check_of words trace
    else (if bytes_eq command (codes "list") then list_of words trace
    else (if bytes_eq command (codes "gen") then gen_of words trace
    else None)))))

abbrev pub asked_as : Text → Option Sorted → Option Request
asked_as command = option_and_then (λ (s : Sorted). of_command command s.positional s.trace)

-- what the words ask for, if it is known: a command, exactly as spelled, and its words
abbrev pub asked_of : List Text → Option Request
asked_of [] = None
asked_of (command ∷ words) = asked_as command (sorted words)

-- what an answer asks for
abbrev pub text_of : Option (Bor Text) → Option Text
text_of = option_map (λ s. s.now)

abbrev pub request_of_order : Order → Request
request_of_order (order.Step file images seed events trace) = step file.now images seed events (text_of trace)
request_of_order (order.Replay file images trace) = replay file.now images trace.now
request_of_order (order.Check file images trace) = check file.now images trace.now
request_of_order (order.List file) = list file.now
request_of_order (order.Gen number) = gen number

abbrev pub request_of : Asked → Request
request_of (asked.Serial o) = request_of_order o
request_of (asked.Run file images workers events trace) = run file.now images workers events (text_of trace)

-- The words ask for this, or for nothing that is known. Of want of memory nothing is said.
abbrev pub Answers : Option Request → Result Asked WordFault → Type 0
Answers request (Ok a) = request ≡ Some (request_of a)
Answers request (Err fault.Usage) = request ≡ None
Answers request (Err fault.Memory) = Unit {0}
