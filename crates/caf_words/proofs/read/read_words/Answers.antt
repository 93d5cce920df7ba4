use Rattle.std.proofs.Common.{◌≡◌, ◌∙◌, sym, ap, subst, refl, rules, true, false, map, List, [], ◌∷◌, ℕ, Bor, Option, Some, None, Err}
use Rattle.clap.specs.Matches.{found_of}
use Rattle.clap.specs.Walk.{rows_of}
use Rattle.caf_words.specs.declared.fault.WordFault.{WordFault}
use Rattle.caf_words.specs.declared.fault.WordFault.TheVariants as fault
use Rattle.caf_words.specs.Numbers.{Text}
use Rattle.caf_words.specs.Clap.{Sorts, sorted_in}
use Rattle.caf_words.specs.Sorted.{Sorted, all_stand, any_from, if_named, sorted}
use Rattle.caf_words.specs.Requests.{Answers, Request, asked_as, asked_of}
use Rattle.caf_words.proofs.Words.{names_are_last, none_sorted, stand_behind}
use Rattle.caf_words.proofs.read.read_words.Goals as goal

abbrev texts : List (Bor Text) → List Text
texts = map (λ (word : Bor Text). word.now)

behind_command : (words rest : List (Bor Text)) (command : Bor Text) (s : Option Sorted) → words ≡ command ∷ rest → sorted (texts rest) ≡ s → asked_of (texts words) ≡ asked_as command.now s
behind_command words rest command s e is = ap (λ ws. asked_of (texts ws)) e ∙ ap (asked_as command.now) is

last : (rest : List (Bor Text)) (s : Option Sorted) → all_stand rest ≡ true → any_from false (texts rest) ≡ s → sorted (texts rest) ≡ if_named s
last rest s all is = names_are_last false (texts rest) (stand_behind rest ∙ all) ∙ ap if_named is

-- a fault of the sorting is one of the words
passed_on : (request : Option Request) (s : Option Sorted) (f : WordFault) → (s ≡ None → request ≡ None) → Sorts s (Err f) → Answers request (Err f)
passed_on request s fault.Usage none e = none e
passed_on request s fault.Memory none e = tt

pub returns-then-not-may_all_stand : goal.returns-then-not-may_all_stand
returns-then-not-may_all_stand c =
    behind_command c.args.words.now c.in-Some.rest.now c.in-Some.command.now None c.in-Some.ensures.cases.0
    (none_sorted false (texts c.in-Some.rest.now) (stand_behind c.in-Some.rest.now ∙ (sym c.may_all_stand.ensures ∙ c.if-not-may_all_stand.true)))

pub returns-in_err-matches : goal.returns-in_err-matches
returns-in_err-matches c =
    let rest = c.in-Some.rest.now in
    let f = c.in_err-matches.field-0.0 in
    let same : c.from_residual.result ≡ Err f = search rules in
    subst (λ r. Answers (asked_of (texts c.args.words.now)) r) (sym same)
    (passed_on (asked_of (texts c.args.words.now)) (any_from false (texts rest)) f
    (λ none. behind_command c.args.words.now rest c.in-Some.command.now None c.in-Some.ensures.cases.0 (last rest None (sym c.may_all_stand.ensures ∙ c.if-not-may_all_stand.false) none))
    c.in_err-matches.ensures)

pub returns-in-Some-asked : goal.returns-in-Some-asked
returns-in-Some-asked c =
    let rest = c.in-Some.rest.now in
    let s = Some (sorted_in (rows_of (found_of c.in_ok-matches.matches))) in
    behind_command c.args.words.now rest c.in-Some.command.now (if_named s) c.in-Some.ensures.cases.0 (last rest s (sym c.may_all_stand.ensures ∙ c.if-not-may_all_stand.false) c.in_ok-matches.ensures)
    ∙ sym c.in-Some-asked.ensures

pub returns : goal.returns
returns c =
    let rest = c.in-Some.rest.now in
    let s = Some (sorted_in (rows_of (found_of c.in_ok-matches.matches))) in
    behind_command c.args.words.now rest c.in-Some.command.now (if_named s) c.in-Some.ensures.cases.0 (last rest s (sym c.may_all_stand.ensures ∙ c.if-not-may_all_stand.false) c.in_ok-matches.ensures)
    ∙ sym c.in-None.ensures
