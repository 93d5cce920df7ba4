use Rattle.std.proofs.Common.{◌≡◌, ◌∙◌, sym, ap, ap₂, refl, Bool, true, false, map, List, [], ℕ, Bor, Option, Some, None, option_map, unwrap_or, codes}
use Rattle.clap.specs.Matches.{found_of}
use Rattle.clap.specs.Walk.{Row, all_of, first_of, rows_of}
use Rattle.clap.proofs.WalkLemmas.{first_value-rows, raw_values-rows}
use Rattle.caf_words.specs.Numbers.{Text}
use Rattle.caf_words.specs.Clap.{sorted_in, words_in}
use Rattle.caf_words.specs.Sorted.{if_named, may_name}
use Rattle.caf_words.specs.Requests.{Request, asked_as, of_command, request_of}
use Rattle.caf_words.proofs.read.asked.Goals as goal

refuses : (command : Text) (rows : List Row) (trace : Option Text) → trace ≡ first_of (codes "trace") rows → may_name trace ≡ false
    → ◌≡◌ {A = Option Request} None (asked_as command (if_named (Some (sorted_in rows))))
refuses command rows trace is bad = let bad_there : may_name (first_of (codes "trace") rows) ≡ false = ap may_name (sym is) ∙ bad in rw bad_there refl

asks : (command : Text) (rows : List Row) (words : List Text) (trace : Option Text) (o : Option Request) → trace ≡ first_of (codes "trace") rows → may_name trace ≡ true
    → words ≡ words_in rows → o ≡ of_command command words trace → o ≡ asked_as command (if_named (Some (sorted_in rows)))
asks command rows words trace o is good words_are said =
    let good_there : may_name (first_of (codes "trace") rows) ≡ true = ap may_name (sym is) ∙ good in
    said ∙ (ap₂ (of_command command) words_are is ∙ rw good_there refl)

pub returns-then-not-may_name : goal.returns-then-not-may_name
returns-then-not-may_name c =
    refuses c.args.command.now (rows_of (found_of c.args.matches.now)) (option_map (λ (s : Bor (List ℕ)). s.now) c.get_str-trace.result) (c.get_str-trace.ensures ∙ first_value-rows (found_of c.args.matches.now) (codes "trace")) (sym c.may_name.ensures ∙ c.if-not-may_name.true)

words_given : (rows : List Row) (words : List Text) → Some words ≡ all_of (codes "words") rows → words ≡ words_in rows
words_given rows words e = ap (λ (o : Option (List Text)). unwrap_or o []) e

no_words : (rows : List Row) → ◌≡◌ {A = Option (List Text)} None (all_of (codes "words") rows) → [] ≡ words_in rows
no_words rows e = ap (λ (o : Option (List Text)). unwrap_or o []) e

pub returns-in-Some : goal.returns-in-Some
returns-in-Some c =
    let found = found_of c.args.matches.now in
    asks c.args.command.now (rows_of found) (map (λ (word : Bor (List ℕ)). word.now) c.in-Some.words.now) (option_map (λ (s : Bor (List ℕ)). s.now) c.get_str-trace.result) (option_map request_of c.of_command.result)
    (c.get_str-trace.ensures ∙ first_value-rows found (codes "trace")) (sym c.may_name.ensures ∙ c.if-not-may_name.false)
    (words_given (rows_of found) (map (λ (word : Bor (List ℕ)). word.now) c.in-Some.words.now) (c.in-Some.ensures ∙ raw_values-rows found (codes "words"))) c.of_command.ensures

pub returns-in-None : goal.returns-in-None
returns-in-None c =
    let found = found_of c.args.matches.now in
    asks c.args.command.now (rows_of found) [] (option_map (λ (s : Bor (List ℕ)). s.now) c.get_str-trace.result) (option_map request_of c.of_command-in-None.result)
    (c.get_str-trace.ensures ∙ first_value-rows found (codes "trace")) (sym c.may_name.ensures ∙ c.if-not-may_name.false)
    (no_words (rows_of found) (c.in-None.ensures ∙ raw_values-rows found (codes "words"))) c.of_command-in-None.ensures
