use Rattle.std.proofs.Common.{◌≡◌, ◌∙◌, sym, ap, subst, refl, ◌⊎◌, inl, inr, map, List, [], Option, Some, None, false, Err, ℕ, Bor}
use Rattle.clap.specs.Faults.{fault_of, is_simple_and_free}
use Rattle.clap.specs.Kinds.{IsAmong, Kinds}
use Rattle.clap.specs.Simple.{is_simple, matches_of}
use Rattle.clap.specs.declared.error.kind.ErrorKind.{ErrorKind}
use Rattle.clap.specs.declared.error.kind.ErrorKind.TheVariants as kind
use Rattle.caf_words.specs.Clap.{Sorts, sorted_in, sorter, word_fault}
use Rattle.clap.specs.Values.{kind_of}
use Rattle.caf_words.specs.Sorted.{Sorted, any_from}
use Rattle.caf_words.proofs.Words.{stand_behind}
use Rattle.caf_words.proofs.Walk.{is_simple_sorter, sorted_is, unsorted_is}
use Rattle.caf_words.proofs.sort.sort.Goals as goal

failed : (k : ErrorKind) (kinds : Kinds) (s : Option Sorted) → ((kinds ≡ [] → ⊥) → s ≡ None) → (k ≡ kind.OutOfMemory) ⊎ IsAmong k kinds → Sorts s (Err (word_fault k))
failed kind.OutOfMemory kinds s none h = tt
failed k kinds s none (inl e) = cc
failed k kinds s none (inr among) = none (λ empty. subst (IsAmong k) empty among)

pub returns-in-Ok-try_get_matches_from : goal.returns-in-Ok-try_get_matches_from
returns-in-Ok-try_get_matches_from c =
    let words = map (λ (word : Bor (List ℕ)). word.now) c.args.words.now in
    let app = c.in-Ok.ensures in
    let made = c.in-Ok-try_get_matches_from.ensures in
    let none : fault_of sorter words ≡ [] = subst (λ a. fault_of a words ≡ []) app (made.kinds (ap is_simple_and_free app ∙ is_simple_sorter)) in
    let rows = (made.matches (ap is_simple app ∙ refl)).0 ∙ ap (λ a. matches_of a words) app in
    sorted_is words (stand_behind c.args.words.now ∙ c.requires) none ∙ ap (λ r. Some (sorted_in r)) (sym rows)

pub returns-in-Err-try_get_matches_from : goal.returns-in-Err-try_get_matches_from
returns-in-Err-try_get_matches_from c =
    let words = map (λ (word : Bor (List ℕ)). word.now) c.args.words.now in
    let app = c.in-Ok.ensures in
    let made = c.in-Err-try_get_matches_from.ensures in
    let k = kind_of c.in-Err-try_get_matches_from.error in
    subst (λ f. Sorts (any_from false words) (Err f)) (sym c.fault_of.ensures)
    (failed k (fault_of sorter words) (any_from false words) (unsorted_is words (stand_behind c.args.words.now ∙ c.requires))
    (subst (λ a. (k ≡ kind.OutOfMemory) ⊎ IsAmong k (fault_of a words)) app (made.kinds (ap is_simple_and_free app ∙ is_simple_sorter))))
