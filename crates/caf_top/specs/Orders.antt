-- Which order words ask for.
use Rattle.std.specs.Prelude.{◌≡◌, ℕ, List, Option, Some, None, Result, Ok, Err, IsTrue, is_some}
use Rattle.caf_base.specs.declared.memory.Memory.{Memory}
use Rattle.caf_words.specs.Requests.{asked_of, request_of_order}
use Rattle.caf_words.specs.declared.asked.Order.{Order}
use Rattle.caf_top.specs.Wanted.{wanted_by, wanted_in}

-- the words ask for the order, which is built
pub record IsAsked (words : List (List ℕ)) (order : Order) : Type 0 where
  pub asked : asked_of words ≡ Some (request_of_order order)
  pub built : IsTrue (is_some (wanted_in (request_of_order order)))

-- the order that words ask for, if it is built; of want of memory nothing is said
abbrev pub Orders : List (List ℕ) → Result (Option Order) Memory → Type 0
Orders words (Ok (Some order)) = IsAsked words order
Orders words (Ok None) = wanted_by words ≡ None
Orders words (Err e) = Unit {0}
