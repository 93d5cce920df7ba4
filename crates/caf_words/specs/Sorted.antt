-- The words behind the command: those without a dash in front, and the name that `--trace` gives.
use Rattle.std.specs.Prelude.{ℕ, Bool, true, false, not, ◌==◌, ◌&&◌, ◌||◌, List, [], ◌∷◌, length, take, drop, codes, Option, Some, None, is_some, nat_lt, if◌then◌else◌}
use Rattle.std.specs.Str.{bytes_eq}
use Rattle.std.specs.List.{list_all}
use Rattle.std.specs.Borrow.{Bor}
use Rattle.caf_words.specs.Numbers.{Text}

pub record Sorted : Type 0 where
  pub positional : List Text
  pub trace : Option Text

abbrev pub nothing : Sorted
nothing = record { positional = []; trace = None }

abbrev pub begins_with_dash : Text → Bool
begins_with_dash [] = false
begins_with_dash (b ∷ bs) = b == 45

-- what `--trace` may name: a word that isn't empty and has no dash in front
abbrev pub is_name : Text → Bool
is_name bs = nat_lt 0 (length bs) && not (begins_with_dash bs)

-- one word more in front
abbrev pub with_word : Text → Option Sorted → Option Sorted
with_word word None = None
with_word word (Some s) = Some (record { positional = word ∷ s.positional; trace = s.trace })

-- the trace's name, where none stands behind
abbrev pub with_trace : Text → Option Sorted → Option Sorted
with_trace name None = None
with_trace name (Some s) = if is_some s.trace then None else Some (record { positional = s.positional; trace = Some name })

abbrev pub named : Text → Option Sorted → Option Sorted
named name s = if is_name name then with_trace name s else None

-- what stands behind the sign of `--trace=`
abbrev pub attached : Text → Option Text
attached word = if bytes_eq (take 8 word) (codes "--trace=") then Some (drop 8 word) else None

abbrev pub is_trace : Text → Bool
is_trace word = bytes_eq word (codes "--trace")

-- a word that isn't `--trace`: `--trace=NAME`, or one without a dash
abbrev pub other_word : Text → Option Text → Option Sorted → Option Sorted
other_word word (Some name) s = named name s
other_word word None s = if begins_with_dash word then None else with_word word s

-- The words sorted, if each may stand, and `--trace` at most once. The first word is the trace's name where `--trace` stood
-- before it.
abbrev pub sorted_from : Bool → List Text → Option Sorted
sorted_from names [] = if names then None else Some nothing
sorted_from names (word ∷ rest) =
    if names then named word (sorted_from false rest)
    else (if is_trace word then sorted_from true rest else other_word word (attached word) (sorted_from false rest))

abbrev pub sorted : List Text → Option Sorted
sorted = sorted_from false

-- ---- the same in two steps: the names behind `--trace` are looked at last

-- a word without a dash in front, or one that begins an option `--trace`
abbrev pub may_stand : Text → Bool
may_stand word = not (begins_with_dash word) || (is_trace word || is_some (attached word))

abbrev pub all_stand : List (Bor Text) → Bool
all_stand = list_all (λ word. may_stand word.now)

abbrev pub any_word : Text → Option Text → Option Sorted → Option Sorted
any_word word (Some name) s = with_trace name s
any_word word None s = with_word word s

abbrev pub any_from : Bool → List Text → Option Sorted
any_from names [] = if names then None else Some nothing
any_from names (word ∷ rest) =
    if names then (if begins_with_dash word then None else with_trace word (any_from false rest))
    else (if is_trace word then any_from true rest else any_word word (attached word) (any_from false rest))

-- whether a trace has a name that it may have
abbrev pub may_name : Option Text → Bool
may_name None = true
may_name (Some name) = is_name name

abbrev pub if_named : Option Sorted → Option Sorted
if_named None = None
if_named (Some s) = if may_name s.trace then Some s else None
