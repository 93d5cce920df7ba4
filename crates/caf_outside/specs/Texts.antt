-- Texts by name: a host that tells its texts is a function from names.
use Rattle.std.specs.Prelude.{◌≡◌, ◌≢◌, ℕ, List, Option, Some, None, count_by}
use Rattle.std.specs.Str.{bytes_eq}

-- the text under each name
abbrev pub Texts : Type 0
Texts = List ℕ → Option (List ℕ)

-- a text that has P
abbrev pub HasText : Option (List ℕ) → (List ℕ → Type 0) → Type 0
HasText None P = ⊥
HasText (Some bytes) P = P bytes

-- where the texts are told, there is one under this name, and it has P
abbrev pub Has : Option Texts → List ℕ → (List ℕ → Type 0) → Type 0
Has None name P = Unit {0}
Has (Some texts) name P = HasText (texts name) P

-- texts that are told are told afterwards, and every other name keeps its own
abbrev pub KeepsOthers : Option Texts → Option Texts → List ℕ → Type 0
KeepsOthers None new name = Unit {0}
KeepsOthers (Some old) None name = ⊥
KeepsOthers (Some old) (Some new) name = (other : List ℕ) → other ≢ name → new other ≡ old other

-- how often a name stands in a list
abbrev pub times : List (List ℕ) → List ℕ → ℕ
times names name = count_by (λ n. bytes_eq n name) names
