-- A word's value in a table is that of its first line, or what the lines after it give.
use Rattle.std.proofs.Common.{◌≡◌, ℕ, ◌-◌, ◌≤◌, false, List, [], ◌∷◌, length, get_or, take, drop, map, Bor, refl, sym, subst, arith}
use Rattle.std.specs.Str.{bytes_eq}
use Rattle.std.proofs.lemmas.List.{take_rest}
use Rattle.caf_journal.specs.Reading.{value_at}

pub value_at_next : {A : Type 0} (table : List (Bor (List ℕ) × A)) (line : Bor (List ℕ) × A) (word : List ℕ) → 1 ≤ length table → line ≡ get_or table 0 line → false ≡ bytes_eq line.0.now word
    → value_at (map (λ l. (l.0.now, l.1)) (take (length table - 1) (drop 1 table))) word ≡ value_at (map (λ l. (l.0.now, l.1)) table) word
value_at_next [] line word some is other = absurd (omega arith)
value_at_next {A} (first ∷ table) line word some is other =
    let no : bytes_eq first.0.now word ≡ false = subst (λ (l : Bor (List ℕ) × A). bytes_eq l.0.now word ≡ false) is (sym other) in
    rw (take_rest (first ∷ table) 1, no) refl
