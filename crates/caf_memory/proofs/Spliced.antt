-- Numbers put into a row, one after another.
use Rattle.std.proofs.Common.{◌≡◌, ℕ, suc, ◌+◌, ◌<◌, ◌≤◌, List, [], ◌∷◌, ◌++◌, length, get_or, take, drop, ap, sym, ◌∙◌, arith, ℤ, append_assoc, length-append, length-drop, add-zero}
use Rattle.std.specs.Prelude.{slice_set}
use Rattle.std.proofs.lemmas.List.{append-nil, take-append-drop, take_more_set, drop-set-lt, length-take-le}
use Rattle.std.proofs.Math.Seq.{drop-cons}
use Rattle.caf_base.specs.Sections.{spliced}

-- no numbers change nothing
pub spliced-none : (row : List ℤ) (at : ℕ) → spliced row at [] ≡ row
spliced-none row at =
    ap (λ xs. xs ++ drop (at + 0) row) (append-nil (take at row)) ∙ ap (λ n. take at row ++ drop n row) (add-zero at) ∙ take-append-drop at row

-- the first number is put in its place, and then the others
pub spliced-first : (row : List ℤ) (at : ℕ) (v : ℤ) (values : List ℤ) → at < length row → spliced row at (v ∷ values) ≡ spliced (slice_set row at v) (at + 1) values
spliced-first row at v values h =
    let n : ℕ = at + 1 + length values in
    let places : at + suc (length values) ≡ n = omega arith in
    let front : take (at + 1) (slice_set row at v) ≡ take at row ++ v ∷ [] = take_more_set row at v h in
    let back : drop n (slice_set row at v) ≡ drop n row = drop-set-lt n row at v (omega arith) in
    ap (λ k. (take at row ++ v ∷ values) ++ drop k row) places ∙ ap (λ xs. xs ++ drop n row) (sym (append_assoc (take at row) (v ∷ []) values)) ∙ ap (λ xs. (xs ++ values) ++ drop n row) (sym front) ∙ ap (λ xs. (take (at + 1) (slice_set row at v) ++ values) ++ xs) (sym back)

-- a row keeps its length where the numbers have room
pub length-spliced : (row : List ℤ) (at : ℕ) (values : List ℤ) → at + length values ≤ length row → length (spliced row at values) ≡ length row
length-spliced row at values h =
    let front : length (take at row) ≡ at = length-take-le at row (omega arith) in
    omega (arith, length-append (take at row ++ values) (drop (at + length values) row), length-append (take at row) values, length-drop (at + length values) row)

-- one turn of the loop that puts them
pub spliced-turn : (row : List ℤ) (at place : ℕ) (values : List ℤ) (d : ℤ) → place < length values → at + length values ≤ length row → spliced row (at + place) (drop place values) ≡ spliced (slice_set row (at + place) (get_or values place d)) (at + (place + 1)) (drop (place + 1) values)
spliced-turn row at place values d h room =
    let next : at + place + 1 ≡ at + (place + 1) = omega arith in
    let more : suc place ≡ place + 1 = omega arith in
    let v : ℤ = get_or values place d in
    ap (spliced row (at + place)) (drop-cons values place d h ∙ ap (λ k. v ∷ drop k values) more) ∙ spliced-first row (at + place) v (drop (place + 1) values) (omega arith) ∙ ap (λ k. spliced (slice_set row (at + place) v) k (drop (place + 1) values)) next
