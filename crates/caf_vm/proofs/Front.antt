-- Operands that are dropped from the top.
use Rattle.std.proofs.Common.{◌≡◌, ℕ, ◌-◌, ◌+◌, ◌<◌, ◌≤◌, List, ◌++◌, length, reverse, take, drop, ap, sym, ◌∙◌, arith, ℤ, inl, inr}
use Rattle.std.proofs.lemmas.List.{reverse-append, take-append-drop, length-reverse, length-drop}
use Rattle.std.proofs.lemmas.Bool.Decides.{leb_tells}
use Rattle.std.proofs.Math.ListN.{drop_of_length-le}
use Rattle.std.proofs.Math.Seq.{drop-append_seam}

within : (xs : List ℤ) (i k : ℕ) → i + k ≡ length xs → reverse (take i xs) ≡ drop k (reverse xs)
within xs i k e =
    let back = reverse (drop i xs) in
    let front = reverse (take i xs) in
    let long : length back ≡ k = omega (arith, length-reverse (drop i xs), length-drop i xs) in
    let whole : reverse xs ≡ back ++ front = ap reverse (sym (take-append-drop i xs)) ∙ reverse-append (take i xs) (drop i xs) in
    sym (ap (drop k) whole ∙ ap (λ n. drop n (back ++ front)) (sym long) ∙ drop-append_seam back front)

pub front : (xs : List ℤ) (i k : ℕ) → i ≡ length xs - k → reverse (take i xs) ≡ drop k (reverse xs)
front xs i k e = elim (leb_tells k (length xs)) [ inl h ↦ within xs i k (omega (arith, h.1, e)) | inr h ↦ past h.1 ]
  where
    past : length xs < k → reverse (take i xs) ≡ drop k (reverse xs)
    past h =
        let none : i ≡ 0 = omega arith in
        let le : length (reverse xs) ≤ k = omega (arith, length-reverse xs) in
        ap (λ n. reverse (take n xs)) none ∙ sym (drop_of_length-le (reverse xs) le)
