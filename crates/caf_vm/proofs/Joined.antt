-- Lines of parts.
use Rattle.std.proofs.Common.{◌≡◌, ℕ, List, [], ◌∷◌, ◌++◌, ap, ◌∙◌, append_assoc, refl, sym}
use Rattle.caf_base.specs.Line.{line_of, with_blanks}

pub blanks_on : (xs ys : List (List ℕ)) → with_blanks (xs ++ ys) ≡ with_blanks xs ++ with_blanks ys
blanks_on [] ys = refl
blanks_on (x ∷ xs) ys = ap (λ rest. 32 ∷ x ++ rest) (blanks_on xs ys) ∙ ap (λ rest. 32 ∷ rest) (sym (append_assoc x (with_blanks xs) (with_blanks ys)))

pub line_on : (x : List ℕ) (xs ys : List (List ℕ)) → line_of ((x ∷ xs) ++ ys) ≡ line_of (x ∷ xs) ++ with_blanks ys
line_on x xs ys = ap (λ rest. x ++ rest) (blanks_on xs ys) ∙ sym (append_assoc x (with_blanks xs) (with_blanks ys))

-- a part behind a blank, and then the rest
pub part_on : (line text : List ℕ) (more : List (List ℕ)) → line ++ with_blanks (text ∷ more) ≡ ((line ++ 32 ∷ []) ++ text) ++ with_blanks more
part_on line text more = sym (append_assoc (line ++ 32 ∷ []) text (with_blanks more) ∙ append_assoc line (32 ∷ []) (text ++ with_blanks more))
