-- Lists that stand at a place.
use Rattle.std.proofs.Common.{◌≡◌, ℕ, ◌+◌, ◌-◌, ◌<◌, ◌≤◌, List, [], ◌∷◌, ◌++◌, length, Some, sym, ap, ◌∙◌, subst, arith, append_assoc, length-append}
use Rattle.std.proofs.Math.Seq.{get_or-append_seam}
use Rattle.std.proofs.lemmas.Option.{slice_get-get_or, slice_get_within}
use Rattle.caf_code.specs.declared.instr.Instr.{Instr}
use Rattle.caf_exprgen.specs.Placed.{HasAt}
use Rattle.caf_codegen.specs.StmtCode.{StandsAt}

pub has_front : (code : List Instr) (a : ℕ) (is js : List Instr) → HasAt code a (is ++ js) → HasAt code a is
has_front code a [] js h = tt
has_front code a (i ∷ is) js h = (h.0, has_front code (a + 1) is js h.1)

pub has_back : (code : List Instr) (a : ℕ) (is js : List Instr) → HasAt code a (is ++ js) → HasAt code (a + length is) js
has_back code a [] js h = let e : a ≡ a + 0 = omega arith in subst (λ n. HasAt code n js) e h
has_back code a (i ∷ is) js h =
    let e : a + 1 + length is ≡ a + length (i ∷ is) = omega arith in
    subst (λ n. HasAt code n js) e (has_back code (a + 1) is js h.1)

-- the same, from an address that is known to be behind the first ones
pub has_behind : (code : List Instr) (a b : ℕ) (is js : List Instr) → b ≡ a + length is → HasAt code a (is ++ js) → HasAt code b js
has_behind code a b is js e h = subst (λ n. HasAt code n js) (sym e) (has_back code a is js h)

pub has_all : (is front : List Instr) → HasAt (front ++ is) (length front) is
has_all [] front = tt
has_all (i ∷ is) front =
    let within : length front < length (front ++ i ∷ is) = omega (arith, length-append front (i ∷ is)) in
    let here = slice_get-get_or (front ++ i ∷ is) (length front) i within ∙ ap Some (get_or-append_seam front i is i) in
    let n : length (front ++ i ∷ []) ≡ length front + 1 = omega (arith, length-append front (i ∷ [])) in
    let rest = subst (λ l. HasAt l (length (front ++ i ∷ [])) is) (append_assoc front (i ∷ []) is) (has_all is (front ++ i ∷ [])) in
    (here, subst (λ m. HasAt (front ++ i ∷ is) m is) n rest)

-- no more instructions stand at a place than the code has from there
pub has_length : (code : List Instr) (a : ℕ) (is : List Instr) → HasAt code a is → length is ≤ length code - a
has_length code a [] h = omega arith
has_length code a (i ∷ is) h = omega (arith, slice_get_within code a i h.0, has_length code (a + 1) is h.1)

pub stands_front : {A : Type 0} (xs : List A) (at : ℕ) (ys zs : List A) → StandsAt xs at (ys ++ zs) → StandsAt xs at ys
stands_front xs at [] zs h = tt
stands_front xs at (y ∷ ys) zs h = (h.0, stands_front xs (at + 1) ys zs h.1)

pub stands_back : {A : Type 0} (xs : List A) (at : ℕ) (ys zs : List A) → StandsAt xs at (ys ++ zs) → StandsAt xs (at + length ys) zs
stands_back xs at [] zs h = let e : at ≡ at + 0 = omega arith in subst (λ n. StandsAt xs n zs) e h
stands_back xs at (y ∷ ys) zs h =
    let e : at + 1 + length ys ≡ at + length (y ∷ ys) = omega arith in
    subst (λ n. StandsAt xs n zs) e (stands_back xs (at + 1) ys zs h.1)

pub stands_all : {A : Type 0} (ys front : List A) → StandsAt (front ++ ys) (length front) ys
stands_all [] front = tt
stands_all (y ∷ ys) front =
    let within : length front < length (front ++ y ∷ ys) = omega (arith, length-append front (y ∷ ys)) in
    let here = slice_get-get_or (front ++ y ∷ ys) (length front) y within ∙ ap Some (get_or-append_seam front y ys y) in
    let n : length (front ++ y ∷ []) ≡ length front + 1 = omega (arith, length-append front (y ∷ [])) in
    let rest = subst (λ l. StandsAt l (length (front ++ y ∷ [])) ys) (append_assoc front (y ∷ []) ys) (stands_all ys (front ++ y ∷ [])) in
    (here, subst (λ m. StandsAt (front ++ y ∷ ys) m ys) n rest)
