-- Instructions that stand at a place.
use Rattle.std.proofs.Common.{◌≡◌, ℕ, ◌+◌, List, [], ◌∷◌, ◌++◌, length, subst, arith}
use Rattle.caf_code.specs.declared.instr.Instr.{Instr}
use Rattle.caf_exprgen.specs.Placed.{HasAt}

pub has_front : (code : List Instr) (a : ℕ) (is js : List Instr) → HasAt code a (is ++ js) → HasAt code a is
has_front code a [] js h = tt
has_front code a (i ∷ is) js h = (h.0, has_front code (a + 1) is js h.1)

pub has_back : (code : List Instr) (a : ℕ) (is js : List Instr) → HasAt code a (is ++ js) → HasAt code (a + length is) js
has_back code a [] js h = let e : a ≡ a + 0 = omega arith in subst (λ n. HasAt code n js) e h
has_back code a (i ∷ is) js h =
    let e : a + 1 + length is ≡ a + length (i ∷ is) = omega arith in
    subst (λ n. HasAt code n js) e (has_back code (a + 1) is js h.1)
