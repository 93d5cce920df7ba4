-- One turn of following every `go`.
use Rattle.std.proofs.Common.{◌≡◌, ℕ, zero, suc, ◌+◌, List, Some, None, refl, ap, ◌∙◌, arith}
use Rattle.std.specs.Prelude.{slice_get}
use Rattle.caf_code.specs.Step.{followed, go_of, settled}
use Rattle.caf_code.specs.declared.instr.Instr.{Instr}

pub settled_turn : (instrs : List Instr) (n m a b : ℕ) → n ≡ m + 1 → go_of (slice_get instrs a) ≡ Some b → settled instrs n a ≡ settled instrs m b
settled_turn instrs n m a b e h =
    let e' : n ≡ suc m = omega arith in
    ap (λ i. settled instrs i a) e' ∙ ap (λ o. followed o a (settled instrs m)) h

pub settled_same : (instrs : List Instr) (n a : ℕ) → go_of (slice_get instrs a) ≡ None → settled instrs n a ≡ a
settled_same instrs zero a h = refl
settled_same instrs (suc n) a h = ap (λ o. followed o a (settled instrs n)) h
