use Rattle.std.proofs.Common.{◌≡◌, ℕ, ◌∷◌, ◌+◌, ◌-◌, ◌∙◌, sym, ap, arith, add-one, get_or, length, reverse, drop, pos, suc, ◌<◌, w64, SFits, rules, subst, List, ℤ}
use Rattle.std.proofs.lemmas.Int.{to_z-of_z}
use Rattle.std.proofs.lemmas.List.{get_or-reverse, length-reverse}
use Rattle.std.proofs.Math.Seq.{drop-cons}
use Rattle.caf_code.specs.Task.{Task}
use Rattle.caf_vm.proofs.task.Task.operand.Goals as goal

below : (xs : List ℤ) (k : ℕ) → k < length xs → drop k (reverse xs) ≡ get_or xs (length xs - 1 - k) (pos 0) ∷ drop (k + 1) (reverse xs)
below xs k h =
    drop-cons (reverse xs) k (pos 0) (omega (arith, length-reverse xs)) ∙ ap (λ x. x ∷ drop (suc k) (reverse xs)) (get_or-reverse xs k (pos 0) h) ∙ ap (λ n. get_or xs (length xs - 1 - k) (pos 0) ∷ drop n (reverse xs)) (sym (add-one k))

pub returns-clause-rest : goal.returns-clause-rest
returns-clause-rest c =
    let k = c.args.taken in
    let xs = c.as_slice-operands.result.now in
    let fits : SFits w64 (get_or xs (length xs - 1 - k) (pos 0)) = search rules in
    let stack : c.args.self.now.frame.stack ≡ reverse xs = sym (ap (λ (t : Task). t.frame.stack) c.self.view_is) ∙ ap reverse (sym c.as_slice-operands.ensures.value) in
    let within : k < length xs = omega (arith, ap length stack, length-reverse xs) in
    rw (to_z-of_z w64 (get_or xs (length xs - 1 - k) (pos 0)) fits) (subst (λ ys. drop k ys ≡ get_or xs (length xs - 1 - k) (pos 0) ∷ drop (k + 1) ys) (sym stack) (below xs k within))
