-- The reads and the held values of expressions one after another.
use Rattle.std.proofs.Common.{◌≡◌, ℕ, suc, ◌+◌, ◌<◌, List, [], ◌∷◌, ◌++◌, length, drop, drop-cons, get_or, refl, sym, ap, ◌∙◌, arith, append_assoc}
use Rattle.std.specs.Prelude.{sum_by}
use Rattle.std.specs.List.{flat_map}
use Rattle.std.proofs.lemmas.List.Sums.{sum_by-cons}
use Rattle.caf_program.specs.Expressions.{count_all, of_actual}
use Rattle.caf_program.specs.Value.{count}
use Rattle.caf_program.specs.declared.expr.ExprR.{ExprR}
use Rattle.caf_program.specs.declared.parts.ActualR.{ActualR}
use Rattle.caf_treestep.specs.Evaluated.{held_by_actual}
use Rattle.caf_code.specs.declared.instr.Instr.{Instr}
use Rattle.caf_exprgen.specs.ExprCode.{joined, reads_code}
use Rattle.caf_codegen.specs.StmtCode.{asked}

pub count_append : (es fs : List ExprR) → count_all (es ++ fs) ≡ count_all es + count_all fs
count_append [] fs = let e : count_all fs ≡ 0 + count_all fs = omega arith in e
count_append (e ∷ es) fs = omega (arith, count_append es fs)

-- the expressions of actuals one after another
pub count_actuals : (ys : List ActualR) → sum_by held_by_actual ys ≡ count_all (flat_map of_actual ys)
count_actuals [] = refl
count_actuals (y ∷ ys) = omega (arith, count_append (of_actual y) (flat_map of_actual ys), count_actuals ys, sum_by-cons held_by_actual y ys)

pub asked_append : (es fs : List ExprR) (at : ℕ) → asked (es ++ fs) at ≡ asked es at ++ asked fs (at + count_all es)
asked_append [] fs at = let e : at ≡ at + 0 = omega arith in ap (asked fs) e
asked_append (e ∷ es) fs at =
    let next = at + count e in
    let own = joined (reads_code e at) in
    let place : next + count_all es ≡ at + (count e + count_all es) = omega arith in
    ap (λ l. own ++ l) (asked_append es fs next ∙ ap (λ n. asked es next ++ asked fs n) place) ∙ sym (append_assoc own (asked es next) (asked fs (at + (count e + count_all es))))

-- the reads of some expressions, and then of others
pub asked_then : (es fs : List ExprR) (at next : ℕ) (out mid all : List Instr) → mid ≡ out ++ asked es at → next ≡ at + count_all es → all ≡ mid ++ asked fs next → all ≡ out ++ asked (es ++ fs) at
asked_then es fs at next out mid all first counted second =
    second ∙ ap (λ n. mid ++ asked fs n) counted ∙ ap (λ l. l ++ asked fs (at + count_all es)) first ∙ append_assoc out (asked es at) (asked fs (at + count_all es)) ∙ ap (λ l. out ++ l) (sym (asked_append es fs at))

pub count_then : (es fs : List ExprR) (at next last : ℕ) → next ≡ at + count_all es → last ≡ next + count_all fs → last ≡ at + count_all (es ++ fs)
count_then es fs at next last first second = omega (arith, first, second, count_append es fs)

pub drop_item : {A : Type 0} (l : List A) (i : ℕ) (x : A) → i < length l → x ≡ get_or l i x → drop i l ≡ x ∷ drop (i + 1) l
drop_item l i x within is =
    let e : suc i ≡ i + 1 = omega arith in
    drop-cons l i x within ∙ ap (λ y. y ∷ drop (suc i) l) (sym is) ∙ ap (λ n. x ∷ drop n l) e

-- the reads of one more of a list
pub asked_next : {A : Type 0} (f : A → List ExprR) (xs : List A) (i : ℕ) (x : A) (at next : ℕ) (out mid : List Instr) → i < length xs → x ≡ get_or xs i x → mid ≡ out ++ asked (f x) at → next ≡ at + count_all (f x)
    → mid ++ asked (flat_map f (drop (i + 1) xs)) next ≡ out ++ asked (flat_map f (drop i xs)) at
asked_next f xs i x at next out mid inside is first counted =
    let rest = drop (i + 1) xs in
    asked_then (f x) (flat_map f rest) at next out mid (mid ++ asked (flat_map f rest) next) first counted refl ∙ ap (λ l. out ++ asked (flat_map f l) at) (sym (drop_item xs i x inside is))

pub count_next : {A : Type 0} (f : A → List ExprR) (xs : List A) (i : ℕ) (x : A) (at next : ℕ) → i < length xs → x ≡ get_or xs i x → next ≡ at + count_all (f x)
    → next + count_all (flat_map f (drop (i + 1) xs)) ≡ at + count_all (flat_map f (drop i xs))
count_next f xs i x at next inside is counted =
    let rest = drop (i + 1) xs in
    let here : count_all (flat_map f (drop i xs)) ≡ count_all (f x) + count_all (flat_map f rest) = ap (λ l. count_all (flat_map f l)) (drop_item xs i x inside is) ∙ count_append (f x) (flat_map f rest) in
    omega (arith, counted, here)
