-- Lists that are found one after another.
use Rattle.std.specs.List.{flat_map}
use Rattle.std.proofs.lemmas.List.Sums.{sum_by-cons}
use Rattle.std.proofs.Common.{Option, ◌≡◌, ℕ, ◌+◌, arith, sum_by, List, [], ◌∷◌, ◌++◌, Result, Ok, Err, refl, sym, ◌∙◌, ap, append_assoc}
use Rattle.caf_base.specs.declared.trap.Trap.{Trap}
use Rattle.caf_base.specs.Line.{with_blanks}
use Rattle.caf_base.specs.Places.{bind}
use Rattle.caf_program.specs.declared.parts.ActualR.{ActualR}
use Rattle.caf_program.specs.declared.parts.PrintR.{PrintR}
use Rattle.caf_program.specs.declared.expr.ExprR.{ExprR}
use Rattle.caf_program.specs.declared.parts.CopyEventR.{CopyEventR}
use Rattle.caf_program.specs.declared.parts.EventR.{EventR}
use Rattle.caf_program.specs.declared.parts.SectionR.{SectionR}
use Rattle.caf_program.specs.Expressions.{count_all, of_actual, of_copy_event, of_done, of_part, of_section}
use Rattle.caf_program.specs.Value.{count}
use Rattle.caf_treestep.specs.Evaluated.{held_by_actual, held_by_copy_event, held_by_part}

-- what two lists of expressions hold
pub count_both : (es fs : List ExprR) → count_all (es ++ fs) ≡ count_all es + count_all fs
count_both [] fs = omega arith
count_both (e ∷ es) fs = omega (arith, count_both es fs)

-- one more that is found stands behind those before
pub found_more : {A : Type 0} (before : List A) (x : A) (r : Result (List A) Trap) → bind (bind r (λ xs. Ok (x ∷ xs))) (λ xs. Ok (before ++ xs)) ≡ bind r (λ xs. Ok ((before ++ x ∷ []) ++ xs))
found_more before x (Err t) = refl
found_more before x (Ok xs) = ap Ok (sym (append_assoc before (x ∷ []) xs))

-- one more text stands behind a blank
pub line_more : (line text : List ℕ) (r : Result (List (List ℕ)) Trap) → bind (bind r (λ more. Ok (text ∷ more))) (λ more. Ok (line ++ with_blanks more)) ≡ bind r (λ more. Ok (((line ++ 32 ∷ []) ++ text) ++ with_blanks more))
line_more line text (Err t) = refl
line_more line text (Ok more) = ap Ok (sym (append_assoc (line ++ 32 ∷ []) text (with_blanks more) ∙ append_assoc line (32 ∷ []) (text ++ with_blanks more)))

-- what the parts of a list hold together
pub held_by_parts : (parts : List PrintR) → count_all (flat_map of_part parts) ≡ sum_by held_by_part parts
held_by_parts [] = refl
held_by_parts (p ∷ rest) = count_both (of_part p) (flat_map of_part rest) ∙ ap (λ n. held_by_part p + n) (held_by_parts rest) ∙ sym (sum_by-cons held_by_part p rest)

pub held_by_actuals : (actuals : List ActualR) → count_all (flat_map of_actual actuals) ≡ sum_by held_by_actual actuals
held_by_actuals [] = refl
held_by_actuals (a ∷ rest) = count_both (of_actual a) (flat_map of_actual rest) ∙ ap (λ n. held_by_actual a + n) (held_by_actuals rest) ∙ sym (sum_by-cons held_by_actual a rest)

pub held_by_events : (events : List CopyEventR) → count_all (flat_map of_copy_event events) ≡ sum_by held_by_copy_event events
held_by_events [] = refl
held_by_events (e ∷ rest) = count_both (of_copy_event e) (flat_map of_copy_event rest) ∙ ap (λ n. held_by_copy_event e + n) (held_by_events rest) ∙ sym (sum_by-cons held_by_copy_event e rest)

-- what a copy holds
pub held_by_copy : (dest source : SectionR) (events : List CopyEventR) → count_all (of_section dest ++ of_section source ++ flat_map of_copy_event events) ≡ count_all (of_section dest) + count_all (of_section source) + sum_by held_by_copy_event events
held_by_copy dest source events =
    count_both (of_section dest ++ of_section source) (flat_map of_copy_event events)
    ∙ ap (λ n. n + count_all (flat_map of_copy_event events)) (count_both (of_section dest) (of_section source))
    ∙ ap (λ n. count_all (of_section dest) + count_all (of_section source) + n) (held_by_events events)

-- what a ship holds
pub held_by_ship : (done : Option EventR) (actuals : List ActualR) (rank : ExprR) → count_all (of_done done ++ flat_map of_actual actuals ++ (rank ∷ [])) ≡ count_all (of_done done) + sum_by held_by_actual actuals + count rank
held_by_ship done actuals rank =
    let one : count_all (rank ∷ []) ≡ count rank = omega arith in
    count_both (of_done done ++ flat_map of_actual actuals) (rank ∷ [])
    ∙ ap (λ n. n + count_all (rank ∷ [])) (count_both (of_done done) (flat_map of_actual actuals))
    ∙ ap (λ n. count_all (of_done done) + n + count_all (rank ∷ [])) (held_by_actuals actuals)
    ∙ ap (λ n. count_all (of_done done) + sum_by held_by_actual actuals + n) one
