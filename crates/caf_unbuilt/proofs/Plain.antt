-- A program without a statement that doesn't run holds plain statements alone.
use Rattle.std.proofs.Common.{◌≡◌, ℕ, true, false, List, [], ◌∷◌, map, Option, Some, None, refl, sym, subst}
use Rattle.std.specs.Prelude.{Bool, ◌&&◌}
use Rattle.caf_program.specs.declared.expr.ExprR.{ExprR}
use Rattle.caf_program.specs.declared.parts.ActualR.{ActualR}
use Rattle.caf_program.specs.declared.parts.ActualR.TheVariants as actual
use Rattle.caf_program.specs.declared.parts.PrintR.{PrintR}
use Rattle.caf_program.specs.declared.parts.PrintR.TheVariants as part
use Rattle.caf_program.specs.declared.parts.VariableR.{VariableR}
use Rattle.caf_program.specs.declared.parts.VariableR.TheVariants as variable
use Rattle.caf_program.specs.declared.program.Program.{Program}
use Rattle.caf_program.specs.declared.program.SubR.{SubR}
use Rattle.caf_program.specs.declared.stmt.StmtR.{StmtR}
use Rattle.caf_program.specs.declared.stmt.StmtR.TheOpen.{StmtR-F}
use Rattle.caf_program.specs.declared.stmt.StmtR.TheFolds.{fold-roll-StmtR, ind-StmtR, map-StmtR}
use Rattle.caf_program.specs.declared.stmt.StmtR.TheViews.{roll-StmtR}
use Rattle.caf_source.specs.Built.{all_true, are_subs_built, built_layer, is_actual_plain, is_block_built, is_built, is_here, is_part_plain, is_plain, is_program_built}
use Rattle.caf_unbuilt.specs.Unbuilt.{actual_runs, either, first_unbuilt, line_layer, names_no_team, part_runs, runs, unbuilt_in, unbuilt_in_block, unbuilt_in_subs, unless, variable_runs}

first_true : (a b : Bool) → (a && b) ≡ true → a ≡ true
first_true true b e = refl
first_true false b e = e

second_true : (a b : Bool) → (a && b) ≡ true → b ≡ true
second_true true b e = e
second_true false b e = cc

both_true : (a b : Bool) → a ≡ true → b ≡ true → (a && b) ≡ true
both_true true b e f = f
both_true false b e f = e

first_none : (a b : Option ℕ) → either a b ≡ None → a ≡ None
first_none None b e = refl
first_none (Some line) b e = e

second_none : (a b : Option ℕ) → either a b ≡ None → b ≡ None
second_none None b e = e
second_none (Some line) b e = cc

it_runs : (b : Bool) (line : ℕ) → unless b line ≡ None → b ≡ true
it_runs true line e = refl
it_runs false line e = cc

plain : (e : ExprR) → runs e ≡ true → is_plain e ≡ true
plain e h = first_true (is_plain e) (names_no_team e) h

here : (v : VariableR) → variable_runs v ≡ true → is_here v ≡ true
here (variable.Element o i) h = plain i h
here (variable.Scalar o) h = h
here (variable.Local k) h = h
here (variable.Coindexed o i p) h = h
here (variable.Pointed c i) h = h

part_plain : (x : PrintR) → part_runs x ≡ true → is_part_plain x ≡ true
part_plain (part.Number e) h = plain e h
part_plain (part.Logical e) h = plain e h
part_plain (part.Text t) h = refl

actual_plain : (x : ActualR) → actual_runs x ≡ true → is_actual_plain x ≡ true
actual_plain (actual.Value e) h = plain e h
actual_plain (actual.Scalar o) h = refl
actual_plain (actual.Local k) h = refl
actual_plain (actual.Element o i) h = plain i h

each_true : {A : Type 0} (p q : A → Bool) → ((x : A) → p x ≡ true → q x ≡ true) → (xs : List A) → all_true (map p xs) ≡ true → all_true (map q xs) ≡ true
each_true p q step [] h = refl
each_true p q step (x ∷ xs) h =
    both_true (q x) (all_true (map q xs)) (step x (first_true (p x) (all_true (map p xs)) h)) (each_true p q step xs (second_true (p x) (all_true (map p xs)) h))

abbrev Kid : Type 0
Kid = (x : StmtR) × (unbuilt_in x ≡ None → is_built x ≡ true)

abbrev kids : List Kid → List StmtR
kids = map (λ (x : Kid). x.0)

block_plain : (x : List Kid) → unbuilt_in_block (kids x) ≡ None → is_block_built (kids x) ≡ true
block_plain [] h = refl
block_plain (x ∷ more) h =
    both_true (is_built x.0) (is_block_built (kids more)) (x.1 (first_none (unbuilt_in x.0) (unbuilt_in_block (kids more)) h))
    (block_plain more (second_none (unbuilt_in x.0) (unbuilt_in_block (kids more)) h))

layer_plain : (y : StmtR-F Kid) → line_layer (map-StmtR StmtR (Option ℕ) unbuilt_in (map-StmtR Kid StmtR (λ x. x.0) y)) ≡ None
    → built_layer (map-StmtR StmtR Bool is_built (map-StmtR Kid StmtR (λ x. x.0) y)) ≡ true
layer_plain (StmtR-F.Assign line v e) = λ h.
    let both = it_runs (variable_runs v && runs e) line h in
    both_true (is_here v) (is_plain e) (here v (first_true (variable_runs v) (runs e) both)) (plain e (second_true (variable_runs v) (runs e) both))
layer_plain (StmtR-F.Print line parts) = λ h. each_true part_runs is_part_plain part_plain parts (it_runs (all_true (map part_runs parts)) line h)
layer_plain (StmtR-F.If line e x y) = λ h.
    let bx = kids x in
    let by = kids y in
    let blocks = second_none (unless (runs e) line) (either (unbuilt_in_block bx) (unbuilt_in_block by)) h in
    both_true (is_plain e) (is_block_built bx && is_block_built by)
    (plain e (it_runs (runs e) line (first_none (unless (runs e) line) (either (unbuilt_in_block bx) (unbuilt_in_block by)) h)))
    (both_true (is_block_built bx) (is_block_built by) (block_plain x (first_none (unbuilt_in_block bx) (unbuilt_in_block by) blocks)) (block_plain y (second_none (unbuilt_in_block bx) (unbuilt_in_block by) blocks)))
layer_plain (StmtR-F.Do line v e1 e2 e3 x) = λ h.
    let bx = kids x in
    let bounds = it_runs (runs e1 && (runs e2 && runs e3)) line (first_none (unless (runs e1 && (runs e2 && runs e3)) line) (unbuilt_in_block bx) h) in
    let others = second_true (runs e1) (runs e2 && runs e3) bounds in
    both_true (is_plain e1 && (is_plain e2 && is_plain e3)) (is_block_built bx)
    (both_true (is_plain e1) (is_plain e2 && is_plain e3) (plain e1 (first_true (runs e1) (runs e2 && runs e3) bounds))
    (both_true (is_plain e2) (is_plain e3) (plain e2 (first_true (runs e2) (runs e3) others)) (plain e3 (second_true (runs e2) (runs e3) others))))
    (block_plain x (second_none (unless (runs e1 && (runs e2 && runs e3)) line) (unbuilt_in_block bx) h))
layer_plain (StmtR-F.While line e x) = λ h.
    let bx = kids x in
    both_true (is_plain e) (is_block_built bx) (plain e (it_runs (runs e) line (first_none (unless (runs e) line) (unbuilt_in_block bx) h)))
    (block_plain x (second_none (unless (runs e) line) (unbuilt_in_block bx) h))
layer_plain (StmtR-F.Call line f actuals) = λ h. each_true actual_runs is_actual_plain actual_plain actuals (it_runs (all_true (map actual_runs actuals)) line h)
layer_plain _ = λ h. cc

statement_plain : (x : StmtR) → unbuilt_in x ≡ None → is_built x ≡ true
statement_plain = ind-StmtR (λ x. unbuilt_in x ≡ None → is_built x ≡ true) (λ x y is.
    let P : StmtR-F StmtR → Type 0 = λ z. unbuilt_in (roll-StmtR z) ≡ None → is_built (roll-StmtR z) ≡ true in
    let z : StmtR-F StmtR = map-StmtR Kid StmtR (λ x. x.0) y in
    let A : Option ℕ → Type 0 = λ o. o ≡ None → is_built (roll-StmtR z) ≡ true in
    let B : Bool → Type 0 = λ b. line_layer (map-StmtR StmtR (Option ℕ) unbuilt_in z) ≡ None → b ≡ true in
    subst P is (subst A (sym (fold-roll-StmtR (Option ℕ) line_layer z)) (subst B (sym (fold-roll-StmtR Bool built_layer z)) (layer_plain y))))

body_plain : (x : List StmtR) → unbuilt_in_block x ≡ None → is_block_built x ≡ true
body_plain [] h = refl
body_plain (x ∷ more) h =
    both_true (is_built x) (is_block_built more) (statement_plain x (first_none (unbuilt_in x) (unbuilt_in_block more) h)) (body_plain more (second_none (unbuilt_in x) (unbuilt_in_block more) h))

subs_plain : (x : List SubR) → unbuilt_in_subs x ≡ None → are_subs_built x ≡ true
subs_plain [] h = refl
subs_plain (f ∷ more) h =
    both_true (is_block_built f.body) (are_subs_built more) (body_plain f.body (first_none (unbuilt_in_block f.body) (unbuilt_in_subs more) h)) (subs_plain more (second_none (unbuilt_in_block f.body) (unbuilt_in_subs more) h))

pub program_plain : (p : Program) → first_unbuilt p ≡ None → is_program_built p ≡ true
program_plain p h =
    both_true (is_block_built p.body) (are_subs_built p.subs) (body_plain p.body (first_none (unbuilt_in_block p.body) (unbuilt_in_subs p.subs) h))
    (subs_plain p.subs (second_none (unbuilt_in_block p.body) (unbuilt_in_subs p.subs) h))
