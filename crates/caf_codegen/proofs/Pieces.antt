-- The reads of a statement, with a list of instructions for each.
use Rattle.std.proofs.Common.{◌≡◌, ℕ, ◌+◌, true, false, List, [], ◌∷◌, ◌++◌, length, Some, None, refl, sym, ap, ◌∙◌, subst, append_assoc}
use Rattle.std.specs.Prelude.{slice_get}
use Rattle.caf_program.specs.Expressions.{reads_all}
use Rattle.caf_program.specs.Value.{Read, count, reads_at}
use Rattle.caf_program.specs.declared.expr.ExprR.{ExprR}
use Rattle.caf_code.specs.Step.{go_of}
use Rattle.caf_code.specs.declared.instr.Instr.{Instr}
use Rattle.caf_code.specs.declared.instr.Instr.TheVariants as instr
use Rattle.caf_exprgen.specs.Asks.{AllAsk, Asks}
use Rattle.caf_exprgen.specs.ExprCode.{joined, reads_code}
use Rattle.caf_exprgen.specs.Straight.{all_inner, is_inner, is_within_step}
use Rattle.caf_exprgen.specs.Words.{CodesLeaveValues}
use Rattle.caf_codegen.specs.StmtCode.{asked}
use Rattle.caf_codegen.proofs.Both.{first_true}

abbrev pub pieces : List ExprR → ℕ → List (List Instr)
pieces [] at = []
pieces (e ∷ rest) at = reads_code e at ++ pieces rest (at + count e)

pub joined_append : (xs ys : List (List Instr)) → joined (xs ++ ys) ≡ joined xs ++ joined ys
joined_append [] ys = refl
joined_append (x ∷ xs) ys = ap (λ l. x ++ l) (joined_append xs ys) ∙ sym (append_assoc x (joined xs) (joined ys))

pub asked_joined : (es : List ExprR) (at : ℕ) → asked es at ≡ joined (pieces es at)
asked_joined [] at = refl
asked_joined (e ∷ es) at = ap (λ l. joined (reads_code e at) ++ l) (asked_joined es (at + count e)) ∙ sym (joined_append (reads_code e at) (pieces es (at + count e)))

ask_append : (rs qs : List Read) (xs ys : List (List Instr)) → AllAsk rs xs → AllAsk qs ys → AllAsk (rs ++ qs) (xs ++ ys)
ask_append [] qs [] ys a b = b
ask_append [] qs (x ∷ xs) ys a b = absurd a
ask_append (r ∷ rs) qs [] ys a b = absurd a
ask_append (r ∷ rs) qs (x ∷ xs) ys a b = (a.0, ask_append rs qs xs ys a.1 b)

-- each read has its instructions
pub all_ask : CodesLeaveValues → (es : List ExprR) (at : ℕ) → AllAsk (reads_all es at) (pieces es at)
all_ask laws [] at = tt
all_ask laws (e ∷ es) at = ask_append (reads_at e at) (reads_all es (at + count e)) (reads_code e at) (pieces es (at + count e)) (laws.asks e at) (all_ask laws es (at + count e))

-- the read whose instructions stand behind those of others
pub ask_at : (reads : List Read) (done : List (List Instr)) (is : List Instr) (left : List (List Instr)) → AllAsk reads (done ++ is ∷ left) → (r : Read) × (slice_get reads (length done) ≡ Some r) × Asks r is
ask_at [] [] is left a = absurd a
ask_at [] (d ∷ done) is left a = absurd a
ask_at (r ∷ reads) [] is left a = (r, refl, a.0)
ask_at (r ∷ reads) (d ∷ done) is left a = ask_at reads done is left a.1

-- behind all reads there is none
pub ask_none : (reads : List Read) (done : List (List Instr)) → AllAsk reads done → slice_get reads (length done) ≡ None
ask_none [] [] a = refl
ask_none [] (d ∷ done) a = absurd a
ask_none (r ∷ reads) [] a = absurd a
ask_none (r ∷ reads) (d ∷ done) a = ask_none reads done a.1

-- no `go` is the first of some instructions
abbrev pub IsStill : List Instr → Type 0
IsStill [] = ⊥
IsStill (i ∷ is) = go_of (Some i) ≡ None

pub still_front : (is js : List Instr) → IsStill is → IsStill (is ++ js)
still_front [] js h = absurd h
still_front (i ∷ is) js h = h

inner_still : (i : Instr) → is_inner i ≡ true → go_of (Some i) ≡ None
inner_still (instr.Go a) e = let h : false ≡ true = e in absurd (cc)
inner_still _ e = refl

pub within_still : (is : List Instr) → is_within_step is ≡ true → IsStill is
within_still [] e = let h : false ≡ true = e in absurd (cc)
within_still (i ∷ is) e = inner_still i (first_true (is_inner i) (all_inner is) e)

read_still : (r : Read) (is : List Instr) → Asks r is → IsStill is
read_still (Read.Coindexed o t index rank) is a = subst IsStill (sym a.are) (still_front a.first _ (within_still a.first a.within))
read_still (Read.Pointed c index) is a = subst IsStill (sym a.are) (still_front a.first _ (within_still a.first a.within))

-- the reads from some place on, and what stands behind them
pub asks_still : (reads : List Read) (done left : List (List Instr)) (js : List Instr) → AllAsk reads (done ++ left) → IsStill js → IsStill (joined left ++ js)
asks_still reads done [] js a h = h
asks_still reads done (is ∷ left) js a h =
    let found = ask_at reads done is left a in
    still_front (is ++ joined left) js (still_front is (joined left) (read_still found.0 is found.2))
