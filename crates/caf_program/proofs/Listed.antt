-- An expression has as many reads in its list as values that it holds.
use Rattle.std.proofs.lemmas.Option.{slice_get_past}
use Rattle.std.proofs.Common.{◌≡◌, ℕ, ◌+◌, ◌≤◌, None, slice_get, List, [], ◌∷◌, ◌++◌, length, map, refl, sym, subst, arith, length-append}
use Rattle.caf_base.specs.declared.arithmetic.BinaryOperator.{BinaryOperator}
use Rattle.caf_program.specs.declared.expr.ExprR.{ExprR}
use Rattle.caf_program.specs.declared.expr.ExprR.TheOpen.{ExprR-F}
use Rattle.caf_program.specs.declared.expr.ExprR.TheFolds.{ind-ExprR, fold-roll-ExprR, map-ExprR}
use Rattle.caf_program.specs.declared.expr.ExprR.TheViews.{roll-ExprR}
use Rattle.caf_program.specs.Expressions.{count_all, reads_all}
use Rattle.caf_program.specs.Value.{Read, Meaning, Operand, counts, chain_reads, layer, meaning, count, reads_at}

abbrev IsListed : Meaning → Type 0
IsListed m = (at : ℕ) → length (m.reads at) ≡ m.count

abbrev Kid : Type 0
Kid = (e : ExprR) × IsListed (meaning e)

abbrev kids : List (BinaryOperator × Kid) → List (BinaryOperator × ExprR)
kids = map (λ p. (p.0, p.1.0))

abbrev meant : List (BinaryOperator × Kid) → List Operand
meant rest = map (λ p. (p.0, meaning p.1)) (kids rest)

rest_listed : (rest : List (BinaryOperator × Kid)) (at : ℕ) → length (chain_reads (meant rest) at) ≡ counts (meant rest)
rest_listed [] at = refl
rest_listed (p ∷ rest) at =
    let front = reads_at p.1.0 at in
    let back = chain_reads (meant rest) (at + count p.1.0) in
    omega (arith, length-append front back, p.1.1 at, rest_listed rest (at + count p.1.0))

listed_layer : (y : ExprR-F Kid) → IsListed (layer (map-ExprR ExprR Meaning meaning (map-ExprR Kid ExprR (λ e. e.0) y)))
listed_layer (ExprR-F.Number n) at = refl
listed_layer (ExprR-F.Truth b) at = refl
listed_layer (ExprR-F.Scalar o) at = refl
listed_layer (ExprR-F.Local k) at = refl
listed_layer (ExprR-F.Element o i) at = i.1 at
listed_layer (ExprR-F.Coindexed o i p) at =
    let here : List Read = Read.Coindexed o p.team ((meaning i.0).value at) ((meaning p.rank.0).value (at + count i.0)) ∷ [] in
    let front = reads_at i.0 at in
    let middle = reads_at p.rank.0 (at + count i.0) in
    omega (arith, length-append (front ++ middle) here, length-append front middle, i.1 at, p.rank.1 (at + count i.0))
listed_layer (ExprR-F.Pointed c i) at =
    let here : List Read = Read.Pointed c ((meaning i.0).value at) ∷ [] in
    omega (arith, length-append (reads_at i.0 at) here, i.1 at)
listed_layer (ExprR-F.Unary w a) at = a.1 at
listed_layer (ExprR-F.Chain a rest) at =
    let front = reads_at a.0 at in
    let back = chain_reads (meant rest) (at + count a.0) in
    omega (arith, length-append front back, a.1 at, rest_listed rest (at + count a.0))
listed_layer (ExprR-F.Rank t) at = refl
listed_layer (ExprR-F.Size t) at = refl

pub listed : (e : ExprR) (at : ℕ) → length (reads_at e at) ≡ count e
listed = ind-ExprR (λ e. IsListed (meaning e)) (λ x y is.
    let P : ExprR-F ExprR → Type 0 = λ z. IsListed (meaning (roll-ExprR z)) in
    let z : ExprR-F ExprR = map-ExprR Kid ExprR (λ e. e.0) y in
    subst P is (subst IsListed (sym (fold-roll-ExprR Meaning layer z)) (listed_layer y)))

pub all_listed : (es : List ExprR) (at : ℕ) → length (reads_all es at) ≡ count_all es
all_listed [] at = refl
all_listed (e ∷ rest) at =
    let front = reads_at e at in
    let back = reads_all rest (at + count e) in
    omega (arith, length-append front back, listed e at, all_listed rest (at + count e))

pub past_reads : (es : List ExprR) (at held : ℕ) → count_all es ≤ held → slice_get (reads_all es at) held ≡ None
past_reads es at held le = slice_get_past (reads_all es at) held (subst (λ n. n ≤ held) (sym (all_listed es at)) le)
