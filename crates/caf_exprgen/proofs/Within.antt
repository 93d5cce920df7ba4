-- No instruction of an expression ends a Step or leads elsewhere.
use Rattle.std.proofs.Common.{◌≡◌, ℕ, ◌+◌, true, false, List, [], ◌∷◌, ◌++◌, map, refl, sym, subst}
use Rattle.std.specs.Prelude.{◌&&◌, Bool, IsTrue}
use Rattle.caf_base.specs.declared.arithmetic.BinaryOperator.{BinaryOperator}
use Rattle.caf_base.specs.declared.arithmetic.BinaryOperator.TheVariants as binary
use Rattle.caf_base.specs.declared.arithmetic.UnaryOperator.{UnaryOperator}
use Rattle.caf_base.specs.declared.arithmetic.UnaryOperator.TheVariants as unary
use Rattle.caf_program.specs.declared.expr.ExprR.{ExprR}
use Rattle.caf_program.specs.declared.expr.ExprR.TheOpen.{ExprR-F}
use Rattle.caf_program.specs.declared.expr.ExprR.TheFolds.{ind-ExprR, fold-roll-ExprR, map-ExprR}
use Rattle.caf_program.specs.declared.expr.ExprR.TheViews.{roll-ExprR}
use Rattle.caf_code.specs.Numbers.{binary_instr, unary_instr}
use Rattle.caf_code.specs.declared.instr.Instr.{Instr}
use Rattle.caf_exprgen.specs.ExprCode.{Coded, chain_code, code_layer, coded, coded_operands, expr_code}
use Rattle.caf_exprgen.specs.Straight.{all_inner, is_inner, is_within_step}

binary_inner : (w : BinaryOperator) → is_inner (binary_instr w) ≡ true
binary_inner binary.Add = refl
binary_inner binary.Subtract = refl
binary_inner binary.Multiply = refl
binary_inner binary.Divide = refl
binary_inner binary.Modulo = refl
binary_inner binary.Minimum = refl
binary_inner binary.Maximum = refl
binary_inner binary.Equal = refl
binary_inner binary.NotEqual = refl
binary_inner binary.Less = refl
binary_inner binary.LessEqual = refl
binary_inner binary.Greater = refl
binary_inner binary.GreaterEqual = refl
binary_inner binary.And = refl
binary_inner binary.Or = refl
binary_inner binary.Equivalent = refl
binary_inner binary.NotEquivalent = refl

unary_inner : (w : UnaryOperator) → is_inner (unary_instr w) ≡ true
unary_inner unary.Negate = refl
unary_inner unary.Absolute = refl
unary_inner unary.Not = refl

inner_both : (a b : Bool) → a ≡ true → b ≡ true → (a && b) ≡ true
inner_both true b e f = f
inner_both false b e f = e

inner_second : (a b c : Bool) → (a && b) ≡ true → (b ≡ true → c ≡ true) → (a && c) ≡ true
inner_second true b c e f = f e
inner_second false b c e f = e

all_append : (is js : List Instr) → all_inner is ≡ true → all_inner js ≡ true → all_inner (is ++ js) ≡ true
all_append [] js e f = f
all_append (i ∷ is) js e f = inner_second (is_inner i) (all_inner is) (all_inner (is ++ js)) e (λ more. all_append is js more f)

pub within_append : (is js : List Instr) → is_within_step is ≡ true → all_inner js ≡ true → is_within_step (is ++ js) ≡ true
within_append [] js e f = let h : false ≡ true = e in absurd (cc)
within_append (i ∷ is) js e f = all_append (i ∷ is) js e f

pub all_of_within : (is : List Instr) → is_within_step is ≡ true → all_inner is ≡ true
all_of_within [] e = refl
all_of_within (i ∷ is) e = e

abbrev IsWithin : Coded → Type 0
IsWithin c = (k : ℕ) → is_within_step (c.code k) ≡ true

abbrev Kid : Type 0
Kid = (e : ExprR) × IsWithin (coded e)

abbrev kids : List (BinaryOperator × Kid) → List (BinaryOperator × ExprR)
kids = map (λ p. (p.0, p.1.0))

rest_inner : (rest : List (BinaryOperator × Kid)) (k : ℕ) → all_inner (chain_code (coded_operands (kids rest)) k) ≡ true
rest_inner [] k = refl
rest_inner (p ∷ rest) k =
    let others = chain_code (coded_operands (kids rest)) (k + (coded p.1.0).count) in
    all_append (expr_code p.1.0 k) (binary_instr p.0 ∷ others) (all_of_within (expr_code p.1.0 k) (p.1.1 k))
    (inner_both (is_inner (binary_instr p.0)) (all_inner others) (binary_inner p.0) (rest_inner rest (k + (coded p.1.0).count)))

within_layer : (y : ExprR-F Kid) → IsWithin (code_layer (map-ExprR ExprR Coded coded (map-ExprR Kid ExprR (λ e. e.0) y)))
within_layer (ExprR-F.Element o i) k = within_append (expr_code i.0 k) _ (i.1 k) refl
within_layer (ExprR-F.Unary w a) k = within_append (expr_code a.0 k) _ (a.1 k) (inner_both (is_inner (unary_instr w)) true (unary_inner w) refl)
within_layer (ExprR-F.Chain a rest) k = within_append (expr_code a.0 k) _ (a.1 k) (rest_inner rest (k + (coded a.0).count))
within_layer _ k = refl

pub within : (e : ExprR) (k : ℕ) → IsTrue (is_within_step (expr_code e k))
within = ind-ExprR (λ e. IsWithin (coded e)) (λ x y is.
    let P : ExprR-F ExprR → Type 0 = λ z. IsWithin (coded (roll-ExprR z)) in
    let z : ExprR-F ExprR = map-ExprR Kid ExprR (λ e. e.0) y in
    subst P is (subst IsWithin (sym (fold-roll-ExprR Coded code_layer z)) (within_layer y)))
